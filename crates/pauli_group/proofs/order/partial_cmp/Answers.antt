-- The refusal of the checks is told on; else the order is told.
use Rattle.std.proofs.Common.{ap, ◌∙◌}
use Rattle.pauli_group.proofs.checks.TwoLists.{paired, pair_none, pair_kept, pair_cleared}
use Rattle.pauli_group.proofs.order.OrderLaws.{order_refused, order_answered}
use Rattle.pauli.proofs.refusal.HandedOn.{handed_on}
use Rattle.pauli.specs.Refusals.{told_by}
use Rattle.pauli_group.specs.Answers.{order_of}
use Rattle.pauli_group.proofs.order.partial_cmp.Goals as goal

pub returns-in_err-pair : goal.returns-in_err-pair
returns-in_err-pair c =
    let none = pair_none c.args.left.now c.args.right.now _ c.in_err-pair.ensures.counts in
    record {
      told = ap (told_by order_of) (handed_on _ _ c.from_residual.ensures.1) ∙ order_refused c.args.left.now c.args.right.now c.args.work.now none _ _;
      area = pair_kept c.args.left.now c.args.right.now c.args.work.now none;
    }

pub returns : goal.returns
returns c =
    let g = paired _ _ _ _ c.in_ok-pair.ensures.counts in
    let order = rw (c.in_ok-pair.ensures.rolls.0, c.in_ok-pair.ensures.rolls.1, c.area_of.ensures.value) at c.compare-order.ensures in
    record {
      told = order_answered c.args.left.now c.args.right.now c.args.work.now _ _ g.joining g.room _ _ _ order.told;
      area = pair_cleared c.args.left.now c.args.right.now c.args.work.now _ _ g.joining g.room _ order.area;
    }
