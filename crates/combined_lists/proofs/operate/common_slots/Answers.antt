use Rattle.std.proofs.Common.{arith}
use Rattle.pauli.proofs.refusal.HandedOn.{handed_on}
use Rattle.combined_lists.specs.Line.{common}
use Rattle.combined_lists.proofs.operate.OperateLaws.{refused_pair, some_kept, works_kept, common_works, common_left, right_works}
use Rattle.combined_lists.proofs.operate.common_slots.Goals as goal

pub returns-in_err-pair : goal.returns-in_err-pair
returns-in_err-pair c = refused_pair common _ _ _ _ (handed_on _ _ c.from_residual.ensures.1) c.in_err-pair.ensures

pub returns-in-Left : goal.returns-in-Left
returns-in-Left c = common_left _ _ c.in_ok-pair.ensures.joins c.in-Left.ensures

pub keep_further-requires : goal.keep_further-requires
keep_further-requires c =
    let o = right_works c.args.left c.args.slots.now c.in_ok-pair.ensures.joins _ _ _ c.in-Right.ensures c.read_one-n.ensures in
    (omega (arith, c.requires.0), some_kept o c.requires.1 c.requires.2)

pub returns-in-Right : goal.returns-in-Right
returns-in-Right c =
    let o = right_works c.args.left c.args.slots.now c.in_ok-pair.ensures.joins _ _ _ c.in-Right.ensures c.read_one-n.ensures in
    works_kept o _ c.keep_further.ensures.list c.keep_further.ensures.kept

pub keep_further-requires-in-Further : goal.keep_further-requires-in-Further
keep_further-requires-in-Further c =
    let o = common_works c.args.left c.args.slots.now c.in_ok-pair.ensures.joins _ _ _ c.in-Further.ensures in
    (omega (arith, c.requires.0), some_kept o c.requires.1 c.requires.2)

pub returns-in-Further : goal.returns-in-Further
returns-in-Further c =
    let o = common_works c.args.left c.args.slots.now c.in_ok-pair.ensures.joins _ _ _ c.in-Further.ensures in
    works_kept o _ c.keep_further-in-Further.ensures.list c.keep_further-in-Further.ensures.kept
