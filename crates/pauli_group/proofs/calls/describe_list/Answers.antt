-- The refusal of the checks is told on; else the description is told.
use Rattle.std.proofs.Common.{ap, ◌∙◌}
use Rattle.pauli_group.specs.Promises.{promise_of}
use Rattle.pauli_group.specs.Inner.Groups.{facts_of, facts_in}
use Rattle.pauli_group.proofs.checks.OneList.{given, list_none, answers, area_cleared, refuses, area_kept}
use Rattle.pauli.proofs.refusal.HandedOn.{handed_on}
use Rattle.pauli.specs.Refusals.{told_by}
use Rattle.pauli_group.proofs.calls.describe_list.Goals as goal

pub returns-in_err-roll : goal.returns-in_err-roll
returns-in_err-roll c =
    let none = list_none _ _ c.in_err-roll.ensures.count in
    record {
      told = ap (told_by facts_in) (handed_on _ _ c.from_residual.ensures.1) ∙ refuses c.args.b.now c.args.work.now none (facts_of (promise_of c.args.promise));
      area = area_kept c.args.b.now c.args.work.now none;
    }

pub returns : goal.returns
returns c =
    let given = given _ _ _ c.in_ok-roll.ensures.count in
    let description = rw (c.in_ok-roll.ensures.bytes, c.area_of.ensures.value) at c.describe_once.ensures in
    record {
      told = answers c.args.b.now c.args.work.now given (facts_of (promise_of c.args.promise)) _ description.told;
      area = area_cleared c.args.b.now c.args.work.now given _ description.area;
    }
