-- The refusal of the checks is told on; else the roll is written.
use Rattle.std.proofs.Common.{ℕ, List, refl, ap, ◌∙◌}
use Rattle.pauli.specs.Told.{Told}
use Rattle.pauli.specs.Writing.{told_bytes, left_in}
use Rattle.pauli_group.specs.Calls.{standard_bytes, standard_generators}
use Rattle.pauli_group.proofs.checks.OneList.{given, list_none, answers, area_cleared, refuses, area_kept}
use Rattle.pauli.proofs.refusal.HandedOn.{handed_on}
use Rattle.pauli.specs.Refusals.{told_of}
use Rattle.pauli_group.proofs.calls.standard_generators.Goals as goal

pub returns-in_err-roll : goal.returns-in_err-roll
unfolding standard_generators told_bytes left_in
returns-in_err-roll c =
    let b = c.args.b.now in
    let work = c.args.work.now in
    let out = c.args.out.now in
    let none = list_none _ _ c.in_err-roll.ensures.count in
    let same = refuses b work none standard_bytes in
    record {
      told = ap told_of (handed_on _ _ c.from_residual.ensures.1) ∙ ap (λ (t : Told (List ℕ)). told_bytes t out) same;
      left = ap (λ (t : Told (List ℕ)). left_in t out) same;
      area = area_kept b work none;
    }

pub returns : goal.returns
unfolding standard_generators
returns c =
    let b = c.args.b.now in
    let work = c.args.work.now in
    let out = c.args.out.now in
    let given = given _ _ _ c.in_ok-roll.ensures.count in
    let same = answers b work given standard_bytes _ refl in
    let written = rw (c.in_ok-roll.ensures.bytes, c.area_of.ensures.value) at c.write_standard.ensures in
    record {
      told = written.told ∙ ap (λ (t : Told (List ℕ)). told_bytes t out) same;
      left = written.left ∙ ap (λ (t : Told (List ℕ)). left_in t out) same;
      area = area_cleared b work given _ written.area;
    }
