use Rattle.std.proofs.Common.{refl, ap, ◌∙◌, Result}
use Rattle.pauli.specs.Refusals.{told_of}
use Rattle.pauli.specs.Told.{map_told, and_then}
use Rattle.pauli.specs.declared.refusal.Refusal.{Refusal}
use Rattle.pauli.proofs.refusal.HandedOn.{handed_on}
use Rattle.combined_lists.specs.LineCall.{passed}
use Rattle.combined_lists.specs.declared.combine.Sent.{Sent}
use Rattle.combined_lists.proofs.combine.RollLaws.{four_read}
use Rattle.combined_lists.proofs.combine.read_rolls.Goals as goal

pub returns-in_err-a-clause-told : goal.returns-in_err-a-clause-told
unfolding passed map_told and_then
returns-in_err-a-clause-told c =
    ap (λ (r : Result Sent Refusal). passed (told_of r)) (handed_on _ _ c.from_residual.ensures.1)
    ∙ four_read _ _ c.told-rolls _ _ _ _ c.in_err-a.ensures.told refl refl refl

pub returns-in_err-b-clause-told : goal.returns-in_err-b-clause-told
unfolding passed map_told and_then
returns-in_err-b-clause-told c =
    ap (λ (r : Result Sent Refusal). passed (told_of r)) (handed_on _ _ c.from_residual-in_err-b.ensures.1)
    ∙ four_read _ _ c.told-rolls _ _ _ _ c.in_ok-a.ensures.told c.in_err-b.ensures.told refl refl

pub returns-in_err-c-clause-told : goal.returns-in_err-c-clause-told
unfolding passed map_told and_then
returns-in_err-c-clause-told c =
    ap (λ (r : Result Sent Refusal). passed (told_of r)) (handed_on _ _ c.from_residual-in_err-c.ensures.1)
    ∙ four_read _ _ c.told-rolls _ _ _ _ c.in_ok-a.ensures.told c.in_ok-b.ensures.told c.in_err-c.ensures.told refl

pub returns-in_err-d-clause-told : goal.returns-in_err-d-clause-told
unfolding passed map_told and_then
returns-in_err-d-clause-told c =
    ap (λ (r : Result Sent Refusal). passed (told_of r)) (handed_on _ _ c.from_residual-in_err-d.ensures.1)
    ∙ four_read _ _ c.told-rolls _ _ _ _ c.in_ok-a.ensures.told c.in_ok-b.ensures.told c.in_ok-c.ensures.told c.in_err-d.ensures.told

pub returns-clause-told : goal.returns-clause-told
unfolding passed map_told and_then
returns-clause-told c =
    four_read _ _ c.told-rolls _ _ _ _ c.in_ok-a.ensures.told c.in_ok-b.ensures.told c.in_ok-c.ensures.told c.in_ok-d.ensures.told
