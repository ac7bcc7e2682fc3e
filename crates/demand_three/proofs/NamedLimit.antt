-- What the limit took is taken without it, and the call goes on alike.
use Rattle.std.proofs.Common.{◌≡◌, refl, sym, ap, ◌∙◌, Bool, true, false, not, ◌&&◌, leb, ℕ, suc, List, [], ◌∷◌}
use Rattle.pauli.specs.Told.{Told, answer, refused, refuse_if, and_then, map_told}
use Rattle.pauli.specs.OldLimit.{read_below, NeverFive}
use Rattle.pauli.specs.Pauli.{Pauli}
use Rattle.pauli.specs.Roll.{Sparse, support}
use Rattle.pauli.proofs.roll.OldLimitLaw.{limit_law}
use Rattle.pauli_group.specs.Calls.{paulis}
use Rattle.pauli_group.specs.WorkArea.{enough}
use Rattle.centralizer.specs.Calls.{rises_from, fitting, checked, generators_of, within_checked, within_call}
use Rattle.centralizer.proofs.named.NamedLaws.{both_true}
use Rattle.demand_three.specs.NamedLimit.{rises_below, fitting_below, checked_below, within_below, NeverThirteen, NamedLimitLaw}

rises_without : (limit least : ℕ) (qs : List ℕ) → rises_below limit least qs ≡ true → rises_from least qs ≡ true
unfolding rises_below rises_from
rises_without limit least [] e = refl
rises_without limit least (q ∷ qs) e =
    let a = both_true (leb least q) (leb q limit && rises_below limit (suc q) qs) e in
    let b = both_true (leb q limit) (rises_below limit (suc q) qs) a.1 in
    rw (a.0, rises_without limit (suc q) qs b.1) refl

same_test : {A : Type 0} (below rises few : Bool) (next : Told A) → (below ≡ true → rises ≡ true)
    → NeverThirteen (refuse_if (not (below && few)) 13 0 next) → refuse_if (not (rises && few)) 13 0 next ≡ refuse_if (not (below && few)) 13 0 next
unfolding refuse_if
same_test true rises few next up h = rw (up refl) refl
same_test false rises few next up h = absurd (h 0 refl)

same_next : {A B : Type 0} (t : Told A) (f g : A → Told B) → NeverThirteen (and_then t g) → ((a : A) → NeverThirteen (g a) → f a ≡ g a)
    → and_then t f ≡ and_then t g
unfolding and_then
same_next (answer a) f g h k = k a h
same_next (refused n p) f g h k = refl

same_checked : (limit : ℕ) (b named : List ℕ) (words : ℕ) → NeverFive (checked_below limit b named words) → NeverThirteen (checked_below limit b named words)
    → within_checked b named words ≡ checked_below limit b named words
unfolding checked_below within_checked checked fitting fitting_below
same_checked limit b named words five thirteen =
    let next : List Sparse → Told (List Pauli) = λ ps. fitting named (support ps) (enough words (answer (paulis ps))) in
    let alike =
    same_next (read_below limit b) next _ thirteen λ ps h. same_test (rises_below limit 0 named) _ _ _ (rises_without limit 0 named) h in
    (limit_law limit).call_on_one b next (λ p e. five p (sym alike ∙ e)) ∙ alike

pub named_limit_law : (limit : ℕ) → NamedLimitLaw limit
unfolding within_below within_call generators_of map_told
named_limit_law limit =
    record {
      call = λ b named words five thirteen.
          ap (generators_of named)
          (same_checked limit b named words (λ p e. five p (ap (generators_of named) e)) (λ p e. thirteen p (ap (generators_of named) e)));
      checked = same_checked limit;
    }
