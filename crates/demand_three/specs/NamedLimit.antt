-- The limit on the numbers of a named support that document 02, L8, takes away: "Every call accepted before gets identical results", and "13
-- loses its clause on the qubit limit". For rolls it is in pauli/specs/OldLimit.
use Rattle.std.specs.Prelude.{◌≡◌, List, [], ◌∷◌, ℕ, suc, Bool, true, not, ◌&&◌, nat_le}
use Rattle.pauli.specs.Told.{Told, answer, refused, refuse_if, and_then}
use Rattle.pauli.specs.OldLimit.{read_below, NeverFive}
use Rattle.pauli.specs.Pauli.{Pauli}
use Rattle.pauli.specs.Roll.{support}
use Rattle.pauli_group.specs.Calls.{paulis}
use Rattle.pauli_group.specs.WorkArea.{enough}
use Rattle.centralizer.specs.Calls.{together, most_together, generators_of, within_checked, within_call}

-- "isn't strictly rising or passes the qubit limit"; else as `rises_from` and `fitting`
unfoldable pub rises_below : ℕ → ℕ → List ℕ → Bool
rises_below limit least [] = true
rises_below limit least (q ∷ qs) = nat_le least q && (nat_le q limit && rises_below limit (suc q) qs)

unfoldable pub fitting_below : {A : Type 0} → ℕ → List ℕ → List ℕ → Told A → Told A
fitting_below limit named own next = refuse_if (not (rises_below limit 0 named && nat_le (together named own) most_together)) 13 0 next

-- `within_checked` and `within_call` under the limit
unfoldable pub checked_below : ℕ → List ℕ → List ℕ → ℕ → Told (List Pauli)
checked_below limit b named words = and_then (read_below limit b) λ ps. fitting_below limit named (support ps) (enough words (answer (paulis ps)))

unfoldable pub within_below : ℕ → List ℕ → List ℕ → ℕ → Told (List ℕ)
within_below limit b named words = generators_of named (checked_below limit b named words)

abbrev pub NeverThirteen : {A : Type 0} → Told A → Type 0
NeverThirteen t = (p : ℕ) → t ≡ refused 13 p → ⊥

-- where the call was refused neither with 5 nor with 13, all that its contract speaks of is the same
pub record NamedLimitLaw (limit : ℕ) : Type 0 where
  pub call : (b named : List ℕ) (words : ℕ) → NeverFive (within_below limit b named words) → NeverThirteen (within_below limit b named words)
      → within_call b named words ≡ within_below limit b named words
  pub checked : (b named : List ℕ) (words : ℕ) → NeverFive (checked_below limit b named words) → NeverThirteen (checked_below limit b named words)
      → within_checked b named words ≡ checked_below limit b named words
