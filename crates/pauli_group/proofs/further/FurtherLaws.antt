-- Laws of the further list that a call has worked out.
use Rattle.std.proofs.Common.{◌≡◌, ℕ, List, length, ap, ◌∙◌}
use Rattle.pauli.specs.Pauli.{Pauli}
use Rattle.pauli.specs.Signed.{list_in}
use Rattle.pauli.specs.Writing.{OnPlaces, roll_over}
use Rattle.pauli_theory.proofs.Placed.{condensed_on}
use Rattle.pauli_theory.proofs.Written.{written_over}
use Rattle.pauli_group.specs.Calls.{list_bytes}
use Rattle.pauli_group.specs.Inner.Area.{further_at}
use Rattle.pauli_group.specs.Inner.Further.{FurtherHas}

module _ {qs : List ℕ} {ps : List Pauli} {x : List ℕ} {n : ℕ} (f : FurtherHas qs ps x n) where
  pub further_on : OnPlaces (length qs) (list_in x further_at n)
  further_on = rw f.list (condensed_on qs ps)

  pub further_written : roll_over qs (list_in x further_at n) ≡ list_bytes ps
  further_written = ap (roll_over qs) f.list ∙ written_over qs f.rises ps f.on

  -- over the places of the same qubits, as the code lends them
  pub further_same : (rs : List ℕ) → rs ≡ qs → FurtherHas rs ps x n
  further_same rs e = rw e f
