-- Symplectic pairing in the work area.
use Rattle.std.specs.Prelude.{◌≡◌, ℕ, ◌+◌, ◌<◌, List, map}
use Rattle.binar.specs.Row.{if_bit}
use Rattle.pauli.specs.Pauli.{Pauli, normal, anticommute}
use Rattle.pauli.specs.Signed.{list_in, times_stored}
use Rattle.pauli_theory.specs.Symplectic.{paired_from}
use Rattle.pauli_group.specs.declared.symplectic.Pairing.{Pairing}
use Rattle.pauli_group.specs.Inner.Area.{list_at, standard_at, further_at}

-- g times q as it is stored, if g anticommutes with p
unfoldable pub times_if_stored : Pauli → Pauli → Pauli → Pauli
times_if_stored p q g = if_bit (anticommute g p) (times_stored g q) g

-- what the pairing comes to from here on: of the Paulis left in the list, with the conjugate and the commuting elements so far
unfoldable pub paired_in : List ℕ → Pairing → List Pauli
paired_in l p = map normal (paired_from p.left (list_in l list_at p.left) (list_in l standard_at p.conjugate) (list_in l further_at p.commuting))

-- the conjugate elements so far are their own values
unfoldable pub Plain : List ℕ → Pairing → Type 0
Plain l p = map normal (list_in l standard_at p.conjugate) ≡ list_in l standard_at p.conjugate

-- one step from the area `old` to `new`: it comes to the same, with fewer Paulis left
pub record PairedTo (old : List ℕ) (p : Pairing) (new : List ℕ) (q : Pairing) : Type 0 where
  pub same : paired_in new q ≡ paired_in old p
  pub less : q.left < p.left
  pub count : q.left + q.conjugate + q.commuting ≡ p.left + p.conjugate + p.commuting
  pub plain : Plain old p → Plain new q
