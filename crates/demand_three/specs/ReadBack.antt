-- What a call writes is read back, call by call. Of a call nothing is known but what its `ensures` says, whatever it was lent, answered and
-- left, and with any promise, be it true or false: where it tells a size, so many bytes at the front of its output are an accepted roll that
-- holds exactly the Paulis of the call's definition. So every law of lists is one of bytes.
use Rattle.std.specs.Prelude.{◌≡◌, List, ℕ, take, Result}
use Rattle.std.proofs.Math.Option.{some}
use Rattle.pauli.specs.Told.{answer}
use Rattle.pauli.specs.Roll.{Sparse, read}
use Rattle.pauli.specs.Pauli.{Pauli}
use Rattle.pauli.specs.ReadBack.{Holds, JoiningReadBack, ProductReadBack}
use Rattle.pauli_theory.specs.Group.{Promise}
use Rattle.pauli_theory.specs.Standard.{standard}
use Rattle.pauli_theory.specs.Listing.{elements_of, page}
use Rattle.pauli_theory.specs.Symplectic.{symplectic_form}
use Rattle.pauli_theory.specs.Modulo.{modulo, try_quotient}
use Rattle.pauli_theory.specs.WholeCommon.{whole_common}
use Rattle.pauli_group.specs.Calls.{paulis}
use Rattle.pauli_group.specs.CallContracts.{StandardCall, SymplecticCall, ElementsCall, ModuloCall, QuotientCall, CommonCall}
use Rattle.pauli.specs.declared.refusal.Refusal.{Refusal}
use Rattle.pauli.specs.Refusals.{told_of}

-- as many bytes as the call told, at the front of the output that it left, hold these Paulis
abbrev pub WroteHolds : Result ℕ Refusal → List ℕ → List Pauli → Type 0
WroteHolds wrote out' ps = (n : ℕ) → told_of wrote ≡ answer n → Holds (take n out') ps

pub record ReadBack : Type 0 where
  -- ---- calls on the list ps of one roll
  pub standard_generators : (b work out : List ℕ) (wrote : Result ℕ Refusal) (work' out' : List ℕ) (ps : List Sparse)
      → StandardCall b work out wrote work' out' → read b ≡ answer ps → WroteHolds wrote out' (standard (paulis ps))
  pub symplectic_form_of : (b work out : List ℕ) (wrote : Result ℕ Refusal) (work' out' : List ℕ) (ps : List Sparse)
      → SymplecticCall b work out wrote work' out' → read b ≡ answer ps → WroteHolds wrote out' (symplectic_form (paulis ps))
  pub elements : (promise : Promise) (start count : ℕ) (b work out : List ℕ) (wrote : Result ℕ Refusal) (work' out' : List ℕ) (ps : List Sparse)
      → ElementsCall promise start count b work out wrote work' out' → read b ≡ answer ps
      → WroteHolds wrote out' (page start count (elements_of promise (paulis ps)))
  -- ---- calls on the lists ps and qs of two rolls
  pub modulo : (right : Promise) (l r work out : List ℕ) (wrote : Result ℕ Refusal) (work' out' : List ℕ) (ps qs : List Sparse)
      → ModuloCall right l r work out wrote work' out' → read l ≡ answer ps → read r ≡ answer qs
      → WroteHolds wrote out' (modulo right (paulis ps) (paulis qs))
  pub try_quotient : (left right : Promise) (l r work out : List ℕ) (wrote : Result ℕ Refusal) (work' out' : List ℕ) (ps qs : List Sparse)
      → QuotientCall left right l r work out wrote work' out' → read l ≡ answer ps → read r ≡ answer qs
      → (n : ℕ) → told_of wrote ≡ answer n
      → (rs : List Pauli) × (try_quotient left right (paulis ps) (paulis qs) ≡ some rs) × Holds (take n out') rs
  pub bitand : (l r work out : List ℕ) (wrote : Result ℕ Refusal) (work' out' : List ℕ) (ps qs : List Sparse)
      → CommonCall l r work out wrote work' out' → read l ≡ answer ps → read r ≡ answer qs
      → WroteHolds wrote out' (whole_common (paulis ps) (paulis qs))
  pub joining : JoiningReadBack
  pub product : ProductReadBack
