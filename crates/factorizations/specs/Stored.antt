-- Results of membership, kept in the work area.
use Rattle.std.specs.Prelude.{◌≡◌, cond, List, [], ◌∷◌, ℕ, zero, suc, ◌+◌, ◌*◌, ◌^◌, ◌<◌, nat_lt, get_or, set}
use Rattle.std.proofs.Math.Option.{Option, some, none}
use Rattle.pauli_theory.specs.Membership.{Factorization}
use Rattle.pauli_group.specs.Inner.Area.{Outside}

-- the result whose five words start at word i: the exponent, or 4 for an element that is no member; the two words of the index set;
-- and two that say nothing
unfoldable pub result_in : List ℕ → ℕ → Option Factorization
result_in l i = cond (nat_lt (get_or l i 0) 4) (some (record { indexes = get_or l (i + 2) 0 * 2 ^ 64 + get_or l (i + 1) 0; exponent = get_or l i 0 })) none

-- a member's result put there: its exponent and the two words of its index set; the two words that say nothing are as they were
abbrev pub put_member : List ℕ → ℕ → ℕ → ℕ → ℕ → List ℕ
put_member l i e low high = set (set (set l i e) (i + 1) low) (i + 2) high

-- the result of an element that is no member: the other four words are as they were
abbrev pub put_other : List ℕ → ℕ → List ℕ
put_other l i = set l i 4

-- the n results from word i on
unfoldable pub stored_in : List ℕ → ℕ → ℕ → List (Option Factorization)
stored_in l i zero = []
stored_in l i (suc n) = result_in l i ∷ stored_in l (i + 5) n

-- the results of a list of fives of words
unfoldable pub results_in : List (List ℕ) → List (Option Factorization)
results_in [] = []
results_in (l ∷ ls) = result_in l 0 ∷ results_in ls

-- five words can keep it: an exponent is below 4
abbrev pub Storable : Option Factorization → Type 0
Storable none = Unit {0}
Storable (some f) = f.exponent < 4

-- the slice l is now l': the result o is kept in the five words from word i on, and the other words are as they were
pub record Stored (l : List ℕ) (i : ℕ) (o : Option Factorization) (l' : List ℕ) : Type 0 where
  pub kept : result_in l' i ≡ o
  pub rest : Outside i 5 l l'
