-- Lists of Paulis over the places of a support, in the work area.
use Rattle.std.specs.Prelude.{◌≡◌, ℕ, ◌+◌, ◌*◌, ◌/◌, ◌%◌, ◌^◌, ◌<◌, max, Option as CodeOption, Some, None, Bool, true, false, MatchBool, List, ◌++◌, map, length, take, drop}
use Rattle.std.specs.List.{HoldsAt, AllWithin}
use Rattle.std.proofs.Math.Option.{Option, some, none as nothing}
use Rattle.binar.specs.Echelon.{EchelonForm, echelon}
use Rattle.binar.specs.Words.{matrix}
use Rattle.pauli.specs.Condense.{Readable, condensed}
use Rattle.pauli.specs.Pauli.{Pauli, normal, indexed_product}
use Rattle.pauli.specs.Roll.{Sparse}
use Rattle.pauli.specs.Signed.{held, pauli_in}
use Rattle.pauli.specs.declared.signed.Pauli.{Pauli as Held}
use Rattle.pauli.specs.Sets.{pauli_of}
use Rattle.pauli_theory.specs.Group.{Promise, none, abelian, not_abelian}
use Rattle.pauli_theory.specs.Standard.{if_zero, modulus_of, exponent_mod, some_order_four, some_anticommute, appended, some_minus}
use Rattle.pauli_group.specs.declared.answers.Phases.{Phases}
use Rattle.pauli_group.specs.declared.answers.Phases.TheVariants.{Zero, ZeroTwo, All}
use Rattle.pauli_group.specs.Inner.Area.{row_words, stride_of}

-- every Pauli of a roll of n has its qubits in the support qs
abbrev pub ReadableAll : List ℕ → ℕ → List ℕ → Type 0
ReadableAll b n qs = (i : ℕ) → i < n → Readable b n i qs

-- a Pauli of a roll over the places of a support, its exponent by value
unfoldable pub over_places : List ℕ → Sparse → Pauli
over_places qs p = normal (condensed qs (pauli_of p))

-- "column p is X at place p, column s + p is Z, where s is the support's size"
unfoldable pub row_over : ℕ → Pauli → ℕ
row_over s p = p.x + 2 ^ s * p.z

-- the echelon form of Paulis over s places
unfoldable pub form_over : ℕ → List Pauli → EchelonForm
form_over s ps = echelon (2 * s) (map (row_over s) ps)

-- ---- standard generators from the products that T's rows name

-- the products of the Paulis ps that T names in count rows of a form of n rows in a slice, from row first on
unfoldable pub products_by : ℕ → ℕ → ℕ → List ℕ → List Pauli → List Pauli
products_by n first count l ps = map (λ v. indexed_product (v / 2 ^ (64 * row_words)) ps) (take count (drop first (matrix (stride_of n) n l)))

-- `StandardForm::new`, from these products: the first r belong to the nonzero rows
unfoldable pub from_products : ℕ → List Pauli → List Pauli
from_products r qs =
    let m = modulus_of (map (λ q. q.e) (drop r qs)) in
    let ps = map (exponent_mod m) (take r qs) in
    if_zero (max (some_order_four ps) (some_anticommute ps)) (ps ++ appended m ps) (map (exponent_mod 2) ps ++ appended (m % 2) ps)

-- what the code has found
abbrev pub found : CodeOption ℕ → Option ℕ
found (Some n) = some n
found None = nothing

-- ---- tests of the Paulis in words

-- a test tells r of the Pauli of five words, read up to the value of its exponent
pub record Tested (tells : Held → Bool → Type 0) (words : List ℕ) (r : Bool) : Type 0 where
  pub pauli : Held
  pub read : normal (held pauli) ≡ normal (pauli_in words 0)
  pub told : tells pauli r

-- whether the test holds of one of the Paulis of a list
abbrev pub SomeTested : (Held → Bool → Type 0) → List (List ℕ) → Bool → Type 0
SomeTested tells list r =
    MatchBool r ((k : ℕ) × (k < length list) × HoldsAt (λ words. Tested tells words true) list k) (AllWithin (λ words. Tested tells words false) list 0 (length list))

-- ---- what a call tells of a group, by its standard generators ps

unfoldable pub clash_of : Promise → List Pauli → ℕ
clash_of none ps = some_anticommute ps
clash_of abelian ps = 0
clash_of not_abelian ps = 1

-- the step between the phases that an answer has
abbrev pub step_told : Phases → ℕ
step_told Zero = 4
step_told ZeroTwo = 2
step_told All = 1

unfoldable pub stabilizer_of : ℕ → List Pauli → ℕ
stabilizer_of clash ps = if_zero (max clash (max (some_order_four ps) (some_minus ps))) 1 0
