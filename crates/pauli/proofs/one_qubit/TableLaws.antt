-- The law of the table of products: one test over all of its entries, which computes, and the rule at each entry by it. So too for
-- the products in both orders.
use Rattle.std.proofs.Common.{◌≡◌, ℕ, ◌+◌, ◌*◌, ◌/◌, ◌%◌, ◌<◌, Bool, true, not, ◌==◌, slice_index, sym, refl, ap, ◌∙◌, ap₂, arith, eqb-true}
use Rattle.std.proofs.lemmas.Bool.{agree_below, agree_below_at}
use lib.Count.{ones}
use Rattle.binar.specs.Row.{◌⊕◌, dot}
use Rattle.pauli.specs.declared.one_qubit.TheConstants.{PRODUCTS}
use Rattle.pauli.specs.Pauli.{Pauli, Same, times, normal, anticommute}
use Rattle.pauli.specs.OneQubit.{pauli_numbered, number_of_pauli, product_number, OneQubitLaw}
use Rattle.pauli.proofs.signed.Algebra.{pauli_path, normal_lt, normal_times, normal_same}
use Rattle.binar.proofs.row.Bits.{xor_lt}

-- an entry is the number of the product of the Paulis that its place stands for
unfoldable right : ℕ → Bool
right n = slice_index PRODUCTS n == product_number (n / 16) (n % 16)

all_right : agree_below right (λ _. true) 256 ≡ true
unfolding right product_number pauli_numbered number_of_pauli times ◌⊕◌ dot ones
all_right = refl

-- the products in both orders differ
unfoldable differing : ℕ → ℕ → Bool
differing a b = not (product_number a b == product_number b a)

unfoldable crossing : ℕ → ℕ → Bool
crossing a b = anticommute (pauli_numbered a) (pauli_numbered b) == 1

all_orders : agree_below (λ n. differing (n / 16) (n % 16)) (λ n. crossing (n / 16) (n % 16)) 256 ≡ true
unfolding differing crossing product_number pauli_numbered number_of_pauli times anticommute ◌⊕◌ dot ones
all_orders = refl

module _ (a b : ℕ) (h : a < 16) (k : b < 16) where
  place_lt : 16 * a + b < 256
  place_lt = omega arith

  row : (16 * a + b) / 16 ≡ a
  row = omega arith

  column : (16 * a + b) % 16 ≡ b
  column = omega arith

  pub entry_is : slice_index PRODUCTS (16 * a + b) ≡ product_number a b
  unfolding right
  entry_is = eqb-true _ _ (agree_below_at right (λ _. true) 256 (16 * a + b) all_right place_lt) ∙ ap₂ product_number row column

  pub differ_is : not (product_number a b == product_number b a) ≡ (anticommute (pauli_numbered a) (pauli_numbered b) == 1)
  unfolding differing crossing
  differ_is =
      sym (ap₂ differing row column) ∙ agree_below_at (λ n. differing (n / 16) (n % 16)) (λ n. crossing (n / 16) (n % 16)) 256 (16 * a + b) all_orders place_lt
      ∙ ap₂ crossing row column

-- ---- the numbering

pub number_lt : (p : Pauli) → p.x < 2 → p.z < 2 → number_of_pauli p < 16
unfolding number_of_pauli
number_lt p h k = omega arith

number_back : (n : ℕ) → n < 16 → number_of_pauli (pauli_numbered n) ≡ n
unfolding number_of_pauli pauli_numbered
number_back n h = omega arith

pub pauli_back : (p : Pauli) → p.x < 2 → p.z < 2 → pauli_numbered (number_of_pauli p) ≡ normal p
unfolding number_of_pauli pauli_numbered normal
pauli_back p h k = pauli_path (omega arith) (omega arith) (omega arith)

-- the Pauli whose number an entry is
pub product_is : (a b : ℕ) → pauli_numbered (product_number a b) ≡ times (pauli_numbered a) (pauli_numbered b)
unfolding product_number times pauli_numbered
product_is a b =
    let x = xor_lt 1 (a / 8 % 2) (b / 8 % 2) (omega arith) (omega arith) in
    let z = xor_lt 1 (a / 4 % 2) (b / 4 % 2) (omega arith) (omega arith) in
    pauli_back (times (pauli_numbered a) (pauli_numbered b)) x z ∙ normal_times (pauli_numbered a) (pauli_numbered b)

same_back : (p : Pauli) → p.x < 2 → p.z < 2 → Same (pauli_numbered (number_of_pauli p)) p
unfolding normal
same_back p h k = normal_same _ p (ap normal (pauli_back p h k) ∙ normal_lt (normal p) (omega arith))

pub one_qubit_law : OneQubitLaw
unfolding number_of_pauli
one_qubit_law =
    record {
      size = refl;
      entry = entry_is;
      product = λ a b h k. ap pauli_numbered (entry_is a b h k) ∙ product_is a b;
      number_lt = number_lt;
      number_back = number_back;
      pauli_back = same_back;
      z_number = refl;
      x_number = refl;
      zx = refl;
      xz = refl;
    }
