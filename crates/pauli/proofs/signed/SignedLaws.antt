-- Laws of signed Paulis as the code holds them: exponents that wrap, and lists of Paulis in words.
use Rattle.std.proofs.Common.{◌≡◌, ℕ, zero, suc, ◌+◌, ◌*◌, ◌%◌, ◌<◌, ◌≤◌, false, eqb, List, [], ◌∷◌, sym, refl, ap, ◌∙◌, add-zero, arith, length, get_or, take, drop, map, ne_eqb}
use lib.Pow.{mod-mod-pow}
use Rattle.binar.specs.Row.{dot, if_bit}
use Rattle.pauli.specs.Pauli.{Pauli, I, normal, times, product_from, product, select, indexed_product}
use Rattle.pauli.specs.Signed.{pauli_in, list_in, paulis_in, stored, times_stored, stored_from, product_stored}
use Rattle.pauli.proofs.signed.Algebra.{pauli_path, times_normal_l, normal_times}
use Rattle.pauli.proofs.places.Members.{at_indexes, at_hit, at_past, select_members}
use Rattle.pauli.specs.Sets.{members}
use Rattle.std.specs.Simd.{first_chunks}
use Rattle.std.specs.Prelude.{slice_index}
use Rattle.pauli.proofs.roll.Items.{items_at, chunk_items}
use Rattle.pauli.proofs.signed.Products.{product_normal}

-- ---- exponents

-- a byte's value is that of the number it is the remainder of
pub byte_value : (n : ℕ) → n % 256 % 4 ≡ n % 4
byte_value n = mod-mod-pow n 6 2

wrap_first : (a b : ℕ) → (a % 256 + b) % 256 ≡ (a + b) % 256
wrap_first a b = omega arith

wrap_second : (a b c : ℕ) → (a + b % 256 + c) % 256 ≡ (a + b + c) % 256
wrap_second a b c = omega arith

-- two sums that wrap at 256 are one that does
pub wrap_sum : (e f d g : ℕ) → g ≡ d → ((e + f) % 256 + 2 * g) % 256 ≡ (e + f + 2 * d) % 256
wrap_sum e f d g h = ap (λ (n : ℕ). ((e + f) % 256 + 2 * n) % 256) h ∙ wrap_first (e + f) (2 * d)

pub sum_not : (a b : ℕ) → (a ≡ 0 → ⊥) → eqb (a + b) 0 ≡ false
sum_not a b h = ne_eqb (a + b) 0 (λ e. h (omega arith))

pub sum_zero : (a b : ℕ) → a ≡ 0 → eqb (a + b) 0 ≡ eqb b 0
sum_zero a b h = let e : a + b ≡ b = omega arith in ap (λ (n : ℕ). eqb n 0) e

pub zero_bit : (b : ℕ) → b < 2 → (b ≡ 1 → ⊥) → b ≡ 0
zero_bit zero h n = refl
zero_bit (suc b) h n = absurd (n (omega arith))

-- ---- what is stored, by value

pub stored_value : {h : Pauli} (p : Pauli) → h ≡ stored p → normal h ≡ normal p
unfolding normal stored
stored_value p e = ap normal e ∙ pauli_path (byte_value p.e) refl refl

pub times_value : {h : Pauli} (p q : Pauli) → h ≡ times_stored p q → normal h ≡ times p q
unfolding normal times_stored times
times_value p q e = ap normal e ∙ pauli_path (byte_value (p.e + q.e + 2 * dot p.z q.x)) refl refl

-- of a product that is made only where a bit is 1
pub if_times_value : (d : ℕ) (g q : Pauli) → normal (if_bit d (times_stored g q) g) ≡ normal (if_bit d (times g q) g)
unfolding if_bit
if_times_value zero g q = refl
if_times_value (suc d) g q = times_value g q refl ∙ sym (normal_times g q)

from_stored : (p q : Pauli) (gs : List Pauli) → normal p ≡ normal q → normal (stored_from p gs) ≡ normal (product_from q gs)
unfolding stored_from product_from
from_stored p q [] e = e
from_stored p q (g ∷ gs) e =
    from_stored (times_stored p g) (times q g) gs
    (times_value p g refl ∙ sym (times_normal_l p g) ∙ ap (λ (r : Pauli). times r g) e ∙ times_normal_l q g ∙ sym (normal_times q g))

pub indexed_value : {h : Pauli} (s : ℕ) (gs : List Pauli) → h ≡ product_stored s gs → normal h ≡ indexed_product s gs
unfolding product_stored indexed_product product
indexed_value s gs e = ap normal e ∙ from_stored I I (select s gs) refl ∙ product_normal (select s gs)

-- a factor's exponent counts by its byte
times_byte : (p q : Pauli) → times_stored p (stored q) ≡ times_stored p q
unfolding times_stored stored
times_byte p q = pauli_path (wrap_second p.e q.e (2 * dot p.z q.x)) refl refl

-- ---- lists of Paulis

pub length_paulis : (ls : List (List ℕ)) → length (paulis_in ls) ≡ length ls
unfolding paulis_in
length_paulis [] = refl
length_paulis (l ∷ ls) = ap suc (length_paulis ls)

pub pauli_at : (ls : List (List ℕ)) (i : ℕ) (d : List ℕ) → i < length ls → get_or (paulis_in ls) i I ≡ pauli_in (get_or ls i d) 0
unfolding paulis_in
pauli_at [] i d h = absurd (omega arith)
pauli_at (l ∷ ls) zero d h = refl
pauli_at (l ∷ ls) (suc i) d h = pauli_at ls i d (omega arith)

-- five words that stand from word i of w on
pub pauli_shifted : (w l : List ℕ) (i : ℕ) → ((k : ℕ) → k < 5 → slice_index l k ≡ slice_index w (i + k)) → pauli_in l 0 ≡ pauli_in w i
unfolding pauli_in
pauli_shifted w l i same =
    let e : slice_index l 0 ≡ slice_index w i = same 0 (omega arith) ∙ ap (slice_index w) (add-zero i) in
    rw (e, same 1 (omega arith), same 2 (omega arith), same 3 (omega arith), same 4 (omega arith)) refl

paulis_items : (ls : List (List ℕ)) → paulis_in ls ≡ map (λ l. pauli_in l 0) ls
unfolding paulis_in
paulis_items [] = refl
paulis_items (l ∷ ls) = ap (λ ps. pauli_in l 0 ∷ ps) (paulis_items ls)

list_items : (w : List ℕ) (i n : ℕ) → list_in w i n ≡ items_at 5 (pauli_in w) i n
unfolding list_in items_at
list_items w i zero = refl
list_items w i (suc n) = ap (λ ps. pauli_in w i ∷ ps) (list_items w (i + 5) n)

pub chunk_paulis : (w : List ℕ) (i n m k : ℕ) → m ≡ 5 * n → k ≡ n → paulis_in (first_chunks 5 k (take m (drop i w))) ≡ list_in w i n
chunk_paulis w i n m k e f =
    ap (λ (j : ℕ). paulis_in (first_chunks 5 j (take m (drop i w)))) f ∙ paulis_items _
    ∙ chunk_items 5 (λ l. pauli_in l 0) (pauli_in w) w (λ j l. pauli_shifted w l j) i n m e ∙ sym (list_items w i n)

-- ---- the product of a list by its indexes

-- p times the Paulis of the list at these indexes
unfoldable pub product_at : List (List ℕ) → List ℕ → Pauli → Pauli
product_at ls is p = stored_from p (at_indexes is (paulis_in ls))

module _ (ls : List (List ℕ)) where
  pub product_start : (s : ℕ) → product_stored s (paulis_in ls) ≡ product_at ls (members s) I
  unfolding product_at product_stored
  product_start s = ap (stored_from I) (select_members (paulis_in ls) s)

  pub product_end : (p : Pauli) → product_at ls [] p ≡ p
  unfolding product_at at_indexes stored_from
  product_end p = refl

  module _ (i : ℕ) (is : List ℕ) (p : Pauli) where
    pub product_past : length ls ≤ i → product_at ls (i ∷ is) p ≡ product_at ls is p
    unfolding product_at
    product_past h = ap (stored_from p) (at_past (paulis_in ls) i is (rw length_paulis h))

    -- r is the product with the Pauli g at index i, whose words are l
    pub product_hit : i < length ls → (l : List ℕ) (g r : Pauli) → l ≡ get_or ls i l → g ≡ stored (pauli_in l 0) → r ≡ times_stored p g
        → product_at ls (i ∷ is) p ≡ product_at ls is r
    unfolding product_at stored_from
    product_hit h l g r at e f =
        ap (stored_from p) (at_hit (paulis_in ls) i is I (rw length_paulis h))
        ∙ ap (λ (q : Pauli). stored_from q (at_indexes is (paulis_in ls)))
        (ap (times_stored p) (pauli_at ls i l h ∙ ap (λ (ws : List ℕ). pauli_in ws 0) (sym at)) ∙ sym (times_byte p _)
        ∙ ap (times_stored p) (sym e) ∙ sym f)
