-- Equality of Paulis up to powers of i^m, for the divisors m of 4: for m = 4 it is equality by value, for m = 1 equality of the
-- sets. And sets of Paulis that are closed under products and under this equality.
use mathlib.Core.Path.{◌≡◌, refl, sym, ap, ap₂, ◌∙◌}
use mathlib.Core.List.{List, [], ◌∷◌}
use Prim.Native.Nat.{ℕ, ◌+◌, ◌-◌, ◌*◌, ◌/◌, ◌%◌, ◌≤◌, ◌<◌}
use native.Mathlib.Nat.{add-zero, mod-mod}
use native.Mathlib.Omega.{arith}
use Rattle.binar.specs.Row.{◌⊕◌, dot}
use Rattle.binar.proofs.echelon.Span.{if_bit_case}
use Rattle.pauli.specs.Support.{All}
use Rattle.pauli.specs.Pauli.{Pauli, I, normal, Same, times, turned, product, indexed_product, select}
use Rattle.pauli.proofs.signed.Products.{product_cons, product_none, indexed_cons}
use Rattle.pauli_theory.specs.Standard.{exponent_mod}
use Rattle.pauli_theory.specs.Membership.{exponent_left}

pub data Divisor : ℕ → Type 0 where
  one : Divisor 1
  two : Divisor 2
  four : Divisor 4

pub record Agree (m : ℕ) (p q : Pauli) : Type 0 where
  pub phase : p.e % m ≡ q.e % m
  pub x : p.x ≡ q.x
  pub z : p.z ≡ q.z

pub agree_path : (m : ℕ) {p q : Pauli} → p ≡ q → Agree m p q
agree_path m h = record { phase = ap (λ r. r.e % m) h; x = ap (λ r. r.x) h; z = ap (λ r. r.z) h }

pub agree_flip : {m : ℕ} {p q : Pauli} → Agree m p q → Agree m q p
agree_flip h = record { phase = sym h.phase; x = sym h.x; z = sym h.z }

pub agree_join : {m : ℕ} {p q r : Pauli} → Agree m p q → Agree m q r → Agree m p r
agree_join h k = record { phase = h.phase ∙ k.phase; x = h.x ∙ k.x; z = h.z ∙ k.z }

pub agree_sets : {p q : Pauli} → p.x ≡ q.x → p.z ≡ q.z → Agree 1 p q
agree_sets ex ez = record { phase = omega arith; x = ex; z = ez }

-- ---- exponents
value_mod : {m : ℕ} → Divisor m → (e : ℕ) → e % 4 % m ≡ e % m
value_mod one e = omega arith
value_mod two e = omega arith
value_mod four e = omega arith

sum_mod : {m : ℕ} → Divisor m → (a b c d k : ℕ) → a % m ≡ c % m → b % m ≡ d % m → (a + b + k) % m ≡ (c + d + k) % m
sum_mod one a b c d k h j = omega arith
sum_mod two a b c d k h j = omega arith
sum_mod four a b c d k h j = omega arith

turn_mod : {m : ℕ} → Divisor m → (k e : ℕ) → k % m ≡ 0 → (k + e) % m ≡ e % m
turn_mod one k e h = omega arith
turn_mod two k e h = omega arith
turn_mod four k e h = omega arith

pub divisor_positive : {m : ℕ} → Divisor m → 0 < m
divisor_positive one = omega arith
divisor_positive two = omega arith
divisor_positive four = omega arith

pub divisor_le : {m : ℕ} → Divisor m → m ≤ 4
divisor_le one = omega arith
divisor_le two = omega arith
divisor_le four = omega arith

-- ---- equality by value
pub same_agree : {m : ℕ} {p q : Pauli} → Divisor m → Same p q → Agree m p q
same_agree {m} {p} {q} d h = record { phase = sym (value_mod d p.e) ∙ ap (λ (e : ℕ). e % m) h.value ∙ value_mod d q.e; x = h.x; z = h.z }

pub agree_same : {p q : Pauli} → Agree 4 p q → Same p q
agree_same h = record { value = h.phase; x = h.x; z = h.z }

pub agree_weaker : {m : ℕ} {p q : Pauli} → Divisor m → Agree 4 p q → Agree m p q
agree_weaker d h = same_agree d (agree_same h)

pub agree_normal : {m : ℕ} (p : Pauli) → Divisor m → Agree m (normal p) p
unfolding normal
agree_normal p d = record { phase = value_mod d p.e; x = refl; z = refl }

-- ---- products and powers of i
pub agree_times : {m : ℕ} {p q r s : Pauli} → Divisor m → Agree m p r → Agree m q s → Agree m (times p q) (times r s)
unfolding times
agree_times {m} {p} {q} {r} {s} d h k = record {
  phase =
      value_mod d (p.e + q.e + 2 * dot p.z q.x)
      ∙ ap₂ (λ (u v : ℕ). (p.e + q.e + 2 * dot u v) % m) h.z k.x
      ∙ sum_mod d p.e q.e r.e s.e (2 * dot r.z s.x) h.phase k.phase
      ∙ sym (value_mod d (r.e + s.e + 2 * dot r.z s.x));
  x = ap₂ ◌⊕◌ h.x k.x;
  z = ap₂ ◌⊕◌ h.z k.z;
}

pub agree_turned : {m : ℕ} (k : ℕ) (p : Pauli) → Divisor m → k % m ≡ 0 → Agree m (turned k p) p
unfolding turned
agree_turned k p d h = record { phase = value_mod d (k + p.e) ∙ turn_mod d k p.e h; x = refl; z = refl }

-- i^k
pub power_phase : {m : ℕ} → Divisor m → (k : ℕ) → (turned k I).e % m ≡ k % m
unfolding turned I
power_phase {m} d k = value_mod d (k + 0) ∙ ap (λ (n : ℕ). n % m) (add-zero k)

pub agree_exponent_mod : {m : ℕ} (p : Pauli) → Divisor m → Agree m (exponent_mod m p) p
unfolding exponent_mod
agree_exponent_mod {m} p d = record { phase = mod-mod p.e m; x = refl; z = refl }

-- ---- the exponent left of p after q
left_sum : (e f : ℕ) → f < 4 → ((e % 4 + 4 - f) % 4 + f) % 4 ≡ e % 4
left_sum e f l = omega arith

pub left_same : (p q : Pauli) → q.e < 4 → p.x ≡ q.x → p.z ≡ q.z → Same (turned (exponent_left p q) q) p
unfolding exponent_left turned
left_same p q l ex ez = record { value = mod-mod _ 4 ∙ left_sum p.e q.e l; x = sym ex; z = sym ez }

pub left_lt : (p q : Pauli) → exponent_left p q < 4
unfolding exponent_left
left_lt p q = omega arith

left_zero : {m : ℕ} → Divisor m → (e f : ℕ) → f < 4 → e % m ≡ f % m → (e % 4 + 4 - f) % 4 % m ≡ 0
left_zero one e f l h = omega arith
left_zero two e f l h = omega arith
left_zero four e f l h = omega arith

pub left_agree : {m : ℕ} {p q : Pauli} → Divisor m → q.e < 4 → Agree m p q → exponent_left p q % m ≡ 0
unfolding exponent_left
left_agree {p} {q} d l h = left_zero d p.e q.e l h.phase

-- ---- sets closed under products, that do not tell apart what agrees up to i^m
pub record Subgroup (m : ℕ) (Q : Pauli → Type 0) : Type 0 where
  pub agrees : (p q : Pauli) → Agree m p q → Q p → Q q
  pub unit : Q I
  pub products : (p q : Pauli) → Q p → Q q → Q (times p q)

module _ {m : ℕ} {Q : Pauli → Type 0} (S : Subgroup m Q) where
  pub product_in : (ps : List Pauli) → All Q ps → Q (product ps)
  product_in [] h = rw product_none S.unit
  product_in (p ∷ ps) h = rw product_cons (S.products p (product ps) h.0 (product_in ps h.1))

  pub indexed_in : (gs : List Pauli) → All Q gs → (s : ℕ) → Q (indexed_product s gs)
  unfolding indexed_product select
  indexed_in [] h s = rw product_none S.unit
  indexed_in (g ∷ gs) h s =
      rw indexed_cons (S.products _ _ (if_bit_case Q (s % 2) (λ z. S.unit) (λ l. h.0)) (indexed_in gs h.1 (s / 2)))
