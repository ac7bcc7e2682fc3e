-- The bit of a product: the laws of specs/ProductTheorems.antt.
use Rattle.std.proofs.Common.{◌≡◌, ℕ, ◌+◌, ◌*◌, ◌%◌, Bool, true, false, ◌==◌, List, [], ◌∷◌, map, get_or, sym, refl, ap, ◌∙◌, arith, eqb-true, eq-eqb}
use Rattle.std.proofs.lemmas.Bool.{eqb-false}
use Rattle.std.specs.Int.Bits.{bit_and}
use lib.Count.{ones}
use Rattle.binar.specs.Row.{dot, weight}
use Rattle.pauli.specs.Told.{answer}
use Rattle.pauli.specs.Roll.{Sparse, read}
use Rattle.pauli.specs.Pauli.{Pauli, normal, Same, times, turned, anticommute}
use Rattle.pauli.specs.Sets.{pauli_of}
use Rattle.pauli.specs.Condense.{nothing}
use Rattle.pauli.specs.JoinCalls.{made_of}
use Rattle.pauli.specs.ReadBack.{Holds}
use Rattle.pauli.specs.ProductTheorems.{Multiplication, Gave, overlap, ProductLaw}
use Rattle.pauli.proofs.signed.Algebra.{normal_times, normal_same, turned_zero, turned_normal, normal_turned, anticommute_lt, anticommute_comm, times_swap}
use Rattle.pauli.proofs.signed.SignedLaws.{zero_bit}
use Rattle.pauli.proofs.join.ProductLaws.{lists_read, made_bit}
use Rattle.pauli.proofs.join.ReadBack.{product_read_back}

-- ---- the overlap

sum_parity : (a b : ℕ) → (a % 2 + b % 2) % 2 ≡ (a + b) % 2
sum_parity a b = omega arith

by_overlap : (p q : Pauli) → anticommute p q ≡ overlap p q % 2
unfolding anticommute overlap dot weight
by_overlap p q = sum_parity (ones (bit_and p.x q.z)) (ones (bit_and p.z q.x))

-- ---- Paulis up to a minus sign

not_both : (p q : Pauli) → Same p q → Same p (turned 2 q) → ⊥
unfolding turned
not_both p q a b = omega (arith, a.value, b.value)

-- of the two orders of a product
module _ (P Q p q : Pauli) (hp : normal p ≡ times P Q) (hq : normal q ≡ times Q P) where
  minus_by : (k : ℕ) → anticommute P Q ≡ k → normal p ≡ normal (turned (2 * k) q)
  minus_by k e =
      hp ∙ times_swap P Q ∙ ap (λ (n : ℕ). turned (2 * n) (times Q P)) e ∙ ap (turned (2 * k)) (sym hq) ∙ turned_normal (2 * k) q
      ∙ sym (normal_turned (2 * k) q)

  orders_same : anticommute P Q ≡ 0 → Same p q
  orders_same e = normal_same p q (minus_by 0 e ∙ normal_turned 0 q ∙ turned_zero q)

  orders_minus : anticommute P Q ≡ 1 → Same p (turned 2 q)
  orders_minus e = normal_same p (turned 2 q) (minus_by 1 e)

-- ---- bytes hold one Pauli, by value

one_held : (b : List ℕ) (p q : Pauli) → Holds b (p ∷ []) → Holds b (q ∷ []) → normal p ≡ normal q
one_held b p q h k =
    let same : h.held ≡ k.held = let e = sym h.accepted ∙ k.accepted in cc in
    let e : normal p ∷ [] ≡ normal q ∷ [] = sym h.exactly ∙ ap (map pauli_of) same ∙ k.exactly in
    cc

-- ---- one product

module _ (l : List ℕ) (i : ℕ) (r : List ℕ) (j : ℕ) (c : Multiplication l i r j) where
  given : made_of l i r j c.out ≡ answer c.made
  given = sym c.call.told ∙ c.told

  module _ (ps qs : List Sparse) (el : read l ≡ answer ps) (er : read r ≡ answer qs) where
    abbrev P : Pauli
    P = pauli_of (get_or ps i nothing)

    abbrev Q : Pauli
    Q = pauli_of (get_or qs j nothing)

    bit : (anticommute P Q == 1) ≡ c.made.anticommute
    bit = made_bit l i r j c.out c.made given ps qs el er

    told_one : c.made.anticommute ≡ true → anticommute P Q ≡ 1
    told_one e = eqb-true (anticommute P Q) 1 (bit ∙ e)

    told_zero : c.made.anticommute ≡ false → anticommute P Q ≡ 0
    told_zero e = zero_bit (anticommute P Q) (anticommute_lt P Q) (eqb-false (anticommute P Q) 1 (bit ∙ e))

    gave_product : (p : Pauli) → Gave c p → normal p ≡ times P Q
    gave_product p h =
        one_held _ p (times P Q) h (product_read_back l i r j c.out c.found c.out' ps qs c.made c.call el er c.told)
        ∙ normal_times P Q

-- ---- the product and the one in the other order

module _ (l : List ℕ) (i : ℕ) (r : List ℕ) (j : ℕ) (c : Multiplication l i r j) (d : Multiplication r j l i) where
  either : c.made.anticommute ≡ d.made.anticommute
  either =
      let (ps, qs, el, er) = lists_read l i r j c.out c.made (given l i r j c) in
      let P = pauli_of (get_or ps i nothing) in
      let Q = pauli_of (get_or qs j nothing) in
      sym (bit l i r j c ps qs el er) ∙ ap (λ (n : ℕ). n == 1) (anticommute_comm P Q) ∙ bit r j l i d qs ps er el

  module _ (p q : Pauli) (hp : Gave c p) (hq : Gave d q) where
    zero_same : c.made.anticommute ≡ false → Same p q
    zero_same e =
        let (ps, qs, el, er) = lists_read l i r j c.out c.made (given l i r j c) in
        orders_same _ _ p q (gave_product l i r j c ps qs el er p hp) (gave_product r j l i d qs ps er el q hq)
        (told_zero l i r j c ps qs el er e)

    one_minus : c.made.anticommute ≡ true → Same p (turned 2 q)
    one_minus e =
        let (ps, qs, el, er) = lists_read l i r j c.out c.made (given l i r j c) in
        orders_minus _ _ p q (gave_product l i r j c ps qs el er p hp) (gave_product r j l i d qs ps er el q hq)
        (told_one l i r j c ps qs el er e)

    same_zero : Same p q → (b : Bool) → c.made.anticommute ≡ b → b ≡ false
    same_zero s true e = absurd (not_both p q s (one_minus e))
    same_zero s false e = refl

    minus_one : Same p (turned 2 q) → (b : Bool) → c.made.anticommute ≡ b → b ≡ true
    minus_one s true e = refl
    minus_one s false e = absurd (not_both p q (zero_same e) s)

pub product_law : ProductLaw
product_law = record {
  overlaps = λ l i r j c ps qs el er. record {
    told_odd = λ e. sym (by_overlap _ _) ∙ told_one l i r j c ps qs el er e;
    odd_told = λ e. sym (bit l i r j c ps qs el er) ∙ eq-eqb _ 1 (by_overlap _ _ ∙ e);
  };
  orders = λ l i r j c d. record {
    either = either l i r j c d;
    commute_same = zero_same l i r j c d;
    same_commute = λ p q hp hq s. same_zero l i r j c d p q hp hq s c.made.anticommute refl;
    anticommute_minus = one_minus l i r j c d;
    minus_anticommute = λ p q hp hq s. minus_one l i r j c d p q hp hq s c.made.anticommute refl;
  };
}
