-- Products at sets of indexes. Where i^m covers the signs that products of the generators bring, they multiply as the sets add.
use mathlib.Core.Path.{◌≡◌, refl, sym, ap, ap₂, ◌∙◌, subst}
use mathlib.Core.List.{List, [], ◌∷◌}
use Prim.Native.Nat.{ℕ, zero, suc, ◌+◌, ◌*◌, ◌/◌, ◌%◌, ◌^◌, ◌<◌}
use native.Mathlib.Omega.{arith}
use lib.ListN.{get_or}
use Rattle.binar.specs.Row.{◌⊕◌, if_bit}
use Rattle.binar.proofs.row.Bits.{xor_low, xor_half}
use Rattle.binar.proofs.Lists.{all_map, all_get, all_by}
use Rattle.binar.proofs.echelon.Span.{if_bit_case, Subspace}
use Rattle.pauli.specs.Support.{All}
use Rattle.pauli.specs.Pauli.{Pauli, I, normal, times, turned, anticommute, order_four, product, product_from, cons_if, select, indexed_product}
use Rattle.pauli.proofs.signed.Algebra.{times_assoc, I-times, times-I, times_swap, times_self, turned_times_l, turned_times_r, anticommute_comm, anticommute_times_r, anticommute-I}
use Rattle.pauli.proofs.signed.Products.{product_none, product_lt, indexed_cons, indexed_normal}
use Rattle.pauli_theory.proofs.Agree.{Divisor, one, two, four, Agree, agree_path, agree_join, agree_normal, agree_times, agree_turned, Subgroup, indexed_in}

-- ---- one index, no index
pub indexed_lt : (s : ℕ) (gs : List Pauli) → (indexed_product s gs).e < 4
unfolding indexed_product
indexed_lt s gs = product_lt (select s gs)

pub indexed_zero : (gs : List Pauli) → indexed_product 0 gs ≡ I
unfolding indexed_product select cons_if
indexed_zero [] = product_none
indexed_zero (g ∷ gs) = indexed_zero gs

pub indexed_unit : (i : ℕ) (gs : List Pauli) → indexed_product (2 ^ i) gs ≡ normal (get_or gs i I)
unfolding indexed_product select product_from product normal I if_bit
indexed_unit i [] = refl
indexed_unit zero (g ∷ gs) = indexed_cons 1 g gs ∙ ap (times g) (indexed_zero gs) ∙ times-I g
indexed_unit (suc i) (g ∷ gs) =
    indexed_cons (2 ^ suc i) g gs ∙ ap₂ (λ (d t : ℕ). times (if_bit d g I) (indexed_product t gs)) low high
    ∙ I-times (indexed_product (2 ^ i) gs) ∙ indexed_normal (2 ^ i) gs ∙ indexed_unit i gs
  where
    low : 2 ^ suc i % 2 ≡ 0
    low = omega arith

    high : 2 ^ suc i / 2 ≡ 2 ^ i
    high = omega arith

-- ---- signs that are powers of i^m
-- (-1)^a is one for m = 1 and m = 2
abbrev Covered : ℕ → ℕ → Type 0
Covered m a = m ≡ 4 → a ≡ 0

covered_sign : {m a : ℕ} → Divisor m → Covered m a → 2 * a % m ≡ 0
covered_sign one h = omega arith
covered_sign two h = omega arith
covered_sign four h = omega (arith, h refl)

pub record Covers (m : ℕ) (gs : List Pauli) : Type 0 where
  pub squares : All (λ g. Covered m (order_four g)) gs
  pub swaps : All (λ g. All (λ h. Covered m (anticommute g h)) gs) gs

pub covers_by : (m : ℕ) (gs : List Pauli) → (m ≡ 4 → All (λ g. order_four g ≡ 0) gs × All (λ g. All (λ h. anticommute g h ≡ 0) gs) gs) → Covers m gs
covers_by m gs h = record {
  squares = all_by _ gs I λ i l e. all_get _ gs I (h e).0 i l;
  swaps = all_by _ gs I λ i l. all_by _ gs I λ j k e. all_get _ gs I (all_get _ gs I (h e).1 i l) j k;
}

pub covers_two : (gs : List Pauli) → Covers 2 gs
covers_two gs = covers_by 2 gs λ e. absurd (omega arith)

covers_tail : {m : ℕ} (g : Pauli) (gs : List Pauli) → Covers m (g ∷ gs) → Covers m gs
covers_tail g gs c = record { squares = c.squares.1; swaps = all_map (λ h w. w.1) gs c.swaps.1 }

-- commutation goes by the sets alone
pub anticommute_agree : {m : ℕ} {p q : Pauli} (h : Pauli) → Agree m p q → anticommute h p ≡ anticommute h q
unfolding anticommute
anticommute_agree h a = rw (a.x, a.z)

-- the Paulis that commute with h; and the same up to the signs that i^m covers
pub anticommute_unit : (h : Pauli) → anticommute h I ≡ 0
anticommute_unit h = anticommute_comm h I ∙ anticommute-I h

pub commuting_subgroup : (m : ℕ) (h : Pauli) → Subgroup m (λ p. anticommute h p ≡ 0)
commuting_subgroup m h = record {
  agrees = λ p q a e. sym (anticommute_agree h a) ∙ e;
  unit = anticommute_unit h;
  products = λ p q e f. anticommute_times_r h p q ∙ omega arith;
}

covered_subgroup : (m : ℕ) (h : Pauli) → Subgroup m (λ p. Covered m (anticommute h p))
covered_subgroup m h = let S = commuting_subgroup m h in record {
  agrees = λ p q a f e. S.agrees p q a (f e);
  unit = λ e. S.unit;
  products = λ p q f g e. S.products p q (f e) (g e);
}

-- ---- products of products
-- (a S)(b T) as (a b)(S T)
regroup : (a s b t : Pauli) → times (times a s) (times b t) ≡ turned (2 * anticommute s b) (times (times a b) (times s t))
regroup a s b t =
    times_assoc a s (times b t)
    ∙ ap (times a)
    (sym (times_assoc s b t) ∙ ap (λ w. times w t) (times_swap s b) ∙ turned_times_l _ (times b s) t ∙ ap (turned (2 * anticommute s b)) (times_assoc b s t))
    ∙ turned_times_r _ a (times b (times s t)) ∙ ap (turned (2 * anticommute s b)) (sym (times_assoc a b (times s t)))

digits_times : {m : ℕ} → Divisor m → (c d : ℕ) (g : Pauli) → c < 2 → d < 2 → Covered m (order_four g)
    → Agree m (times (if_bit c g I) (if_bit d g I)) (if_bit ((c + d) % 2) g I)
unfolding if_bit
digits_times {m} v zero zero g hc hd e = agree_join (agree_path m (I-times I)) (agree_normal I v)
digits_times {m} v zero (suc zero) g hc hd e = agree_join (agree_path m (I-times g)) (agree_normal g v)
digits_times v zero (suc (suc d)) g hc hd e = absurd (omega arith)
digits_times {m} v (suc zero) zero g hc hd e = agree_join (agree_path m (times-I g)) (agree_normal g v)
digits_times {m} v (suc zero) (suc zero) g hc hd e = agree_join (agree_path m (times_self g)) (agree_turned (2 * order_four g) I v (covered_sign v e))
digits_times v (suc zero) (suc (suc d)) g hc hd e = absurd (omega arith)
digits_times v (suc (suc c)) d g hc hd e = absurd (omega arith)

module _ {m : ℕ} (v : Divisor m) where
  -- moving a generator past a product of later ones
  swap_sign : (g : Pauli) (gs : List Pauli) → Covers m (g ∷ gs) → (s d : ℕ) → Covered m (anticommute (indexed_product s gs) (if_bit d g I))
  swap_sign g gs c s d =
      let p = indexed_product s gs in
      if_bit_case (λ b. Covered m (anticommute p b)) d (λ z e. anticommute_unit p)
      (λ l e. anticommute_comm p g ∙ indexed_in (covered_subgroup m g) gs c.swaps.0.1 s e)

  pub indexed_times : (gs : List Pauli) → Covers m gs → (s t : ℕ) → Agree m (times (indexed_product s gs) (indexed_product t gs)) (indexed_product (s ⊕ t) gs)
  unfolding indexed_product select
  indexed_times [] c s t = agree_join (agree_path m (ap₂ times product_none product_none ∙ I-times I)) (agree_join (agree_normal I v) (agree_path m (sym product_none)))
  indexed_times (g ∷ gs) c s t =
      let a = if_bit (s % 2) g I in
      let b = if_bit (t % 2) g I in
      let p = indexed_product (s / 2) gs in
      let q = indexed_product (t / 2) gs in
      agree_join (agree_path m (ap₂ times (indexed_cons s g gs) (indexed_cons t g gs) ∙ regroup a p b q))
      (agree_join (agree_turned (2 * anticommute p b) (times (times a b) (times p q)) v (covered_sign v (swap_sign g gs c (s / 2) (t % 2))))
      (agree_join (agree_times v (digits_times v (s % 2) (t % 2) g (omega arith) (omega arith) c.squares.0) (indexed_times gs (covers_tail g gs c) (s / 2) (t / 2)))
      (agree_path m (ap₂ (λ (d u : ℕ). times (if_bit d g I) (indexed_product u gs)) (digit ∙ sym (xor_low s t)) (sym (xor_half s t)) ∙ sym (indexed_cons (s ⊕ t) g gs)))))
    where
      digit : (s % 2 + t % 2) % 2 ≡ (s + t) % 2
      digit = omega arith

  -- the sets whose products lie in a closed set
  pub indexed_subspace : {Q : Pauli → Type 0} (gs : List Pauli) → Covers m gs → Subgroup m Q → Subspace (λ s. Q (indexed_product s gs))
  indexed_subspace {Q} gs c S = record {
    origin = subst Q (sym (indexed_zero gs)) S.unit;
    sum = λ s t h k. S.agrees _ _ (indexed_times gs c s t) (S.products _ _ h k);
  }
