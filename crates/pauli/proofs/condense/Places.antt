-- Places in a support: the place of a qubit, and sets of qubits as sets of places.
use Rattle.std.proofs.Common.{◌≡◌, ℕ, zero, suc, ◌+◌, ◌*◌, ◌/◌, ◌%◌, ◌^◌, ◌<◌, max, ◌⊎◌, List, [], ◌∷◌, length, get_or, sym, refl, ap, ◌∙◌, ap₂, inl, inr, ⊎_elim, suc-le-suc, arith, eq-eqb, ne_eqb}
use mathlib.Core.List.Memᴰ.{cases_cons as in-cons}
use mathlib.Core.List.Memᴰ.{head as here}
use mathlib.Core.List.Memᴰ.{tail as there}
use mathlib.Core.List.{Memᴰ as Mem}
use native.Mathlib.Decide.{ℕ_discrete}
use lib.Bits.{bit_and, bit_or, and_lt, or_lt}
use lib.Count.{ones, ones_step}
use Rattle.binar.specs.Row.{◌⊕◌, bit, dot, weight}
use Rattle.binar.proofs.row.Bits.{bit_zero, bit_suc, bit_lt, bit_xor, xor_lt, bit_and_lem, ones_zero}
use Rattle.pauli.specs.Support.{Rising}
use Rattle.pauli.specs.Pauli.{cons_if, select}
use Rattle.pauli.specs.Sets.{set_of, condense, expand}
use Rattle.pauli.specs.Known.{place_of}
use Rattle.pauli.specs.PauliTheorems.{On, PlaceLaw, CondenseLaw}
use Rattle.pauli.proofs.support.Lists.{in_get_or}
use Rattle.pauli.proofs.support.SupportLaws.{Inside, rising_least}
use Rattle.pauli.proofs.condense.MoreBits.{bit_or_lem, in_and, same_bit, ext_ones, ext_below}
use Rattle.pauli.proofs.condense.Sets.{set_has, set_only, cons_if_rises, length_cons_if, set_weight}

-- ---- the place of a qubit
place_cases : (r : ℕ) (rs : List ℕ) (q : ℕ) (P : ℕ → Type 0) → (r ≡ q → P 0) → ((r ≡ q → ⊥) → P (suc (place_of rs q))) → P (place_of (r ∷ rs) q)
unfolding place_of
place_cases r rs q P same other = elim (ℕ_discrete r q) [ yes e ↦ rw (eq-eqb r q e) (same e) | no n ↦ rw (ne_eqb r q n) (other n) ]

pub place_in : (qs : List ℕ) (q : ℕ) → Mem q qs → place_of qs q < length qs
place_in [] q m = elim m [ ]
place_in (r ∷ rs) q (here e) = place_cases r rs q (λ i. i < suc (length rs)) (λ _. omega arith) (λ n. absurd (n (sym e)))
place_in (r ∷ rs) q (there m) = place_cases r rs q (λ i. i < suc (length rs)) (λ _. omega arith) (λ _. suc-le-suc (place_in rs q m))

pub qubit_at_place : (qs : List ℕ) (q : ℕ) → Mem q qs → get_or qs (place_of qs q) 0 ≡ q
qubit_at_place [] q m = elim m [ ]
qubit_at_place (r ∷ rs) q (here e) = place_cases r rs q (λ i. get_or (r ∷ rs) i 0 ≡ q) (λ k. k) (λ n. absurd (n (sym e)))
qubit_at_place (r ∷ rs) q (there m) = place_cases r rs q (λ i. get_or (r ∷ rs) i 0 ≡ q) (λ k. k) (λ _. qubit_at_place rs q m)

pub place_of_qubit : (least : ℕ) (qs : List ℕ) → Rising least qs → (i : ℕ) → i < length qs → place_of qs (get_or qs i 0) ≡ i
place_of_qubit least [] h i l = absurd (omega arith)
place_of_qubit least (r ∷ rs) h zero l = place_cases r rs r (λ j. j ≡ 0) (λ _. refl) (λ n. absurd (n refl))
place_of_qubit least (r ∷ rs) h (suc i) l =
    place_cases r rs (get_or rs i 0) (λ j. j ≡ suc i)
    (λ e. absurd (omega (arith, rising_least (suc r) rs h.1 (in_get_or rs i 0 (omega arith)))))
    (λ _. ap suc (place_of_qubit (suc r) rs h.1 i (omega arith)))

pub no_place : (qs : List ℕ) (q : ℕ) → ¬ Mem q qs → place_of qs q ≡ length qs
unfolding place_of
no_place [] q n = refl
no_place (r ∷ rs) q n =
    place_cases r rs q (λ i. i ≡ suc (length rs)) (λ e. absurd (n (here (sym e)))) (λ _. ap suc (no_place rs q (λ m. n (there m))))

pub place_law : (qs : List ℕ) (h : Rising 0 qs) → PlaceLaw qs h
place_law qs h = record { place_in = place_in qs; qubit_at_place = qubit_at_place qs; place_of_qubit = place_of_qubit 0 qs h; no_place = no_place qs }

-- ---- the elements at the ones of a number
cons_if_has : (d a : ℕ) (l : List ℕ) → 0 < d → Mem a (cons_if d a l)
unfolding cons_if
cons_if_has zero a l h = absurd (omega arith)
cons_if_has (suc d) a l h = here refl

cons_if_keeps : (d a : ℕ) (l : List ℕ) → Inside l (cons_if d a l)
unfolding cons_if
cons_if_keeps zero a l q m = m
cons_if_keeps (suc d) a l q m = there m

in_cons_if : (d a : ℕ) (l : List ℕ) {q : ℕ} → Mem q (cons_if d a l) → ((q ≡ a) × (0 < d)) ⊎ Mem q l
unfolding cons_if
in_cons_if zero a l m = inr m
in_cons_if (suc d) a l m = ⊎_elim (λ e. inl (e, omega arith)) inr (in-cons m)

select_inside : (r : ℕ) (qs : List ℕ) → Inside (select r qs) qs
unfolding select
select_inside r [] q m = m
select_inside r (a ∷ qs) q m = ⊎_elim (λ e. here e.0) (λ k. there (select_inside (r / 2) qs q k)) (in_cons_if (r % 2) a _ m)

pub select_rises : (r least : ℕ) (qs : List ℕ) → Rising least qs → Rising least (select r qs)
unfolding select
select_rises r least [] h = tt
select_rises r least (q ∷ qs) h = cons_if_rises (r % 2) least q _ h.0 (select_rises (r / 2) (suc q) qs h.1)

length_select : (r : ℕ) (qs : List ℕ) → r < 2 ^ length qs → length (select r qs) ≡ ones r
unfolding select
length_select r [] h = sym ones_zero ∙ ap ones (omega arith)
length_select r (q ∷ qs) h =
    let w : r < 2 ^ suc (length qs) = h in
    length_cons_if (r % 2) q _ (omega arith) ∙ ap (r % 2 +◌) (length_select (r / 2) qs (omega arith)) ∙ sym (ones_step r)

-- an element is selected exactly when r has a one at its index
select_has : (r : ℕ) (qs : List ℕ) (i : ℕ) → i < length qs → bit r i ≡ 1 → Mem (get_or qs i 0) (select r qs)
unfolding select
select_has r [] i l h = absurd (omega arith)
select_has r (q ∷ qs) zero l h = cons_if_has (r % 2) q _ (omega (arith, bit_zero r))
select_has r (q ∷ qs) (suc i) l h = cons_if_keeps (r % 2) q _ _ (select_has (r / 2) qs i (omega arith) (sym (bit_suc r i) ∙ h))

select_only : (r least : ℕ) (qs : List ℕ) → Rising least qs → (i : ℕ) → i < length qs → Mem (get_or qs i 0) (select r qs) → bit r i ≡ 1
unfolding select
select_only r least [] h i l m = absurd (omega arith)
select_only r least (q ∷ qs) h zero l m =
    ⊎_elim (λ e. bit_zero r ∙ omega (arith, e.1)) (λ k. absurd (omega (arith, rising_least (suc q) qs h.1 (select_inside (r / 2) qs q k))))
    (in_cons_if (r % 2) q _ m)
select_only r least (q ∷ qs) h (suc i) l m =
    ⊎_elim (λ e. absurd (omega (arith, e.0, rising_least (suc q) qs h.1 (in_get_or qs i 0 (omega arith)))))
    (λ k. bit_suc r i ∙ select_only (r / 2) (suc q) qs h.1 i (omega arith) k)
    (in_cons_if (r % 2) q _ m)

-- ---- sets of qubits as sets of places
module _ (q : ℕ) (qs : List ℕ) (v : ℕ) where
  condense_low : condense (q ∷ qs) v % 2 ≡ bit v q
  unfolding condense
  condense_low = omega (arith, bit_lt v q)

  condense_half : condense (q ∷ qs) v / 2 ≡ condense qs v
  unfolding condense
  condense_half = omega (arith, bit_lt v q)

pub condense_bit : (qs : List ℕ) (v i : ℕ) → i < length qs → bit (condense qs v) i ≡ bit v (get_or qs i 0)
condense_bit [] v i l = absurd (omega arith)
condense_bit (q ∷ qs) v zero l = bit_zero (condense (q ∷ qs) v) ∙ condense_low q qs v
condense_bit (q ∷ qs) v (suc i) l = rw (bit_suc, condense_half) (condense_bit qs v i (omega arith))

pub condense_lt : (qs : List ℕ) (v : ℕ) → condense qs v < 2 ^ length qs
unfolding condense
condense_lt [] v = omega arith
condense_lt (q ∷ qs) v = let more : bit v q + 2 * condense qs v < 2 ^ suc (length qs) = omega (arith, condense_lt qs v, bit_lt v q) in more

-- what works bit by bit may be done on places
condense_op : (f g : ℕ → ℕ → ℕ) → ((a b k : ℕ) → bit (f a b) k ≡ g (bit a k) (bit b k)) → ((n a b : ℕ) → a < 2 ^ n → b < 2 ^ n → f a b < 2 ^ n)
    → (qs : List ℕ) (a b : ℕ) → condense qs (f a b) ≡ f (condense qs a) (condense qs b)
condense_op f g bits small qs a b =
    let n = length qs in
    ext_below n _ _ (condense_lt qs (f a b)) (small n _ _ (condense_lt qs a) (condense_lt qs b)) λ i l.
    condense_bit qs (f a b) i l ∙ bits a b (get_or qs i 0)
    ∙ sym (bits (condense qs a) (condense qs b) i ∙ ap₂ g (condense_bit qs a i l) (condense_bit qs b i l))

pub condense_sum : (qs : List ℕ) (a b : ℕ) → condense qs (a ⊕ b) ≡ condense qs a ⊕ condense qs b
condense_sum = condense_op ◌⊕◌ (λ c d. (c + d) % 2) bit_xor xor_lt

pub condense_and : (qs : List ℕ) (a b : ℕ) → condense qs (bit_and a b) ≡ bit_and (condense qs a) (condense qs b)
condense_and = condense_op bit_and ◌*◌ bit_and_lem and_lt

pub condense_or : (qs : List ℕ) (a b : ℕ) → condense qs (bit_or a b) ≡ bit_or (condense qs a) (condense qs b)
condense_or = condense_op bit_or max bit_or_lem or_lt

-- ---- and back
pub expand_on : (qs : List ℕ) (r : ℕ) → On qs (expand qs r)
unfolding expand
expand_on qs r q h = select_inside r qs q (set_only (select r qs) q h)

module _ (qs : List ℕ) (h : Rising 0 qs) where
  pub expand_bit : (r i : ℕ) → i < length qs → bit (expand qs r) (get_or qs i 0) ≡ bit r i
  unfolding expand
  expand_bit r i l =
      let q = get_or qs i 0 in
      same_bit (set_of (select r qs)) q r i
      (λ e. select_only r 0 qs h i l (set_only (select r qs) q e)) (λ e. set_has (select r qs) q (select_has r qs i l e))

  pub condense_expand : (r : ℕ) → r < 2 ^ length qs → condense qs (expand qs r) ≡ r
  condense_expand r l = ext_below (length qs) _ _ (condense_lt qs (expand qs r)) l λ i k. condense_bit qs (expand qs r) i k ∙ expand_bit r i k

  same_there : (v q : ℕ) → Mem q qs → bit (expand qs (condense qs v)) q ≡ bit v q
  same_there v q m =
      let i = place_of qs q in
      let l = place_in qs q m in
      rw (← qubit_at_place qs q m) (expand_bit (condense qs v) i l ∙ condense_bit qs v i l)

  pub expand_condense : (v : ℕ) → On qs v → expand qs (condense qs v) ≡ v
  expand_condense v on =
      ext_ones (expand qs (condense qs v)) v
      (λ q e. sym (same_there v q (expand_on qs (condense qs v) q e)) ∙ e) (λ q e. same_there v q (on q e) ∙ e)

  -- ---- counts and overlaps
  pub condense_weight : (v : ℕ) → On qs v → weight (condense qs v) ≡ weight v
  unfolding weight expand
  condense_weight v on =
      let r = condense qs v in
      sym (ap weight (sym (expand_condense v on)) ∙ set_weight (select r qs) (select_rises r 0 qs h) ∙ length_select r qs (condense_lt qs v))

  pub condense_dot : (a b : ℕ) → On qs a → dot (condense qs a) (condense qs b) ≡ dot a b
  unfolding dot weight
  condense_dot a b on =
      ap (λ (n : ℕ). n % 2) (ap ones (sym (condense_and qs a b)) ∙ condense_weight (bit_and a b) λ q e. on q (in_and a b q e))

  pub condense_law : CondenseLaw qs h
  condense_law =
      record {
        condense_bit = condense_bit qs;
        condense_lt = condense_lt qs;
        expand_bit = expand_bit;
        expand_on = expand_on qs;
        expand_condense = expand_condense;
        condense_expand = condense_expand;
        condense_sum = condense_sum qs;
        condense_dot = condense_dot;
        condense_weight = condense_weight;
      }
