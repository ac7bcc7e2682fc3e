-- Standard generators over the places of any rising qubits that a list lies on: those that the list does not use are blank columns of
-- its rows, so that T names the same products.
use mathlib.Core.Path.{◌≡◌, refl, sym, ap, ap₂, ◌∙◌}
use mathlib.Core.List.{List, [], ◌∷◌, ◌++◌, map, map-map}
use Prim.Native.Nat.{ℕ, zero, suc, ◌+◌, ◌*◌, ◌/◌, ◌%◌, ◌^◌, ◌<◌}
use native.Mathlib.Nat.{mod-eq_of_lt, mul-add, mul_assoc}
use native.Mathlib.Omega.{arith}
use lib.ListN.{length, length-append, length-map}
use lib.Pow.{pow-add}
use Rattle.binar.specs.Row.{bit}
use Rattle.binar.specs.Echelon.{EchelonForm, beside_identity, echelon, T, rank as echelon_rank}
use Rattle.binar.proofs.row.Bits.{bit_lt}
use Rattle.binar.proofs.Lists.{all_of, all_map, all_over, map_same}
use Rattle.pauli.specs.Support.{All, Rising}
use Rattle.pauli.specs.Pauli.{Pauli, cons_if, select, indexed_product}
use Rattle.pauli.specs.Sets.{set_of, members, condense, expand, row_of}
use Rattle.pauli.specs.PauliTheorems.{On, PauliOn}
use Rattle.pauli.specs.Condense.{condensed}
use Rattle.pauli.proofs.condense.Sets.{set_only, members_set, members_only}
use Rattle.pauli.proofs.condense.Places.{select_rises, expand_condense}
use Rattle.pauli.proofs.condense.Rows.{row_lt}
use Rattle.pauli_theory.specs.Standard.{used_by, support_of, form_of, rank, standard}
use Rattle.pauli_theory.specs.Inner.WholePlaces.{standard_of_products, standard_places}
use Rattle.pauli_theory.proofs.Rows.{on_subgroup, used_least, support_on}
use Rattle.pauli_theory.proofs.Agree.{indexed_in}
use Rattle.pauli_theory.proofs.Grade.{sign_test}
use Rattle.pauli_theory.proofs.ByProducts.{row_products}
use Rattle.pauli_theory.proofs.OverPlaces.{modulus_from, generators_from, standard_from, standard_from_lem, standard_condensed}
use Rattle.pauli_theory.proofs.CommonPlaces.{rows_of_places, indexed_places}
use Rattle.binar.proofs.echelon.Spread.{spread, columns_of, spread-T, spread_rank}

-- ---- numbers
pow_next : (n s : ℕ) → 2 ^ suc n * s ≡ 2 * (2 ^ n * s)
pow_next n s = let e : 2 ^ suc n ≡ 2 * 2 ^ n = omega arith in ap (λ (p : ℕ). p * s) e ∙ mul_assoc 2 (2 ^ n) s

nested : (n x z t : ℕ) → x + 2 ^ n * (z + 2 ^ n * t) ≡ x + 2 ^ n * z + 2 ^ (2 * n) * t
nested n x z t =
    let a = 2 ^ n in
    let twice : 2 * n ≡ n + n = omega arith in
    let square : 2 ^ (2 * n) * t ≡ a * (a * t) = ap (λ (k : ℕ). 2 ^ k * t) twice ∙ ap (λ (k : ℕ). k * t) (pow-add 2 n n) ∙ mul_assoc a a t in
    omega (arith, mul-add a z (a * t), square)

-- ---- the qubits of a set among others
chosen : ℕ → List ℕ → List ℕ
chosen u [] = []
chosen u (q ∷ qs) = cons_if (bit u q) q (chosen u qs)

chosen_select : (u : ℕ) (qs : List ℕ) → select (condense qs u) qs ≡ chosen u qs
unfolding select condense chosen
chosen_select u [] = refl
chosen_select u (q ∷ qs) =
    let r = bit u q + 2 * condense qs u in
    let l = bit_lt u q in
    let low : r % 2 ≡ bit u q = omega arith in
    let high : r / 2 ≡ condense qs u = omega arith in
    ap₂ (λ (d s : ℕ). cons_if d q (select s qs)) low high ∙ ap (cons_if (bit u q) q) (chosen_select u qs)

members_chosen : (u : ℕ) (qs : List ℕ) → Rising 0 qs → On qs u → members u ≡ chosen u qs
unfolding expand
members_chosen u qs rises on =
    ap members (sym (expand_condense qs rises u on)) ∙ members_set (select (condense qs u) qs) (select_rises (condense qs u) 0 qs rises) ∙ chosen_select u qs

digits : ℕ → List ℕ → List ℕ
digits u qs = map (bit u) qs

columns_next : (d q n : ℕ) (own bs : List ℕ) → columns_of bs ≡ length own + n → columns_of (d ∷ bs) ≡ length (cons_if d q own) + n
unfolding columns_of cons_if
columns_next zero q n own bs h = h
columns_next (suc d) q n own bs h = omega arith

columns_chosen : (u : ℕ) (qs C : List ℕ) → columns_of (digits u qs ++ C) ≡ length (chosen u qs) + columns_of C
unfolding chosen digits
columns_chosen u [] C = omega arith
columns_chosen u (q ∷ qs) C = columns_next (bit u q) q (columns_of C) (chosen u qs) (digits u qs ++ C) (columns_chosen u qs C)

-- ---- sets and rows over both
row_next : (d q v r x : ℕ) (bs own : List ℕ) → (d ≡ 0 → bit v q ≡ 0) → spread bs (condense own v + 2 ^ length own * r) ≡ x
    → spread (d ∷ bs) (condense (cons_if d q own) v + 2 ^ length (cons_if d q own) * r) ≡ bit v q + 2 * x
unfolding spread cons_if condense
row_next zero q v r x bs own h e = omega (arith, h refl)
row_next (suc d) q v r x bs own h e =
    let k = 2 ^ length own * r in
    let w = bit v q + 2 * condense own v + 2 ^ suc (length own) * r in
    let l = bit_lt v q in
    let p : 2 ^ suc (length own) * r ≡ 2 * k = pow_next (length own) r in
    let low : w % 2 ≡ bit v q = omega arith in
    let high : w / 2 ≡ condense own v + k = omega arith in
    ap₂ (λ (a b : ℕ). a + 2 * spread bs b) low high ∙ ap (λ (b : ℕ). bit v q + 2 * b) e

spread_set : (u v r : ℕ) → ((q : ℕ) → bit u q ≡ 0 → bit v q ≡ 0) → (qs C : List ℕ)
    → spread (digits u qs ++ C) (condense (chosen u qs) v + 2 ^ length (chosen u qs) * r) ≡ condense qs v + 2 ^ length qs * spread C r
unfolding chosen digits condense
spread_set u v r sub [] C =
    let none : 0 + 2 ^ 0 * r ≡ r = omega arith in
    let s = spread C r in
    let here : s ≡ 0 + 2 ^ 0 * s = omega arith in
    ap (spread C) none ∙ here
spread_set u v r sub (q ∷ qs) C =
    let s = spread C r in
    row_next (bit u q) q v r (condense qs v + 2 ^ length qs * s) (digits u qs ++ C) (chosen u qs) (sub q) (spread_set u v r sub qs C)
    ∙ omega (arith, pow_next (length qs) s)

-- p uses qubits of u alone
record Under (u : ℕ) (p : Pauli) : Type 0 where
  x : (q : ℕ) → bit u q ≡ 0 → bit p.x q ≡ 0
  z : (q : ℕ) → bit u q ≡ 0 → bit p.z q ≡ 0

under_set : (u v : ℕ) → On (members u) v → (q : ℕ) → bit u q ≡ 0 → bit v q ≡ 0
under_set u v on q e = go (bit v q) refl
  where
    go : (d : ℕ) → bit v q ≡ d → d ≡ 0
    go zero h = refl
    go (suc zero) h = absurd (omega (arith, members_only u q (on q h)))
    go (suc (suc d)) h = absurd (omega (arith, bit_lt v q))

module _ (u : ℕ) (qs : List ℕ) where
  abbrev shape : List ℕ
  shape = digits u qs ++ (digits u qs ++ [])

  spread_row : (p : Pauli) → Under u p → (t : ℕ)
      → spread shape (row_of (chosen u qs) p + 2 ^ (2 * length (chosen u qs)) * t) ≡ row_of qs p + 2 ^ (2 * length qs) * t
  unfolding row_of spread
  spread_row p w t =
      let own = chosen u qs in
      let z = condense own p.z + 2 ^ length own * t in
      ap (spread shape) (sym (nested (length own) (condense own p.x) (condense own p.z) t))
      ∙ spread_set u p.x z w.x qs (digits u qs ++ [])
      ∙ ap (λ (r : ℕ). condense qs p.x + 2 ^ length qs * r) (spread_set u p.z t w.z qs [])
      ∙ nested (length qs) (condense qs p.x) (condense qs p.z) t

  beside_spread : (i : ℕ) (ps : List Pauli) → All (Under u) ps
      → beside_identity (2 * length qs) i (map (row_of qs) ps) ≡ map (spread shape) (beside_identity (2 * length (chosen u qs)) i (map (row_of (chosen u qs)) ps))
  unfolding beside_identity
  beside_spread i [] w = refl
  beside_spread i (p ∷ ps) w =
      let own = chosen u qs in
      ap₂ ◌∷◌
      (ap (λ (r : ℕ). r + 2 ^ (2 * length qs) * 2 ^ i) (mod-eq_of_lt (row_lt qs p)) ∙ sym (spread_row p w.0 (2 ^ i))
      ∙ ap (λ (r : ℕ). spread shape (r + 2 ^ (2 * length own) * 2 ^ i)) (sym (mod-eq_of_lt (row_lt own p))))
      (beside_spread (suc i) ps w.1)

  shape_length : length shape ≡ 2 * length qs
  unfolding digits
  shape_length =
      omega (arith, length-append (digits u qs) (digits u qs ++ []), length-append (digits u qs) [], length-map qs (bit u))

  shape_columns : columns_of shape ≡ 2 * length (chosen u qs)
  unfolding columns_of
  shape_columns = omega (arith, columns_chosen u qs (digits u qs ++ []), columns_chosen u qs [])

-- ---- a list on rising qubits
module _ (qs : List ℕ) (rises : Rising 0 qs) (ps : List Pauli) (on : All (PauliOn qs) ps) where
  abbrev u : ℕ
  u = used_by ps

  used_on : On qs u
  used_on q e = set_only qs q (used_least (set_of qs) ps (rw (members_set qs rises) on) q e)

  support_chosen : support_of ps ≡ chosen u qs
  unfolding support_of
  support_chosen = members_chosen u qs rises used_on

  all_under_used : All (Under u) ps
  unfolding support_of
  all_under_used = all_map (λ p o. record { x = under_set u p.x o.x; z = under_set u p.z o.z }) ps (support_on ps)

  abbrev form : EchelonForm
  form = echelon (2 * length qs) (map (row_of qs) ps)

  beside : beside_identity (length (shape u qs)) 0 (map (row_of qs) ps)
      ≡ map (spread (shape u qs)) (beside_identity (columns_of (shape u qs)) 0 (map (row_of (chosen u qs)) ps))
  beside =
      rw (shape_length u qs, shape_columns u qs) (beside_spread u qs 0 ps all_under_used)

  form-T : T form ≡ T (form_of ps)
  unfolding form_of
  form-T =
      let own = chosen u qs in
      ap (λ (n : ℕ). T (echelon n (map (row_of qs) ps))) (sym (shape_length u qs))
      ∙ spread-T (shape u qs) (map (row_of own) ps) (map (row_of qs) ps) beside
      ∙ ap (λ (n : ℕ). T (echelon n (map (row_of own) ps))) (shape_columns u qs)
      ∙ ap (λ (ks : List ℕ). T (echelon (2 * length ks) (map (row_of ks) ps))) (sym support_chosen)

  form_rank : echelon_rank form ≡ rank ps
  unfolding form_of rank
  form_rank =
      let own = chosen u qs in
      ap (λ (n : ℕ). echelon_rank (echelon n (map (row_of qs) ps))) (sym (shape_length u qs))
      ∙ spread_rank (shape u qs) (map (row_of own) ps) (map (row_of qs) ps) beside
      ∙ ap (λ (n : ℕ). echelon_rank (echelon n (map (row_of own) ps))) (shape_columns u qs)
      ∙ ap (λ (ks : List ℕ). echelon_rank (echelon (2 * length ks) (map (row_of ks) ps))) (sym support_chosen)

  -- ---- the standard generators
  module _ (low : All (λ p. p.e < 4) ps) where
    abbrev places : List Pauli
    places = map (condensed qs) ps

    products-T : (f : EchelonForm) (ks : List Pauli) → map (λ q. indexed_product q.t ks) f.rows ≡ map (λ t. indexed_product t ks) (T f)
    unfolding T
    products-T f ks = sym (map-map (λ t. indexed_product t ks) (λ q. q.t) f.rows)

    products_places : map (λ q. indexed_product q.t places) form.rows ≡ map (condensed qs) (row_products ps)
    products_places =
        products-T form places
        ∙ map_same (λ t. indexed_product t places) (λ t. condensed qs (indexed_product t ps)) (T form) (all_of (λ t. indexed_places qs rises t ps on low) (T form))
        ∙ sym (map-map (condensed qs) (λ t. indexed_product t ps) (T form))
        ∙ ap (map (condensed qs)) (ap (map (λ t. indexed_product t ps)) form-T ∙ sym (products-T (form_of ps) ps))

    pub standard_places_lem : standard_places (length qs) places ≡ map (condensed qs) (standard ps)
    unfolding standard_places standard_of_products standard_from generators_from modulus_from sign_test
    standard_places_lem =
        ap (λ (A : List ℕ). standard_from (echelon_rank (echelon (2 * length qs) A)) (map (λ q. indexed_product q.t places) (echelon (2 * length qs) A).rows))
        (rows_of_places qs rises ps)
        ∙ ap₂ standard_from form_rank products_places
        ∙ standard_condensed qs (rank ps) (row_products ps) rises products_all
        ∙ ap (map (condensed qs)) (sym (standard_from_lem ps))
      where
        products_all : All (PauliOn qs) (row_products ps)
        products_all =
            let rows = (form_of ps).rows in
            all_over (PauliOn qs) (λ q. indexed_product q.t ps) rows (all_of (λ q. indexed_in (on_subgroup qs 4) ps on q.t) rows)
