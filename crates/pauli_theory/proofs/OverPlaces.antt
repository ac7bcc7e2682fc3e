-- A list of Paulis over the places of its support has the form, the rank, the standard generators and the answers of the list.
use mathlib.Core.Path.{◌≡◌, refl, sym, ap, ap₂, ◌∙◌, subst}
use mathlib.Core.List.Memᴰ.{head as here}
use mathlib.Core.List.Memᴰ.{tail as there}
use mathlib.Core.List.{List, [], ◌∷◌, map, map-map, Memᴰ as Mem}
use mathlib.Core.Option.{Option, some, none}
use Prim.Native.Nat.{ℕ, zero, suc, ◌+◌, ◌-◌, ◌*◌, ◌%◌, ◌^◌, ◌<◌}
use native.Mathlib.Nat.{zero-add, mod-mod}
use native.Mathlib.Omega.{arith}
use native.Mathlib.Decide.{dec_lt}
use lib.Bits.{bit_or}
use lib.ListN.{length, get_or, take, drop, take-append-drop}
use Rattle.binar.specs.Row.{bit}
use Rattle.binar.specs.Echelon.{echelon, rank as echelon_rank}
use Rattle.binar.specs.Solve.{transpose_solve}
use Rattle.binar.proofs.row.Bits.{bit_past}
use Rattle.binar.proofs.Lists.{all_of, all_map, all_over, all_left, map_drop, map_same}
use Rattle.pauli.specs.Support.{All, Rising}
use Rattle.pauli.specs.Pauli.{Pauli, normal, indexed_product}
use Rattle.pauli.specs.Sets.{members, condense, row_of}
use Rattle.pauli.specs.PauliTheorems.{PauliOn}
use Rattle.pauli.specs.Condense.{condensed}
use Rattle.pauli.specs.Writing.{OnPlaces}
use Rattle.pauli.proofs.support.Lists.{in_get_or}
use Rattle.pauli.proofs.condense.MoreBits.{ext_below}
use Rattle.pauli.proofs.support.SupportLaws.{rising_ext}
use Rattle.pauli.proofs.condense.Sets.{members_rise, members_has, members_only}
use Rattle.pauli.proofs.condense.Places.{condense_bit, condense_lt, condense_or}
use Rattle.pauli_theory.specs.Group.{Promise, none, abelian, not_abelian}
use Rattle.pauli_theory.specs.Standard.{used_by, support_of, form_of, rank, if_zero, modulus_of, some_order_four, some_anticommute, exponent_mod, standard, nonabelian, some_imaginary, some_minus, step_of, phase_step, log2_size, stabilizer}
use Rattle.pauli_theory.specs.Membership.{Factorization, outside, exponent_left, with_phase, factorization_of}
use Rattle.pauli_theory.proofs.IfZero.{if_zero_zero}
use Rattle.pauli_theory.proofs.Form.{map_take}
use Rattle.pauli_theory.proofs.Rows.{support_rises, support_on, indexed_on}
use Rattle.pauli_theory.proofs.Grade.{sign_test}
use Rattle.pauli_theory.proofs.Standard.{standard_of}
use Rattle.pauli_theory.proofs.Phases.{with_phase_lem}
use Rattle.pauli_theory.proofs.StandardLaw.{standard_law}
use Rattle.pauli_theory.proofs.ByProducts.{row_products, standard_by_products}
use Rattle.pauli_theory.proofs.Placed.{condense_none, condensed_on, condensed_exponent_mod, condensed_standard_of, condensed_indexed, condensed_some_order_four, condensed_some_anticommute, condensed_some_imaginary, condensed_some_minus, condensed_sign_test}
pub use Rattle.pauli_theory.proofs.Membership.{outside_on, on_outside}
unfoldable pub use Rattle.pauli_theory.specs.Listing.{count_from, up_to}

-- ---- the numbers below n
pub count_length : (k n : ℕ) → length (count_from k n) ≡ n
unfolding count_from
count_length k zero = refl
count_length k (suc n) = ap suc (count_length (suc k) n)

pub count_at : (k n i : ℕ) → i < n → get_or (count_from k n) i 0 ≡ k + i
unfolding count_from
count_at k zero i l = absurd (omega arith)
count_at k (suc n) zero l = omega arith
count_at k (suc n) (suc i) l = count_at (suc k) n i (omega arith) ∙ omega arith

count_rises : (k n : ℕ) → Rising k (count_from k n)
unfolding count_from
count_rises k zero = tt
count_rises k (suc n) = (omega arith, count_rises (suc k) n)

count_lt : (k n : ℕ) {q : ℕ} → Mem q (count_from k n) → q < k + n
unfolding count_from
count_lt k zero {q = q} m = elim m [ ]
count_lt k (suc n) (here e) = omega arith
count_lt k (suc n) (there m) = let l : _ < suc k + n = count_lt (suc k) n m in omega arith

module _ (n : ℕ) where
  pub up_to_length : length (up_to n) ≡ n
  unfolding up_to
  up_to_length = count_length 0 n

  pub up_to_rises : Rising 0 (up_to n)
  unfolding up_to
  up_to_rises = count_rises 0 n

  pub up_to_at : (i : ℕ) → i < n → get_or (up_to n) i 0 ≡ i
  unfolding up_to
  up_to_at i l = count_at 0 n i l ∙ zero-add i

  up_to_lt : {q : ℕ} → Mem q (up_to n) → q < n
  unfolding up_to
  up_to_lt m = omega (arith, count_lt 0 n m)

  up_to_has : (q : ℕ) → q < n → Mem q (up_to n)
  up_to_has q l = subst (λ r. Mem r (up_to n)) (up_to_at q l) (in_get_or (up_to n) q 0 (omega (arith, up_to_length)))

  -- over the places 0, 1, .., n - 1 a set of places is itself
  pub condense_up_to : (v : ℕ) → v < 2 ^ n → condense (up_to n) v ≡ v
  condense_up_to v l =
      ext_below n (condense (up_to n) v) v (rw up_to_length at (condense_lt (up_to n) v)) l λ i k.
      condense_bit (up_to n) v i (omega (arith, up_to_length)) ∙ ap (bit v) (up_to_at i k)

-- a list over the places of its support, with exponents by value
abbrev pub placed : List Pauli → List Pauli
placed gs = map (λ p. normal (condensed (support_of gs) p)) gs

-- ---- what a list over places uses
used_condensed : (qs : List ℕ) (gs : List Pauli) → used_by (map (λ p. normal (condensed qs p)) gs) ≡ condense qs (used_by gs)
unfolding used_by normal condensed
used_condensed qs [] = sym (condense_none qs)
used_condensed qs (g ∷ gs) =
    ap₂ bit_or (sym (condense_or qs g.x g.z)) (used_condensed qs gs) ∙ sym (condense_or qs (bit_or g.x g.z) (used_by gs))

module _ (u : ℕ) where
  -- all places of the members are used
  place_used : (i : ℕ) → i < length (members u) → bit (condense (members u) u) i ≡ 1
  place_used i l = condense_bit (members u) u i l ∙ members_only u (get_or (members u) i 0) (in_get_or (members u) i 0 l)

  used_place : (i : ℕ) → bit (condense (members u) u) i ≡ 1 → i < length (members u)
  used_place i e =
      elim (dec_lt i (length (members u))) [
        | yes l ↦ l
        | no l ↦ absurd (omega (arith, bit_past (length (members u)) (condense (members u) u) i (condense_lt (members u) u) (omega arith)))
      ]

  members_places : members (condense (members u) u) ≡ up_to (length (members u))
  members_places =
      let n = length (members u) in
      rising_ext 0 0 (members (condense (members u) u)) (up_to n) (members_rise (condense (members u) u)) (up_to_rises n)
      (λ q m. up_to_has n q (used_place q (members_only (condense (members u) u) q m)))
      (λ q m. members_has (condense (members u) u) q (place_used q (up_to_lt n m)))

-- the row of one Pauli over places
row_up_to : (s : ℕ) (p : Pauli) → (p.x < 2 ^ s) × (p.z < 2 ^ s) → row_of (up_to s) p ≡ p.x + 2 ^ s * p.z
unfolding row_of
row_up_to s p l = rw (up_to_length s, condense_up_to s p.x l.0, condense_up_to s p.z l.1)

module _ (gs : List Pauli) where
  pub places_on : OnPlaces (length (support_of gs)) (placed gs)
  unfolding OnPlaces normal condensed
  places_on =
      let qs = support_of gs in
      all_over (λ p. (p.x < 2 ^ length qs) × (p.z < 2 ^ length qs)) (λ p. normal (condensed qs p)) gs
      (all_of (λ p. (condense_lt qs p.x, condense_lt qs p.z)) gs)

  pub places_support : support_of (placed gs) ≡ up_to (length (support_of gs))
  unfolding support_of
  places_support = ap members (used_condensed (support_of gs) gs) ∙ members_places (used_by gs)

  -- ---- rows and form
  pub places_rows : let s = length (support_of gs) in
      map (row_of (support_of (placed gs))) (placed gs) ≡ map (λ p. p.x + 2 ^ s * p.z) (placed gs)
  unfolding OnPlaces
  places_rows =
      let s = length (support_of gs) in
      ap (λ qs. map (row_of qs) (placed gs)) places_support
      ∙ map_same (row_of (up_to s)) (λ p. p.x + 2 ^ s * p.z) (placed gs) (all_map (row_up_to s) (placed gs) places_on)

  pub places_rows_of : let s = length (support_of gs) in map (λ p. p.x + 2 ^ s * p.z) (placed gs) ≡ map (row_of (support_of gs)) gs
  unfolding row_of normal condensed
  places_rows_of = let qs = support_of gs in map-map (λ p. p.x + 2 ^ length qs * p.z) (λ p. normal (condensed qs p)) gs

  pub places_echelon : let s = length (support_of gs) in
      form_of (placed gs) ≡ echelon (2 * s) (map (λ p. p.x + 2 ^ s * p.z) (placed gs))
  unfolding form_of
  places_echelon =
      ap₂ (λ (n : ℕ) (A : List ℕ). echelon (2 * n) A) (ap length places_support ∙ up_to_length (length (support_of gs))) places_rows

  pub places_form : form_of (placed gs) ≡ form_of gs
  unfolding form_of
  places_form = places_echelon ∙ ap (echelon (2 * length (support_of gs))) places_rows_of

  pub places_rank : rank (placed gs) ≡ rank gs
  unfolding rank
  places_rank = ap echelon_rank places_form

-- ---- standard generators
-- the modulus, the row generators and the standard generators that the rank and the products of T's rows make
unfoldable pub modulus_from : ℕ → List Pauli → ℕ
modulus_from r P = modulus_of (map (λ p. p.e) (drop r P))

unfoldable pub generators_from : ℕ → List Pauli → List Pauli
generators_from r P = map (exponent_mod (modulus_from r P)) (take r P)

unfoldable pub standard_from : ℕ → List Pauli → List Pauli
standard_from r P = standard_of (sign_test (generators_from r P)) (modulus_from r P) (generators_from r P)

pub standard_from_lem : (gs : List Pauli) → standard gs ≡ standard_from (rank gs) (row_products gs)
unfolding standard_from generators_from modulus_from sign_test
standard_from_lem gs = standard_by_products gs

module _ (qs : List ℕ) (r : ℕ) (P : List Pauli) where
  modulus_condensed : modulus_from r (map (condensed qs) P) ≡ modulus_from r P
  unfolding modulus_from condensed
  modulus_condensed = ap modulus_of (ap (map (λ p. p.e)) (map_drop (condensed qs) r P) ∙ map-map (λ p. p.e) (condensed qs) (drop r P))

  generators_condensed : generators_from r (map (condensed qs) P) ≡ map (condensed qs) (generators_from r P)
  unfolding generators_from
  generators_condensed =
      ap₂ (λ (m : ℕ) (ps : List Pauli). map (exponent_mod m) ps) modulus_condensed (sym (map_take (condensed qs) r P))
      ∙ condensed_exponent_mod qs (modulus_from r P) (take r P)

  module _ (h : Rising 0 qs) (on : All (PauliOn qs) P) where
    generators_on : All (PauliOn qs) (generators_from r P)
    unfolding generators_from exponent_mod
    generators_on =
        all_over (PauliOn qs) (exponent_mod (modulus_from r P)) (take r P)
        (all_map (λ p a. record { x = a.x; z = a.z }) (take r P) (all_left (PauliOn qs) (take r P) (drop r P) (rw take-append-drop on)))

    pub standard_condensed : standard_from r (map (condensed qs) P) ≡ map (condensed qs) (standard_from r P)
    unfolding standard_from
    standard_condensed =
        let ps = generators_from r P in
        ap₂ (λ (m : ℕ) (rs : List Pauli). standard_of (sign_test rs) m rs) modulus_condensed generators_condensed
        ∙ ap (λ (w : ℕ). standard_of w (modulus_from r P) (map (condensed qs) ps)) (condensed_sign_test qs h ps generators_on)
        ∙ condensed_standard_of qs (sign_test ps) (modulus_from r P) ps

module _ (gs : List Pauli) where
  pub places_products : row_products (placed gs) ≡ map (condensed (support_of gs)) (row_products gs)
  places_products =
      let qs = support_of gs in
      let rows = (form_of gs).rows in
      ap (λ f. map (λ q. indexed_product q.t (placed gs)) f.rows) (places_form gs)
      ∙ map_same (λ q. indexed_product q.t (placed gs)) (λ q. condensed qs (indexed_product q.t gs)) rows
      (all_of (λ q. condensed_indexed qs (support_rises gs) q.t gs (support_on gs)) rows)
      ∙ sym (map-map (condensed qs) (λ q. indexed_product q.t gs) rows)

  pub products_on : All (PauliOn (support_of gs)) (row_products gs)
  products_on =
      let rows = (form_of gs).rows in
      all_over (PauliOn (support_of gs)) (λ q. indexed_product q.t gs) rows (all_of (λ q. indexed_on gs q.t) rows)

  pub places_standard : standard (placed gs) ≡ map (condensed (support_of gs)) (standard gs)
  places_standard =
      standard_from_lem (placed gs) ∙ ap₂ standard_from (places_rank gs) places_products
      ∙ standard_condensed (support_of gs) (rank gs) (row_products gs) (support_rises gs) products_on
      ∙ ap (map (condensed (support_of gs))) (sym (standard_from_lem gs))

  pub places_standard_on : OnPlaces (length (support_of gs)) (standard (placed gs))
  places_standard_on = rw places_standard (condensed_on (support_of gs) (standard gs))

  -- ---- the answers
  -- a test that condensing keeps
  by_standard : (f : List Pauli → ℕ) → ((qs : List ℕ) → Rising 0 qs → (ps : List Pauli) → All (PauliOn qs) ps → f (map (condensed qs) ps) ≡ f ps)
      → f (standard (placed gs)) ≡ f (standard gs)
  by_standard f k = ap f places_standard ∙ k (support_of gs) (support_rises gs) (standard gs) (standard_law gs).on_support

  pub places_nonabelian : (promise : Promise) → nonabelian promise (placed gs) ≡ nonabelian promise gs
  unfolding nonabelian
  places_nonabelian none = by_standard some_anticommute condensed_some_anticommute
  places_nonabelian abelian = refl
  places_nonabelian not_abelian = refl

  places_order_four : some_order_four (standard (placed gs)) ≡ some_order_four (standard gs)
  places_order_four = by_standard some_order_four condensed_some_order_four

  places_imaginary : some_imaginary (standard (placed gs)) ≡ some_imaginary (standard gs)
  places_imaginary = by_standard some_imaginary condensed_some_imaginary

  places_minus : some_minus (standard (placed gs)) ≡ some_minus (standard gs)
  places_minus = by_standard some_minus condensed_some_minus

  module _ (promise : Promise) where
    pub places_phase_step : phase_step promise (placed gs) ≡ phase_step promise gs
    unfolding phase_step step_of
    places_phase_step = rw (places_imaginary, places_nonabelian promise, places_order_four, places_minus)

    pub places_stabilizer : stabilizer promise (placed gs) ≡ stabilizer promise gs
    unfolding stabilizer
    places_stabilizer = rw (places_nonabelian promise, places_order_four, places_minus)

    pub places_log2_size : log2_size promise (placed gs) ≡ log2_size promise gs
    unfolding log2_size
    places_log2_size = rw (places_rank gs, places_phase_step)

-- ---- membership
module _ (promise : Promise) (gs : List Pauli) (p : Pauli) where
  left_placed : (s : ℕ) → let p' = normal (condensed (support_of gs) p) in
      exponent_left p' (indexed_product s (placed gs)) ≡ exponent_left p (indexed_product s gs)
  unfolding exponent_left normal condensed
  left_placed s =
      ap₂ (λ (a b : ℕ). (a + 4 - b) % 4) (mod-mod p.e 4)
      (ap (λ q. q.e) (condensed_indexed (support_of gs) (support_rises gs) s gs (support_on gs)))

  -- the element p over places has the answer of p
  pub places_with_phase : (o : Option ℕ)
      → with_phase promise (placed gs) (normal (condensed (support_of gs) p)) o ≡ with_phase promise gs p o
  unfolding with_phase
  places_with_phase none = refl
  places_with_phase (some s) =
      with_phase_lem promise (placed gs) (normal (condensed (support_of gs) p)) s
      ∙ ap₂ (λ (e k : ℕ). if_zero (e % k) (some (record { indexes = s; exponent = e })) none) (left_placed s) (places_phase_step gs promise)
      ∙ sym (with_phase_lem promise gs p s)

  pub places_factorization : PauliOn (support_of gs) p →
      let s = length (support_of gs) in
      let p' = normal (condensed (support_of gs) p) in
      factorization_of promise gs p
      ≡ with_phase promise (placed gs) p' (transpose_solve (2 * s) (form_of (placed gs)) (p'.x + 2 ^ s * p'.z))
  unfolding factorization_of row_of normal condensed
  places_factorization on =
      let qs = support_of gs in
      let o = transpose_solve (2 * length qs) (form_of gs) (row_of qs p) in
      if_zero_zero (with_phase promise gs p o) none (on_outside gs p on) ∙ sym (places_with_phase o)
      ∙ ap (λ f. with_phase promise (placed gs) (normal (condensed qs p)) (transpose_solve (2 * length qs) f (row_of qs p)))
      (sym (places_form gs))

  -- where a qubit of p is not used there is no answer
  pub off_factorization : (PauliOn (support_of gs) p → ⊥) → factorization_of promise gs p ≡ none
  unfolding factorization_of if_zero
  off_factorization off = go (outside gs p) refl
    where
      o : Option Factorization
      o = with_phase promise gs p (transpose_solve (2 * length (support_of gs)) (form_of gs) (row_of (support_of gs) p))

      go : (n : ℕ) → outside gs p ≡ n → if_zero n o none ≡ none
      go zero e = absurd (off (outside_on gs p e))
      go (suc n) e = refl
