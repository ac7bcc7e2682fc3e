-- The common part of two groups, with any promises: its basis spans what the rows of both lists have in common; the first shared phase;
-- what is in both groups.
use mathlib.Core.Path.{◌≡◌, refl, sym, ap, ◌∙◌}
use mathlib.Core.List.{List, ◌∷◌, ◌++◌, map, map-id, map-map}
use mathlib.Core.Option.{Option, some, none, some-injective}
use Prim.Native.Nat.{ℕ, zero, suc, ◌+◌, ◌*◌, ◌/◌, ◌%◌, ◌^◌, ◌≤◌, ◌<◌, min, max}
use native.Mathlib.Omega.{arith}
use native.Mathlib.Decide.{ℕ_discrete}
use lib.ListN.{length, length-map}
use Rattle.binar.specs.Space.{RowSpace}
use Rattle.binar.proofs.Lists.{all_map, all_over, all_of, map_same}
use Rattle.binar.proofs.echelon.Span.{below_subspace, space_rows, space_in}
use Rattle.pauli.specs.Support.{All}
use Rattle.pauli.specs.Pauli.{Pauli, turned, phase}
use Rattle.pauli.specs.Sets.{row_of, pauli_of_row}
use Rattle.pauli.specs.PauliTheorems.{PauliOn}
use Rattle.pauli.proofs.condense.Places.{expand_on}
use Rattle.pauli.proofs.condense.Rows.{back_row}
use Rattle.pauli_theory.specs.Group.{Generated, Promise, Honest}
use Rattle.pauli_theory.specs.Standard.{support_of, if_zero, standard, phase_step}
use Rattle.pauli_theory.specs.Membership.{Factorization, factorization_of}
use Rattle.pauli_theory.specs.Common.{common_rows, common_basis, with_exponent, if_both, common_phase_from, common_phase, cons_some, phases_from, common_phases}
use Rattle.pauli_theory.specs.Theorems.{CommonRowsLaw, CommonBasisLaw, CommonPhaseLaw}
use Rattle.pauli_theory.proofs.Rows.{rows_narrow, inside_rows, support_rises}
use Rattle.pauli_theory.proofs.Standard.{standard_inside, inside_standard}
use Rattle.pauli_theory.proofs.Membership.{membership_law}
use Rattle.pauli_theory.proofs.CommonRows.{common_rows_law}

-- ---- the basis
module _ (gs hs : List Pauli) where
  abbrev qs : List ℕ
  qs = support_of (gs ++ hs)

  abbrev rows_of : List Pauli → List ℕ
  rows_of ps = map (row_of qs) ps

  abbrev common : List ℕ
  common = common_rows (2 * length qs) (rows_of (standard gs)) (rows_of (standard hs))

  rows_law : CommonRowsLaw (2 * length qs) (rows_of (standard gs)) (rows_of (standard hs))
  rows_law =
      common_rows_law (2 * length qs) (rows_of (standard gs)) (rows_of (standard hs)) (rows_narrow qs (standard gs)) (rows_narrow qs (standard hs))

  common_narrow : All (λ v. v < 2 ^ (2 * length qs)) common
  common_narrow =
      all_map (λ v s. space_in (below_subspace (2 * length qs)) (rows_narrow qs (standard gs)) v (rows_law.there v s).0) common (space_rows common)

  basis_rows : rows_of (common_basis gs hs) ≡ common
  unfolding common_basis
  basis_rows =
      map-map (row_of qs) (pauli_of_row qs 0) common
      ∙ map_same (λ v. row_of qs (pauli_of_row qs 0 v)) (λ v. v) common (all_map (back_row qs (support_rises (gs ++ hs)) 0) common common_narrow)
      ∙ map-id common

  basis_there : (v : ℕ) → RowSpace (rows_of (common_basis gs hs)) v → RowSpace (rows_of gs) v × RowSpace (rows_of hs) v
  basis_there v s =
      let w = rows_law.there v (rw basis_rows at s) in
      (inside_rows qs (standard gs) gs (standard_inside gs) v w.0, inside_rows qs (standard hs) hs (standard_inside hs) v w.1)

  basis_back : (v : ℕ) → RowSpace (rows_of gs) v → RowSpace (rows_of hs) v → RowSpace (rows_of (common_basis gs hs)) v
  basis_back v s t =
      rw basis_rows
      (rows_law.back v (inside_rows qs gs (standard gs) (inside_standard gs) v s) (inside_rows qs hs (standard hs) (inside_standard hs) v t))

  basis_count : length (common_basis gs hs) ≤ min (length (standard gs)) (length (standard hs))
  unfolding common_basis
  basis_count =
      omega (
        arith,
        length-map common (pauli_of_row qs 0),
        rows_law.count,
        length-map (standard gs) (row_of qs),
        length-map (standard hs) (row_of qs),
      )

  basis_on : All (PauliOn qs) (common_basis gs hs)
  unfolding common_basis pauli_of_row
  basis_on =
      all_over (PauliOn qs) (pauli_of_row qs 0) common
      (all_of (λ v. record { x = expand_on qs (v % 2 ^ length qs); z = expand_on qs (v / 2 ^ length qs) }) common)

-- ---- the two cases of a test of both groups
if_both_some : {C : Type 0} (o r : Option Factorization) (p q : Pauli) (later : Option Pauli) → if_both o r (some p) later ≡ some q
    → ((f g : Factorization) → o ≡ some f → r ≡ some g → p ≡ q → C) → (later ≡ some q → C) → C
unfolding if_both
if_both_some none r p q later e found more = more e
if_both_some (some f) none p q later e found more = more e
if_both_some (some f) (some g) p q later e found more = found f g refl refl (some-injective p q e)

if_both_none : (o r : Option Factorization) (p : Pauli) (later : Option Pauli) → if_both o r (some p) later ≡ none
    → (later ≡ none) × ((f g : Factorization) → o ≡ some f → r ≡ some g → ⊥)
unfolding if_both
if_both_none none r p later e = (e, λ f g a b. let z : ◌≡◌ {A = ℕ} 0 1 = cc in omega arith)
if_both_none (some f) none p later e = (e, λ f g a b. let z : ◌≡◌ {A = ℕ} 0 1 = cc in omega arith)
if_both_none (some f) (some g) p later e = let z : ◌≡◌ {A = ℕ} 0 1 = cc in absurd (omega arith)

-- ---- the first shared phase
-- q is p with an exponent below 4, and has a factorization in both groups
pub record Variant (left right : Promise) (gs hs : List Pauli) (p q : Pauli) : Type 0 where
  pub exponent : ℕ
  pub low : exponent < 4
  pub equals : with_exponent exponent p ≡ q
  pub first : Factorization
  pub in_first : factorization_of left gs q ≡ some first
  pub second : Factorization
  pub in_second : factorization_of right hs q ≡ some second

module _ (left right : Promise) (gs hs : List Pauli) (p : Pauli) where
  found : (n e : ℕ) → e + n ≤ 4 → (q : Pauli) → common_phase_from left right gs hs p n e ≡ some q → Variant left right gs hs p q
  unfolding common_phase_from
  found zero e l q h = let z : ◌≡◌ {A = ℕ} 0 1 = cc in absurd (omega arith)
  found (suc n) e l q h =
      let r = with_exponent e p in
      if_both_some (factorization_of left gs r) (factorization_of right hs r) r q (common_phase_from left right gs hs p n (suc e)) h
      (λ f g hf hg same. record {
        exponent = e;
        low = omega arith;
        equals = same;
        first = f;
        in_first = ap (factorization_of left gs) (sym same) ∙ hf;
        second = g;
        in_second = ap (factorization_of right hs) (sym same) ∙ hg;
      })
      (found n (suc e) (omega arith) q)

  pub variant : (q : Pauli) → common_phase left right gs hs p ≡ some q → Variant left right gs hs p q
  unfolding common_phase
  variant = found 4 0 (omega arith)

  not_found : (n e : ℕ) → common_phase_from left right gs hs p n e ≡ none → (k : ℕ) → e ≤ k → k < e + n → (f g : Factorization)
      → factorization_of left gs (with_exponent k p) ≡ some f → factorization_of right hs (with_exponent k p) ≡ some g → ⊥
  unfolding common_phase_from
  not_found zero e h k l u f g hf hg = omega arith
  not_found (suc n) e h k l u f g hf hg =
      let r = with_exponent e p in
      let c = if_both_none (factorization_of left gs r) (factorization_of right hs r) r (common_phase_from left right gs hs p n (suc e)) h in
      elim (ℕ_discrete k e) [
        | yes d ↦ c.1 f g (rw d at hf) (rw d at hg)
        | no d ↦ not_found n (suc e) c.0 k (omega arith) (omega arith) f g hf hg
      ]

pub variant_low : (left right : Promise) (gs hs : List Pauli) (p q : Pauli) → Variant left right gs hs p q → q.e < 4
unfolding with_exponent
variant_low left right gs hs p q v = omega (arith, v.low, ap (λ r. r.e) v.equals)

-- with absent or true promises
module _ (left right : Promise) (gs hs : List Pauli) (hl : Honest left gs) (hr : Honest right hs) where
  shared : (p q : Pauli) → common_phase left right gs hs p ≡ some q → (q.x ≡ p.x) × (q.z ≡ p.z) × Generated gs q × Generated hs q
  unfolding with_exponent
  shared p q e =
      let v = variant left right gs hs p q e in (
        sym (ap (λ r. r.x) v.equals),
        sym (ap (λ r. r.z) v.equals),
        (membership_law left gs q hl).sound v.first v.in_first,
        (membership_law right hs q hr).sound v.second v.in_second,
      )

  dropped : (p : Pauli) → common_phase left right gs hs p ≡ none → (k : ℕ) → Generated gs (turned k p) → Generated hs (turned k p) → ⊥
  unfolding common_phase with_exponent turned
  dropped p e k a b =
      let f = (membership_law left gs (turned k p) hl).complete a in
      let g = (membership_law right hs (turned k p) hr).complete b in
      not_found left right gs hs p 4 0 e ((k + p.e) % 4) (omega arith) (omega arith) f.0 g.0 f.1 g.1

  pub common_phase_law : CommonPhaseLaw left right gs hs
  common_phase_law = record { shared = shared; dropped = dropped }

-- ---- the elements that are kept
pub cons_some_count : (o : Option Pauli) (ps : List Pauli) → length (cons_some o ps) ≤ suc (length ps)
unfolding cons_some
cons_some_count none ps = omega arith
cons_some_count (some p) ps = omega arith

pub cons_some_all : (Q : Pauli → Type 0) (o : Option Pauli) (ps : List Pauli) → ((p : Pauli) → o ≡ some p → Q p) → All Q ps → All Q (cons_some o ps)
unfolding cons_some
cons_some_all Q none ps f h = h
cons_some_all Q (some p) ps f h = (f p refl, h)

-- ---- the shared phases
module _ (Q : Pauli → Type 0) where
  if_all : (w : ℕ) (p : Pauli) (ps : List Pauli) → (w ≡ 0 → Q p) → All Q ps → All Q (if_zero w (p ∷ ps) ps)
  unfolding if_zero
  if_all zero p ps f h = (f refl, h)
  if_all (suc w) p ps f h = h

  if_head : (w : ℕ) (p : Pauli) (ps : List Pauli) → w ≡ 0 → All Q (if_zero w (p ∷ ps) ps) → Q p
  unfolding if_zero
  if_head zero p ps e h = h.0
  if_head (suc w) p ps e h = absurd (omega arith)

  if_tail : (w : ℕ) (p : Pauli) (ps : List Pauli) → All Q (if_zero w (p ∷ ps) ps) → All Q ps
  unfolding if_zero
  if_tail zero p ps h = h.1
  if_tail (suc w) p ps h = h

if_count : (w : ℕ) (p : Pauli) (ps : List Pauli) → length (if_zero w (p ∷ ps) ps) ≤ suc (length ps)
unfolding if_zero
if_count zero p ps = omega arith
if_count (suc w) p ps = omega arith

max_left : (x y : ℕ) → max x y ≡ 0 → x ≡ 0
max_left x y e = omega arith

max_right : (x y : ℕ) → max x y ≡ 0 → y ≡ 0
max_right x y e = omega arith

max_none : (x y : ℕ) → x ≡ 0 → y ≡ 0 → max x y ≡ 0
max_none x y e f = omega arith

module _ (a b : ℕ) where
  phases_count : (n e : ℕ) → length (phases_from a b n e) ≤ n
  unfolding phases_from
  phases_count zero e = omega arith
  phases_count (suc n) e =
      let one : length (phases_from a b (suc n) e) ≤ suc (length (phases_from a b n (suc e))) = if_count _ (phase e) (phases_from a b n (suc e)) in
      omega (arith, one, phases_count n (suc e))

  module _ (Q : Pauli → Type 0) where
    phases_by : (n e : ℕ) → ((k : ℕ) → k < e + n → k % a ≡ 0 → k % b ≡ 0 → Q (phase k)) → All Q (phases_from a b n e)
    unfolding phases_from
    phases_by zero e f = tt
    phases_by (suc n) e f =
        if_all Q _ (phase e) (phases_from a b n (suc e))
        (λ z. f e (omega arith) (max_left (e % a) (e % b) z) (max_right (e % a) (e % b) z)) (phases_by n (suc e) (λ k l. f k (omega arith)))

    pub phases_have : (n e : ℕ) → All Q (phases_from a b n e) → (k : ℕ) → e ≤ k → k < e + n → k % a ≡ 0 → k % b ≡ 0 → Q (phase k)
    unfolding phases_from
    phases_have zero e h k l u ha hb = absurd (omega arith)
    phases_have (suc n) e h k l u ha hb =
        let w = max (e % a) (e % b) in
        let more = phases_from a b n (suc e) in
        elim (ℕ_discrete k e) [
          | yes d ↦ rw d (if_head Q w (phase e) more (max_none (e % a) (e % b) (rw d at ha) (rw d at hb)) h)
          | no d ↦ phases_have n (suc e) (if_tail Q w (phase e) more h) k (omega arith) (omega arith) ha hb
        ]

module _ (gs hs : List Pauli) (left right : Promise) where
  pub phases_few : length (common_phases left right gs hs) ≤ 4
  unfolding common_phases
  phases_few = phases_count _ _ 4 0

  pub phases_all : (Q : Pauli → Type 0) → ((k : ℕ) → k < 4 → k % phase_step left gs ≡ 0 → k % phase_step right hs ≡ 0 → Q (phase k))
      → All Q (common_phases left right gs hs)
  unfolding common_phases
  phases_all Q f = phases_by _ _ Q 4 0 f

pub common_basis_law : (gs hs : List Pauli) → CommonBasisLaw gs hs
common_basis_law gs hs = record {
  there = basis_there gs hs;
  back = basis_back gs hs;
  independent = rw (basis_rows gs hs) (rows_law gs hs).independent;
  count = basis_count gs hs;
  on_support = basis_on gs hs;
}
