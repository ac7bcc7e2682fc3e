-- What a list of Paulis comes to does not depend on how its exponents are written: each is taken by value, the remainder by 4. And the
-- lists that two lists come to, how long they are and that their exponents are values.
use mathlib.Core.Path.{◌≡◌, refl, sym, ap, ap₂, ◌∙◌, subst}
use mathlib.Core.List.{List, [], ◌∷◌, ◌++◌, map, map-id, map-map, map-append}
use mathlib.Core.Option.{Option, some, none}
use Prim.Native.Nat.{ℕ, zero, suc, ◌+◌, ◌*◌, ◌/◌, ◌%◌, ◌≤◌, ◌<◌}
use native.Mathlib.Nat.{mod-lt}
use native.Mathlib.Omega.{arith}
use lib.ListN.{length}
use Rattle.std.proofs.Math.Path.{fun_ext}
use Rattle.std.specs.Int.Bits.{bit_or}
use Rattle.binar.specs.Row.{◌⊕◌}
use Rattle.binar.specs.Echelon.{Row, EchelonForm, echelon, rank as echelon_rank}
use Rattle.binar.specs.Solve.{transpose_solve}
use Rattle.binar.proofs.Lists.{all_map, all_of, all_over, all_under, map_same}
use Rattle.pauli.specs.Roll.{most_paulis}
use Rattle.pauli.specs.Support.{All}
use Rattle.pauli.specs.Pauli.{Pauli, I, normal, times, product, product_from, cons_if, select, indexed_product}
use Rattle.pauli.specs.Sets.{row_of, pauli_of_row, members}
use Rattle.pauli.proofs.signed.Algebra.{pauli_path, times_normal_r, normal_lt}
use Rattle.pauli_theory.specs.Group.{Generated, Inside, Promise, abelian, not_abelian}
use Rattle.pauli_theory.specs.Standard.{used_by, support_of, form_of, rank, phase_of, if_zero, standard, some_anticommute, nonabelian, by_phases, phases_of, step_of, phase_step, exponent_mod}
use Rattle.pauli_theory.specs.Membership.{Factorization, outside, exponent_left, if_among, with_phase, factorization_of}
use Rattle.pauli_theory.specs.Order.{Order, equal, less, greater, no_order, Ranks, ranks_of, and, same_ranks, no_more, first_of, partial_cmp}
use Rattle.pauli_theory.specs.Modulo.{multiplied_by_all, modulo, if_below, try_quotient}
use Rattle.pauli_theory.specs.Common.{common_rows, common_basis, if_both, with_exponent, common_phase_from, common_phase, phases_from, common_phases, lesser}
use Rattle.pauli_theory.specs.WholeCommon.{kept_from, whole_part, whole_common}
use Rattle.pauli_theory.proofs.Agree.{four, divisor_positive, divisor_le, agree_normal, agree_flip}
use Rattle.pauli_theory.proofs.Group.{generated_subgroup, generators, inside_by}
use Rattle.pauli_theory.proofs.StandardLaw.{standard_law}
use Rattle.pauli_theory.proofs.Canonical.{canonical_law}
use Rattle.pauli_theory.proofs.WholeCommonLaw.{whole_common_law}
use Rattle.pauli_theory.proofs.ListingElements.{step_divisor}
use Rattle.pauli_theory.proofs.ModuloPlaces.{modulo_count}

-- ---- lists of values

pub values_by : (ps : List Pauli) → All (λ p. p.e < 4) ps → map normal ps ≡ ps
values_by ps h = map_same normal (λ p. p) ps (all_map normal_lt ps h) ∙ map-id ps

normal_twice : (p : Pauli) → normal (normal p) ≡ normal p
unfolding normal
normal_twice p = pauli_path (omega arith) refl refl

pub values_twice : (ps : List Pauli) → map normal (map normal ps) ≡ map normal ps
values_twice ps = map-map normal normal ps ∙ map_same (λ p. normal (normal p)) normal ps (all_of normal_twice ps)

-- ---- products

module _ {A B : Type 0} (f : A → B) where
  map_cons_if : (d : ℕ) (x : A) (xs : List A) → map f (cons_if d x xs) ≡ cons_if d (f x) (map f xs)
  unfolding cons_if
  map_cons_if zero x xs = refl
  map_cons_if (suc d) x xs = refl

  pub map_select : (s : ℕ) (xs : List A) → map f (select s xs) ≡ select s (map f xs)
  unfolding select
  map_select s [] = refl
  map_select s (x ∷ xs) = map_cons_if (s % 2) x (select (s / 2) xs) ∙ ap (cons_if (s % 2) (f x)) (map_select (s / 2) xs)

product_value : (p : Pauli) (qs : List Pauli) → product_from p (map normal qs) ≡ product_from p qs
unfolding product_from
product_value p [] = refl
product_value p (q ∷ qs) = ap (λ r. product_from r (map normal qs)) (times_normal_r p q) ∙ product_value (times p q) qs

pub indexed_value : (s : ℕ) (gs : List Pauli) → indexed_product s (map normal gs) ≡ indexed_product s gs
unfolding indexed_product product
indexed_value s gs = ap (product_from I) (sym (map_select normal s gs)) ∙ product_value I (select s gs)

-- ---- one list

used_value : (gs : List Pauli) → used_by (map normal gs) ≡ used_by gs
unfolding used_by normal
used_value [] = refl
used_value (g ∷ gs) = ap (bit_or (bit_or g.x g.z)) (used_value gs)

rows_value : (qs : List ℕ) (gs : List Pauli) → map (row_of qs) (map normal gs) ≡ map (row_of qs) gs
unfolding row_of normal
rows_value qs gs = map-map (row_of qs) normal gs

module _ (gs : List Pauli) where
  pub normal_inside : Inside (map normal gs) gs
  normal_inside =
      inside_by (map normal gs) gs
      (all_over (Generated gs) normal gs
      (all_map (λ p a. (generated_subgroup gs).agrees p (normal p) (agree_flip (agree_normal p four)) a) gs (generators gs)))

  pub inside_normal : Inside gs (map normal gs)
  inside_normal =
      let hs = map normal gs in
      inside_by gs hs
      (all_map (λ p a. (generated_subgroup hs).agrees (normal p) p (agree_normal p four) a) gs
      (all_under (Generated hs) normal gs (generators hs)))

  pub support_value : support_of (map normal gs) ≡ support_of gs
  unfolding support_of
  support_value = ap members (used_value gs)

  pub form_value : form_of (map normal gs) ≡ form_of gs
  unfolding form_of
  form_value =
      ap₂ (λ (qs : List ℕ) (A : List ℕ). echelon (2 * length qs) A) support_value
      (ap (λ (qs : List ℕ). map (row_of qs) (map normal gs)) support_value ∙ rows_value (support_of gs) gs)

  pub rank_value : rank (map normal gs) ≡ rank gs
  unfolding rank
  rank_value = ap echelon_rank form_value

  pub phase_value : (q : Row) → phase_of (map normal gs) q ≡ phase_of gs q
  unfolding phase_of
  phase_value q = ap (λ p. p.e) (indexed_value q.t gs)

  -- both generate the same group
  pub standard_value : standard (map normal gs) ≡ standard gs
  standard_value = (canonical_law (map normal gs) gs).same_standard (record { there = normal_inside; back = inside_normal })

  -- standard generators have exponents by value
  pub standard_values : map normal (standard gs) ≡ standard gs
  standard_values = values_by (standard gs) (standard_law gs).values

  module _ (promise : Promise) where
    pub nonabelian_value : nonabelian promise (map normal gs) ≡ nonabelian promise gs
    unfolding nonabelian
    nonabelian_value = go promise
      where
        go : (promise : Promise) → nonabelian promise (map normal gs) ≡ nonabelian promise gs
        go Promise.none = ap some_anticommute standard_value
        go abelian = refl
        go not_abelian = refl

    pub phases_value : phases_of promise (map normal gs) ≡ phases_of promise gs
    unfolding phases_of
    phases_value =
        ap₂ (λ (n : ℕ) (ps : List Pauli). by_phases n ps (0 ∷ []) (0 ∷ 2 ∷ []) (0 ∷ 1 ∷ 2 ∷ 3 ∷ [])) nonabelian_value standard_value

    pub step_value : phase_step promise (map normal gs) ≡ phase_step promise gs
    unfolding phase_step
    step_value = ap₂ step_of nonabelian_value standard_value

    pub ranks_value : ranks_of promise (map normal gs) ≡ ranks_of promise gs
    unfolding ranks_of
    ranks_value = ap₂ (λ (s r : ℕ). record { phases = 4 / s; rank = r }) step_value rank_value

    with_phase_value : (p : Pauli) (o : Option ℕ) → with_phase promise (map normal gs) p o ≡ with_phase promise gs p o
    unfolding with_phase
    with_phase_value p none = refl
    with_phase_value p (some s) =
        let told : ℕ → List ℕ → Option Factorization = λ e ks. if_among e ks (some (record { indexes = s; exponent = e })) none in
        ap₂ told (ap (exponent_left p) (indexed_value s gs)) phases_value

    pub factorization_value : (p : Pauli) → factorization_of promise (map normal gs) p ≡ factorization_of promise gs p
    unfolding factorization_of outside
    factorization_value p =
        let solve : List ℕ → EchelonForm → Option ℕ = λ qs f. transpose_solve (2 * length qs) f (row_of qs p) in
        ap₂ (λ (n : ℕ) (o : Option Factorization). if_zero n o none) (ap (λ (v : ℕ). bit_or v (bit_or p.x p.z) ⊕ v) (used_value gs))
        (with_phase_value p (solve (support_of (map normal gs)) (form_of (map normal gs)))
        ∙ ap (with_phase promise gs p) (ap₂ solve support_value form_value))

-- ---- two lists

lesser_map : {X Y : Type 0} (f : X → Y) (o : Order) (x y z : X) → lesser o (f x) (f y) (f z) ≡ f (lesser o x y z)
unfolding lesser
lesser_map f equal x y z = refl
lesser_map f less x y z = refl
lesser_map f greater x y z = refl
lesser_map f no_order x y z = refl

module _ (gs hs : List Pauli) where
  joined_normal : map normal gs ++ map normal hs ≡ map normal (gs ++ hs)
  joined_normal = sym (map-append normal gs hs)

  joined_support : support_of (map normal gs ++ map normal hs) ≡ support_of (gs ++ hs)
  joined_support = ap support_of joined_normal ∙ support_value (gs ++ hs)

  pub basis_value : common_basis (map normal gs) (map normal hs) ≡ common_basis gs hs
  unfolding common_basis
  basis_value =
      let basis : List ℕ → List Pauli → List Pauli → List Pauli = λ qs ps ks.
      map (pauli_of_row qs 0) (common_rows (2 * length qs) (map (row_of qs) ps) (map (row_of qs) ks)) in
      ap (λ (qs : List ℕ). basis qs (standard (map normal gs)) (standard (map normal hs))) joined_support
      ∙ ap₂ (basis (support_of (gs ++ hs))) (standard_value gs) (standard_value hs)

  pub modulo_value : (promise : Promise) → modulo promise (map normal gs) (map normal hs) ≡ modulo promise gs hs
  unfolding modulo
  modulo_value promise = rw (step_value hs promise, support_value hs, standard_value hs, form_value hs, standard_value gs) refl

  module _ (left right : Promise) where
    pub order_value : partial_cmp left right (map normal gs) (map normal hs) ≡ partial_cmp left right gs hs
    unfolding partial_cmp
    order_value =
        let found : Ranks → Ranks → Ranks → Order = λ a b both.
        first_of (and (same_ranks a b) (same_ranks a both)) (and (no_more a b) (same_ranks b both)) (same_ranks a both) in
        ap₂ (λ (a b : Ranks). found a b (ranks_of Promise.none (map normal gs ++ map normal hs))) (ranks_value gs left) (ranks_value hs right)
        ∙ ap (found (ranks_of left gs) (ranks_of right hs)) (ap (ranks_of Promise.none) joined_normal ∙ ranks_value (gs ++ hs) Promise.none)

    shared_value : (p : Pauli) (n e : ℕ) → common_phase_from left right (map normal gs) (map normal hs) p n e ≡ common_phase_from left right gs hs p n e
    unfolding common_phase_from
    shared_value p zero e = refl
    shared_value p (suc n) e =
        let r = with_exponent e p in
        let rest = common_phase_from left right (map normal gs) (map normal hs) p n (suc e) in
        ap₂ (λ (f g : Option Factorization). if_both f g (some r) rest) (factorization_value gs left r) (factorization_value hs right r)
        ∙ ap (if_both (factorization_of left gs r) (factorization_of right hs r) (some r)) (shared_value p n (suc e))

    pub common_phase_value : common_phase left right (map normal gs) (map normal hs) ≡ common_phase left right gs hs
    unfolding common_phase
    common_phase_value = fun_ext λ p. shared_value p 4 0

    pub phases_of_value : common_phases left right (map normal gs) (map normal hs) ≡ common_phases left right gs hs
    unfolding common_phases
    phases_of_value = ap₂ (λ (a b : ℕ). phases_from a b 4 0) (step_value gs left) (step_value hs right)

  pub modulo_values : (promise : Promise) → map normal (modulo promise gs hs) ≡ modulo promise gs hs
  unfolding modulo exponent_mod
  modulo_values promise =
      let m = phase_step promise hs in
      let d = step_divisor promise hs in
      values_by (modulo promise gs hs)
      (all_over (λ p. p.e < 4) (exponent_mod m) (multiplied_by_all (support_of hs) (standard hs) (form_of hs).pivots (standard gs))
      (all_of (λ p. omega (arith, mod-lt p.e (divisor_positive d), divisor_le d)) (multiplied_by_all (support_of hs) (standard hs) (form_of hs).pivots (standard gs))))

  pub modulo_few : (promise : Promise) → length gs + length hs ≤ most_paulis → length (modulo promise gs hs) ≤ most_paulis
  unfolding most_paulis
  modulo_few promise few = omega (arith, modulo_count gs hs promise, (standard_law gs).count)

-- a quotient is the list modulo the divisor
below_some : {X : Type 0} (o : Order) (x y : X) → if_below o x ≡ some y → x ≡ y
unfolding if_below
below_some equal x y e = cc
below_some less x y e = cc
below_some greater x y e = let z : ◌≡◌ {A = ℕ} 0 1 = cc in absurd (omega arith)
below_some no_order x y e = let z : ◌≡◌ {A = ℕ} 0 1 = cc in absurd (omega arith)

module _ (left right : Promise) (gs hs : List Pauli) where
  pub quotient_value : try_quotient left right (map normal gs) (map normal hs) ≡ try_quotient left right gs hs
  unfolding try_quotient
  quotient_value = ap₂ if_below (order_value hs gs right left) (modulo_value gs hs right)

  module _ (ps : List Pauli) (e : try_quotient left right gs hs ≡ some ps) where
    pub quotient_is : modulo right gs hs ≡ ps
    unfolding try_quotient
    quotient_is = below_some (partial_cmp right left hs gs) (modulo right gs hs) ps e

    pub quotient_few : length gs + length hs ≤ most_paulis → length ps ≤ most_paulis
    quotient_few few = subst (λ (qs : List Pauli). length qs ≤ most_paulis) quotient_is (modulo_few gs hs right few)

    pub quotient_values : map normal ps ≡ ps
    quotient_values = subst (λ (qs : List Pauli). map normal qs ≡ qs) quotient_is (modulo_values gs hs right)

-- ---- the whole common part

module _ (gs hs : List Pauli) where
  pub whole_part_value : whole_part (map normal gs) (map normal hs) ≡ whole_part gs hs
  unfolding whole_part
  whole_part_value =
      let none = Promise.none in
      let kept : (Pauli → Option Pauli) → List Pauli → List Pauli = λ f ps. kept_from f times Option.none ps in
      ap₂ ◌++◌ (ap₂ kept (common_phase_value gs hs none none) (basis_value gs hs)) (phases_of_value gs hs none none)

  pub whole_value : whole_common (map normal gs) (map normal hs) ≡ map normal (whole_common gs hs)
  unfolding whole_common
  whole_value =
      let lists : Order → List Pauli → List Pauli = λ o ps. lesser o (map normal gs) (map normal hs) ps in
      let ps = standard (whole_part gs hs) in
      ap₂ lists (order_value gs hs Promise.none Promise.none) (ap standard whole_part_value ∙ sym (standard_values (whole_part gs hs)))
      ∙ lesser_map (map normal) (partial_cmp Promise.none Promise.none gs hs) gs hs ps

  pub whole_values : map normal gs ≡ gs → map normal hs ≡ hs → map normal (whole_common gs hs) ≡ whole_common gs hs
  whole_values a b = sym whole_value ∙ ap₂ whole_common a b

  pub whole_few : length gs + length hs ≤ most_paulis → length (whole_common gs hs) ≤ most_paulis
  whole_few = (whole_common_law gs hs).count
