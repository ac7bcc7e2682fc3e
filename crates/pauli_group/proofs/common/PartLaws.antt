-- Laws of the common part in the work area: from the common basis and the exponents noted of it to its standard generators.
use Rattle.std.proofs.Common.{◌≡◌, ℕ, ◌+◌, ◌*◌, ◌^◌, ◌<◌, ◌≤◌, List, ◌++◌, map, length, get_or, sym, refl, ap, ◌∙◌, ap₂, arith}
use mathlib.Core.List.{map-map}
use mathlib.Core.Option.{Option}
use lib.ListN.{length-map}
use Rattle.binar.proofs.Lists.{all_map, all_over, all_under, map_same}
use Rattle.pauli.specs.Roll.{Sparse, most_paulis}
use Rattle.pauli.specs.Support.{All, Rising}
use Rattle.pauli.specs.Condense.{condensed}
use Rattle.pauli.specs.Pauli.{Pauli, normal}
use Rattle.pauli.specs.PauliTheorems.{On, PauliOn}
use Rattle.pauli.specs.Sets.{condense}
use Rattle.pauli.specs.Signed.{list_in}
use Rattle.pauli.specs.Writing.{OnPlaces}
use Rattle.pauli.proofs.condense.Places.{condense_bit}
use Rattle.pauli.proofs.signed.Algebra.{normal_lt}
use Rattle.pauli.proofs.write.Writers.{length_list}
use Rattle.pauli_theory.specs.Group.{none}
use Rattle.pauli_theory.specs.Standard.{support_of, standard, phase_step}
use Rattle.pauli_theory.specs.Common.{common_basis, with_exponent, phases_from, common_phases, lesser}
use Rattle.pauli_theory.specs.Order.{Order, partial_cmp}
use Rattle.pauli_theory.specs.WholeCommon.{kept_from, whole_part, whole_common}
use Rattle.pauli_theory.specs.Inner.WholePlaces.{noted_both, shared_pauli, times_noted, standard_of_products, standard_places}
use Rattle.pauli_theory.proofs.CommonExponents.{Solved, basis_left, basis_right}
use Rattle.pauli_theory.proofs.CommonPlaces.{places_basis}
use Rattle.pauli_theory.proofs.ModuloPlaces.{joined}
use Rattle.pauli_theory.proofs.Placed.{condensed_on}
use Rattle.pauli_theory.proofs.Rows.{support_rises}
use Rattle.pauli_theory.proofs.WholeCommonLaw.{whole_common_law}
use Rattle.pauli_theory.proofs.WholePlaces.{whole_places, places_part, places_part_on, places_whole, standard_on}
use Rattle.pauli_group.specs.Inner.Area.{list_at, standard_at, further_at, Outside}
use Rattle.pauli_group.proofs.source.SourceLaws.{Counted}
use Rattle.pauli_group.specs.Inner.Groups.{over_support, products_named, Built}
use Rattle.pauli_group.specs.Inner.Lists.{row_over, form_over, from_products}
use Rattle.pauli_group.specs.Calls.{paulis}
use Rattle.pauli_group.proofs.group.GroupedLaws.{list_length}
use Rattle.pauli_group.specs.Inner.Further.{FurtherHas}
use Rattle.pauli_group.specs.Inner.Moved.{Movable, MovablePauli}
use Rattle.pauli_group.specs.Inner.Shared.{Joint, standard_over, basis_over, exponent_for, NotedBy}
use Rattle.pauli_group.specs.Inner.Whole.{noted_list, whole_over}
use Rattle.pauli_group.proofs.list.ListLaws.{list_kept_after, pauli_kept_after}
use Rattle.pauli_group.proofs.whole.WholeLaws.{noted_all}

pub lists_few : (l r : List Sparse) (nl nr : ℕ) → Counted l nl → Counted r nr → nl + nr ≤ 128
    → length (paulis l) + length (paulis r) ≤ 128
lists_few l r nl nr a b few = omega (arith, list_length l nl a, list_length r nr b)

-- ---- the common basis over the places of the joined support

-- what goes by the sets of a Pauli alone
module _ (P : ℕ → Type 0) where
  abbrev Both : Pauli → Type 0
  Both p = P p.x × P p.z

  by_sets : (ps : List Pauli) → All Both (map (with_exponent 0) ps) → All Both ps
  unfolding with_exponent
  by_sets ps all = all_under Both (with_exponent 0) ps all

condensed_movable : (qs own : List ℕ) → Rising 0 qs → Rising 0 own → (p : Pauli) → PauliOn own p → MovablePauli qs own (condensed qs p)
unfolding condensed
condensed_movable qs own a b p on =
    let m : (v : ℕ) → On own v → Movable qs own (condense qs v) =
    λ v o. record { own_rises = a; rises = b; inside = λ i h e. o (get_or qs i 0) (sym (condense_bit qs v i h) ∙ e) } in
    (m p.x on.x, m p.z on.z)

module _ (gs hs : List Pauli) where
  abbrev qs : List ℕ
  qs = joined gs hs

  sets_are : map (with_exponent 0) (basis_over gs hs) ≡ map (condensed qs) (common_basis gs hs)
  unfolding basis_over standard_over over_support
  sets_are = places_basis gs hs

  basis_on : OnPlaces (length qs) (basis_over gs hs)
  unfolding OnPlaces
  basis_on = by_sets (λ v. v < 2 ^ length qs) (basis_over gs hs) (rw sets_are (condensed_on qs (common_basis gs hs)))

  basis_movable : (ks : List Pauli) → All (Solved ks) (common_basis gs hs) → All (MovablePauli qs (support_of ks)) (basis_over gs hs)
  basis_movable ks all =
      by_sets (Movable qs (support_of ks)) (basis_over gs hs)
      (rw sets_are
      (all_over (MovablePauli qs (support_of ks)) (condensed qs) (common_basis gs hs)
      (all_map (λ p s. condensed_movable qs (support_of ks) (support_rises (gs ++ hs)) (support_rises ks) p s.on) (common_basis gs hs) all)))

-- ---- the area, step by step

module _ (gs hs : List Pauli) (joint : List ℕ) (J : Joint gs hs joint) (m : ℕ) (x : List ℕ)
    (basis : list_in x further_at m ≡ basis_over gs hs) where
  pub part_on : OnPlaces (length joint) (list_in x further_at m)
  part_on = rw (basis, J.count) (basis_on gs hs)

  pub part_left : All (MovablePauli joint (support_of gs)) (list_in x further_at m)
  part_left = rw (basis, J.support) (basis_movable gs hs gs (basis_left gs hs))

  part_right : All (MovablePauli joint (support_of hs)) (list_in x further_at m)
  part_right = rw (basis, J.support) (basis_movable gs hs hs (basis_right gs hs))

  module _ (y : List ℕ) (kept_once : Outside 0 further_at x y) where
    once : list_in y further_at m ≡ list_in x further_at m
    once = list_kept_after kept_once further_at m (omega arith)

    pub once_on : OnPlaces (length joint) (list_in y further_at m)
    once_on = rw once part_on

    pub once_right : All (MovablePauli joint (support_of hs)) (list_in y further_at m)
    once_right = rw once part_right

    module _ (z : List ℕ) (kept_again : Outside 0 further_at y z)
        (us vs : List ℕ) (by_left : NotedBy (exponent_for joint gs) us m x) (by_right : NotedBy (exponent_for joint hs) vs m y)
        (a b : ℕ) (ea : a ≡ phase_step none gs) (eb : b ≡ phase_step none hs) (u : List ℕ) (kept : ℕ)
        (whole : list_in u list_at kept ≡ kept_from (shared_pauli a b) times_noted Option.none (noted_list us vs z m)) (v : List ℕ) (total : ℕ)
        (phases : list_in v list_at total ≡ list_in u list_at kept ++ phases_from a b 4 0) where
      elements : noted_list us vs z m ≡ map (λ p. noted_both (exponent_for joint gs p) (exponent_for joint hs p) p) (list_in z further_at m)
      elements =
          noted_all (exponent_for joint gs) (exponent_for joint hs) us vs z m
          (λ i h.
          by_left i h
          ∙ ap (exponent_for joint gs)
          (sym (pauli_kept_after kept_again (further_at + 5 * i) (omega arith) ∙ pauli_kept_after kept_once (further_at + 5 * i) (omega arith))))
          (λ i h. by_right i h ∙ ap (exponent_for joint hs) (sym (pauli_kept_after kept_again (further_at + 5 * i) (omega arith))))

      pub part_list : list_in v list_at total ≡ whole_over gs hs
      unfolding whole_over
      part_list =
          phases
          ∙ ap₂ ◌++◌
          (whole
          ∙ ap (kept_from (shared_pauli a b) times_noted Option.none)
          (elements
          ∙ ap (map (λ p. noted_both (exponent_for joint gs p) (exponent_for joint hs p) p)) (list_kept_after kept_again further_at m (omega arith) ∙ once ∙ basis)
          ∙ ap (λ (ks : List ℕ). map (λ p. noted_both (exponent_for ks gs p) (exponent_for ks hs p) p) (basis_over gs hs)) J.support)
          ∙ ap₂ (λ (i j : ℕ). kept_from (shared_pauli i j) times_noted Option.none (map (λ p. noted_both (exponent_for (joined gs hs) gs p) (exponent_for (joined gs hs) hs p) p) (basis_over gs hs))) ea eb)
          (ap₂ (λ (i : ℕ) (j : ℕ). phases_from i j 4 0) ea eb)

-- ---- its standard generators

module _ (gs hs : List Pauli) where
  over_places : whole_over gs hs ≡ whole_places gs hs
  unfolding whole_over basis_over standard_over over_support exponent_for common_phases
  over_places = refl

  pub part_few : length gs + length hs ≤ 128 → (w : List ℕ) (n : ℕ) → list_in w list_at n ≡ whole_over gs hs → n ≤ 68
  unfolding most_paulis
  part_few few w n list =
      omega (
        arith,
        length_list w list_at n,
        ap length (list ∙ over_places ∙ places_part gs hs),
        length-map (whole_part gs hs) (condensed (joined gs hs)),
        (whole_common_law gs hs).part_few few,
      )

  module _ (joint : List ℕ) (J : Joint gs hs joint) (w : List ℕ) (n : ℕ) (list : list_in w list_at n ≡ whole_over gs hs) where
    pub list_on : OnPlaces (length joint) (list_in w list_at n)
    list_on = rw (list, over_places, J.count) (places_part_on gs hs)

    module _ (x : List ℕ) (r total : ℕ) (B : Built w n (length joint) x r total) where
      made : from_products r (products_named (form_over (length joint) (list_in w list_at n)) (list_in w list_at n))
          ≡ standard_places (length (joined gs hs)) (whole_places gs hs)
      unfolding from_products products_named form_over row_over standard_places standard_of_products
      made = rw (B.rank_is, list, over_places, J.count)

      standards_are : list_in x standard_at total ≡ map (condensed (joined gs hs)) (standard (whole_part gs hs))
      standards_are = B.standards ∙ made ∙ places_whole gs hs

      values : map normal (map (condensed (joined gs hs)) (standard (whole_part gs hs))) ≡ map (condensed (joined gs hs)) (standard (whole_part gs hs))
      unfolding condensed
      values =
          let qs = joined gs hs in
          let ks = standard (whole_part gs hs) in
          map-map normal (condensed qs) ks
          ∙ map_same (λ p. normal (condensed qs p)) (condensed qs) ks (all_map (λ p l. normal_lt (condensed qs p) l) ks (whole_common_law gs hs).part_values)

      pub part_further : total ≤ 132 → (y : List ℕ) → list_in y further_at total ≡ map normal (list_in x standard_at total)
          → FurtherHas joint (standard (whole_part gs hs)) y total
      part_further few y copied = record {
        rises = rw J.support (support_rises (gs ++ hs));
        places = J.few;
        few = few;
        on = rw J.support (standard_on gs hs);
        list = rw J.support (copied ∙ ap (map normal) standards_are ∙ values);
      }

-- ---- the call

pub common_is : (gs hs : List Pauli) (o : Order) → o ≡ partial_cmp none none gs hs → whole_common gs hs ≡ lesser o gs hs (standard (whole_part gs hs))
unfolding whole_common
common_is gs hs o e = sym (ap (λ p. lesser p gs hs (standard (whole_part gs hs))) e)
