-- Laws of the common basis in the work area: the standard generators of two lists stacked, and the two reductions.
use Rattle.std.proofs.Common.{◌≡◌, ℕ, ◌+◌, ◌-◌, ◌*◌, ◌^◌, ◌<◌, ◌≤◌, List, ◌++◌, map, length, get_or, take, drop, refl, ap, ◌∙◌, ap₂, arith, length-drop, take_all}
use mathlib.Core.List.{Memᴰ as Mem}
use lib.ListN.{length-map}
use Rattle.binar.specs.Echelon.{Row, EchelonForm, rank as echelon_rank}
use Rattle.binar.specs.Layout.{form_in}
use Rattle.binar.proofs.echelon.Bounds.{rank_rows}
use Rattle.binar.proofs.Lists.{all_of, all_map, all_join, map_same}
use Rattle.binar.proofs.matrix_form.Theorems.{transform_law}
use Rattle.pauli.specs.Roll.{Sparse, support}
use Rattle.pauli.specs.Support.{most_qubits, All, Rising}
use Rattle.pauli.specs.Known.{Gathered}
use Rattle.pauli.proofs.support.Lists.{in_get_or}
use Rattle.pauli.specs.Condense.{condensed}
use Rattle.pauli.specs.Pauli.{Pauli, normal, indexed_product}
use Rattle.pauli.specs.Signed.{list_in}
use Rattle.pauli.specs.Writing.{OnPlaces}
use Rattle.pauli.proofs.signed.Algebra.{normal_lt}
use Rattle.pauli.proofs.write.Writers.{length_list}
use Rattle.pauli_theory.specs.Standard.{support_of, standard}
use Rattle.pauli_theory.specs.Inner.CommonPlaces.{form_of_places, dependency_products, basis_products, common_products}
use Rattle.pauli_theory.specs.Inner.ModuloPlaces.{moved_pauli}
use Rattle.pauli_theory.proofs.CommonCount.{stack_few}
use Rattle.pauli_theory.proofs.CommonPlaces.{dependency_on}
use Rattle.pauli_theory.proofs.ModuloPlaces.{joined, left_in_joined, right_in_joined, left_standard_on, moved_standard}
use Rattle.pauli_theory.proofs.OverPlaces.{placed}
use Rattle.pauli_theory.proofs.Placed.{condensed_on}
use Rattle.pauli_theory.proofs.Rows.{support_rises}
use Rattle.pauli_theory.proofs.StandardLaw.{standard_law}
use Rattle.pauli_theory.proofs.Written.{support_of_lem}
use Rattle.pauli_group.specs.Inner.Area.{standard_at, further_at, row_words, stride_of, Outside}
use Rattle.pauli_group.specs.Inner.Groups.{over_support, Grouped}
use Rattle.pauli_group.specs.Calls.{paulis}
use Rattle.pauli_group.specs.Inner.Lists.{row_over, form_over, products_by}
use Rattle.pauli_group.proofs.area.AreaLaws.{form_room_more}
use Rattle.pauli_group.proofs.group.BuildLaws.{products_rows}
use Rattle.pauli_group.proofs.group.GroupLaws.{known_is, places_are, places_few, paulis_append}
use Rattle.pauli_group.proofs.list.ListLaws.{list_append, list_kept, list_kept_after}
use Rattle.pauli_group.specs.Inner.Moved.{Movable, MovablePauli}
use Rattle.pauli_group.specs.Inner.Shared.{Joint, standard_over, Stack, basis_over}

-- ---- the joint support

pub joint_is : (ls rs : List Sparse) (qs : List ℕ) → Gathered (support (ls ++ rs)) qs → length (support (ls ++ rs)) ≤ most_qubits → Joint (paulis ls) (paulis rs) qs
unfolding paulis
joint_is ls rs qs g few =
    let same : support (ls ++ rs) ≡ support_of (paulis ls ++ paulis rs) = support_of_lem (ls ++ rs) ∙ ap support_of (paulis_append ls rs) in
    record {
      support = known_is (ls ++ rs) qs g few ∙ same;
      count = places_are (ls ++ rs) qs g few ∙ ap length same;
      few = places_few (ls ++ rs) qs g few;
    }

-- ---- standard generators moved

-- Paulis over the places of a list of numbers that are all in another
pub all_movable : (own qs : List ℕ) → Rising 0 own → Rising 0 qs → ((q : ℕ) → Mem q own → Mem q qs) → (ps : List Pauli) → All (MovablePauli own qs) ps
all_movable own qs a b inside ps =
    let m : (v : ℕ) → Movable own qs v = λ v. record { own_rises = a; rises = b; inside = λ i h e. inside (get_or own i 0) (in_get_or own i 0 h) } in
    all_of (λ p. (m p.x, m p.z)) ps

module _ {ks : List Pauli} {known x : List ℕ} {places rank total : ℕ} (G : Grouped ks known x places rank total) (qs : List ℕ) where
  pub grouped_movable : Rising 0 qs → ((q : ℕ) → Mem q (support_of ks) → Mem q qs) → All (MovablePauli known qs) (list_in x standard_at total)
  grouped_movable rises inside = rw G.support (all_movable (support_of ks) qs (support_rises ks) rises inside (list_in x standard_at total))

  pub grouped_moved : (y : List ℕ) (to : ℕ) → list_in y to total ≡ map (λ p. normal (moved_pauli known qs p)) (list_in x standard_at total)
      → list_in y to total ≡ standard_over qs ks
  unfolding standard_over over_support moved_pauli
  grouped_moved y to e =
      e ∙ rw (G.support, G.standards)
      (map_same (λ p. normal (moved_pauli (support_of ks) qs p)) (moved_pauli (support_of ks) qs) (standard (placed ks))
      (all_map (λ p l. normal_lt (moved_pauli (support_of ks) qs p) l) (standard (placed ks)) (standard_law (placed ks)).values))

-- the lists' supports are in the joint one
module _ (gs hs : List Pauli) (known : List ℕ) (J : Joint gs hs known) where
  pub joint_rises : Rising 0 known
  joint_rises = rw J.support (support_rises (gs ++ hs))

  pub joint_left : (q : ℕ) → Mem q (support_of gs) → Mem q known
  joint_left q m = rw J.support (left_in_joined gs hs q m)

  pub joint_right : (q : ℕ) → Mem q (support_of hs) → Mem q known
  joint_right q m = rw J.support (right_in_joined gs hs q m)

  -- the area with the first list's group and its moved generators, then with the second's
  pub stack_is : {own x : List ℕ} {places rank total : ℕ} → Grouped gs own x places rank total → (y : List ℕ)
      → list_in y further_at total ≡ map (λ p. normal (moved_pauli own known p)) (list_in x standard_at total)
      → {own₂ z : List ℕ} {places₂ rank₂ total₂ : ℕ} → Grouped hs own₂ z places₂ rank₂ total₂ → Outside 0 further_at y z → (u : List ℕ)
      → list_in u (further_at + 5 * total) total₂ ≡ map (λ p. normal (moved_pauli own₂ known p)) (list_in z standard_at total₂)
      → Outside (further_at + 5 * total) (5 * total₂) z u → Stack gs hs u total total₂
  stack_is {total = total} A y moved {total₂ = total₂} B o u moved₂ o₂ = record {
    first_is = A.count;
    second_is = B.count;
    left =
        list_kept o₂ further_at total (omega arith) ∙ list_kept_after o further_at total (omega arith) ∙ grouped_moved A known y further_at moved
        ∙ ap (λ (qs : List ℕ). standard_over qs gs) J.support;
    right = grouped_moved B known u (further_at + 5 * total) moved₂ ∙ ap (λ (qs : List ℕ). standard_over qs hs) J.support;
  }

pub standard_over_lem : (qs : List ℕ) (ks : List Pauli) → standard_over qs ks ≡ map (condensed qs) (standard ks)
unfolding standard_over over_support
standard_over_lem qs ks = moved_standard ks qs

-- ---- the two reductions

form_rows : (s : ℕ) (ps : List Pauli) → length (form_over s ps).rows ≡ length ps
unfolding form_over
form_rows s ps = (transform_law (2 * s) (map (row_over s) ps)).count ∙ length-map ps (row_over s)

form_rank : (s : ℕ) (ps : List Pauli) → echelon_rank (form_over s ps) ≤ length ps
unfolding form_over
form_rank s ps = omega (arith, rank_rows (2 * s) (map (row_over s) ps), length-map ps (row_over s))

form_places : (s : ℕ) (ps : List Pauli) → form_over s ps ≡ form_of_places s ps
unfolding form_over row_over
form_places s ps = refl

module _ (gs hs : List Pauli) (few : length gs + length hs ≤ 128) (x : List ℕ) (first second : ℕ) (S : Stack gs hs x first second) where
  abbrev qs : List ℕ
  qs = joined gs hs

  abbrev left : List Pauli
  left = standard_over qs gs

  abbrev right : List Pauli
  right = standard_over qs hs

  abbrev n : ℕ
  n = first + second

  stacked_list : list_in x further_at n ≡ left ++ right
  stacked_list = list_append x further_at first second ∙ ap₂ ◌++◌ S.left S.right

  counts : (n ≤ 129) × (n ≤ echelon_rank (form_of_places (length qs) (left ++ right)) + 128)
  unfolding standard_over over_support
  counts = rw (S.first_is, S.second_is) (stack_few gs hs few)

  pub stack_count : n ≤ 129
  stack_count = counts.0

  pub stack_first : first ≤ 128
  stack_first = let a = (standard_law gs).count in omega (arith, S.first_is)

  module _ (size : ℕ) (places : size ≡ length qs) where
    pub stack_on : OnPlaces size (list_in x further_at n)
    unfolding OnPlaces
    stack_on =
        rw (stacked_list, places, standard_over_lem qs gs, standard_over_lem qs hs)
        (all_join (λ p. (p.x < 2 ^ length qs) × (p.z < 2 ^ length qs)) (map (condensed qs) (standard gs)) (map (condensed qs) (standard hs))
        (condensed_on qs (standard gs)) (condensed_on qs (standard hs)))

    module _ (rank : ℕ) (rank_is : rank ≡ echelon_rank (form_over size (list_in x further_at n))) (y : List ℕ)
        (form : form_in (stride_of n) n row_words (2 * size) rank y ≡ form_over size (list_in x further_at n))
        (formed : Outside 0 (n * stride_of n + n) x y) where
      pub stack_rank : rank ≤ n
      stack_rank = omega (arith, rank_is, form_rank size (list_in x further_at n), length_list x further_at n)

      pub stack_zeros : n - rank ≤ 128
      stack_zeros =
          let e : rank ≡ echelon_rank (form_of_places (length qs) (left ++ right)) =
          rank_is ∙ ap₂ (λ (s : ℕ) (ps : List Pauli). echelon_rank (form_over s ps)) places stacked_list ∙ ap echelon_rank (form_places (length qs) (left ++ right)) in
          omega (arith, counts.1)

      abbrev D : List Pauli
      D = dependency_products (length qs) left right

      first_list : list_in y further_at first ≡ left
      first_list = list_kept_after formed further_at first (omega (arith, (form_room_more n stack_count).0)) ∙ S.left

      module _ (z : List ℕ) (put : list_in z standard_at (n - rank) ≡ products_by n rank (n - rank) y (list_in y further_at first)) where
        pub dependencies : list_in z standard_at (n - rank) ≡ D
        unfolding dependency_products
        dependencies =
            let F = form_over size (list_in x further_at n) in
            let all : take (n - rank) (drop rank F.rows) ≡ drop rank F.rows =
            take_all (n - rank) (drop rank F.rows)
            (omega (arith, length-drop rank F.rows, form_rows size (list_in x further_at n), length_list x further_at n)) in
            put ∙ products_rows n (2 * size) rank rank (n - rank) y (list_in y further_at first)
            ∙ ap₂ (λ (f : EchelonForm) (ps : List Pauli). map (λ (q : Row). indexed_product q.t ps) (take (n - rank) (drop rank f.rows))) form first_list
            ∙ ap (map (λ (q : Row). indexed_product q.t left)) all
            ∙ ap (λ (k : ℕ). map (λ (q : Row). indexed_product q.t left) (drop k F.rows)) rank_is
            ∙ ap (λ (f : EchelonForm). map (λ (q : Row). indexed_product q.t left) (drop (echelon_rank f) f.rows))
            (ap₂ form_over places stacked_list ∙ form_places (length qs) (left ++ right))

        pub dependencies_on : OnPlaces size (list_in z standard_at (n - rank))
        dependencies_on =
            rw (dependencies, places, standard_over_lem qs gs, standard_over_lem qs hs)
            (dependency_on qs (support_rises (gs ++ hs)) (standard gs) (standard hs) (left_standard_on gs hs) (standard_law gs).values)

        module _ (count : ℕ) (count-is : count ≡ echelon_rank (form_over size (list_in z standard_at (n - rank)))) (u : List ℕ)
            (form₂ : form_in (stride_of (n - rank)) (n - rank) row_words (2 * size) count u ≡ form_over size (list_in z standard_at (n - rank)))
            (formed₂ : Outside 0 ((n - rank) * stride_of (n - rank) + (n - rank)) z u) where
          pub basis_count : count ≤ n - rank
          basis_count = omega (arith, count-is, form_rank size (list_in z standard_at (n - rank)), length_list z standard_at (n - rank))

          second_list : list_in u standard_at (n - rank) ≡ D
          second_list =
              list_kept_after formed₂ standard_at (n - rank) (let k = stack_zeros in omega (arith, (form_room_more (n - rank) (omega (arith, k))).0)) ∙ dependencies

          pub basis_is : (v : List ℕ) → list_in v further_at count ≡ products_by (n - rank) 0 count u (list_in u standard_at (n - rank))
              → list_in v further_at count ≡ basis_over gs hs
          unfolding basis_over common_products basis_products
          basis_is v e =
              let P : List Pauli → Row → Pauli = λ ps q. indexed_product q.t ps in
              e ∙ products_rows (n - rank) (2 * size) count 0 count u (list_in u standard_at (n - rank))
              ∙ ap₂ (λ (f : EchelonForm) (ps : List Pauli). map (P ps) (take count f.rows)) form₂ second_list
              ∙ ap (λ (k : ℕ). map (P D) (take k (form_over size (list_in z standard_at (n - rank))).rows)) count-is
              ∙ ap (λ (f : EchelonForm). map (P D) (take (echelon_rank f) f.rows)) (ap₂ form_over places dependencies ∙ form_places (length qs) D)
