-- The law of the whole common part: whichever list is returned, it generates what both groups have.
use mathlib.Core.Path.{◌≡◌, refl, sym, ◌∙◌}
use mathlib.Core.List.{List, [], ◌∷◌, ◌++◌}
use mathlib.Core.Option.{Option, none}
use Prim.Native.Nat.{◌+◌, ◌≤◌, min}
use native.Mathlib.Omega.{arith}
use lib.ListN.{length, length-append}
use Rattle.binar.proofs.Lists.{all_map}
use Rattle.pauli.specs.Roll.{most_paulis}
use Rattle.pauli.specs.Pauli.{Pauli, times}
use Rattle.pauli_theory.specs.Group.{Generated, Inside, SameGroup, Promise, Honest}
use Rattle.pauli_theory.specs.Standard.{rank, standard}
use Rattle.pauli_theory.specs.Order.{Order, equal, less, greater, no_order, partial_cmp}
use Rattle.pauli_theory.specs.Common.{common_basis, common_phase, common_phases, lesser}
use Rattle.pauli_theory.specs.WholeCommon.{or_else, if_none, paired, kept_from, whole_part, whole_common}
use Rattle.pauli_theory.specs.WholeCommonTheorems.{Apart, WholeCommonLaw}
use Rattle.pauli_theory.proofs.Group.{all_inside, inside_join, joined_law}
use Rattle.pauli_theory.proofs.Rows.{generated_on}
use Rattle.pauli_theory.proofs.StandardLaw.{standard_law}
use Rattle.pauli_theory.proofs.Canonical.{canonical_law}
use Rattle.pauli_theory.proofs.Rank.{rank_le}
use Rattle.pauli_theory.proofs.Order.{Outcome, compared}
use Rattle.pauli_theory.proofs.Common.{cons_some_count, phases_few, common_basis_law}
use Rattle.pauli_theory.proofs.CommonCount.{standard_fit}
use Rattle.pauli_theory.proofs.WholeCommon.{part_in_left, part_in_right, part_whole}

kept_count : (f : Pauli → Option Pauli) (mul : Pauli → Pauli → Pauli) (first : Option Pauli) (ps : List Pauli)
    → length (kept_from f mul first ps) ≤ length ps
unfolding kept_from
kept_count f mul first [] = omega arith
kept_count f mul first (p ∷ ps) =
    let later = or_else first (if_none (f p) p) in
    omega (arith, cons_some_count (or_else (f p) (paired f mul first p)) (kept_from f mul later ps), kept_count f mul later ps)

-- ---- the list that is returned
module _ (gs hs : List Pauli) where
  module _ {X : Type 0} (x y z : X) where
    lesser_first : (o : Order) → Outcome gs hs o → Inside gs hs → lesser o x y z ≡ x
    unfolding lesser
    lesser_first equal c f = refl
    lesser_first less c f = refl
    lesser_first greater c f = absurd (c.1 f)
    lesser_first no_order c f = absurd (c.0 f)

    lesser_second : (o : Order) → Outcome gs hs o → Inside hs gs → (Inside gs hs → ⊥) → lesser o x y z ≡ y
    unfolding lesser
    lesser_second equal c f n = absurd (n c.there)
    lesser_second less c f n = absurd (n c.0)
    lesser_second greater c f n = refl
    lesser_second no_order c f n = absurd (c.1 f)

    lesser_neither : (o : Order) → Outcome gs hs o → (Inside gs hs → ⊥) → (Inside hs gs → ⊥) → lesser o x y z ≡ z
    unfolding lesser
    lesser_neither equal c m n = absurd (m c.there)
    lesser_neither less c m n = absurd (m c.0)
    lesser_neither greater c m n = absurd (n c.0)
    lesser_neither no_order c m n = refl

  abbrev part : List Pauli
  part = standard (whole_part gs hs)

  standard_left : Inside part gs
  standard_left = inside_join part (whole_part gs hs) gs (standard_law (whole_part gs hs)).generates.there (part_in_left gs hs)

  standard_right : Inside part hs
  standard_right = inside_join part (whole_part gs hs) hs (standard_law (whole_part gs hs)).generates.there (part_in_right gs hs)

  standard_whole : (p : Pauli) → Generated gs p → Generated hs p → Generated part p
  unfolding Inside
  standard_whole p a b = (standard_law (whole_part gs hs)).generates.back p (part_whole gs hs p a b)

  outcome : Outcome gs hs (partial_cmp Promise.none Promise.none gs hs)
  unfolding Honest
  outcome = compared Promise.none Promise.none gs hs tt tt

  -- by the four outcomes
  lesser_left : (o : Order) → Outcome gs hs o → Inside (lesser o gs hs part) gs
  unfolding lesser Inside
  lesser_left equal c p a = a
  lesser_left less c p a = a
  lesser_left greater c p a = c.0 p a
  lesser_left no_order c p a = standard_left p a

  lesser_right : (o : Order) → Outcome gs hs o → Inside (lesser o gs hs part) hs
  unfolding lesser Inside
  lesser_right equal c p a = c.there p a
  lesser_right less c p a = c.0 p a
  lesser_right greater c p a = a
  lesser_right no_order c p a = standard_right p a

  lesser_whole : (o : Order) (p : Pauli) → Generated gs p → Generated hs p → Generated (lesser o gs hs part) p
  unfolding lesser
  lesser_whole equal p a b = a
  lesser_whole less p a b = a
  lesser_whole greater p a b = b
  lesser_whole no_order p a b = standard_whole p a b

  in_left : Inside (whole_common gs hs) gs
  unfolding whole_common
  in_left = lesser_left _ outcome

  in_right : Inside (whole_common gs hs) hs
  unfolding whole_common
  in_right = lesser_right _ outcome

  whole : (p : Pauli) → Generated gs p → Generated hs p → Generated (whole_common gs hs) p
  unfolding whole_common
  whole = lesser_whole _

  inside_left : Inside gs hs → whole_common gs hs ≡ gs
  unfolding whole_common
  inside_left = lesser_first gs hs part _ outcome

  inside_right : Inside hs gs → (Inside gs hs → ⊥) → whole_common gs hs ≡ hs
  unfolding whole_common
  inside_right = lesser_second gs hs part _ outcome

  else_standard : Apart gs hs → whole_common gs hs ≡ part
  unfolding whole_common
  else_standard a = lesser_neither gs hs part _ outcome a.left a.right

  own_standard : Apart gs hs → standard (whole_common gs hs) ≡ whole_common gs hs
  own_standard a = rw (else_standard a) ((canonical_law part (whole_part gs hs)).same_standard (standard_law (whole_part gs hs)).generates)

  -- ---- counts
  part_few : length gs + length hs ≤ most_paulis → length (whole_part gs hs) ≤ 68
  unfolding whole_part most_paulis
  part_few l =
      let B = common_basis gs hs in
      let f = common_phase Promise.none Promise.none gs hs in
      omega (
        arith,
        length-append (kept_from f times none B) (common_phases Promise.none Promise.none gs hs),
        kept_count f times none B,
        phases_few gs hs Promise.none Promise.none,
        (common_basis_law gs hs).count,
        (standard_law gs).count,
        (standard_law hs).count,
      )

  part_ranks : length part ≤ min (rank gs) (rank hs) + 1
  part_ranks =
      omega (
        arith,
        standard_fit (whole_part gs hs),
        rank_le (whole_part gs hs) gs (part_in_left gs hs),
        rank_le (whole_part gs hs) hs (part_in_right gs hs),
      )

  lesser_count : length gs + length hs ≤ 128 → (o : Order) → length (lesser o gs hs part) ≤ 128
  unfolding lesser most_paulis
  lesser_count l equal = omega arith
  lesser_count l less = omega arith
  lesser_count l greater = omega arith
  lesser_count l no_order = omega (arith, part_few l, (standard_law (whole_part gs hs)).count)

  count : length gs + length hs ≤ most_paulis → length (whole_common gs hs) ≤ most_paulis
  unfolding whole_common most_paulis
  count l = lesser_count l _

-- ---- groups, not lists
apart_same : (gs hs ks ls : List Pauli) → SameGroup gs ks → SameGroup hs ls → Apart gs hs → Apart ks ls
apart_same gs hs ks ls s t a = record {
  left = λ f. a.left (inside_join gs ks hs s.there (inside_join ks ls hs f t.back));
  right = λ f. a.right (inside_join hs ls gs t.there (inside_join ls ks gs f s.back));
}

common_inside : (gs hs ks ls : List Pauli) → SameGroup gs ks → SameGroup hs ls → Inside (whole_common gs hs) (whole_common ks ls)
unfolding Inside
common_inside gs hs ks ls s t p a = whole ks ls p (s.there p (in_left gs hs p a)) (t.there p (in_right gs hs p a))

same_flip : {gs hs : List Pauli} → SameGroup gs hs → SameGroup hs gs
same_flip s = record { there = s.back; back = s.there }

same_list : (gs hs ks ls : List Pauli) → SameGroup gs ks → SameGroup hs ls → Apart gs hs → whole_common gs hs ≡ whole_common ks ls
same_list gs hs ks ls s t a =
    sym (own_standard gs hs a)
    ∙ (canonical_law (whole_common gs hs) (whole_common ks ls)).same_standard
    (record { there = common_inside gs hs ks ls s t; back = common_inside ks ls gs hs (same_flip s) (same_flip t) })
    ∙ own_standard ks ls (apart_same gs hs ks ls s t a)

pub whole_common_law : (gs hs : List Pauli) → WholeCommonLaw gs hs
whole_common_law gs hs =
    let ps = whole_common gs hs in
    record {
      in_left = in_left gs hs;
      in_right = in_right gs hs;
      whole = whole gs hs;
      inside_left = inside_left gs hs;
      inside_right = inside_right gs hs;
      else_standard = else_standard gs hs;
      own_standard = own_standard gs hs;
      same_list = same_list gs hs;
      on_left = all_map (generated_on gs) ps (all_inside ps gs (in_left gs hs));
      on_right = all_map (generated_on hs) ps (all_inside ps hs (in_right gs hs));
      on_joined = all_map (generated_on (gs ++ hs)) ps (all_inside ps (gs ++ hs) (inside_join ps gs (gs ++ hs) (in_left gs hs) (joined_law gs hs).left));
      count = count gs hs;
      part_ranks = part_ranks gs hs;
      part_values = (standard_law (whole_part gs hs)).values;
      part_few = part_few gs hs;
    }
