-- Comparison, by numbers of phases and ranks, is inclusion of groups.
use mathlib.Core.Path.{◌≡◌, refl, sym, ap, ap₂, ◌∙◌, subst}
use mathlib.Core.Bool.{Bool, true, false}
use mathlib.Core.List.{List, ◌++◌}
use Prim.Native.Nat.{ℕ, ◌/◌, ◌≤◌, ◌<◌}
use native.Mathlib.Nat.{le_trans, mul-le-mul_left, le-div_iff_mul-le, div-mul-le_self}
use native.Mathlib.Omega.{arith}
use lib.Dec.{eqb}
use borrow.Author.Tests.{eqb-true, eq-eqb, le-leb}
use Rattle.pauli.specs.Support.{All}
use Rattle.pauli.specs.Pauli.{Pauli}
use Rattle.pauli_theory.specs.Group.{Generated, Inside, SameGroup, Promise, none, Honest}
use Rattle.pauli_theory.specs.Standard.{rank}
use Rattle.pauli_theory.specs.Order.{Order, equal, less, greater, no_order, Ranks, ranks_of, and, same_ranks, no_more, first_of, partial_cmp}
use Rattle.pauli_theory.specs.Theorems.{OrderLaw, AgainstJoinedLaw}
use Rattle.pauli_theory.proofs.Agree.{Divisor, one, two, four, divisor_positive}
use Rattle.pauli_theory.proofs.Group.{inside_by, all_inside, joined_law, joined_left, joined_right, left_joined, right_joined}
use Rattle.pauli_theory.proofs.Grade.{grade, grade_divisor}
use Rattle.pauli_theory.proofs.Phases.{phase_step_grade}
use Rattle.pauli_theory.proofs.Canonical.{grade_le, grade_same, canonical_law}
use Rattle.pauli_theory.proofs.Rank.{rank_le, inside_back}

-- ---- numbers of phases
phases_of_lem : {m : ℕ} → Divisor m → 4 / (4 / m) ≡ m
phases_of_lem one = refl
phases_of_lem two = refl
phases_of_lem four = refl

phases_le : (m n : ℕ) → 0 < n → n ≤ m → 4 / m ≤ 4 / n
phases_le m n p l = (le-div_iff_mul-le p).1 (le_trans (mul-le-mul_left (4 / m) l) (div-mul-le_self 4 m))

-- ---- the ranks of two lists
-- the phases of a group are those of its grade
ranks : List Pauli → Ranks
ranks gs = record { phases = 4 / grade gs; rank = rank gs }

ranks_are : (promise : Promise) (gs : List Pauli) → Honest promise gs → ranks_of promise gs ≡ ranks gs
unfolding ranks_of ranks
ranks_are promise gs h = ap (λ (m : ℕ). record { phases = 4 / m; rank = rank gs }) (phase_step_grade promise gs h)

and_left : (a b : Bool) → and a b ≡ true → a ≡ true
and_left true b e = refl
and_left false b e = e

and_right : (a b : Bool) → and a b ≡ true → b ≡ true
and_right true b e = e
and_right false b e = let z : ◌≡◌ {A = ℕ} 0 1 = cc in absurd (omega arith)

module _ (gs hs : List Pauli) where
  same_ranks_lem : same_ranks (ranks gs) (ranks hs) ≡ true → (rank gs ≡ rank hs) × (grade gs ≡ grade hs)
  unfolding same_ranks ranks
  same_ranks_lem e = (
    eqb-true (rank gs) (rank hs) (and_right (eqb (4 / grade gs) (4 / grade hs)) _ e),
    sym (phases_of_lem (grade_divisor gs)) ∙ ap (4 /◌) (eqb-true (4 / grade gs) (4 / grade hs) (and_left _ (eqb (rank gs) (rank hs)) e)) ∙ phases_of_lem (grade_divisor hs),
  )

  ranks_same : rank gs ≡ rank hs → grade gs ≡ grade hs → same_ranks (ranks gs) (ranks hs) ≡ true
  unfolding same_ranks ranks
  ranks_same r g = ap₂ and (eq-eqb (4 / grade gs) (4 / grade hs) (ap (λ (m : ℕ). 4 / m) g)) (eq-eqb (rank gs) (rank hs) r)

  -- inside another group: no more ranks; and as many exactly for the same group
  inside_no_more : Inside gs hs → no_more (ranks gs) (ranks hs) ≡ true
  unfolding no_more ranks
  inside_no_more f =
      ap₂ and (le-leb (4 / grade gs) (4 / grade hs) (phases_le (grade gs) (grade hs) (divisor_positive (grade_divisor hs)) (grade_le gs hs f)))
      (le-leb (rank gs) (rank hs) (rank_le gs hs f))

  inside_same : Inside gs hs → same_ranks (ranks gs) (ranks hs) ≡ true → Inside hs gs
  inside_same f e = let r = same_ranks_lem e in inside_back gs hs f r.0 r.1

  group_ranks : SameGroup gs hs → same_ranks (ranks gs) (ranks hs) ≡ true
  group_ranks s = ranks_same (omega (arith, rank_le gs hs s.there, rank_le hs gs s.back)) (grade_same gs hs s.there s.back)

-- ---- a list and the two joined
module _ (gs hs : List Pauli) where
  above_joined : same_ranks (ranks gs) (ranks (gs ++ hs)) ≡ true → Inside hs gs
  above_joined e = left_joined gs hs (inside_same gs (gs ++ hs) (joined_law gs hs).left e)

  joined_above : Inside hs gs → same_ranks (ranks gs) (ranks (gs ++ hs)) ≡ true
  joined_above f = group_ranks gs (gs ++ hs) (joined_left gs hs f)

  below_joined : same_ranks (ranks hs) (ranks (gs ++ hs)) ≡ true → Inside gs hs
  below_joined e = right_joined gs hs (inside_same hs (gs ++ hs) (joined_law gs hs).right e)

  joined_below : Inside gs hs → same_ranks (ranks hs) (ranks (gs ++ hs)) ≡ true
  joined_below f = group_ranks hs (gs ++ hs) (joined_right gs hs f)

-- ---- the four outcomes
abbrev pub Outcome : List Pauli → List Pauli → Order → Type 0
Outcome gs hs equal = SameGroup gs hs
Outcome gs hs less = Inside gs hs × (Inside hs gs → ⊥)
Outcome gs hs greater = Inside hs gs × (Inside gs hs → ⊥)
Outcome gs hs no_order = (Inside gs hs → ⊥) × (Inside hs gs → ⊥)

-- no two hold at once
one_outcome : (gs hs : List Pauli) (o r : Order) → Outcome gs hs o → Outcome gs hs r → o ≡ r
one_outcome gs hs equal equal a b = refl
one_outcome gs hs equal less a b = absurd (b.1 a.back)
one_outcome gs hs equal greater a b = absurd (b.1 a.there)
one_outcome gs hs equal no_order a b = absurd (b.0 a.there)
one_outcome gs hs less equal a b = absurd (a.1 b.back)
one_outcome gs hs less less a b = refl
one_outcome gs hs less greater a b = absurd (a.1 b.0)
one_outcome gs hs less no_order a b = absurd (b.0 a.0)
one_outcome gs hs greater equal a b = absurd (a.1 b.there)
one_outcome gs hs greater less a b = absurd (a.1 b.0)
one_outcome gs hs greater greater a b = refl
one_outcome gs hs greater no_order a b = absurd (b.1 a.0)
one_outcome gs hs no_order equal a b = absurd (a.0 b.there)
one_outcome gs hs no_order less a b = absurd (a.0 b.0)
one_outcome gs hs no_order greater a b = absurd (a.1 b.0)
one_outcome gs hs no_order no_order a b = refl

not_both : {C : Type 0} {b : Bool} → b ≡ false → b ≡ true → C
not_both e f = let z : ◌≡◌ {A = ℕ} 0 1 = cc in absurd (omega arith)

and_false : (b : Bool) → and b false ≡ false
and_false true = refl
and_false false = refl

module _ (gs hs : List Pauli) where
  -- by the tests: the left list's and the right list's ranks are those of the two joined; they are the same; they are no more
  by_tests : (x y u n : Bool) → same_ranks (ranks gs) (ranks (gs ++ hs)) ≡ x → same_ranks (ranks hs) (ranks (gs ++ hs)) ≡ y
      → same_ranks (ranks gs) (ranks hs) ≡ u → no_more (ranks gs) (ranks hs) ≡ n → Outcome gs hs (first_of (and u x) (and n y) x)
  unfolding first_of
  by_tests true true true n hx hy hu hn = record { there = below_joined gs hs hy; back = above_joined gs hs hx }
  by_tests true true false n hx hy hu hn = not_both hu (group_ranks gs hs (record { there = below_joined gs hs hy; back = above_joined gs hs hx }))
  by_tests true false true n hx hy hu hn =
      let r = same_ranks_lem gs hs hu in
      not_both hy (joined_below gs hs (inside_back hs gs (above_joined gs hs hx) (sym r.0) (sym r.1)))
  by_tests true false false n hx hy hu hn = rw (and_false n) (above_joined gs hs hx, λ f. not_both hy (joined_below gs hs f))
  by_tests false true u true hx hy hu hn = rw (and_false u) (below_joined gs hs hy, λ f. not_both hx (joined_above gs hs f))
  by_tests false true u false hx hy hu hn = not_both hn (inside_no_more gs hs (below_joined gs hs hy))
  by_tests false false u n hx hy hu hn =
      rw (and_false u, and_false n) (λ f. not_both hy (joined_below gs hs f), λ f. not_both hx (joined_above gs hs f))

pub compared : (left right : Promise) (gs hs : List Pauli) → Honest left gs → Honest right hs → Outcome gs hs (partial_cmp left right gs hs)
unfolding partial_cmp Honest
compared left right gs hs hl hr =
    rw (ranks_are left gs hl, ranks_are right hs hr, ranks_are none (gs ++ hs) tt) (by_tests gs hs _ _ _ _ refl refl refl refl)

pub order_law : (left right : Promise) (gs hs : List Pauli) → Honest left gs → Honest right hs → OrderLaw left right gs hs
order_law left right gs hs hl hr =
    let c = compared left right gs hs hl hr in
    let L = canonical_law gs hs in
    let G = canonical_law gs (gs ++ hs) in
    let R = canonical_law hs (gs ++ hs) in
    let only : (o : Order) → Outcome gs hs o → partial_cmp left right gs hs ≡ o = λ o a. one_outcome gs hs (partial_cmp left right gs hs) o c a in
    record {
      equal_right = λ e. subst (Outcome gs hs) e c;
      equal_only = only equal;
      less_right = λ e. subst (Outcome gs hs) e c;
      less_only = λ f n. only less (f, n);
      greater_right = λ e. subst (Outcome gs hs) e c;
      greater_only = λ g n. only greater (g, n);
      standard_equal = λ e. only equal (L.same_group e);
      standard_less = λ n e. let f = right_joined gs hs (R.same_group e).back in only less (f, λ g. n (L.same_standard (record { there = f; back = g })));
      standard_greater = λ n m e. only greater (left_joined gs hs (G.same_group e).back, λ f. m (R.same_standard (joined_right gs hs f)));
      standard_none = λ m n. only no_order (λ f. m (R.same_standard (joined_right gs hs f)), λ g. n (G.same_standard (joined_left gs hs g)));
    }

-- ---- a list against itself joined with another
pub against_joined_law : (left right : Promise) (gs hs : List Pauli) → Honest left gs → Honest right (gs ++ hs) → AgainstJoinedLaw left right gs hs
against_joined_law left right gs hs hl hr =
    let L = order_law left right gs (gs ++ hs) hl hr in
    let each : Inside (gs ++ hs) gs → All (Generated gs) hs = λ f. all_inside hs gs (left_joined gs hs f) in
    record {
      equal_when = λ h. L.equal_only (joined_left gs hs (inside_by hs gs h));
      equal_only = λ e. each (L.equal_right e).back;
      else_less = λ n. L.less_only (joined_law gs hs).left (λ f. n (each f));
    }
