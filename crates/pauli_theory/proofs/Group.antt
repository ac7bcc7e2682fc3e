-- The generated group is closed under products and holds its generators; it lies in every closed set that has them.
use mathlib.Core.Path.{◌≡◌, sym, ap, ap₂, ◌∙◌}
use mathlib.Core.List.{List, [], ◌∷◌, ◌++◌, map, map-append}
use Prim.Native.Nat.{ℕ, ◌*◌, ◌<◌}
use native.Mathlib.Omega.{arith}
use lib.ListN.{length, get_or}
use Rattle.binar.proofs.row.Bits.{xor_zero_l, dot_zero_l}
use Rattle.binar.proofs.Lists.{all_join, all_left, all_right, all_get, all_by, all_over, all_map}
use Rattle.pauli.specs.Support.{All}
use Rattle.pauli.specs.Pauli.{Pauli, I, times, turned, order_four, product, indexed_product}
use Rattle.pauli.proofs.signed.Algebra.{pauli_path, times_assoc, times_self, times-I}
use Rattle.pauli.proofs.signed.Products.{product_cons, product_none, product_append}
use Rattle.pauli_theory.specs.Group.{Generated, Inside, SameGroup}
use Rattle.pauli_theory.specs.Theorems.{GeneratedLaw, JoinedLaw}
use Rattle.pauli_theory.proofs.Agree.{Divisor, four, agree_path, agree_join, agree_normal, agree_times, same_agree, agree_same, Subgroup, product_in, indexed_in}

-- an element four times
signs_square : (k : ℕ) → times (turned (2 * k) I) (turned (2 * k) I) ≡ I
unfolding times turned I
signs_square k = pauli_path (omega (arith, dot_zero_l 0)) (xor_zero_l 0) (xor_zero_l 0)

four_times : (p : Pauli) → times (times p p) (times p p) ≡ I
four_times p = ap₂ times (times_self p) (times_self p) ∙ signs_square (order_four p)

-- the generators with these indexes
abbrev named : List Pauli → List ℕ → List Pauli
named gs is = map (λ i. get_or gs i I) is

pub generated_in : {m : ℕ} {Q : Pauli → Type 0} → Subgroup m Q → Divisor m → (gs : List Pauli) → All Q gs → (p : Pauli) → Generated gs p → Q p
generated_in {Q} S d gs h p a =
    S.agrees _ p (same_agree d a.equals)
    (product_in S _ (all_over Q (λ i. get_or gs i I) a.indexes (all_map (λ i l. all_get Q gs I h i l) a.indexes a.within)))

module _ (gs : List Pauli) where
  generated_times : (p q : Pauli) → Generated gs p → Generated gs q → Generated gs (times p q)
  generated_times p q a b = record {
    indexes = a.indexes ++ b.indexes;
    within = all_join (λ i. i < length gs) a.indexes b.indexes a.within b.within;
    equals =
        agree_same
        (agree_join (agree_path 4 (ap product (map-append (λ i. get_or gs i I) a.indexes b.indexes) ∙ product_append (named gs a.indexes) (named gs b.indexes)))
        (agree_times four (same_agree four a.equals) (same_agree four b.equals)));
  }

  pub generated_subgroup : Subgroup 4 (Generated gs)
  generated_subgroup = record {
    agrees = λ p q h a. record { indexes = a.indexes; within = a.within; equals = agree_same (agree_join (same_agree four a.equals) h) };
    unit = record { indexes = []; within = tt; equals = agree_same (agree_path 4 product_none) };
    products = generated_times;
  }

  pub generator : (i : ℕ) → i < length gs → Generated gs (get_or gs i I)
  generator i l =
      let g = get_or gs i I in
      record {
        indexes = i ∷ [];
        within = (l, tt);
        equals = agree_same (agree_join (agree_path 4 (product_cons g [] ∙ ap (times g) product_none ∙ times-I g)) (agree_normal g four));
      }

  -- an element three times is its inverse
  pub generated_law : GeneratedLaw gs
  generated_law =
      let S = generated_subgroup in
      record {
        identity = S.unit;
        generators = generator;
        products = S.products;
        inverses = λ p a. (
          times p (times p p),
          S.products p (times p p) a (S.products p p a a),
          sym (times_assoc p p (times p p)) ∙ four_times p,
          ap (λ (q : Pauli). times q p) (sym (times_assoc p p p)) ∙ times_assoc (times p p) p p ∙ four_times p,
        );
      }

  pub generators : All (Generated gs) gs
  generators = all_by (Generated gs) gs I generator

  pub generated_indexed : (s : ℕ) → Generated gs (indexed_product s gs)
  generated_indexed = indexed_in generated_subgroup gs generators

-- ---- one group inside another
pub inside_by : (gs hs : List Pauli) → All (Generated hs) gs → Inside gs hs
unfolding Inside
inside_by gs hs h = generated_in (generated_subgroup hs) four gs h

pub all_inside : (gs hs : List Pauli) → Inside gs hs → All (Generated hs) gs
unfolding Inside
all_inside gs hs f = all_map f gs (generators gs)

pub inside_join : (gs hs ks : List Pauli) → Inside gs hs → Inside hs ks → Inside gs ks
unfolding Inside
inside_join gs hs ks f g p a = g p (f p a)

pub joined_law : (gs hs : List Pauli) → JoinedLaw gs hs
joined_law gs hs = record {
  left = inside_by gs (gs ++ hs) (all_left (Generated (gs ++ hs)) gs hs (generators (gs ++ hs)));
  right = inside_by hs (gs ++ hs) (all_right (Generated (gs ++ hs)) gs hs (generators (gs ++ hs)));
}

-- the joined group is the least that has both, so it is the group of a list whose group has the other's
pub joined_least : (gs hs ks : List Pauli) → Inside gs ks → Inside hs ks → Inside (gs ++ hs) ks
joined_least gs hs ks f g = inside_by (gs ++ hs) ks (all_join (Generated ks) gs hs (all_inside gs ks f) (all_inside hs ks g))

pub joined_left : (gs hs : List Pauli) → Inside hs gs → SameGroup gs (gs ++ hs)
unfolding Inside
joined_left gs hs f = record { there = (joined_law gs hs).left; back = joined_least gs hs gs (λ p a. a) f }

pub joined_right : (gs hs : List Pauli) → Inside gs hs → SameGroup hs (gs ++ hs)
unfolding Inside
joined_right gs hs f = record { there = (joined_law gs hs).right; back = joined_least gs hs hs f (λ p a. a) }

pub left_joined : (gs hs : List Pauli) → Inside (gs ++ hs) gs → Inside hs gs
left_joined gs hs f = inside_join hs (gs ++ hs) gs (joined_law gs hs).right f

pub right_joined : (gs hs : List Pauli) → Inside (gs ++ hs) hs → Inside gs hs
right_joined gs hs f = inside_join gs (gs ++ hs) hs (joined_law gs hs).left f
