-- Elements times elements of a group: p is g times one of them.
use mathlib.Core.Path.{◌≡◌, refl, sym, ap, ◌∙◌}
use mathlib.Core.List.{List}
use Prim.Native.Nat.{ℕ, ◌+◌, ◌*◌}
use native.Mathlib.Omega.{arith}
use Rattle.pauli.specs.Pauli.{Pauli, I, times, turned, order_four}
use Rattle.pauli.proofs.signed.Algebra.{times_assoc, times-I, times_lt, times_self, turned_times_r, turned_turned, turned_normal}
use Rattle.pauli_theory.specs.Group.{Generated, Inside}
use Rattle.pauli_theory.specs.Membership.{exponent_left}
use Rattle.pauli_theory.specs.Theorems.{Coset}
use Rattle.pauli_theory.proofs.Agree.{Divisor, four, Agree, agree_path, agree_flip, agree_join, agree_normal, agree_times, agree_turned, same_agree, agree_same, left_same, left_agree, Subgroup}
use Rattle.pauli_theory.proofs.Group.{generated_subgroup}
use Rattle.pauli_theory.proofs.Powers.{Power, powers, turned_in}

-- ---- a factor taken back: x to the fourth is I
times_twice : (p x : Pauli) → times (times p x) x ≡ turned (2 * order_four x) p
times_twice p x =
    times_assoc p x x ∙ ap (times p) (times_self x) ∙ turned_times_r (2 * order_four x) p I ∙ ap (turned (2 * order_four x)) (times-I p)
    ∙ turned_normal (2 * order_four x) p

pub undo : {Q : Pauli → Type 0} → Subgroup 4 Q → (p x : Pauli) → Q (times p x) → Q x → Q p
undo {Q} S p x a b =
    S.agrees _ p
    (agree_join (agree_path 4 (times_twice (times (times p x) x) x ∙ ap (turned k) (times_twice p x) ∙ turned_turned k k p))
    (agree_turned (k + k) p four (omega arith)))
    (S.products _ x (S.products _ x (S.products _ x a b) b) b)
  where
    k : ℕ
    k = 2 * order_four x

-- ---- cosets
module _ (hs : List Pauli) where
  pub coset_self : (g : Pauli) → Coset hs g g
  coset_self g = record {
    factor = I;
    generated = (generated_subgroup hs).unit;
    equals = agree_same (agree_join (agree_path 4 (times-I g)) (agree_normal g four));
  }

  pub coset_times : (g p h : Pauli) → Coset hs g p → Generated hs h → Coset hs g (times p h)
  coset_times g p h c a = record {
    factor = times c.factor h;
    generated = (generated_subgroup hs).products c.factor h c.generated a;
    equals =
        agree_same (agree_join (agree_path 4 (sym (times_assoc g c.factor h))) (agree_times four (same_agree four c.equals) (agree_path 4 refl)));
  }

  -- with i^m in the group, up to i^m
  pub coset_agree : {m : ℕ} → Divisor m → Power hs m → (g p r : Pauli) → Agree m r p → Coset hs g p → Coset hs g r
  coset_agree d a g p r h c =
      let q = c.factor in
      let n = times g q in
      let k = exponent_left r n in
      let b = agree_join h (agree_flip (same_agree d c.equals)) in
      record {
        factor = turned k q;
        generated = turned_in hs k q (powers hs d a k (left_agree d (times_lt g q) b)) c.generated;
        equals = agree_same (agree_join (agree_path 4 (turned_times_r k g q)) (same_agree four (left_same r n (times_lt g q) b.x b.z)));
      }

  -- in a group that has hs
  module _ (ks : List Pauli) (f : Inside hs ks) (g p : Pauli) (c : Coset hs g p) where
    pub coset_in : Generated ks g → Generated ks p
    unfolding Inside
    coset_in a =
        (generated_subgroup ks).agrees _ p (same_agree four c.equals)
        ((generated_subgroup ks).products g c.factor a (f c.factor c.generated))

    pub coset_back : Generated ks p → Generated ks g
    unfolding Inside
    coset_back a =
        undo (generated_subgroup ks) g c.factor
        ((generated_subgroup ks).agrees p _ (agree_flip (same_agree four c.equals)) a) (f c.factor c.generated)
