-- Laws of comparison: by numbers of phases and ranks, and what the call tells.
use Rattle.std.proofs.Common.{◌≡◌, ℕ, ◌/◌, ◌≤◌, List, ◌++◌, length, sym, ap, ◌∙◌}
use Rattle.pauli.specs.Condense.{list_of}
use Rattle.pauli.specs.Pauli.{Pauli}
use Rattle.pauli.specs.Told.{Told, answer, refused, map_told}
use Rattle.pauli.proofs.joined.JoinLaws.{Joining}
use Rattle.pauli_theory.specs.Group.{Promise, none}
use Rattle.pauli_theory.specs.Order.{Order, Ranks, ranks_of, partial_cmp}
use Rattle.pauli_group.specs.WorkArea.{work_words}
use Rattle.pauli_group.specs.declared.group.Description.{Description}
use Rattle.pauli_group.specs.Inner.Groups.{facts_in, facts_of}
use Rattle.pauli_group.specs.Calls.{paulis, Pair, two_lists, order_call}
use Rattle.pauli_group.specs.Inner.Compare.{order_by}
use Rattle.pauli_group.specs.Inner.Lists.{step_told}
use Rattle.pauli_group.proofs.checks.TwoLists.{pair_long}
use Rattle.pauli_group.proofs.group.GroupLaws.{facts_told}

-- ---- the numbers of a described group

module _ (promise : Promise) (gs : List Pauli) (d : Description) (e : facts_in d ≡ facts_of promise gs) where
  pub ranks_are : (phases k : ℕ) → phases ≡ 4 / step_told d.signs.phases → k ≡ d.rank → record { phases = phases; rank = k } ≡ ranks_of promise gs
  unfolding ranks_of
  ranks_are phases k ep ek =
      let f = facts_told promise gs d e in
      λ i. record { phases = (ep ∙ ap (4 /◌) f.step_is) i; rank = (ek ∙ f.rank_is) i }

pub compared : (left right : Promise) (ls rs : List Pauli) (a b both : Ranks) → a ≡ ranks_of left ls → b ≡ ranks_of right rs → both ≡ ranks_of none (ls ++ rs)
    → order_by a b both ≡ partial_cmp left right ls rs
unfolding order_by partial_cmp
compared left right ls rs a b both ea eb ej = rw (ea, eb, ej)

-- ---- the call, answered and refused

module _ (l r work : List ℕ) where
  abbrev both : Told Pair
  both = two_lists l r (length work)

  module _ {m p : ℕ} (e : both ≡ refused m p) (left right : Promise) where
    pub order_refused : refused m p ≡ order_call left right l r (length work)
    unfolding order_call map_told
    order_refused = sym (ap (map_told (λ b. partial_cmp left right b.left b.right)) e)

  module _ (nl nr : ℕ) (j : Joining l r nl nr) (room : work_words ≤ length work) where
    pub order_answered : (left right : Promise) (o : Order) → o ≡ partial_cmp left right (paulis (list_of l)) (paulis (list_of r)) → answer o ≡ order_call left right l r (length work)
    unfolding order_call map_told
    order_answered left right o e = ap answer e ∙ sym (ap (map_told (λ b. partial_cmp left right b.left b.right)) (pair_long l r (length work) nl nr j room))
