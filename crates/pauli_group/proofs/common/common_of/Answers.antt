-- The common part is the left list, the right one or neither, as the order says.
use Rattle.std.proofs.Common.{◌≡◌, List, refl, ◌∙◌, ⊎_elim}
use Rattle.pauli.specs.Pauli.{Pauli}
use Rattle.pauli_theory.specs.Common.{lesser}
use Rattle.pauli_group.specs.Answers.{order_of}
use Rattle.pauli_group.proofs.common.PartLaws.{common_is}
use Rattle.pauli_group.proofs.common.common_of.Goals as goal

pub returns-in-Equal : goal.returns-in-Equal
unfolding lesser
returns-in-Equal c =
    let e : (gs hs x : List Pauli) → lesser (order_of c.order_of.result) gs hs x ≡ gs =
    λ gs hs x. rw c.in-Some.is (⊎_elim (λ e. rw e refl) (λ e. rw e refl) c.in-Equal.is) in
    common_is _ _ _ c.order_of.ensures ∙ e _ _ _

pub returns-in-Greater : goal.returns-in-Greater
unfolding lesser
returns-in-Greater c =
    let e : (gs hs x : List Pauli) → lesser (order_of c.order_of.result) gs hs x ≡ hs = λ gs hs x. rw (c.in-Some.is, c.in-Greater.is) refl in
    common_is _ _ _ c.order_of.ensures ∙ e _ _ _

pub returns-in-None : goal.returns-in-None
unfolding lesser
returns-in-None c =
    let e : (gs hs x : List Pauli) → lesser (order_of c.order_of.result) gs hs x ≡ x = λ gs hs x. rw c.in-None.is refl in
    rw (common_is _ _ _ c.order_of.ensures ∙ e _ _ _) c.part_of.ensures
