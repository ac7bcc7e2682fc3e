use Rattle.pauli_group.proofs.order.OrderLaws.{ranks_are, compared}
use Rattle.std.proofs.Common.{◌∙◌}
use Rattle.pauli_group.proofs.order.order_of.Goals as goal

pub returns : goal.returns
returns c =
    c.order_by.ensures
    ∙ compared _ _ _ _ _ _ _ (ranks_are _ _ _ c.describe-a.ensures _ _ c.ranks_of.ensures.0 c.ranks_of.ensures.1)
    (ranks_are _ _ _ c.describe-b.ensures _ _ c.ranks_of-2.ensures.0 c.ranks_of-2.ensures.1)
    (ranks_are _ _ _ c.describe_two-both.ensures _ _ c.ranks_of-3.ensures.0 c.ranks_of-3.ensures.1)
