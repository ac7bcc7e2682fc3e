-- Both steps leave the words before the row.
use Rattle.std.proofs.Common.{arith, ◌∙◌}
use Rattle.binar.proofs.matrix_form.Sweep.{get_put_before}
use Rattle.matrices.proofs.set_unit.Goals as goal

pub returns : goal.returns
returns c = λ i h. c.flip.ensures i h ∙ rw c.clear_bits.ensures (get_put_before _ _ _ _ (omega arith) i h)
