-- The words of the list are n fives.
use Rattle.std.proofs.Common.{◌+◌, ◌-◌, ◌*◌, ◌∙◌, ap, arith}
use Rattle.pauli.proofs.roll.Items.{length_stretch}
use Rattle.pauli.proofs.signed.SignedLaws.{chunk_paulis}
use Rattle.pauli.specs.Signed.{paulis_in}
use Rattle.pauli.proofs.signed.fives_at.Goals as goal

pub returns-clause-list : goal.returns-clause-list
returns-clause-list c =
    let w = c.args.w.now in
    let a = c.args.base in
    ap paulis_in c.as_chunks.ensures.front ∙ chunk_paulis w a c.args.n _ _ (omega arith) (omega (arith, length_stretch w a (a + 5 * c.args.n - a) (omega arith)))
