-- A number past 15 is refused, a's first; else the entry is told.
use Rattle.std.proofs.Common.{ap, ◌∙◌, arith, lt-ltb, le-ltb}
use Rattle.pauli.specs.OneQubit.{one_qubit_call}
use Rattle.pauli.specs.Refusals.{told_refusal}
use Rattle.pauli.specs.Told.{answer, refuse_if}
use Rattle.pauli.proofs.one_qubit.one_qubit_product.Goals as goal

pub returns-then-a-gt-LAST : goal.returns-then-a-gt-LAST
unfolding one_qubit_call refuse_if
returns-then-a-gt-LAST c = record { told = ap told_refusal c.into.ensures ∙ rw (lt-ltb 15 c.args.a c.if-a-gt-LAST.true) }

pub returns-then-b-gt-LAST : goal.returns-then-b-gt-LAST
unfolding one_qubit_call refuse_if
returns-then-b-gt-LAST c =
    record { told = ap told_refusal c.into-then-b-gt-LAST.ensures ∙ rw (le-ltb 15 c.args.a (omega (arith, c.if-a-gt-LAST.false)), lt-ltb 15 c.args.b c.if-b-gt-LAST.true) }

pub returns : goal.returns
unfolding one_qubit_call refuse_if
returns c =
    record { told = ap answer c.entry.ensures ∙ rw (le-ltb 15 c.args.a (omega (arith, c.if-a-gt-LAST.false)), le-ltb 15 c.args.b (omega (arith, c.if-b-gt-LAST.false))) }
