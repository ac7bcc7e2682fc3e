use Rattle.std.proofs.Common.{not, ap, arith}
use Rattle.pauli.specs.Refusals.{number_of}
use Rattle.pauli.specs.Support.{most_qubits}
use Rattle.pauli.specs.declared.refusal.Refusal.{Refusal}
use Rattle.pauli_group.specs.Inner.Sources.{sparse_in}
use Rattle.pauli_group.proofs.quotient.QuotientLaws.{swapped_few, quotient_none, quotient_some}
use Rattle.pauli_group.proofs.quotient.quotient_of.Goals as goal

pub invariant_of-swapped : goal.invariant_of-swapped
invariant_of-swapped c =
    let pair = c.args.pair in
    record { few = omega (arith, pair.few); qubits = swapped_few (sparse_in pair.left) (sparse_in pair.right) most_qubits pair.qubits }

pub returns-then-not-is_below-clause-refused : goal.returns-then-not-is_below-clause-refused
returns-then-not-is_below-clause-refused c = (
  quotient_none _ _ _ _ _ c.order_of-order.ensures _ c.is_below.ensures (ap not c.if-not-is_below.true),
  ap (λ (r : Refusal). number_of r.reason) c.into.ensures,
  ap (λ (r : Refusal). r.place) c.into.ensures,
)

pub returns-clause-answered : goal.returns-clause-answered
returns-clause-answered c = (
  quotient_some _ _ _ _ _ c.order_of-order.ensures _ c.is_below.ensures (ap not c.if-not-is_below.false),
  c.remainder.ensures,
)
