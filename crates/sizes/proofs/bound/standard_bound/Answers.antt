-- The refusal of the roll is told on; else the bound.
use Rattle.std.proofs.Common.{sym, ap, ◌∙◌, arith}
use Rattle.pauli.specs.Roll.{most_paulis}
use Rattle.pauli.specs.Support.{most_qubits}
use Rattle.pauli.proofs.joined.JoinLaws.{accepted_few}
use Rattle.pauli.proofs.joined.JoinLaws.{own_few}
use Rattle.sizes.proofs.bound.BoundLaws.{bound_refused, bound_told}
use Rattle.pauli.specs.Refusals.{told_of}
use Rattle.pauli.proofs.refusal.HandedOn.{handed_on}
use Rattle.sizes.proofs.bound.standard_bound.Goals as goal

pub returns-in_err-roll : goal.returns-in_err-roll
returns-in_err-roll c =
    record { told = ap told_of (handed_on _ _ c.from_residual.ensures.1) ∙ bound_refused c.args.b.now _ _ (sym c.in_err-roll.ensures.count) }

pub full_roll-requires : goal.full_roll-requires
unfolding most_paulis most_qubits
full_roll-requires c =
    let b = c.args.b.now in
    let count = sym c.in_ok-roll.ensures.count in
    let qubits = rw c.in_ok-roll.ensures.bytes at c.qubits_of.ensures in
    (accepted_few b _ count, omega (arith, qubits, own_few b _ count))

pub returns : goal.returns
returns c =
    let b = c.args.b.now in
    let count = sym c.in_ok-roll.ensures.count in
    let qubits = rw c.in_ok-roll.ensures.bytes at c.qubits_of.ensures in
    record { told = bound_told b _ count _ qubits _ c.full_roll.ensures }
