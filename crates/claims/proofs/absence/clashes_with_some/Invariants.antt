-- Invariant: the witness anticommutes with none of the Paulis before number k.
use Rattle.std.proofs.Common.{◌≡◌, drop, get_or}
use Rattle.pauli.specs.Condense.{list_of, nothing}
use Rattle.pauli.specs.Sets.{pauli_of}
use Rattle.pauli_theory.specs.Standard.{anticommutes_with_some}
use Rattle.pauli_group.specs.Calls.{paulis}
use Rattle.claims.proofs.absence.clashes_with_some.Given as goal

abbrev pub invariant-loop-k : goal.invariant-loop-k
invariant-loop-k l =
    let w = pauli_of (get_or (list_of l.witnesses.bytes.now) l.i nothing) in
    let gs = paulis (list_of l.roll.bytes.now) in
    anticommutes_with_some w gs ≡ anticommutes_with_some w (drop l.k gs)
