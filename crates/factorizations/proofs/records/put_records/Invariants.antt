-- Invariant: the records from the next result on are left to put.
use Rattle.std.proofs.Common.{◌≤◌, length}
use Rattle.pauli.proofs.write.Puts.{Left}
use Rattle.factorizations.specs.Records.{results_bytes}
use Rattle.factorizations.specs.Stored.{results_in}
use Rattle.factorizations.proofs.records.RecordLaws.{records}
use Rattle.factorizations.proofs.stored.PieceLaws.{pieces_from}
use Rattle.factorizations.proofs.records.put_records.Given as goal

abbrev pub invariant-loop-words : goal.invariant-loop-words
invariant-loop-words l =
    (l.words-index ≤ length l.results)
    × Left l.initial.out 0 (results_bytes (results_in l.results)) l.out l.next (pieces_from records l.results l.words-index)
