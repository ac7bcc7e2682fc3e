-- Invariant: the records of the results below the next are counted.
use Rattle.factorizations.proofs.records.RecordLaws.{records}
use Rattle.factorizations.proofs.stored.PieceLaws.{Measured}
use Rattle.factorizations.proofs.records.records_length.Given as goal

abbrev pub invariant-loop-words : goal.invariant-loop-words
invariant-loop-words l = Measured records l.results l.words-index l.total
