-- By what the result is.
use Rattle.std.proofs.Common.{sym, ap, ◌∙◌, ℕ, ◌+◌, ◌*◌, arith}
use Rattle.factorizations.proofs.records.RecordLaws.{other_length, member_length}
use Rattle.factorizations.proofs.records.record_length.Goals as goal

pub returns-in-None : goal.returns-in-None
returns-in-None c = (rw c.in-None.is other_length, omega arith)

pub returns-in-Some : goal.returns-in-Some
returns-in-Some c = (
  rw c.in-Some.is
      (ap (λ (k : ℕ). 4 + 2 * k) c.weight.ensures.0 ∙ sym (member_length _ _)),
  omega (arith, c.weight.ensures.1),
)
