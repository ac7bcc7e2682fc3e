use Rattle.std.proofs.Common.{rules, tests}
use Rattle.pauli.proofs.signed.SignedLaws.{stored_value}
use Rattle.pauli_group.proofs.scan.some.Goals as goal

pub returns : goal.returns
returns g c = search (rules, tests, stored_value)
