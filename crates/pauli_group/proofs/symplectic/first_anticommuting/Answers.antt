use Rattle.std.proofs.Common.{true, false, rules, tests}
use Rattle.std.proofs.lemmas.Iterator.{IsFirst-from_position, YieldsList-from_slice}
use Rattle.pauli.specs.Signed.{held}
use Rattle.pauli.proofs.signed.SignedLaws.{stored_value}
use Rattle.pauli_group.proofs.symplectic.PairLaws.{Answered, position_found}
use Rattle.pauli_group.proofs.symplectic.first_anticommuting.Goals as goal

pub returns-clause-position : goal.returns-clause-position
returns-clause-position c =
    let x = held c.args.x in
    let all = position_found x c.args.list.now _
    (IsFirst-from_position _ _ _ (Answered x true) (Answered x false) c.position.ensures.ran (YieldsList-from_slice c.args.list.now cc)
    (λ y q k. search (rules, tests, stored_value))
    (λ y q k. (search rules, search (rules, tests, stored_value)))) in
    all.0
