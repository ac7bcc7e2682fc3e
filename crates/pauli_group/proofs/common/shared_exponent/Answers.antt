-- The first exponent below 4 that passes the test.
use Rattle.std.proofs.Common.{rules, tests}
use Rattle.std.proofs.lemmas.Iterator.{first_from_Range}
use Rattle.pauli_group.proofs.common.SharedLaws.{Hit, Missed, shared_found}
use Rattle.pauli_group.proofs.common.shared_exponent.Goals as goal

pub returns-clause-first : goal.returns-clause-first
returns-clause-first c =
    rw (← c.step-a.ensures.0, ← c.step-b.ensures.0)
    (shared_found _ _ _ _ _
    (first_from_Range _ _ _ _ (Hit c.step-a.result c.step-b.result c.args.u c.args.v) (Missed c.step-a.result c.step-b.result c.args.u c.args.v) c.find.ensures.ran
    (λ e q k. search (rules, tests))
    (λ e q k. (search rules, search (rules, tests)))))
