use Rattle.std.proofs.Common.{sym, ap, ◌∙◌, arith}
use Rattle.binar.proofs.Without.{without_length}
use Rattle.pauli.specs.Told.{answer}
use Rattle.pauli.specs.Refusals.{told_refusal}
use Rattle.centralizer.proofs.named.NamedLaws.{both_few, fitting_not, fitting_many, fitting_few}
use Rattle.centralizer.proofs.named.check_named.Goals as goal
use Rattle.centralizer.proofs.named.check_named.Goals.{then-not-is_rising-via-then-not-is_rising, then-not-is_rising-via-else-not-is_rising+then-own-further-gt-MOST_TOGETHER}

pub overflow_add-own : goal.overflow_add-own
overflow_add-own c = omega (arith, without_length c.args.own.now c.args.named.now, c.further.ensures)

pub returns-then-not-is_rising-clause-told : goal.returns-then-not-is_rising-clause-told
returns-then-not-is_rising-clause-told c = ap told_refusal c.into.ensures ∙ sym
    (elim c.then-not-is_rising.branch [
      | then-not-is_rising-via-then-not-is_rising w ↦ fitting_not _ _ c.requires (answer tt) (sym c.is_rising.ensures ∙ w.if-not-is_rising.true)
      | then-not-is_rising-via-else-not-is_rising+then-own-further-gt-MOST_TOGETHER w ↦
          fitting_many _ _ c.requires (answer tt) (sym c.is_rising.ensures ∙ w.if-not-is_rising.false)
          (omega (arith, w.further.ensures, w.if-own-further-gt-MOST_TOGETHER.true))
    ])

pub returns-clause-told : goal.returns-clause-told
returns-clause-told c =
    sym (fitting_few _ _ c.requires (answer tt) (sym c.is_rising.ensures ∙ c.if-not-is_rising.false) (omega (arith, c.further.ensures)))

pub returns-clause-few : goal.returns-clause-few
returns-clause-few c = both_few _ _ c.requires (sym c.is_rising.ensures ∙ c.if-not-is_rising.false) (omega (arith, c.further.ensures))
