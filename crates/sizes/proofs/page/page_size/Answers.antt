-- The refusal of the description is told on; else the page is counted by the rank and the step.
use Rattle.pauli_group.specs.Promises.{promise_of}
use Rattle.pauli_group.proofs.calls.CallLaws.{facts_none, facts_given}
use Rattle.sizes.proofs.page.PageLaws.{page_refused, page_told_lem}
use Rattle.pauli.proofs.refusal.HandedOn.{handed_on}
use Rattle.pauli.specs.Refusals.{told_of}
use Rattle.std.proofs.Common.{ap, ◌∙◌}
use Rattle.sizes.proofs.page.page_size.Goals as goal

pub returns-in_err-d : goal.returns-in_err-d
returns-in_err-d c =
    let promise = promise_of c.args.promise in
    let e = c.describe_list.ensures in
    let none = facts_none promise _ _ e.told _ c.in_err-d.was in
    record { told = ap told_of (handed_on _ _ c.from_residual.ensures.1) ∙ page_refused promise c.args.start c.args.count c.args.b.now _ _ _ none; area = e.area }

pub returns : goal.returns
returns c =
    let promise = promise_of c.args.promise in
    let e = c.describe_list.ensures in
    let found = facts_given promise _ _ e.told _ c.in_ok-d.was in
    let facts = found.facts in
    record {
      told =
          page_told_lem promise c.args.start c.args.count c.args.b.now _ _ found.given.told
          _ _ facts.rank_is facts.step_is _ c.page_of.ensures;
      area = e.area;
    }
