use Rattle.std.proofs.Common.{ℕ, sym, ◌∙◌, eqb, rules, tests}
use Rattle.std.proofs.lemmas.Iterator.{YieldsList-from_slice}
use Rattle.std.proofs.lemmas.Iterator.Search.{position_from_yields_List}
use Rattle.pauli.proofs.support.Walk.{first_found, place_first}
use Rattle.pauli.proofs.support.place_of.Goals as goal

pub returns : goal.returns
returns c =
    let l = c.args.support.now in
    let test = λ (n : ℕ). eqb n c.args.q.0 in
    c.unwrap_or.ensures
    ∙ first_found test l _ (position_from_yields_List test _ _ _ c.position-found.ensures.ran (YieldsList-from_slice l cc) (λ n b f k. (search rules, search (rules, tests))))
    ∙ sym (place_first l c.args.q.0)
