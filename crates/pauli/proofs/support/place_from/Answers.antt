use Rattle.std.proofs.Common.{ℕ, ◌≡◌, ◌+◌, ◌-◌, ap, ◌∙◌, not, ltb, length, take, drop, take_all, length-drop, arith, rules, tests}
use Rattle.std.proofs.lemmas.Iterator.{YieldsList-from_slice}
use Rattle.std.proofs.lemmas.Iterator.Search.{position_from_yields_List}
use Rattle.pauli.proofs.support.Walk.{first_found, first_rest, lower_le, lower_known}
use Rattle.pauli.specs.Known.{first_place, lower}
use Rattle.pauli.proofs.support.place_from.Goals as goal

pub returns-in-Some : goal.returns-in-Some
returns-in-Some c = lower_known c.args.support.now c.args.q.0 c.requires.1 c.in-Some.guess.0 c.in-Some.ensures.0 c.in-Some.ensures.1

pub offset_bounds-support-from : goal.offset_bounds-support-from
offset_bounds-support-from c = omega (arith, c.requires.0, lower_le c.args.support.now c.args.q.0)

pub slice_bounds-rest-count : goal.slice_bounds-rest-count
slice_bounds-rest-count c = omega (arith, c.requires.0, lower_le c.args.support.now c.args.q.0)

pub slice_bounds-rest-start : goal.slice_bounds-rest-start
slice_bounds-rest-start c = omega (arith, c.requires.0, lower_le c.args.support.now c.args.q.0)

pub returns : goal.returns
unfolding lower
returns c =
    let l = c.args.support.now in
    let k = c.args.from.0 in
    let test = λ (n : ℕ). not (ltb n c.args.q.0) in
    let rest = take (length l - k) (drop k l) in
    let whole : rest ≡ drop k l = take_all (length l - k) (drop k l) (omega (arith, length-drop k l)) in
    ap (k +◌) (
    c.unwrap_or.ensures
    ∙ first_found test rest _ (position_from_yields_List test _ _ _ c.position-found.ensures.ran (YieldsList-from_slice rest cc) (λ n b f h. (search rules, search (rules, tests))))
    ∙ ap (first_place test) whole
    )
    ∙ first_rest test k l c.requires.0
