use Rattle.std.proofs.Common.{◌∙◌, ◌≤◌, arith}
use Rattle.binar.specs.Row.{weight}
use Rattle.pauli.specs.PlaceSet.{set_in}
use lib.Count.{ones-le}
use Rattle.pauli.proofs.places.Halves.{weight_halves}
use Rattle.closing_report.proofs.lines.IndexLaws.{counted_start, counted_next, counted_end}
use Rattle.closing_report.proofs.lines.indexes_length.Goals as goal

pub loop-p-init : goal.loop-p-init
loop-p-init c =
    let all = c.into_iter-p-iterator.ensures.into_iter_gives ∙ c.iter-p-items.ensures in
    let set = c.args.set in
    let words = weight_halves set (record { low = omega arith; high = omega arith }) in
    let few : weight (set_in set) ≤ 128 = omega (arith, words, ones-le 64 set.low (omega arith), ones-le 64 set.high (omega arith)) in
    (tt, tt, rw all (counted_start _ few))

pub loop-p-preserved : goal.loop-p-preserved
loop-p-preserved c =
    let counted = c.number_length.ensures in
    (tt, tt, counted_next c.loop-p.invariant.2 c.in-Some.ensures.steps _ counted.0 counted.1)

pub returns : goal.returns
returns c = counted_end c.loop-p.invariant.2 c.in-None.ensures.steps.0
