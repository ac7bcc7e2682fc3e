use Rattle.closing_report.specs.Decimal.{ascii}
use Rattle.closing_report.proofs.lines.IndexLaws.{put_end, put_fits, put_next}
use Rattle.closing_report.proofs.lines.put_indexes.Goals as goal

pub put_labelled-next-requires : goal.put_labelled-next-requires
unfolding ascii
put_labelled-next-requires c = put_fits c.loop-p.invariant.2 c.in-Some.ensures.steps

pub loop-p-preserved : goal.loop-p-preserved
unfolding ascii
loop-p-preserved c =
    let put = c.put_labelled-next in
    (tt, tt, put_next c.loop-p.invariant.2 c.in-Some.ensures.steps _ _ put.ensures put.auto.out)

pub returns : goal.returns
returns c = put_end c.loop-p.invariant.2 c.in-None.ensures.steps.0
