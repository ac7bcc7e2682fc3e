use Rattle.std.proofs.Common.{get_or, sym, arith}
use Rattle.combined_lists.proofs.sent.DepthLaws.{grows, byte_deep, end_deep}
use Rattle.combined_lists.proofs.sent.deepest.Goals as goal

pub loop-b-preserved : goal.loop-b-preserved
loop-b-preserved c =
    let l = c.loop-b in
    let next = byte_deep _ _ _ _ l.invariant.reached l.invariant.deepest c.loop-b-test.true _ c.depth_after-depth.ensures in
    record {
      reached = omega arith;
      bounded = omega (arith, l.invariant.bounded, grows l.depth (get_or c.args.line.now l.b-index 0));
      deepest = rw c.max-most.ensures next;
    }

pub returns : goal.returns
returns c = sym (end_deep _ _ _ _ c.loop-b.invariant.reached c.loop-b.invariant.deepest (omega arith))
