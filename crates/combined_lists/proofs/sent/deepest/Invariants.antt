-- Invariant: the depth so far and that of the bytes left make the depth of the line.
use Rattle.std.proofs.Common.{◌≡◌, ◌≤◌, max, drop}
use Rattle.combined_lists.specs.Line.{deepest}
use Rattle.combined_lists.proofs.sent.deepest.Given as goal

abbrev pub invariant-loop-b : goal.invariant-loop-b
invariant-loop-b l = record {
  reached : l.depth ≤ l.most;
  bounded : l.most ≤ l.b-index;
  deepest : deepest 0 l.line ≡ max l.most (deepest l.depth (drop l.b-index l.line));
}
