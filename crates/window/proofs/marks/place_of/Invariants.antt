use Rattle.std.proofs.Common.{◌≡◌, ◌+◌, ◌-◌, ◌*◌, drop}
use Rattle.window.specs.Inner.{place}
use Rattle.window.specs.MarkLayout.{held_in, marks_in, marks_from, marks_at, mark_bytes}
use Rattle.window.proofs.marks.place_of.Given as goal

-- no mark before this one has the name
abbrev pub invariant-loop-i : goal.invariant-loop-i
invariant-loop-i l =
    place l.fn.name (marks_in l.fn.w) ≡ l.i + place l.fn.name (marks_from (held_in l.fn.w - l.i) (drop (marks_at + mark_bytes * l.i) l.fn.w))
