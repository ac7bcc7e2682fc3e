-- Invariant: what the first i words give is collected.
use Rattle.std.proofs.Common.{◌≡◌}
use Rattle.pauli.proofs.signed.CrossLaws.{words_of, crossed_in, clashing_in}
use Rattle.pauli.proofs.signed.cross.Given as goal

abbrev pub invariant-loop-i : goal.invariant-loop-i
invariant-loop-i l =
    let p = l.fn.p in
    let q = l.fn.q in
    (l.crossed ≡ crossed_in (words_of p.z) (words_of q.x) l.i)
    × (l.clashing ≡ clashing_in (words_of p.x) (words_of p.z) (words_of q.x) (words_of q.z) l.i)
