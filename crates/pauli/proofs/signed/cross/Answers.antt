-- The first i words are collected; at the end the two parities are taken.
use Rattle.std.proofs.Common.{◌≡◌, ℕ, ◌%◌, eqb, refl, ap, ◌∙◌, arith, add-one}
use lib.Count.{ones}
use Rattle.pauli.specs.Pauli.{anticommute}
use Rattle.pauli.specs.Signed.{held}
use Rattle.pauli.proofs.places.Halves.{Words}
use Rattle.pauli.proofs.signed.CrossLaws.{crossed_in, clashing_in, crossed_parity, clashing_parity}
use Rattle.pauli.proofs.signed.cross.Goals as goal

pub loop-i-init : goal.loop-i-init
unfolding crossed_in clashing_in
loop-i-init c = (refl, refl)

pub loop-i-preserved : goal.loop-i-preserved
unfolding crossed_in clashing_in
loop-i-preserved c = let known = c.loop-i.invariant in (rw (add-one, known.0) refl, rw (add-one, known.1) refl)

pub returns-clause-sign : goal.returns-clause-sign
returns-clause-sign c =
    let two : c.loop-i.i ≡ 2 = omega arith in
    let z : Words c.args.p.z = record { low = omega arith; high = omega arith } in
    let u : Words c.args.q.x = record { low = omega arith; high = omega arith } in
    (ap (λ (n : ℕ). ones n % 2) (c.loop-i.invariant.0 ∙ ap (crossed_in _ _) two) ∙ crossed_parity c.args.p.z c.args.q.x z u, omega arith)

pub returns-clause-anticommute : goal.returns-clause-anticommute
unfolding held anticommute
returns-clause-anticommute c =
    let two : c.loop-i.i ≡ 2 = omega arith in
    let x : Words c.args.p.x = record { low = omega arith; high = omega arith } in
    let z : Words c.args.p.z = record { low = omega arith; high = omega arith } in
    let u : Words c.args.q.x = record { low = omega arith; high = omega arith } in
    let v : Words c.args.q.z = record { low = omega arith; high = omega arith } in
    ap (λ (n : ℕ). eqb n 1)
    (ap (λ (n : ℕ). ones n % 2) (c.loop-i.invariant.1 ∙ ap (clashing_in _ _ _ _) two)
    ∙ clashing_parity c.args.p.x c.args.p.z c.args.q.x c.args.q.z x z u v)
