use Rattle.std.proofs.Common.{◌≢◌, ◌<◌, length, refl, arith, below_more, get_or-set_same, get_or-set_other}
use lib.ListN.{length-set}
use Rattle.std.proofs.lemmas.List.Elements.{AllWithin-set, All-replicate}
use Rattle.pauli_group.proofs.list.ListLaws.{outside_refl, outside_join}
use Rattle.pauli_group.proofs.common.SharedLaws.{noted_solving, noted_element, noted_exponent}
use Rattle.pauli_group.proofs.common.note_exponents.Goals as goal

pub exponent_of-requires : goal.exponent_of-requires
exponent_of-requires c =
    let p = c.requires in
    let O = c.loop-i.invariant.4 in
    let e = noted_element O p.1 _ c.args.m c.loop-i.i c.loop-i-test.true p.3 _ _ p.4 in
    (omega (arith, p.0, c.loop-i-test.true), noted_solving O p.1, p.2, e.0, e.1, e.2)

pub loop-i-init : goal.loop-i-init
loop-i-init c = (
  omega arith,
  refl,
  λ k h. absurd (omega (arith, h)),
  λ k d _ h. All-replicate (λ e. e < 4) 128 0 (omega arith) k d h,
  outside_refl _ _ _,
)

pub loop-i-preserved : goal.loop-i-preserved
loop-i-preserved c =
    let l = c.loop-i in
    let p = c.requires in
    let told = c.exponent_of.ensures in
    let O = l.invariant.4 in
    let inside : l.i < length l.by = omega (arith, p.0, l.invariant.1, c.loop-i-test.true) in (
      omega (arith, c.loop-i-test.true),
      simp length-set l.invariant.1,
      below_more _ _ (λ k h. let other : k ≢ l.i = omega arith in rw get_or-set_other (l.invariant.2 k h))
          (rw get_or-set_same (noted_exponent O p.1 _ _ _ _ told.told)),
      AllWithin-set (λ e. e < 4) l.by 0 128 l.i _ inside told.low l.invariant.3,
      outside_join O told.rest,
    )
