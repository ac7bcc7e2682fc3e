use Rattle.std.proofs.Common.{ℕ, ap, ◌∙◌}
use Rattle.pauli.specs.Bytes.{le32}
use Rattle.pauli.specs.Writing.{put_bytes}
use Rattle.pauli.proofs.write.Puts.{set_start, set_done, set_past, set_room, set_hit}
use Rattle.pauli.proofs.write.put_set.Goals as goal

pub loop-p-init : goal.loop-p-init
loop-p-init c =
    let a = c.args in
    let all = c.into_iter-p-iterator.ensures.into_iter_gives ∙ c.iter-p-items.ensures in
    (tt, tt, rw all (set_start _ _ _ _ c.requires.1))

pub put_u32-requires : goal.put_u32-requires
put_u32-requires c = set_room _ _ _ c.loop-p.invariant.2 _ _ c.in-Some.ensures.steps c.if-p-support.true

pub loop-p-preserved-then-p-support : goal.loop-p-preserved-then-p-support
loop-p-preserved-then-p-support c =
    let number = ap (λ (n : ℕ). put_bytes c.loop-p.out c.loop-p.next (le32 n)) c.qubit_at.ensures in
    (tt, tt, set_hit _ _ _ c.loop-p.invariant.2 _ _ c.in-Some.ensures.steps c.if-p-support.true _ (c.put_u32.ensures ∙ number) c.put_u32.auto.out)

pub loop-p-preserved : goal.loop-p-preserved
loop-p-preserved c = (tt, tt, set_past _ _ _ c.loop-p.invariant.2 _ _ c.in-Some.ensures.steps c.if-p-support.false)

pub returns : goal.returns
returns c = let all = set_done _ _ _ c.loop-p.invariant.2 c.in-None.ensures.steps.0 in record { left = all.0; next = all.1 }
