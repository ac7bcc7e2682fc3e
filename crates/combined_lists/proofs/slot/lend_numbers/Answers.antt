use Rattle.std.proofs.Common.{◌∙◌, refl, arith, length-set}
use Rattle.combined_lists.proofs.slot.SlotLaws.{numbers_next, numbers_all}
use Rattle.combined_lists.proofs.slot.lend_numbers.Goals as goal

pub loop-i-init : goal.loop-i-init
loop-i-init c = (omega arith, refl)

pub loop-i-preserved : goal.loop-i-preserved
loop-i-preserved c =
    let v = c.loop-i.invariant in (
      length-set _ _ _ ∙ v.0,
      numbers_next c.args.slot.now _ _ v.1 (omega (arith, v.0, c.requires.places)) (omega (arith, c.told-slot, c.requires.places)) _ refl,
    )

pub returns : goal.returns
returns c = numbers_all _ _ _ c.loop-i.invariant.1 (omega arith)
