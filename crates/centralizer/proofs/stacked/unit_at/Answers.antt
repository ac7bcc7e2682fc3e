use Rattle.centralizer.proofs.stacked.StackedLaws.{unit_x, unit_z}
use Rattle.centralizer.proofs.stacked.unit_at.Goals as goal

pub returns-then-is_x : goal.returns-then-is_x
returns-then-is_x c = unit_x _ _ _ c.none-none.ensures c.with_place-set.ensures _ c.if-is_x.true

pub returns-else-is_x : goal.returns-else-is_x
returns-else-is_x c = unit_z _ _ _ c.none-none.ensures c.with_place-set.ensures _ c.if-is_x.false
