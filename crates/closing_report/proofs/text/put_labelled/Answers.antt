-- The number is put behind the label.
use mathlib.Core.List.{[], ◌∷◌}
use Rattle.closing_report.specs.Decimal.{digits}
use Rattle.closing_report.specs.Lines.{labelled}
use Rattle.factorizations.proofs.records.PutLaws.{joined, room, begun, next_room, next_put}
use Rattle.closing_report.proofs.text.put_labelled.Goals as goal

pub put_text-next-requires : goal.put_text-next-requires
unfolding labelled joined
put_text-next-requires c =
    room _ _ c.args.label.now (digits c.args.n ∷ []) c.requires

pub put_number-requires : goal.put_number-requires
unfolding labelled joined
put_number-requires c =
    next_room (begun (digits c.args.n ∷ []) c.requires c.put_text-next.ensures)

pub returns : goal.returns
unfolding labelled joined
returns c =
    (next_put (begun (digits c.args.n ∷ []) c.requires c.put_text-next.ensures) c.put_number.ensures).put
