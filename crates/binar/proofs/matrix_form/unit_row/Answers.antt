-- The words past the first are cleared, and then one bit of them is stored.
use Rattle.std.proofs.Common.{rules}
use Rattle.binar.proofs.row.Slice.{AreWords}
use Rattle.binar.proofs.matrix_form.Identity.{unit_stored}
use Rattle.binar.proofs.matrix_form.unit_row.Goals as goal

pub returns : goal.returns
returns c =
    let known : AreWords c.args.w.now = λ q. search rules in
    unit_stored _ _ _ _ _ known c.requires.0 c.requires.1 _ c.clear_bits.ensures
