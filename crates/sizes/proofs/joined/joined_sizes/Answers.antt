-- The refusal of the checks is told on; else the sizes.
use Rattle.std.proofs.Common.{sym, ap, ◌∙◌}
use Rattle.pauli.proofs.joined.JoinLaws.{counts_joining}
use Rattle.sizes.proofs.joined.SizesLaws.{sizes_refused, sizes_told}
use Rattle.pauli.specs.Refusals.{told_by}
use Rattle.pauli.proofs.refusal.HandedOn.{handed_on}
use Rattle.sizes.specs.Answers.{sizes_in}
use Rattle.sizes.proofs.joined.joined_sizes.Goals as goal

pub returns-in_err-pair : goal.returns-in_err-pair
returns-in_err-pair c =
    let told = sizes_refused c.args.left.now c.args.right.now _ _ (sym c.in_err-pair.ensures.counts) in
    record { told = ap (told_by sizes_in) (handed_on _ _ c.from_residual.ensures.1) ∙ told }

pub returns : goal.returns
returns c =
    let told = sym c.in_ok-pair.ensures.counts in
    let j = counts_joining c.args.left.now c.args.right.now _ told in
    let bytes = rw (c.in_ok-pair.ensures.rolls.0, c.in_ok-pair.ensures.rolls.1) at c.joined_bytes-bytes.ensures in
    record { told = sizes_told c.args.left.now c.args.right.now _ _ j _ _ bytes (rw (c.in_ok-pair.ensures.rolls.0, c.in_ok-pair.ensures.rolls.1) at c.joined_qubits-qubits.ensures) }
