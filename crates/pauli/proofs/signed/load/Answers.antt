-- The five words stand from word `at` on.
use Rattle.std.proofs.Common.{ℕ, List, ◌-◌, ◌∙◌, ap, arith, length}
use Rattle.std.specs.Prelude.{slice_index}
use Rattle.pauli.proofs.signed.SignedLaws.{pauli_shifted}
use Rattle.pauli.proofs.roll.Items.{chunk_first}
use Rattle.pauli.specs.Signed.{stored}
use Rattle.pauli.proofs.signed.load.Goals as goal

pub returns : goal.returns
returns c =
    let w = c.args.w.now in
    let at = c.args.at in
    let chunk = rw c.unwrap.ensures at c.first_chunk.ensures.cases in
    c.from_words.ensures
    ∙ ap stored (pauli_shifted w _ at (λ k l. ap (λ (ws : List ℕ). slice_index ws k) chunk.same ∙ chunk_first 5 w at (length w - at) k (omega arith) l))
