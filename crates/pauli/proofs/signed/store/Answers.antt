-- The five words are copied.
use Rattle.std.proofs.Common.{◌+◌, ◌∙◌, sym, append_assoc, arith, length, take, drop}
use Rattle.std.proofs.lemmas.List.Edits.{sets-eq}
use Rattle.pauli.proofs.write.Puts.{put_part}
use Rattle.pauli.specs.Signed.{pauli_words}
use Rattle.pauli.specs.Writing.{put_bytes}
use Rattle.pauli.proofs.signed.store.Goals as goal

pub returns : goal.returns
unfolding pauli_words put_bytes
returns c =
    let w = c.args.w.now in
    let at = c.args.at in
    let ws = pauli_words c.args.p in
    put_part w _ ws at _ (c.copy_from_slice.ensures.after ∙ c.words.ensures) (omega arith)
    ∙ sym (append_assoc (take at w) ws (drop (at + length ws) w)) ∙ sym (sets-eq ws w at (omega arith))
