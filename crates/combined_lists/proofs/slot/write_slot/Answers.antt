use Rattle.std.proofs.Common.{ℕ, List, ap, ◌∙◌, arith}
use Rattle.pauli.specs.Told.{answer}
use Rattle.pauli.specs.Writing.{told_bytes, left_in}
use Rattle.pauli_group.proofs.kept.KeptListLaws.{kept_on}
use Rattle.combined_lists.proofs.slot.write_slot.Goals as goal

pub write_roll-requires : goal.write_roll-requires
write_roll-requires c =
    let k = c.kept_list-list.result.kept in
    (omega (arith, k.few), k.places, kept_on _ _ k)

pub returns : goal.returns
returns c =
    let wrote = c.write_roll.ensures in record {
      told = λ gs h. wrote.told ∙ ap (λ (bs : List ℕ). told_bytes (answer bs) c.args.out.now) (c.kept_list-list.ensures.written gs h);
      left = λ gs h. wrote.left ∙ ap (λ (bs : List ℕ). left_in (answer bs) c.args.out.now) (c.kept_list-list.ensures.written gs h);
    }
