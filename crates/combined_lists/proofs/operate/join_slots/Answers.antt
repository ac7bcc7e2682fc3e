use Rattle.std.proofs.Common.{arith}
use Rattle.pauli.proofs.refusal.HandedOn.{handed_on}
use Rattle.combined_lists.specs.Line.{joined}
use Rattle.combined_lists.proofs.operate.OperateLaws.{refused_pair, some_kept, works_kept, joined_works}
use Rattle.combined_lists.proofs.operate.join_slots.Goals as goal

pub returns-in_err-pair : goal.returns-in_err-pair
returns-in_err-pair c = refused_pair joined _ _ _ _ (handed_on _ _ c.from_residual.ensures.1) c.in_err-pair.ensures

pub keep_further-requires : goal.keep_further-requires
keep_further-requires c =
    let o = joined_works c.args.left c.args.slots.now c.in_ok-pair.ensures.joins _ _ _ c.read_two-n.ensures in
    (omega (arith, c.requires.0), some_kept o c.requires.1 c.requires.2)

pub returns : goal.returns
returns c =
    let o = joined_works c.args.left c.args.slots.now c.in_ok-pair.ensures.joins _ _ _ c.read_two-n.ensures in
    works_kept o _ c.keep_further.ensures.list c.keep_further.ensures.kept
