use Rattle.std.proofs.Common.{arith}
use Rattle.pauli.proofs.refusal.HandedOn.{handed_on}
use Rattle.combined_lists.specs.Line.{quotient}
use Rattle.combined_lists.proofs.operate.OperateLaws.{refused_pair, some_kept, works_kept, quotient_works, quotient_refused}
use Rattle.combined_lists.proofs.operate.quotient_slots.Goals as goal

pub returns-in_err-pair : goal.returns-in_err-pair
returns-in_err-pair c = refused_pair quotient _ _ _ _ (handed_on _ _ c.from_residual.ensures.1) c.in_err-pair.ensures

pub returns-in_err-n : goal.returns-in_err-n
returns-in_err-n c =
    quotient_refused _ _ c.in_ok-pair.ensures.joins _ _ (handed_on _ _ c.from_residual-in_err-n.ensures.1) c.in_err-n.ensures.refused

pub keep_further-requires : goal.keep_further-requires
keep_further-requires c =
    let o = quotient_works c.args.left c.args.slots.now c.in_ok-pair.ensures.joins _ _ _ c.in_ok-n.ensures.answered in
    (omega (arith, c.requires.0), some_kept o c.requires.1 c.requires.2)

pub returns : goal.returns
returns c =
    let o = quotient_works c.args.left c.args.slots.now c.in_ok-pair.ensures.joins _ _ _ c.in_ok-n.ensures.answered in
    works_kept o _ c.keep_further.ensures.list c.keep_further.ensures.kept
