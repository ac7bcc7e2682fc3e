use Rattle.std.proofs.Common.{ap, ◌∙◌, arith, ltb-true, ltb-false}
use Rattle.std.specs.Prelude.{option_copied}
use Rattle.std.proofs.Math.Logic.{inl, inr}
use Rattle.combined_lists.specs.Line.{quotient, common, joined}
use Rattle.combined_lists.proofs.form.LevelLaws.{after_shorter, below_shorter, level_none, level_begins, level_ends, right_none, right_goes, inner_none, inner_closed, atom_none, atom_letter, atom_other}
use Rattle.combined_lists.proofs.form.+levels.Goals.{atom-in_default-line-via-then-line-lt1, atom-in_default-line-via-else-line-lt1+then-line-lt65, atom-in_default-line-via-else-line-lt1+else-line-lt65+else-line-lt69}
use Rattle.combined_lists.proofs.form.+levels.Goals as goal

pub or_level-returns-in_err-rest : goal.or_level-returns-in_err-rest
or_level-returns-in_err-rest t c = ap option_copied c.from_residual.ensures ∙ level_none joined _ c.in_err-rest.ensures

pub or_level-loop-right-init : goal.or_level-loop-right-init
or_level-loop-right-init t c = level_begins joined _ _ c.in_ok-rest.ensures

pub or_level-and_level-requires-in-Some : goal.or_level-and_level-requires-in-Some
or_level-and_level-requires-in-Some t c = let right = after_shorter _ _ _ c.in-Some.ensures in (omega arith, tt)

pub or_level-returns-in_err-rest-2 : goal.or_level-returns-in_err-rest-2
or_level-returns-in_err-rest-2 t c =
    ap option_copied c.from_residual-in_err-rest-2.ensures
    ∙ right_none joined _ _ c.loop-right.invariant _ c.in-Some.ensures c.in_err-rest-2.ensures

pub or_level-loop-right-smaller : goal.or_level-loop-right-smaller
or_level-loop-right-smaller t c =
    let right = after_shorter _ _ _ c.in-Some.ensures in
    let rest = below_shorter joined _ _ c.in_ok-rest-2.ensures in
    omega arith

pub or_level-loop-right-preserved : goal.or_level-loop-right-preserved
or_level-loop-right-preserved t c = right_goes joined _ _ c.loop-right.invariant _ c.in-Some.ensures _ c.in_ok-rest-2.ensures

pub or_level-returns : goal.or_level-returns
or_level-returns t c = level_ends joined _ _ c.loop-right.invariant c.in_default.ensures

pub and_level-returns-in_err-rest : goal.and_level-returns-in_err-rest
and_level-returns-in_err-rest t c = ap option_copied c.from_residual.ensures ∙ level_none common _ c.in_err-rest.ensures

pub and_level-loop-right-init : goal.and_level-loop-right-init
and_level-loop-right-init t c = level_begins common _ _ c.in_ok-rest.ensures

pub and_level-quotient_level-requires-in-Some : goal.and_level-quotient_level-requires-in-Some
and_level-quotient_level-requires-in-Some t c = let right = after_shorter _ _ _ c.in-Some.ensures in (omega arith, tt)

pub and_level-returns-in_err-rest-2 : goal.and_level-returns-in_err-rest-2
and_level-returns-in_err-rest-2 t c =
    ap option_copied c.from_residual-in_err-rest-2.ensures
    ∙ right_none common _ _ c.loop-right.invariant _ c.in-Some.ensures c.in_err-rest-2.ensures

pub and_level-loop-right-smaller : goal.and_level-loop-right-smaller
and_level-loop-right-smaller t c =
    let right = after_shorter _ _ _ c.in-Some.ensures in
    let rest = below_shorter common _ _ c.in_ok-rest-2.ensures in
    omega arith

pub and_level-loop-right-preserved : goal.and_level-loop-right-preserved
and_level-loop-right-preserved t c = right_goes common _ _ c.loop-right.invariant _ c.in-Some.ensures _ c.in_ok-rest-2.ensures

pub and_level-returns : goal.and_level-returns
and_level-returns t c = level_ends common _ _ c.loop-right.invariant c.in_default.ensures

pub quotient_level-returns-in_err-rest : goal.quotient_level-returns-in_err-rest
quotient_level-returns-in_err-rest t c = ap option_copied c.from_residual.ensures ∙ level_none quotient _ c.in_err-rest.ensures

pub quotient_level-loop-right-init : goal.quotient_level-loop-right-init
quotient_level-loop-right-init t c = level_begins quotient _ _ c.in_ok-rest.ensures

pub quotient_level-atom-requires-in-Some : goal.quotient_level-atom-requires-in-Some
quotient_level-atom-requires-in-Some t c = let right = after_shorter _ _ _ c.in-Some.ensures in (omega arith, tt)

pub quotient_level-returns-in_err-rest-2 : goal.quotient_level-returns-in_err-rest-2
quotient_level-returns-in_err-rest-2 t c =
    ap option_copied c.from_residual-in_err-rest-2.ensures
    ∙ right_none quotient _ _ c.loop-right.invariant _ c.in-Some.ensures c.in_err-rest-2.ensures

pub quotient_level-loop-right-smaller : goal.quotient_level-loop-right-smaller
quotient_level-loop-right-smaller t c =
    let right = after_shorter _ _ _ c.in-Some.ensures in
    let rest = below_shorter quotient _ _ c.in_ok-rest-2.ensures in
    omega arith

pub quotient_level-loop-right-preserved : goal.quotient_level-loop-right-preserved
quotient_level-loop-right-preserved t c = right_goes quotient _ _ c.loop-right.invariant _ c.in-Some.ensures _ c.in_ok-rest-2.ensures

pub quotient_level-returns : goal.quotient_level-returns
quotient_level-returns t c = level_ends quotient _ _ c.loop-right.invariant c.in_default.ensures

pub atom-or_level-requires : goal.atom-or_level-requires
atom-or_level-requires t c = let inner = after_shorter _ _ _ c.in-Some.ensures in (omega arith, tt)

pub atom-returns-in_err-or_level : goal.atom-returns-in_err-or_level
atom-returns-in_err-or_level t c = ap option_copied c.from_residual.ensures ∙ inner_none _ _ c.in-Some.ensures c.in_err-or_level.ensures

pub atom-returns-in-Some : goal.atom-returns-in-Some
atom-returns-in-Some t c = c.after-in-Some.ensures ∙ inner_closed _ _ c.in-Some.ensures _ c.in_ok-or_level.ensures

pub atom-returns-in-65-to-68 : goal.atom-returns-in-65-to-68
atom-returns-in-65-to-68 t c = atom_letter _ c.in_default.ensures c.in-65-to-68.len_at_least (omega arith) (omega arith)

pub atom-returns-in_default-line : goal.atom-returns-in_default-line
atom-returns-in_default-line t c =
    elim c.in_default-line.branch [
      | atom-in_default-line-via-then-line-lt1 w ↦ atom_none c.args.line.now c.in_default.ensures (omega (arith, ltb-true))
      | atom-in_default-line-via-else-line-lt1+then-line-lt65 w ↦
          atom_other c.args.line.now c.in_default.ensures (omega (arith, ltb-false)) (inl (omega (arith, ltb-true)))
      | atom-in_default-line-via-else-line-lt1+else-line-lt65+else-line-lt69 w ↦
          atom_other c.args.line.now c.in_default.ensures (omega (arith, ltb-false)) (inr (omega (arith, ltb-false)))
    ]
