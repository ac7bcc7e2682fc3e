-- The target's row is the Pauli's, with zeros behind it; what solving leaves behind its words of R is the set.
use Rattle.binar.specs.Layout.{form_stride}
use Rattle.pauli_group.proofs.form.FormLaws.{names_whole}
use Rattle.pauli_group.proofs.member.SolveLaws.{pauli_solvable, pauli_words, pauli_rest, pauli_set, pauli_none}
use Rattle.pauli_group.specs.Inner.Area.{stride_of}
use Rattle.std.proofs.Common.{sym, ◌∙◌, arith}
use Rattle.pauli_group.proofs.member.solve.Goals as goal

pub overflow_sub-stride : goal.overflow_sub-stride
unfolding stride_of form_stride
overflow_sub-stride c = omega (arith, c.stride_of-stride.ensures)

pub transpose_solve-requires : goal.transpose_solve-requires
transpose_solve-requires c =
    pauli_solvable _ c.fits-w _ _ _ c.args.p c.args.group.few.1 c.requires.0 c.requires.1
    c.requires.2 _ c.stride_of-stride.ensures _ _ c.clear_bits.ensures c.put_row.ensures

pub returns-then-transpose_solve : goal.returns-then-transpose_solve
returns-then-transpose_solve c = record {
  told = pauli_set _ c.fits-w _ _ _ c.args.p c.args.group.few.1 c.requires.0 c.requires.1
      c.requires.2 _ c.stride_of-stride.ensures _ _ c.clear_bits.ensures c.put_row.ensures
      _ c.transpose_solve.ensures.left _
      (c.named_by.ensures
      ∙ names_whole _ _ _
      (pauli_words _ c.fits-w _ _ _ c.args.p c.args.group.few.1 c.requires.0 c.requires.1
      c.requires.2 _ c.stride_of-stride.ensures _ _ c.clear_bits.ensures c.put_row.ensures
      _ c.transpose_solve.ensures.left)
      (omega (arith, c.requires.2.target)) c.args.group.few.0)
      (sym c.if-transpose_solve.true ∙ c.transpose_solve.ensures.told);
  rest = pauli_rest _ c.fits-w _ _ _ c.args.p c.args.group.few.1 c.requires.0 c.requires.1
      c.requires.2 _ c.stride_of-stride.ensures _ _ c.clear_bits.ensures c.put_row.ensures
      _ c.transpose_solve.ensures.left;
}

pub returns-else-transpose_solve : goal.returns-else-transpose_solve
returns-else-transpose_solve c = record {
  told = pauli_none _ c.fits-w _ _ _ c.args.p c.args.group.few.1 c.requires.0 c.requires.1
      c.requires.2 _ c.stride_of-stride.ensures _ _ c.clear_bits.ensures c.put_row.ensures
      _ c.transpose_solve.ensures.left (sym c.if-transpose_solve.false ∙ c.transpose_solve.ensures.told);
  rest = pauli_rest _ c.fits-w _ _ _ c.args.p c.args.group.few.1 c.requires.0 c.requires.1
      c.requires.2 _ c.stride_of-stride.ensures _ _ c.clear_bits.ensures c.put_row.ensures
      _ c.transpose_solve.ensures.left;
}
