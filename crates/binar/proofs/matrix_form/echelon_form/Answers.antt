-- What the test for the shape tells is what the two steps ask.
use Rattle.binar.proofs.matrix_form.Formed.{fits_true, stride_counts, form_is}
use Rattle.binar.specs.Layout.{form_stride}
use lib.ListN.{length}
use mathlib.Core.Path.{sym, ◌∙◌}
use native.Mathlib.Omega.{arith}
use Rattle.binar.proofs.matrix_form.echelon_form.Goals as goal

pub overflow_add-stride : goal.overflow_add-stride
unfolding form_stride
overflow_add-stride c =
    let f = fits_true c.args.width c.args.rows c.args.cols (length c.args.w.now) (sym c.fits_in.ensures ∙ c.if-not-fits_in.false) in
    omega (arith, f)

pub overflow_add-stride-2 : goal.overflow_add-stride-2
unfolding form_stride
overflow_add-stride-2 c =
    let f = fits_true c.args.width c.args.rows c.args.cols (length c.args.w.now) (sym c.fits_in.ensures ∙ c.if-not-fits_in.false) in
    omega (arith, stride_counts c.args.width c.args.rows (length c.args.w.now) f.1 (omega arith) (omega arith))

pub write_identity-requires : goal.write_identity-requires
unfolding form_stride
write_identity-requires c =
    let f = fits_true c.args.width c.args.rows c.args.cols (length c.args.w.now) (sym c.fits_in.ensures ∙ c.if-not-fits_in.false) in
    omega (arith, f)

pub invariant_of-shape : goal.invariant_of-shape
invariant_of-shape c =
    let f = fits_true c.args.width c.args.rows c.args.cols (length c.args.w.now) (sym c.fits_in.ensures ∙ c.if-not-fits_in.false) in
    omega (arith, f)

pub echelonize-requires : goal.echelonize-requires
unfolding form_stride
echelonize-requires c =
    let f = fits_true c.args.width c.args.rows c.args.cols (length c.args.w.now) (sym c.fits_in.ensures ∙ c.if-not-fits_in.false) in
    omega (arith, f, c.write_identity.auto.w)

pub returns : goal.returns
unfolding form_stride
returns c = form_is c.args.w.now c.args.width c.args.rows c.args.cols (sym c.fits_in.ensures ∙ c.if-not-fits_in.false) _ _ _ c.write_identity.ensures c.echelonize.ensures.rank c.echelonize.ensures.left
