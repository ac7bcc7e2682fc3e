-- Each answer is that of the definition, by the tests that led there.
use Rattle.std.proofs.Common.{sym, ◌∙◌, arith}
use Rattle.binar.proofs.matrix_form.Formed.{fits_true, stride_counts}
use Rattle.binar.proofs.kernel.Shape.{kernel_misfit, form_room, kernel_none, kernel_quotient}
use Rattle.binar.proofs.kernel.kernel_fits_in.Goals as goal

pub returns-then-not-fits_in : goal.returns-then-not-fits_in
returns-then-not-fits_in c = sym (kernel_misfit c.args.width c.args.rows c.args.cols c.args.n (sym c.fits_in.ensures ∙ c.if-not-fits_in.true))

pub returns-then-cols-eq0 : goal.returns-then-cols-eq0
returns-then-cols-eq0 c = sym (kernel_none c.args.width c.args.rows c.args.cols c.args.n (sym c.fits_in.ensures ∙ c.if-not-fits_in.false) c.if-cols-eq0.true)

pub overflow_add-room : goal.overflow_add-room
overflow_add-room c = omega (arith, form_room c.args.width c.args.rows c.args.cols c.args.n (sym c.fits_in.ensures ∙ c.if-not-fits_in.false))

pub overflow_add-room-2 : goal.overflow_add-room-2
overflow_add-room-2 c =
    let f = fits_true c.args.width c.args.rows c.args.cols c.args.n (sym c.fits_in.ensures ∙ c.if-not-fits_in.false) in
    omega (arith, stride_counts c.args.width c.args.rows c.args.n f.1 c.requires (omega arith))

pub overflow_mul-room : goal.overflow_mul-room
overflow_mul-room c = omega (arith, form_room c.args.width c.args.rows c.args.cols c.args.n (sym c.fits_in.ensures ∙ c.if-not-fits_in.false))

pub overflow_sub-room : goal.overflow_sub-room
overflow_sub-room c = omega (arith, form_room c.args.width c.args.rows c.args.cols c.args.n (sym c.fits_in.ensures ∙ c.if-not-fits_in.false))

pub overflow_sub-room-2 : goal.overflow_sub-room-2
overflow_sub-room-2 c = omega (arith, form_room c.args.width c.args.rows c.args.cols c.args.n (sym c.fits_in.ensures ∙ c.if-not-fits_in.false))

pub returns : goal.returns
returns c = kernel_quotient c.args.width c.args.rows c.args.cols c.args.n (sym c.fits_in.ensures ∙ c.if-not-fits_in.false) c.if-cols-eq0.false
