-- What the test for room tells is what the two steps ask.
use Rattle.std.proofs.Common.{sym, ◌∙◌, subst, length, arith}
use Rattle.binar.specs.Layout.{form_stride, FormIs}
use Rattle.binar.proofs.matrix_form.Formed.{stride_counts}
use Rattle.binar.proofs.kernel.Shape.{kernel_form}
use Rattle.binar.proofs.kernel.Found.{form_told, kernel_room, kernel_is}
use Rattle.binar.proofs.kernel.kernel_basis_matrix.Goals as goal

pub unwrap-rank-requires : goal.unwrap-rank-requires
unwrap-rank-requires c =
    form_told c.args.w.now c.args.width c.args.rows c.args.cols (sym c.kernel_fits_in.ensures ∙ c.if-not-kernel_fits_in.false) _ _ c.echelon_form.ensures

pub overflow_add-stride : goal.overflow_add-stride
unfolding form_stride
overflow_add-stride c =
    let f = kernel_form c.args.width c.args.rows c.args.cols (length c.args.w.now) (sym c.kernel_fits_in.ensures ∙ c.if-not-kernel_fits_in.false) in
    omega (arith, f)

pub overflow_add-stride-2 : goal.overflow_add-stride-2
unfolding form_stride
overflow_add-stride-2 c =
    let f = kernel_form c.args.width c.args.rows c.args.cols (length c.args.w.now) (sym c.kernel_fits_in.ensures ∙ c.if-not-kernel_fits_in.false) in
    omega (arith, stride_counts c.args.width c.args.rows (length c.args.w.now) f.1 (omega arith) (omega arith))

pub overflow_mul-rows : goal.overflow_mul-rows
unfolding form_stride
overflow_mul-rows c =
    let f = kernel_form c.args.width c.args.rows c.args.cols (length c.args.w.now) (sym c.kernel_fits_in.ensures ∙ c.if-not-kernel_fits_in.false) in
    omega (arith, f)

pub overflow_add-rows : goal.overflow_add-rows
unfolding form_stride
overflow_add-rows c =
    let f = kernel_form c.args.width c.args.rows c.args.cols (length c.args.w.now) (sym c.kernel_fits_in.ensures ∙ c.if-not-kernel_fits_in.false) in
    omega (arith, f)

pub invariant_of-shape : goal.invariant_of-shape
invariant_of-shape c =
    let f = kernel_form c.args.width c.args.rows c.args.cols (length c.args.w.now) (sym c.kernel_fits_in.ensures ∙ c.if-not-kernel_fits_in.false) in
    omega (arith, f)

pub write_kernel-requires : goal.write_kernel-requires
unfolding form_stride
write_kernel-requires c =
    kernel_room c.args.w.now c.args.width c.args.rows c.args.cols (sym c.kernel_fits_in.ensures ∙ c.if-not-kernel_fits_in.false) _ _
    (subst (λ a. FormIs c.args.w.now c.args.width c.args.rows c.args.cols a c.echelon_form.new.w) c.unwrap-rank.ensures c.echelon_form.ensures) c.echelon_form.auto.w

pub returns : goal.returns
unfolding form_stride
returns c =
    kernel_is c.args.w.now c.args.width c.args.rows c.args.cols (sym c.kernel_fits_in.ensures ∙ c.if-not-kernel_fits_in.false) _ _
    (subst (λ a. FormIs c.args.w.now c.args.width c.args.rows c.args.cols a c.echelon_form.new.w) c.unwrap-rank.ensures c.echelon_form.ensures) c.echelon_form.auto.w
    _ _ c.write_kernel.ensures.count c.write_kernel.ensures.left
