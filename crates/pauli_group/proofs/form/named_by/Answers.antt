use Rattle.std.proofs.Common.{◌∙◌, arith}
use Rattle.binar.specs.Layout.{form_stride}
use Rattle.pauli.specs.PlaceSet.{set_in}
use Rattle.pauli_group.proofs.form.FormLaws.{no_names, names_in_one, names_in_two}
use Rattle.pauli_group.specs.Inner.Area.{stride_of}
use Rattle.pauli_group.proofs.form.named_by.Goals as goal

pub returns-then-n-eq0 : goal.returns-then-n-eq0
returns-then-n-eq0 c = c.none.ensures ∙ no_names c.args.w.now c.args.at c.args.n (λ q. (c.type_inv.w q).fits) c.requires.1 c.if-n-eq0.true

pub bounds-w-at : goal.bounds-w-at
unfolding stride_of form_stride
bounds-w-at c = omega (arith, c.requires.1)

pub returns-then-n-le64 : goal.returns-then-n-le64
unfolding set_in
returns-then-n-le64 c = names_in_one c.args.w.now c.args.at c.args.n (λ q. (c.type_inv.w q).fits) c.requires.1 c.if-n-eq0.false c.if-n-le64.true

pub bounds-w-at-2 : goal.bounds-w-at-2
unfolding stride_of form_stride
bounds-w-at-2 c = omega (arith, c.requires.1)

pub bounds-w-at-3 : goal.bounds-w-at-3
unfolding stride_of form_stride
bounds-w-at-3 c = omega (arith, c.requires.1, c.if-n-le64.false)

pub returns : goal.returns
unfolding set_in
returns c = names_in_two c.args.w.now c.args.at c.args.n (λ q. (c.type_inv.w q).fits) c.requires.1 c.if-n-le64.false c.requires.0
