use Rattle.binar.specs.Layout.{form_stride}
use Rattle.pauli_group.specs.Inner.Area.{stride_of}
use Rattle.std.proofs.Common.{refl}
use Rattle.pauli_group.proofs.form.stride_of.Goals as goal

pub returns : goal.returns
unfolding stride_of form_stride
returns c = refl
