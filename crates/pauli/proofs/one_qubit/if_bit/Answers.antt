-- The bit is 1, or it is 0.
use Rattle.std.proofs.Common.{◌≡◌, refl, ◌∙◌, arith}
use Rattle.binar.specs.Row.{if_bit}
use Rattle.pauli.proofs.one_qubit.if_bit.Goals as goal

pub returns-then-bit-eq1 : goal.returns-then-bit-eq1
unfolding if_bit
returns-then-bit-eq1 c = rw c.if-bit-eq1.true refl

pub returns : goal.returns
unfolding if_bit
returns c =
    let none : c.args.bit ≡ 0 = omega (arith, c.requires, c.if-bit-eq1.false) in
    c.none.ensures ∙ rw none refl
