-- The place is in the low word or in the high one.
use Rattle.binar.specs.Row.{bit}
use Rattle.pauli.proofs.places.Halves.{index_low, index_high}
use Rattle.std.proofs.Common.{ℕ, eqb, sym, ap, arith}
use Rattle.pauli.proofs.places.Places.contains.Goals as goal

pub returns-then-i-lt64 : goal.returns-then-i-lt64
unfolding bit
returns-then-i-lt64 c = ap (λ (x : ℕ). eqb x 1) (sym (index_low c.args.self (record { low = omega arith; high = omega arith }) c.args.p.0 c.if-i-lt64.true))

pub returns : goal.returns
unfolding bit
returns c = ap (λ (x : ℕ). eqb x 1) (sym (index_high c.args.self (record { low = omega arith; high = omega arith }) c.args.p.0 c.if-i-lt64.false))
