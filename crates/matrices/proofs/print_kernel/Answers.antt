use Rattle.std.proofs.Common.{arith}
use Rattle.matrices.proofs.Laws.{kernel_inside, kernel_row_inside}
use Rattle.matrices.proofs.print_kernel.Goals as goal

pub overflow_mul-at : goal.overflow_mul-at
overflow_mul-at g c = omega (arith, kernel_inside _ _ _ _ _ _ _ c.in-Some.ensures c.requires)

pub overflow_add-at : goal.overflow_add-at
overflow_add-at g c = omega (arith, kernel_inside _ _ _ _ _ _ _ c.in-Some.ensures c.requires)

pub overflow_mul-i : goal.overflow_mul-i
overflow_mul-i g c = omega (arith, kernel_row_inside _ _ _ _ _ _ _ _ c.in-Some.ensures c.requires c.loop-i-test.true)

pub overflow_add-at-in-loop-i : goal.overflow_add-at-in-loop-i
overflow_add-at-in-loop-i g c = omega (arith, kernel_row_inside _ _ _ _ _ _ _ _ c.in-Some.ensures c.requires c.loop-i-test.true)

pub print_bits-requires : goal.print_bits-requires
print_bits-requires g c = omega (arith, kernel_row_inside _ _ _ _ _ _ _ _ c.in-Some.ensures c.requires c.loop-i-test.true)
