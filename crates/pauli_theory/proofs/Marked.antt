-- The marked rows hold by computation.
use mathlib.Core.Path.{refl}
use lib.Count.{ones}
use Rattle.binar.specs.Row.{◌⊕◌, bit, dot, if_bit, row_sum}
use Rattle.binar.specs.Echelon.{in_column, by_columns, pivot_of, swap_rows, clear, unless, add_to_others, place_pivot, with_pivot, on_found, echelonize_from, echelonize, beside_identity, echelon, rank as echelon_rank}
use Rattle.binar.specs.Solve.{sweep, solved, transpose_solve}
use Rattle.pauli.specs.Pauli.{I, times, anticommute, order_four, product_from, product, cons_if, select, indexed_product, phase}
use Rattle.pauli.specs.Sets.{set_of, members_from, members, condense, expand, row_of, pauli_of_row}
use Rattle.pauli_theory.specs.Standard.{used_by, support_of, form_of, rank, phase_of, if_zero, zero_rows, nonzero_rows, modulus_of, modulus, row_generators, some_order_four, anticommutes_with_some, some_anticommute, appended, exponent_mod, standard, nonabelian, bare, some_imaginary, some_minus, phases_of, step_of, phase_step, log2_size}
use Rattle.pauli_theory.specs.Membership.{outside, exponent_left, if_among, with_phase, factorization_of}
use Rattle.pauli_theory.specs.Order.{ranks_of, same_ranks, no_more, first_of, partial_cmp}
use Rattle.pauli_theory.specs.Modulo.{supports_other, multiplied, multiplied_by_all, modulo}
use Rattle.pauli_theory.specs.Symplectic.{position, swap_remove, times_if, cleared, on_position, paired_from, symplectic_form}
use Rattle.pauli_theory.specs.Common.{dependencies, common_sums, common_rows, common_basis, with_exponent, if_both, common_phase_from, common_phase}
use Rattle.pauli_theory.specs.Marked.{Marked}

pub marked : Marked
unfolding ones ◌⊕◌ bit dot if_bit in_column by_columns pivot_of swap_rows clear unless add_to_others place_pivot with_pivot on_found echelonize_from echelonize
    beside_identity echelon echelon_rank sweep solved transpose_solve I times anticommute order_four product_from product cons_if select indexed_product
    set_of members_from members condense expand row_of pauli_of_row used_by support_of form_of rank phase_of if_zero zero_rows nonzero_rows modulus_of modulus
    row_generators some_order_four anticommutes_with_some some_anticommute phase appended exponent_mod standard nonabelian bare some_imaginary some_minus
    phases_of step_of phase_step log2_size outside exponent_left if_among with_phase factorization_of ranks_of same_ranks no_more first_of partial_cmp
    supports_other multiplied multiplied_by_all modulo position swap_remove times_if cleared on_position paired_from symplectic_form
    row_sum dependencies common_sums common_rows common_basis with_exponent if_both common_phase_from common_phase
marked = record {
  empty_standard = refl;
  empty_phases = refl;
  minus_standard = refl;
  minus_phases = refl;
  i_standard = refl;
  i_phases = refl;
  y_phases = refl;
  xz_phases = refl;
  size = refl;
  signs_standard = refl;
  membership = refl;
  no_order = refl;
  remainder = refl;
  symplectic = refl;
  dropped_basis = refl;
  dropped_phase = refl;
  first_has = refl;
  second_has = refl;
  first_has_both = refl;
  second_has_both = refl;
}
