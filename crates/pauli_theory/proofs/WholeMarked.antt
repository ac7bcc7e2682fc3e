-- The marked rows of the whole common part hold by computation.
use mathlib.Core.Path.{refl}
use lib.Count.{ones}
use Rattle.binar.specs.Row.{◌⊕◌, bit, dot, if_bit, row_sum}
use Rattle.binar.specs.Echelon.{in_column, by_columns, pivot_of, swap_rows, clear, unless, add_to_others, place_pivot, with_pivot, on_found, echelonize_from, echelonize, beside_identity, echelon, rank as echelon_rank}
use Rattle.binar.specs.Solve.{sweep, solved, transpose_solve}
use Rattle.pauli.specs.Pauli.{I, times, anticommute, order_four, product_from, product, cons_if, select, indexed_product, phase}
use Rattle.pauli.specs.Sets.{set_of, members_from, members, condense, expand, row_of, pauli_of_row}
use Rattle.pauli_theory.specs.Standard.{used_by, support_of, form_of, rank, phase_of, if_zero, zero_rows, nonzero_rows, modulus_of, modulus, row_generators, some_order_four, anticommutes_with_some, some_anticommute, appended, exponent_mod, standard, nonabelian, bare, some_imaginary, some_minus, phases_of, step_of, phase_step}
use Rattle.pauli_theory.specs.Membership.{outside, exponent_left, if_among, with_phase, factorization_of}
use Rattle.pauli_theory.specs.Order.{ranks_of, same_ranks, no_more, first_of, partial_cmp}
use Rattle.pauli_theory.specs.Common.{dependencies, common_sums, common_rows, common_basis, with_exponent, if_both, common_phase_from, common_phase, cons_some, phases_from, common_phases, lesser}
use Rattle.pauli_theory.specs.WholeCommon.{or_else, if_none, paired, kept_from, whole_part, whole_common}
use Rattle.pauli_theory.specs.WholeCommonTheorems.{WholeMarked}

pub whole_marked : WholeMarked
unfolding ones ◌⊕◌ bit dot if_bit in_column by_columns pivot_of swap_rows clear unless add_to_others place_pivot with_pivot on_found echelonize_from echelonize
    beside_identity echelon echelon_rank sweep solved transpose_solve I times anticommute order_four product_from product cons_if select indexed_product
    set_of members_from members condense expand row_of pauli_of_row used_by support_of form_of rank phase_of if_zero zero_rows nonzero_rows modulus_of modulus
    row_generators some_order_four anticommutes_with_some some_anticommute phase appended exponent_mod standard nonabelian bare some_imaginary some_minus
    phases_of step_of phase_step outside exponent_left if_among with_phase factorization_of ranks_of same_ranks no_more first_of partial_cmp
    row_sum dependencies common_sums common_rows common_basis with_exponent if_both common_phase_from common_phase cons_some phases_from common_phases
    lesser or_else if_none paired kept_from whole_part whole_common
whole_marked = record {
  crews = refl;
  crews_have = refl;
  product = refl;
  apart = refl;
  signs = refl;
  right_inside = refl;
  left_inside = refl;
  overlap = refl;
  powers = refl;
}
