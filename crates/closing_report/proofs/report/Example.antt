-- The example holds by computation.
use mathlib.Core.Path.{refl}
use Prim.Native.Nat.{◌≤◌}
use native.Mathlib.Omega.{arith}
use lib.Count.{ones}
use lib.ListN.{length}
use Rattle.binar.specs.Row.{◌⊕◌, bit, dot, if_bit}
use Rattle.binar.specs.Echelon.{in_column, by_columns, pivot_of, swap_rows, clear, unless, add_to_others, place_pivot, with_pivot, on_found, echelonize_from, echelonize, beside_identity, echelon, rank as echelon_rank}
use Rattle.binar.specs.Solve.{sweep, solved, transpose_solve}
use Rattle.pauli.specs.Bytes.{u16_at, u32_at, le16, le32, numbers_at, le32s}
use Rattle.pauli.specs.Pauli.{I, times, anticommute, order_four, product_from, product, cons_if, select, indexed_product, phase}
use Rattle.pauli.specs.Roll.{most_paulis, highest_qubit, entry_at, entries_at, paulis_at, check_entries, check_set, check_sets, numbers, support, read, entry, table, bodies, encode}
use Rattle.pauli.specs.Support.{most_qubits, insert, insert_all}
use Rattle.pauli.specs.Sets.{set_of, members_from, members, pauli_of, condense, expand, row_of, pauli_of_row}
use Rattle.pauli.specs.Told.{refuse_if, and_then}
use Rattle.pauli_theory.specs.Standard.{used_by, support_of, form_of, rank, phase_of, if_zero, zero_rows, nonzero_rows, modulus_of, modulus, row_generators, some_order_four, anticommutes_with_some, some_anticommute, appended, exponent_mod, standard, nonabelian, bare, some_imaginary, some_minus, phases_of, step_of, phase_step}
use Rattle.pauli_theory.specs.Membership.{outside, exponent_left, if_among, with_phase, factorization_of}
use Rattle.pauli_group.specs.WorkArea.{work_words, enough}
use Rattle.pauli_group.specs.Calls.{paulis}
use Rattle.closing_report.specs.Decimal.{ascii, digits_up_to, digits}
use Rattle.closing_report.specs.Lines.{line_feed, labelled, phases_text, abelian_text, first_line, indexes_text, member_line, member_lines, refused_line}
use Rattle.closing_report.specs.InputRolls.{rolls_in}
use Rattle.closing_report.specs.Listing.{report, or_refused_in, text_of, listing}
use Rattle.closing_report.specs.Example.{input_of, generators, elements, text, Example}
use Rattle.closing_report.proofs.report.CallLaws.{call_told, call_put, call_cleared}

pub example : Example
unfolding ones ◌⊕◌ bit dot if_bit in_column by_columns pivot_of swap_rows clear unless add_to_others place_pivot with_pivot on_found echelonize_from echelonize
    beside_identity echelon echelon_rank sweep solved transpose_solve u16_at u32_at le16 le32 numbers_at le32s I times anticommute order_four product_from
    product cons_if select indexed_product most_paulis most_qubits highest_qubit entry_at entries_at paulis_at check_entries check_set check_sets insert insert_all
    numbers support read entry table bodies encode set_of members_from members pauli_of condense expand row_of pauli_of_row refuse_if and_then used_by
    support_of form_of rank phase_of if_zero zero_rows nonzero_rows modulus_of modulus row_generators some_order_four anticommutes_with_some some_anticommute
    phase appended exponent_mod standard nonabelian bare some_imaginary some_minus phases_of step_of phase_step outside exponent_left if_among with_phase factorization_of enough paulis
    ascii digits_up_to digits line_feed labelled phases_text abelian_text first_line indexes_text member_line member_lines refused_line rolls_in report
    or_refused_in text_of listing input_of generators elements text
example = record {
  printed = refl;
  called = λ work out r work' out' words room c.
      let enough : work_words ≤ length work = omega arith in
      (call_told c enough text refl room, call_put c enough text refl room, call_cleared c enough text refl room);
  no_indexes = refl;
  second_roll = refl;
  no_roll = refl;
  no_words = refl;
}
