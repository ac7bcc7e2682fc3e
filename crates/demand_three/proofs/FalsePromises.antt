-- What the calls write under a false promise, by computation.
use Rattle.std.proofs.Common.{◌≡◌, refl, [], ◌∷◌, ℕ, arith}
use mathlib.Core.List.{flat_map}
use mathlib.Core.Option.{none}
use lib.Count.{ones}
use Rattle.binar.specs.Echelon.{in_column, by_columns, pivot_of, swap_rows, clear, unless, add_to_others, place_pivot, with_pivot, on_found, echelonize_from, echelonize, beside_identity, echelon, rank as echelon_rank}
use Rattle.binar.specs.Row.{◌⊕◌, bit, weight, dot, if_bit}
use Rattle.binar.specs.Solve.{sweep, solved, transpose_solve}
use Rattle.pauli.specs.Bytes.{u16_at, u32_at, le16, le32, numbers_at, le32s}
use Rattle.pauli.specs.JoinCalls.{read_both, few_qubits}
use Rattle.pauli.specs.Pauli.{I, phase, turned, times, anticommute, order_four, pauli_weight, product_from, product, cons_if, select, indexed_product}
use Rattle.pauli.specs.Roll.{most_paulis, entry_at, entries_at, paulis_at, check_entries, check_set, check_sets, numbers, support, read, entry, table, bodies, encode, by_value, write}
use Rattle.pauli.specs.Sets.{set_of, members_from, members, condense, expand, row_of, pauli_of_row, pauli_of, sparse_of}
use Rattle.pauli.specs.Support.{most_qubits, insert, insert_all}
use Rattle.pauli.specs.Told.{refuse_if, and_then, map_told}
use Rattle.pauli_theory.specs.Group.{Generated, Promise, Honest}
use Rattle.pauli_theory.specs.Listing.{count_from, up_to, chosen, of_sizes, subsets, nontrivial, with_phases, elements_of, largest_page, page_size, page}
use Rattle.pauli_theory.specs.Marked.{on_x, next_x, minus_next_x}
use Rattle.pauli_theory.specs.Membership.{outside, exponent_left, if_among, with_phase, factorization_of}
use Rattle.pauli_theory.specs.Modulo.{supports_other, multiplied, multiplied_by_all, modulo}
use Rattle.pauli_theory.specs.Standard.{used_by, support_of, form_of, rank, phase_of, if_zero, zero_rows, nonzero_rows, modulus_of, modulus, row_generators, some_order_four, anticommutes_with_some, some_anticommute, appended, exponent_mod, standard, nonabelian, bare, some_imaginary, some_minus, phases_of, step_of, phase_step}
use Rattle.pauli_theory.proofs.Theorems.{group_laws}
use Rattle.pauli_group.specs.Calls.{paulis, one_list, page_bytes, elements_call, two_lists, modulo_bytes, modulo_call}
use Rattle.pauli_group.specs.WorkArea.{enough}
use Rattle.demand_three.specs.ListedGroup.{FalsePromises}

no_factorization : factorization_of Promise.none (next_x ∷ on_x 0 ∷ []) minus_next_x ≡ none
unfolding ones ◌⊕◌ bit dot if_bit in_column by_columns pivot_of swap_rows clear unless add_to_others place_pivot with_pivot on_found echelonize_from echelonize
    beside_identity echelon echelon_rank sweep solved transpose_solve I times anticommute order_four product_from product cons_if select indexed_product
    set_of members_from members condense expand row_of pauli_of_row used_by support_of form_of rank phase_of if_zero zero_rows nonzero_rows modulus_of modulus
    row_generators some_order_four anticommutes_with_some some_anticommute phase appended exponent_mod standard nonabelian bare some_imaginary some_minus
    phases_of step_of phase_step outside exponent_left if_among with_phase factorization_of
no_factorization = refl

not_generated : Generated (next_x ∷ on_x 0 ∷ []) minus_next_x → ⊥
unfolding Honest
not_generated g =
    let gs = next_x ∷ on_x 0 ∷ [] in
    let (f, e) = (group_laws.membership_law Promise.none gs minus_next_x tt).complete g in
    let z : ◌≡◌ {A = ℕ} 0 1 = cc (e, no_factorization) in omega arith

pub false_promises : FalsePromises
unfolding ones ◌⊕◌ bit weight dot if_bit in_column by_columns pivot_of swap_rows clear unless add_to_others place_pivot with_pivot on_found echelonize_from echelonize
    beside_identity echelon echelon_rank I times turned anticommute order_four pauli_weight product_from product cons_if select indexed_product
    set_of members_from members condense expand row_of pauli_of_row used_by support_of form_of rank phase_of if_zero zero_rows nonzero_rows modulus_of modulus
    row_generators some_order_four anticommutes_with_some some_anticommute phase appended exponent_mod standard nonabelian bare some_imaginary some_minus
    phases_of step_of phase_step count_from up_to chosen of_sizes subsets nontrivial flat_map with_phases elements_of largest_page page_size page
    supports_other multiplied multiplied_by_all modulo
    u16_at u32_at le16 le32 numbers_at le32s most_paulis entry_at entries_at paulis_at check_entries check_set check_sets numbers support read entry table
    bodies encode by_value write pauli_of sparse_of most_qubits insert insert_all refuse_if and_then map_told read_both few_qubits enough
    paulis one_list page_bytes elements_call two_lists modulo_bytes modulo_call
false_promises = record {
  four = refl;
  no_more = refl;
  eight = refl;
  sign_lost = refl;
  not_generated = not_generated;
  sign_kept = refl;
}
