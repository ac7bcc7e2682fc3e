-- Paulis as rows over a support.
use Rattle.std.proofs.Common.{◌≡◌, ℕ, ◌+◌, ◌*◌, ◌/◌, ◌%◌, ◌^◌, ◌<◌, List, [], ◌∷◌, length, get_or, sym, refl, ap, ◌∙◌, ⊎_elim, mod-lt, arith, pow_pos, pow-add, shr_lt}
use lib.Arith.{digits_lt}
use lib.Bits.{bit_or}
use Rattle.binar.specs.Row.{◌⊕◌, bit, weight}
use Rattle.binar.proofs.row.Bits.{bit_of_zero, bit_beside, bit_beside_past, beside_mod, beside_shr, beside_parts, xor_beside}
use Rattle.binar.proofs.Lists.{all_map, all_by}
use Rattle.pauli.specs.Support.{All, Rising}
use Rattle.pauli.specs.Pauli.{Pauli, I, times, pauli_weight}
use Rattle.pauli.specs.Sets.{condense, expand, row_of, pauli_of_row}
use Rattle.pauli.specs.PauliTheorems.{PauliOn, RowLaw}
use Rattle.pauli.proofs.condense.MoreBits.{in_or, in_xor}
use Rattle.pauli.proofs.signed.Algebra.{pauli_path}
use Rattle.pauli.proofs.condense.Places.{condense_bit, condense_lt, condense_sum, condense_or, condense_weight, expand_condense, condense_expand}

-- as many columns for X as for Z
columns_twice : (n : ℕ) → 2 ^ (2 * n) ≡ 2 ^ (n + n)
columns_twice n = ap (2 ^◌) double
  where
    double : 2 * n ≡ n + n
    double = omega arith

-- a set with none of these qubits
condense_zero : (qs : List ℕ) (v : ℕ) → All (λ q. bit v q ≡ 0) qs → condense qs v ≡ 0
unfolding condense
condense_zero [] v h = refl
condense_zero (q ∷ qs) v h = omega (arith, h.0, condense_zero qs v h.1)

module _ (qs : List ℕ) where
  pub column_x : (p : Pauli) (i : ℕ) → i < length qs → bit (row_of qs p) i ≡ bit p.x (get_or qs i 0)
  unfolding row_of
  column_x p i l = bit_beside (length qs) _ _ i l ∙ condense_bit qs p.x i l

  pub column_z : (p : Pauli) (i : ℕ) → i < length qs → bit (row_of qs p) (length qs + i) ≡ bit p.z (get_or qs i 0)
  unfolding row_of
  column_z p i l = bit_beside_past (length qs) _ _ (condense_lt qs p.x) i ∙ condense_bit qs p.z i l

  pub row_lt : (p : Pauli) → row_of qs p < 2 ^ (2 * length qs)
  unfolding row_of
  row_lt p = rw (columns_twice, pow-add) (omega (arith, digits_lt (condense_lt qs p.z) (condense_lt qs p.x)))

  pub row_times : (p q : Pauli) → row_of qs (times p q) ≡ row_of qs p ⊕ row_of qs q
  unfolding row_of times
  row_times p q = simp condense_sum (sym (xor_beside (length qs) _ _ _ _ (condense_lt qs p.x) (condense_lt qs q.x)))

  pub row_zero : (p : Pauli) → row_of qs p ≡ 0 → All (λ q. (bit p.x q ≡ 0) × (bit p.z q ≡ 0)) qs
  row_zero p e = all_by _ qs 0 λ i l. (sym (column_x p i l) ∙ no_one i, sym (column_z p i l) ∙ no_one (length qs + i))
    where
      no_one : (k : ℕ) → bit (row_of qs p) k ≡ 0
      no_one k = ap (λ (v : ℕ). bit v k) e ∙ bit_of_zero k

  pub zero_row : (p : Pauli) → All (λ q. (bit p.x q ≡ 0) × (bit p.z q ≡ 0)) qs → row_of qs p ≡ 0
  unfolding row_of
  zero_row p h = rw (condense_zero qs p.x (all_map (λ q k. k.0) qs h), condense_zero qs p.z (all_map (λ q k. k.1) qs h)) (omega arith)

  pub on-I : PauliOn qs I
  unfolding I
  on-I = record { x = λ q e. absurd (omega (arith, bit_of_zero q)); z = λ q e. absurd (omega (arith, bit_of_zero q)) }

  pub on_times : (p q : Pauli) → PauliOn qs p → PauliOn qs q → PauliOn qs (times p q)
  unfolding times
  on_times p q on on' =
      record {
        x = λ k e. ⊎_elim (on.x k) (on'.x k) (in_xor p.x q.x k e);
        z = λ k e. ⊎_elim (on.z k) (on'.z k) (in_xor p.z q.z k e);
      }

  module _ (h : Rising 0 qs) where
    pub row_back : (e : ℕ) (p : Pauli) → PauliOn qs p → pauli_of_row qs e (row_of qs p) ≡ record { e = e; x = p.x; z = p.z }
    unfolding row_of pauli_of_row
    row_back e p on =
        let n = length qs in
        let low = condense_lt qs p.x in
        pauli_path refl
        (ap (expand qs) (beside_mod n _ _ low) ∙ expand_condense qs h p.x on.x) (ap (expand qs) (beside_shr n _ _ low) ∙ expand_condense qs h p.z on.z)

    pub back_row : (e r : ℕ) → r < 2 ^ (2 * length qs) → row_of qs (pauli_of_row qs e r) ≡ r
    unfolding row_of pauli_of_row
    back_row e r l =
        let n = length qs in
        rw (condense_expand qs h (r % 2 ^ n) (mod-lt r (pow_pos n)), condense_expand qs h (r / 2 ^ n) (shr_lt n n (rw columns_twice at l))) (beside_parts n r)

    pub row_weight : (p : Pauli) → PauliOn qs p → weight (bit_or (condense qs p.x) (condense qs p.z)) ≡ pauli_weight p
    unfolding pauli_weight
    row_weight p on =
        ap weight (sym (condense_or qs p.x p.z))
        ∙ condense_weight qs h (bit_or p.x p.z) λ q e. ⊎_elim (on.x q) (on.z q) (in_or p.x p.z q e)

    pub row_law : RowLaw qs h
    row_law =
        record {
          column_x = column_x;
          column_z = column_z;
          row_lt = row_lt;
          row_times = row_times;
          row_zero = row_zero;
          zero_row = zero_row;
          row_back = row_back;
          back_row = back_row;
          row_weight = row_weight;
        }
