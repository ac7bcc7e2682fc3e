-- Laws of the result: the rows of the kernel as Paulis on the named qubits.
use Rattle.std.proofs.Common.{◌≡◌, refl, sym, ap, ◌∙◌, subst, List, length, get_or, take, drop, drop-drop, ℕ, ◌+◌, ◌-◌, ◌*◌, ◌/◌, ◌%◌, ◌^◌, ◌≤◌, ◌<◌, zero-add, one-mul, mul_assoc, add-mul, mod-lt, mod-eq_of_lt, pow_pos, pow_mono, pow-add, arith}
use Rattle.std.proofs.lemmas.Nat.{pow_below}
use lib.Pow.{split, high, low}
use Rattle.binar.specs.Words.{value, row_at, matrix}
use Rattle.binar.proofs.Lists.{all_get}
use Rattle.binar.proofs.echelon.Matrix.{length_matrix, matrix_row}
use Rattle.binar.proofs.matrix_form.Alike.{row_alike}
use Rattle.binar.proofs.row.Slice.{row_next}
use Rattle.pauli.specs.declared.signed.Pauli.{Pauli as Held}
use Rattle.pauli.specs.Pauli.{Pauli, I, normal}
use Rattle.pauli.specs.PlaceSet.{set_in}
use Rattle.pauli.specs.Signed.{held}
use Rattle.pauli.specs.Support.{All}
use Rattle.pauli.proofs.signed.Algebra.{pauli_path}
use Rattle.pauli_theory.specs.Inner.ModuloPlaces.{moved_pauli}
use Rattle.pauli_theory.proofs.Exchanged.{high_lt}
use Rattle.pauli_group.specs.Inner.Area.{Outside}
use Rattle.pauli_group.specs.Inner.Moved.{MovablePauli}
use Rattle.centralizer.specs.Stacked.{kernel_at, result_at, places_of_row}

-- ---- a number of two words, parted at column s

module _ (a b s u : ℕ) (short : s ≤ 63) (two : u ≡ b * 2 ^ 64 + a) (small : u < 2 ^ (2 * s)) where
  abbrev front : ℕ
  front = b * 2 ^ (64 - s) + a / 2 ^ s

  parts : u ≡ front * 2 ^ s + a % 2 ^ s
  parts =
      let e : 64 ≡ 64 - s + s = omega arith in
      let p : 2 ^ 64 ≡ 2 ^ (64 - s) * 2 ^ s = ap (2 ^◌) e ∙ pow-add 2 (64 - s) s in
      omega (arith, two, ap (b *◌) p ∙ sym (mul_assoc b (2 ^ (64 - s)) (2 ^ s)), add-mul (b * 2 ^ (64 - s)) (a / 2 ^ s) (2 ^ s), split a s)

  low_part : u % 2 ^ s ≡ a % 2 ^ s
  low_part = ap (◌% 2 ^ s) parts ∙ low front s (mod-lt a (pow_pos s))

  high_part : u / 2 ^ s ≡ front
  high_part = ap (◌/ 2 ^ s) parts ∙ high front s (mod-lt a (pow_pos s))

  front_lt : front < 2 ^ 64
  front_lt =
      let m : 2 ^ s ≤ 2 ^ 64 = pow_mono (let k : s ≤ 64 = omega arith in k) in
      omega (arith, high_lt s u small, high_part)

  -- no digit is shifted out
  kept_whole : b * 2 ^ (64 - s) % 2 ^ 64 ≡ b * 2 ^ (64 - s)
  kept_whole = mod-eq_of_lt (omega (arith, front_lt))

-- ---- a row of four words, of which the last two are zero

module _ (l : List ℕ) (at s : ℕ) (room : at + 4 ≤ length l) (short : s ≤ 63) (small : row_at l at 4 < 2 ^ (2 * s)) where
  abbrev a : ℕ
  a = get_or l at 0

  abbrev b : ℕ
  b = get_or l (at + 1) 0

  two_words : row_at l at 4 ≡ b * 2 ^ 64 + a
  two_words =
      let m : 2 ^ (2 * s) ≤ 2 ^ 128 = pow_mono (let k : 2 * s ≤ 128 = omega arith in k) in
      omega (arith, row_next l at 3 (omega arith), row_next l (at + 1) 2 (omega arith))

  pub row_fits : b * 2 ^ (64 - s) % 2 ^ 64 + a / 2 ^ s < 2 ^ 64
  row_fits = rw (kept_whole a b s (row_at l at 4) short two_words small) (front_lt a b s (row_at l at 4) short two_words small)

  pub row_is : held (record {
    exponent = 0;
    x = record { low = a % (1 * 2 ^ s % 2 ^ 64); high = 0 };
    z = record { low = b * 2 ^ (64 - s) % 2 ^ 64 + a / 2 ^ s; high = 0 };
  }) ≡ places_of_row s (row_at l at 4)
  unfolding held set_in places_of_row
  row_is =
      let u = row_at l at 4 in
      let one : 1 * 2 ^ s % 2 ^ 64 ≡ 2 ^ s = ap (◌% 2 ^ 64) (one-mul (2 ^ s)) ∙ mod-eq_of_lt (pow_below s 64 (omega arith)) in
      pauli_path refl
      (zero-add (a % (1 * 2 ^ s % 2 ^ 64)) ∙ ap (a %◌) one ∙ sym (low_part a b s u short two_words small))
      (zero-add (b * 2 ^ (64 - s) % 2 ^ 64 + a / 2 ^ s) ∙ ap (◌+ a / 2 ^ s) (kept_whole a b s u short two_words small)
      ∙ sym (high_part a b s u short two_words small))

  pub row_empty : s ≡ 0 → (p : Held) → held p ≡ I → held p ≡ places_of_row s (row_at l at 4)
  unfolding places_of_row I
  row_empty z p e =
      let none : row_at l at 4 ≡ 0 = let u : row_at l at 4 < 1 = rw z at small in omega arith in
      e ∙ rw (none, z)

-- ---- the Pauli of a row, moved to the named places

-- row i of the n of the kernel in the slice first is still as it was, since only words of the result have changed
module _ (own named first w : List ℕ) (n i : ℕ) (o : Outside result_at (5 * n) first w) (size : length first ≡ 4096) (few : n ≤ 126) (h : i < n) where
  abbrev u : ℕ
  u = row_at w (kernel_at + 4 * i) 4

  row_here : u ≡ get_or (matrix 4 n (drop kernel_at first)) i 0
  unfolding row_at
  row_here =
      let at : kernel_at + i * 4 ≡ kernel_at + 4 * i = omega arith in
      row_alike first w o.size (kernel_at + 4 * i) 4 (omega arith) (λ k a b. o.before k (omega arith))
      ∙ sym
      (matrix_row 4 n (drop kernel_at first) i h
      ∙ ap (λ (t : List ℕ). value (take 4 t)) (drop-drop (i * 4) kernel_at first ∙ ap (λ (k : ℕ). drop k first) at))

  abbrev Fit : ℕ → Type 0
  Fit v = (v < 2 ^ (2 * length own)) × MovablePauli own named (places_of_row (length own) v)

  module _ (all : All Fit (matrix 4 n (drop kernel_at first))) where
    here : Fit u
    here =
        let M = matrix 4 n (drop kernel_at first) in
        subst Fit (sym row_here) (all_get Fit M 0 all i (rw (length_matrix 4 n (drop kernel_at first)) h))

    pub row_small : u < 2 ^ (2 * length own)
    row_small = here.0

    pub row_movable : (p : Held) → held p ≡ places_of_row (length own) u
        → ((held p).x < 2 ^ length own) × ((held p).z < 2 ^ length own) × MovablePauli own named (held p)
    unfolding places_of_row
    row_movable p e =
        let s = length own in
        subst (λ (q : Pauli). (q.x < 2 ^ s) × (q.z < 2 ^ s) × MovablePauli own named q) (sym e) (mod-lt u (pow_pos s), high_lt s u here.0, here.1)

  pub row_moved : (p q : Held) → held p ≡ places_of_row (length own) u → held q ≡ moved_pauli own named (held p)
      → normal (held q) ≡ moved_pauli own named (places_of_row (length own) (get_or (matrix 4 n (drop kernel_at first)) i 0))
  unfolding normal moved_pauli places_of_row
  row_moved p q e f = ap normal (f ∙ ap (moved_pauli own named) e) ∙ ap (λ (v : ℕ). moved_pauli own named (places_of_row (length own) v)) row_here
