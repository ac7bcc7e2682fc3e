-- Rows with X and Z exchanged: the overlap of a row with one of these says whether the Paulis anticommute.
use Rattle.std.proofs.Common.{◌≡◌, sym, ap, ap₂, ◌∙◌, List, length, ℕ, ◌+◌, ◌*◌, ◌/◌, ◌%◌, ◌^◌, ◌<◌, bit_and, mod-lt, mod-eq_of_lt, pow_pos, pow-add, shr_lt, arith}
use lib.Arith.{digits_lt}
use lib.Bits.{and_block, and_lt}
use lib.Count.{ones, ones_cat}
use Rattle.binar.specs.Row.{dot}
use Rattle.binar.proofs.row.Bits.{xor_mod, xor_shr, xor_beside, beside_mod, beside_shr, beside_parts, dot_comm}
use Rattle.binar.proofs.echelon.Span.{Additive}
use Rattle.pauli.specs.Support.{Rising}
use Rattle.pauli.specs.Pauli.{Pauli, anticommute}
use Rattle.pauli.specs.Sets.{condense, row_of}
use Rattle.pauli.specs.PauliTheorems.{On, PauliOn}
use Rattle.pauli.proofs.condense.Places.{condense_lt, condense_dot}
use Rattle.pauli_theory.specs.Centralizer.{exchanged}

-- the overlap of two rows, half by half
dot_beside : (n a b c d : ℕ) → a < 2 ^ n → c < 2 ^ n → dot (a + 2 ^ n * b) (c + 2 ^ n * d) ≡ (dot a c + dot b d) % 2
unfolding dot
dot_beside n a b c d ha hc =
    ap₂ (λ (u v : ℕ). ones (bit_and u v) % 2) (front a b (2 ^ n)) (front c d (2 ^ n))
    ∙ ap (λ (v : ℕ). v % 2) (ap ones (and_block n b d a c ha hc) ∙ ones_cat n (bit_and b d) (bit_and a c) (and_lt n a c ha hc)) ∙ omega arith
  where
    front : (u v w : ℕ) → u + w * v ≡ v * w + u
    front u v w = omega arith

module _ (n : ℕ) where
  pub exchanged_xor : Additive (exchanged n)
  unfolding exchanged
  exchanged_xor a b =
      rw (xor_shr n a b, xor_mod n (a / 2 ^ n) (b / 2 ^ n), xor_mod n a b)
      (sym (xor_beside n _ _ _ _ (mod-lt (a / 2 ^ n) (pow_pos n)) (mod-lt (b / 2 ^ n) (pow_pos n))))

  pub exchanged_beside : (a b : ℕ) → a < 2 ^ n → b < 2 ^ n → exchanged n (a + 2 ^ n * b) ≡ b + 2 ^ n * a
  unfolding exchanged
  exchanged_beside a b ha hb = rw (beside_shr n a b ha, beside_mod n a b ha, mod-eq_of_lt hb)

  twice : 2 ^ (2 * n) ≡ 2 ^ (n + n)
  twice = ap (2 ^◌) double
    where
      double : 2 * n ≡ n + n
      double = omega arith

  pub exchanged_lt : (v : ℕ) → exchanged n v < 2 ^ (2 * n)
  unfolding exchanged
  exchanged_lt v = rw (twice, pow-add) (omega (arith, digits_lt (mod-lt v (pow_pos n)) (mod-lt (v / 2 ^ n) (pow_pos n))))

pub high_lt : (n v : ℕ) → v < 2 ^ (2 * n) → v / 2 ^ n < 2 ^ n
high_lt n v h = shr_lt n n (rw (twice n) at h)

pub exchanged_back : (n v : ℕ) → v < 2 ^ (2 * n) → exchanged n (exchanged n v) ≡ v
exchanged_back n v h =
    let a = v % 2 ^ n in
    let b = v / 2 ^ n in
    let low = mod-lt v (pow_pos n) in
    let high = high_lt n v h in
    ap (λ (u : ℕ). exchanged n (exchanged n u)) (sym (beside_parts n v))
    ∙ ap (exchanged n) (exchanged_beside n a b low high) ∙ exchanged_beside n b a high low ∙ beside_parts n v

module _ (qs : List ℕ) (rises : Rising 0 qs) where
  -- the overlap of sets, over the places
  overlap : (a b : ℕ) → On qs b → dot a b ≡ dot (condense qs a) (condense qs b)
  overlap a b on = dot_comm a b ∙ sym (condense_dot qs rises b a on) ∙ dot_comm (condense qs b) (condense qs a)

  pub anticommute_row : (p g : Pauli) → PauliOn qs g → anticommute p g ≡ dot (row_of qs p) (exchanged (length qs) (row_of qs g))
  unfolding anticommute row_of
  anticommute_row p g on =
      let n = length qs in
      ap₂ (λ (a b : ℕ). (a + b) % 2) (overlap p.x g.z on.z) (overlap p.z g.x on.x)
      ∙ sym (ap (dot (condense qs p.x + 2 ^ n * condense qs p.z)) (exchanged_beside n _ _ (condense_lt qs g.x) (condense_lt qs g.z))
      ∙ dot_beside n _ _ _ _ (condense_lt qs p.x) (condense_lt qs g.z))
