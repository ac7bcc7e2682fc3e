-- A roll without its first Paulis: a count, a table and bodies, one behind the other.
use Rattle.std.proofs.Common.{◌≡◌, ℕ, ◌+◌, ◌-◌, ◌*◌, ◌≤◌, List, [], ◌++◌, map, length, take, drop, sym, refl, ap, ap₂, ◌∙◌, append_assoc, append-nil, arith, length-append, length-drop, take-append-drop}
use lib.ListN.{length-map}
use Rattle.pauli.specs.Bytes.{le16}
use Rattle.pauli.specs.Condense.{list_of}
use Rattle.pauli.specs.Roll.{Sparse, numbers, count_of, table, bodies, encode, by_value, write}
use Rattle.pauli.specs.Told.{answer}
use Rattle.pauli.specs.Writing.{put_bytes}
use Rattle.pauli.proofs.joined.JoinLaws.{accepted, accepted_length, entries_length, later_bodies}
use Rattle.pauli.proofs.roll.BytesLaws.{length_le16}
use Rattle.pauli.proofs.roll.ListSupport.{numbers_append, numbers_by_value}
use Rattle.pauli.proofs.roll.Paulis.{length_bodies}
use Rattle.pauli.proofs.roll.RollLaws.{length_encode}
use Rattle.pauli.proofs.write.Puts.{left_start, left_step, left_done}

-- fewer Paulis, fewer numbers
pub drop_numbers : (from : ℕ) (ps : List Sparse) → length (numbers (drop from ps)) ≤ length (numbers ps)
drop_numbers from ps =
    let all : numbers ps ≡ numbers (take from ps) ++ numbers (drop from ps) = ap numbers (sym (take-append-drop from ps)) ∙ numbers_append (take from ps) (drop from ps) in
    omega (arith, ap length all ∙ length-append (numbers (take from ps)) (numbers (drop from ps)))

module _ (b : List ℕ) (n : ℕ) (e : count_of b ≡ answer n) (from : ℕ) where
  abbrev later : List Sparse
  later = drop from (list_of b)

  abbrev later_table : List ℕ
  later_table = table 0 (map by_value later)

  later_count : length (map by_value later) ≡ n - from
  later_count = length-map later by_value ∙ length-drop from (list_of b) ∙ ap (◌- from) (accepted b n e).1

  pub later_size : length (write later) ≡ 2 + 10 * (n - from) + 4 * length (numbers later)
  unfolding write
  later_size = length_encode (map by_value later) ∙ ap₂ (λ (c : ℕ) (k : ℕ). 2 + 10 * c + 4 * k) later_count (ap length (numbers_by_value later))

  -- it is no longer than the roll
  pub later_short : length (write later) ≤ length b
  later_short = omega (arith, later_size, accepted_length b n e, drop_numbers from (list_of b))

  later_is : write later ≡ le16 (n - from) ++ (later_table ++ bodies later)
  unfolding write encode bodies
  later_is = rw (later_count, numbers_by_value) (append_assoc (le16 (n - from)) later_table (bodies later))

  -- k numbers are left, m stand before them
  pub later_puts : (k m : ℕ) → k ≡ length (numbers later) → m ≡ length (numbers (list_of b)) - k
      → (out u v x : List ℕ) → length b ≤ length out → u ≡ put_bytes out 0 (le16 (n - from)) → length u ≡ length out
      → v ≡ put_bytes u 2 later_table → length v ≡ length u
      → x ≡ put_bytes v (2 + 10 * (n - from)) (drop (4 * m) (bodies (list_of b))) → length x ≡ length v → x ≡ put_bytes out 0 (write later)
  later_puts k m ek em out u v x room pu lu pv lv px lx =
      let past : 4 * m ≡ 4 * (length (numbers (list_of b)) - length (numbers later)) = ap (4 *◌) (em ∙ ap (length (numbers (list_of b)) -◌) ek) in
      let rest : x ≡ put_bytes v (2 + 10 * (n - from)) (bodies later) =
      px ∙ ap (put_bytes v (2 + 10 * (n - from))) (ap (λ (j : ℕ). drop j (bodies (list_of b))) past ∙ later_bodies b n e from) in
      let one = left_start out 0 (write later) _ later_is (omega (arith, later_short)) in
      let two = left_step one (le16 (n - from)) (later_table ++ bodies later) 2 refl (length_le16 (n - from)) u pu lu in
      let three = left_step two later_table (bodies later) (10 * (n - from)) refl (entries_length b n e 0 from) v pv lv in
      let four = left_step three (bodies later) [] (4 * length (numbers later)) (sym (append-nil (bodies later))) (length_bodies later) x rest lx in
      (left_done four refl).0
