-- What the limits give: the counts of a list within them fit two bytes, the starts four, and its support is allowed.
use Rattle.std.proofs.Common.{ℕ, ◌+◌, ◌*◌, ◌^◌, ◌<◌, ◌≤◌, List, [], ◌∷◌, ◌++◌, length, arith, length-append}
use mathlib.Core.List.Memᴰ
use mathlib.Core.List.{Memᴰ as Mem}
use Rattle.binar.proofs.Lists.{all_map, all_join}
use Rattle.pauli.specs.Roll.{most_paulis, highest_qubit, Sparse, numbers, support}
use Rattle.pauli.specs.Support.{most_qubits, All}
use Rattle.pauli.specs.RollTheorems.{Allowed, Within}
use Rattle.pauli.proofs.support.Lists.{all_in, all_mem}
use Rattle.pauli.proofs.roll.ListSupport.{sets_in_numbers, in_support, rising_in_support}
use Rattle.pauli.proofs.roll.Entries.{Fits}
use Rattle.pauli.proofs.roll.Paulis.{entry_of, entries_of}

-- a Pauli with at most n numbers in each set
pub record Sized (n : ℕ) (p : Sparse) : Type 0 where
  pub x_count : length p.xs ≤ n
  pub z_count : length p.zs ≤ n

-- no set has more numbers than the support
pub sized : (ps : List Sparse) → All Allowed ps → All (Sized (length (support ps))) ps
sized ps ok = all_in (Sized (length (support ps))) ps one
  where
    one : (p : Sparse) → Mem p ps → Sized (length (support ps)) p
    one p m =
        let a = all_mem Allowed ps ok p m in
        let inside = sets_in_numbers p ps m in
        record {
          x_count = rising_in_support 0 p.xs ps a.x.rise (λ q i. inside q (Memᴰ.append_left p.zs i));
          z_count = rising_in_support 0 p.zs ps a.z.rise (λ q i. inside q (Memᴰ.append_right p.xs i));
        }

pub numbers_bound : (n : ℕ) (ps : List Sparse) → All (Sized n) ps → length (numbers ps) ≤ 2 * n * length ps
unfolding numbers
numbers_bound n [] s = omega arith
numbers_bound n (p ∷ ps) s = rw (length-append, length-append) (let more = numbers_bound n ps s.1 in omega arith)

pub entries_fit : (n before : ℕ) (ps : List Sparse) → n < 2 ^ 16 → All (Sized n) ps → before + length (numbers ps) < 2 ^ 32
    → All Fits (entries_of before ps)
unfolding numbers entries_of entry_of
entries_fit n before [] l s h = tt
entries_fit n before (p ∷ ps) l s h =
    let k : before + (length p.xs + length p.zs + length (numbers ps)) < 2 ^ 32 = rw (length-append, length-append) at h in
    (omega arith, entries_fit n (before + length p.xs + length p.zs) ps l s.1 (omega arith))

pub within_sized : (ps : List Sparse) → Within ps → All (Sized most_qubits) ps
within_sized ps w = all_map (λ p s. omega arith) ps (sized ps w.allowed)

pub within_fits : (ps : List Sparse) → Within ps → All Fits (entries_of 0 ps)
unfolding most_paulis most_qubits
within_fits ps w =
    let total = numbers_bound most_qubits ps (within_sized ps w) in
    entries_fit most_qubits 0 ps (omega arith) (within_sized ps w) (omega arith)

pub support_low : (ps : List Sparse) → All Allowed ps → All (λ q. q ≤ highest_qubit) (support ps)
support_low ps ok = all_in (λ q. q ≤ highest_qubit) (support ps) low
  where
    low : (q : ℕ) → Mem q (support ps) → q ≤ highest_qubit
    low q i =
        let (p, m, j) = in_support ps q i in
        let a = all_mem Allowed ps ok p m in
        all_mem (λ r. r ≤ highest_qubit) (p.xs ++ p.zs) (all_join (λ r. r ≤ highest_qubit) p.xs p.zs a.x.low a.z.low) q j
