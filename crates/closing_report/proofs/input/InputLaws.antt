-- Laws of the rolls of an input, test by test.
use mathlib.Core.Path.{◌≡◌, sym, ap, ◌∙◌}
use mathlib.Core.List.{List}
use Prim.Native.Nat.{ℕ, ◌+◌, ◌-◌, ◌≤◌, ◌<◌}
use native.Mathlib.Omega.{arith}
use borrow.Author.Tests.{lt-ltb, le-ltb}
use lib.ListN.{length, take, drop, length-drop}
use lib.Seq.{take_all}
use Rattle.pauli.specs.Bytes.{u32_at}
use Rattle.pauli.specs.Told.{answer, refused}
use Rattle.pauli.proofs.roll.Told.{test_pass, test_refuses}
use Rattle.std.proofs.Common.{Option, Some}
use Rattle.closing_report.specs.InputRolls.{most_input, rolls_in}
use Rattle.closing_report.specs.Split.{rolls_told, SplitWithin}

module _ (input : List ℕ) where
  pub input_long : most_input < length input → refused 1 0 ≡ rolls_in input
  unfolding rolls_in
  input_long h = sym (test_refuses _ 1 0 _ (lt-ltb _ _ h))

  module _ (long : length input ≤ most_input) where
    pub input_short : length input < 4 → refused 1 0 ≡ rolls_in input
    unfolding rolls_in
    input_short h = sym (test_pass _ 1 0 _ (le-ltb _ _ long) ∙ test_refuses _ 1 0 _ (lt-ltb _ _ h))

    module _ (short : 4 ≤ length input) (size : ℕ) (e : size ≡ u32_at input 0) where
      pub input_cut : length input < 4 + size → refused 1 0 ≡ rolls_in input
      unfolding rolls_in
      input_cut h =
          sym (test_pass _ 1 0 _ (le-ltb _ _ long) ∙ test_pass _ 1 0 _ (le-ltb _ _ short) ∙ test_refuses _ 1 0 _ (lt-ltb (length input) (4 + u32_at input 0) (rw (← e) h)))

      pub input_whole : 4 + size ≤ length input
          → answer (record { generators = take (4 + size - 4) (drop 4 input); elements = drop (4 + size) input }) ≡ rolls_in input
      unfolding rolls_in
      input_whole h =
          let n : 4 + size - 4 ≡ u32_at input 0 = omega arith in
          rw (n, e)
          (sym
          (test_pass _ 1 0 _ (le-ltb _ _ long) ∙ test_pass _ 1 0 _ (le-ltb _ _ short) ∙ test_pass _ 1 0 _ (le-ltb (length input) (4 + u32_at input 0) (rw (← e) h))))

-- the element roll starts at byte k of the input
pub record Parted (input : List ℕ) (k : ℕ) : Type 0 where
  pub rolls : rolls_in input ≡ answer (record { generators = take (k - 4) (drop 4 input); elements = take (length input - k) (drop k input) })
  pub low : 4 ≤ k
  pub high : k ≤ length input

pub parted : (input : List ℕ) (r : Option ℕ) → rolls_told input r ≡ rolls_in input → SplitWithin (length input) r → (k : ℕ) → r ≡ Some k → Parted input k
parted input r h w k e =
    let rest : take (length input - k) (drop k input) ≡ drop k input = take_all (length input - k) (drop k input) (rw length-drop (omega arith)) in
    let within : (4 ≤ k) × (k ≤ length input) = rw e at w in
    record { rolls = sym h ∙ ap (rolls_told input) e ∙ rw rest; low = within.0; high = within.1 }
