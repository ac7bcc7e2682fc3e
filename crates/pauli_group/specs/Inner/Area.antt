-- Where the code keeps what in the work area: the echelon form at the front, then a row to solve for, the generators, the standard
-- generators and a further list.
use Rattle.std.specs.Prelude.{◌≡◌, ℕ, ◌+◌, ◌<◌, ◌≤◌, List, length, slice_index}
use Rattle.binar.specs.Layout.{form_stride}

abbrev pub target_at : ℕ
target_at = 1040

abbrev pub list_at : ℕ
list_at = 1056

abbrev pub standard_at : ℕ
standard_at = 1712

-- a further list
abbrev pub further_at : ℕ
further_at = 2368

-- R's part of a row: two times 128 columns
abbrev pub row_words : ℕ
row_words = 4

-- the words of a row of a form of n rows
unfoldable pub stride_of : ℕ → ℕ
stride_of n = form_stride row_words n

-- the slice is the same but for the n words from word i on
pub record Outside (i n : ℕ) (old new : List ℕ) : Type 0 where
  pub size : length new ≡ length old
  pub before : (k : ℕ) → k < i → slice_index new k ≡ slice_index old k
  pub after : (k : ℕ) → i + n ≤ k → slice_index new k ≡ slice_index old k
