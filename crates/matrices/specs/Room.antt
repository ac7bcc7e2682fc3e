-- Where a matrix stands in a slice, and which words a step leaves alone.
use Rattle.std.specs.Prelude.{◌≡◌, List, ℕ, ◌+◌, ◌*◌, ◌/◌, ◌≤◌, ◌<◌, get_or}

-- m words hold n rows of R and T, n pivots and a target row; R has cols columns in `width` words
pub record Room (width n cols m : ℕ) : Type 0 where
  pub words : n * (width + (n + 63) / 64) + n + (width + (n + 63) / 64) ≤ m
  pub wide : cols ≤ 64 * width

-- the words before word `place` are the same
abbrev pub SameBefore : ℕ → List ℕ → List ℕ → Type 0
SameBefore place l x = (i : ℕ) → i < place → get_or x i 0 ≡ get_or l i 0
