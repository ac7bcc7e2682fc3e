-- Rows, matrices and forms of slices that agree on their words.
use mathlib.Core.Path.{◌≡◌, refl, sym, ap, ap₂, ◌∙◌}
use mathlib.Core.List.{List, ◌∷◌, map}
use Prim.Native.Nat.{ℕ, zero, suc, ◌+◌, ◌-◌, ◌*◌, ◌/◌, ◌%◌, ◌^◌, ◌≤◌, ◌<◌}
use native.Mathlib.Omega.{arith}
use lib.ListN.{length, get_or, take, drop, length-drop}
use lib.Seq.{ext_get_or, length-take-le, get_or-take, get_or-drop}
use Rattle.binar.specs.Layout.{form_in, FormLeft}
use Rattle.binar.specs.Words.{value, row_at, matrix}

-- the words from word i on, n of them, are the same in both
abbrev pub Alike : ℕ → ℕ → List ℕ → List ℕ → Type 0
Alike i n old new = (k : ℕ) → i ≤ k → k < i + n → get_or new k 0 ≡ get_or old k 0

module _ (old new : List ℕ) (size : length new ≡ length old) where
  pub part_alike : (i n : ℕ) → i + n ≤ length old → Alike i n old new → take n (drop i new) ≡ take n (drop i old)
  part_alike i n room same =
      let a : length (take n (drop i new)) ≡ n = length-take-le n (drop i new) (rw length-drop (omega (arith, size))) in
      let b : length (take n (drop i old)) ≡ n = length-take-le n (drop i old) (rw length-drop (omega arith)) in
      ext_get_or 0 (take n (drop i new)) (take n (drop i old)) (a ∙ sym b)
      (λ k h. get_or-take n (drop i new) k 0 (rw a at h) ∙ get_or-drop i new k 0 ∙ same (i + k) (omega arith) (omega (arith, a, h))
      ∙ sym (get_or-take n (drop i old) k 0 (rw a at h) ∙ get_or-drop i old k 0))

  pub row_alike : (i n : ℕ) → i + n ≤ length old → Alike i n old new → row_at new i n ≡ row_at old i n
  unfolding row_at
  row_alike i n room same = ap value (part_alike i n room same)

pub matrix_alike : (s n : ℕ) (old new : List ℕ) → length new ≡ length old → n * s ≤ length old → Alike 0 (n * s) old new → matrix s n new ≡ matrix s n old
unfolding matrix
matrix_alike s zero old new size room same = refl
matrix_alike s (suc n) old new size room same =
    let e : suc n * s ≡ s + n * s = omega arith in
    ap₂ (λ (v : ℕ) (M : List ℕ). v ∷ M)
    (ap value (part_alike old new size 0 s (omega arith) (λ k a b. same k a (omega arith))))
    (matrix_alike s n (drop s old) (drop s new) (length-drop s new ∙ ap (λ (m : ℕ). m - s) size ∙ sym (length-drop s old)) (rw length-drop (omega arith))
    (λ k a b. get_or-drop s new k 0 ∙ same (s + k) (omega arith) (omega arith) ∙ sym (get_or-drop s old k 0)))

pub form_alike : (s n width cols rank : ℕ) (old new : List ℕ) → length new ≡ length old → n * s + rank ≤ length old → Alike 0 (n * s + rank) old new
    → form_in s n width cols rank new ≡ form_in s n width cols rank old
unfolding form_in
form_alike s n width cols rank old new size room same =
    ap₂ (λ (M : List ℕ) (ps : List ℕ). record { rows = map (λ v. record { r = v % 2 ^ cols; t = v / 2 ^ (64 * width) }) M; pivots = ps })
    (matrix_alike s n old new size (omega arith) (λ k a b. same k a (omega arith)))
    (part_alike old new size (n * s) rank room (λ k a b. same k (omega arith) (omega arith)))

-- a form stays where its words stay
pub left_alike : (s n cols rank place : ℕ) (old new : List ℕ) → length new ≡ length old → Alike 0 (n * s + rank) old new → FormLeft old s n cols rank place
    → FormLeft new s n cols rank place
left_alike s n cols rank place old new size same S = record {
  rows = S.rows;
  pivots = S.pivots;
  target = omega (arith, size, S.target);
  wide = S.wide;
  inside = λ k b. rw (same (n * s + k) (omega arith) (omega arith)) (S.inside k b);
}
