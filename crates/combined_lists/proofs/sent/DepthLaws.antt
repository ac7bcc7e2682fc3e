-- Depth by the bytes, and that of a tree.
use Rattle.std.proofs.Common.{◌≡◌, ℕ, ◌+◌, ◌-◌, ◌≤◌, ◌<◌, max, List, [], ◌∷◌, ◌++◌, length, get_or, drop, sym, refl, ◌∙◌, append_assoc, append-nil, add-one, drop-cons, arith, ne_eqb}
use Rattle.std.proofs.Math.ListN.{drop_of_length-le}
use Rattle.combined_lists.specs.Line.{Sign, quotient, common, joined, Tree, letter, parens, operation, byte_of, bytes_of, Binds, depth_of, depth_after, deepest}

-- ---- one byte

pub opens : (d b : ℕ) → b ≡ 40 → depth_after d b ≡ d + 1
unfolding depth_after
opens d b e = rw (e, add-one)

pub closes : (d b : ℕ) → b ≡ 41 → depth_after d b ≡ d - 1
unfolding depth_after
closes d b e = rw e

pub as_deep : (d b : ℕ) → (b ≡ 40 → ⊥) → (b ≡ 41 → ⊥) → depth_after d b ≡ d
unfolding depth_after
as_deep d b h k = rw (ne_eqb b 40 h, ne_eqb b 41 k)

pub grows : (d b : ℕ) → depth_after d b ≤ d + 1
unfolding depth_after
grows d b = grind arith

pub sign_deep : (d : ℕ) (s : Sign) → depth_after d (byte_of s) ≡ d
unfolding depth_after
sign_deep d quotient = refl
sign_deep d common = refl
sign_deep d joined = refl

pub at_least : (d : ℕ) (l : List ℕ) → d ≤ deepest d l
unfolding deepest
at_least d [] = omega arith
at_least d (b ∷ l) = omega arith

pub next_deep : (d b e : ℕ) (l : List ℕ) → depth_after d b ≡ e → deepest d (b ∷ l) ≡ max d (deepest e l)
unfolding deepest
next_deep d b e l h = rw h

pub same_deep : (d b : ℕ) (l : List ℕ) → depth_after d b ≡ d → deepest d (b ∷ l) ≡ deepest d l
same_deep d b l h = next_deep d b d l h ∙ omega (arith, at_least d l)

-- ---- a tree's bytes

pub deepest_of : (t : Tree) (d : ℕ) (l : List ℕ) → Binds t → deepest d (bytes_of t ++ l) ≡ max (d + depth_of t) (deepest d l)
unfolding bytes_of depth_of
deepest_of (letter a) d l b = same_deep d (65 + a) l (as_deep d (65 + a) (λ e. omega arith) (λ e. omega arith)) ∙ omega (arith, at_least d l)
deepest_of (parens t) d l b =
    rw (
      append_assoc (bytes_of t) (41 ∷ []) l,
      next_deep d 40 (d + 1) (bytes_of t ++ (41 ∷ l)) (opens d 40 refl),
      deepest_of t (d + 1) (41 ∷ l) b,
      next_deep (d + 1) 41 d l (closes (d + 1) 41 refl ∙ omega arith),
    )
    (omega (arith, at_least d l))
deepest_of (operation s t u) d l b =
    rw (
      append_assoc (bytes_of t) (byte_of s ∷ bytes_of u) l,
      deepest_of t d (byte_of s ∷ (bytes_of u ++ l)) b.2,
      same_deep d (byte_of s) (bytes_of u ++ l) (sign_deep d s),
      deepest_of u d l b.3,
    )
    (omega arith)

pub depth_is : (t : Tree) → Binds t → depth_of t ≡ deepest 0 (bytes_of t)
unfolding deepest
depth_is t b = let e : deepest 0 (bytes_of t) ≡ max (0 + depth_of t) 0 = rw (append-nil (bytes_of t)) at (deepest_of t 0 [] b) in omega arith

-- ---- a line from a byte on

module _ (l : List ℕ) (i d most : ℕ) (reached : d ≤ most) (deep : deepest 0 l ≡ max most (deepest d (drop i l))) where
  pub byte_deep : i < length l → (e : ℕ) → e ≡ depth_after d (get_or l i 0) → deepest 0 l ≡ max (max most e) (deepest e (drop (i + 1) l))
  byte_deep h e k =
      let first : drop i l ≡ get_or l i 0 ∷ drop (i + 1) l = rw (add-one, drop-cons l i 0) in
      let next : deepest d (drop i l) ≡ max d (deepest e (drop (i + 1) l)) = rw first (next_deep d (get_or l i 0) e (drop (i + 1) l) (sym k)) in
      omega (arith, at_least e (drop (i + 1) l))

  pub end_deep : length l ≤ i → deepest 0 l ≡ most
  unfolding deepest
  end_deep h = let none : deepest d (drop i l) ≡ d = rw (drop_of_length-le l h) in omega arith
