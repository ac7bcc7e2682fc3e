-- Only trees' bytes are read.
use Rattle.std.proofs.Common.{◌≡◌, ℕ, zero, suc, ◌+◌, ◌-◌, ◌*◌, ◌≤◌, ◌<◌, Option, Some, None, List, [], ◌∷◌, ◌++◌, length, sym, refl, ◌∙◌, append_assoc, append-nil, arith}
use Rattle.std.specs.Prelude.{option_and_then}
use Rattle.std.specs.Option.{option_map_or}
use Rattle.std.proofs.lemmas.Option.{option_and_then_some, some_pair_parts}
use Rattle.combined_lists.specs.Line.{Sign, quotient, common, joined, Tree, letter, operation, byte_of, bytes_of, rank, rank_of, Binds}
use Rattle.combined_lists.specs.Reader.{after, letter_at, closed, Job, atom, level, more, below, read, reading, whole, tree_of}
use Rattle.combined_lists.proofs.form.Steps.{after_some, letter_some, closed_some}

-- what a job that ends with t and l has read of m
abbrev Was : Job → List ℕ → Tree → List ℕ → Type 0
Was atom m t l = Binds t × (rank_of t ≡ 0) × (m ≡ bytes_of t ++ l)
Was (level s) m t l = Binds t × (rank_of t ≤ rank s) × (m ≡ bytes_of t ++ l)
Was (more s u) m t l = Binds u → rank_of u ≤ rank s → Binds t × (rank_of t ≤ rank s) × (bytes_of u ++ m ≡ bytes_of t ++ l)

pub operand_was : (s : Sign) (m : List ℕ) (t : Tree) (l : List ℕ) → Was (below s) m t l → Binds t × (rank_of t < rank s) × (m ≡ bytes_of t ++ l)
operand_was quotient m t l w = (w.0, omega arith, w.2)
operand_was common m t l w = (w.0, omega arith, w.2)
operand_was joined m t l w = (w.0, omega arith, w.2)

letter_was : (b : ℕ) (m : List ℕ) (t : Tree) (l : List ℕ) → m ≡ b ∷ l → t ≡ letter (b - 65) → 65 ≤ b → b ≤ 68 → Was atom m t l
unfolding bytes_of
letter_was b m t l first names low high = let e : 65 + (b - 65) ≡ b = omega arith in rw (names, first, e) (omega arith, refl, refl)

module _ (f : ℕ) (was : (j : Job) (m : List ℕ) (t : Tree) (l : List ℕ) → read f j m ≡ Some (t, l) → Was j m t l) where
  atom_was : (m : List ℕ) (t : Tree) (l : List ℕ) (o : Option (List ℕ)) → after 40 m ≡ o
      → option_map_or (λ inner. option_and_then closed (read f (level joined) inner)) o (letter_at m) ≡ Some (t, l) → Was atom m t l
  unfolding bytes_of
  atom_was m t l None a e = let w = letter_some m t l e in letter_was w.byte m t l w.first w.names w.low w.high
  atom_was m t l (Some inner) a e =
      option_and_then_some _ _ _ e (λ p x y.
      let w = was (level joined) inner p.0 p.1 x in
      let c = closed_some p.0 p.1 t l y in
      let first = after_some 40 m inner a in
      rw (c.1, first, w.2, c.0) (w.0, refl, rw (append_assoc (bytes_of p.0) (41 ∷ []) l)))

  level_was : (s : Sign) (m : List ℕ) (t : Tree) (l : List ℕ)
      → option_and_then (λ p. read f (more s p.0) p.1) (read f (below s) m) ≡ Some (t, l) → Was (level s) m t l
  level_was s m t l e =
      option_and_then_some _ _ _ e (λ p x y.
      let w = operand_was s m p.0 p.1 (was (below s) m p.0 p.1 x) in
      let v = was (more s p.0) p.1 t l y w.0 (omega (arith, w.1)) in
      (v.0, v.1, w.2 ∙ v.2))

  more_was : (s : Sign) (u : Tree) (m : List ℕ) (t : Tree) (l : List ℕ) (o : Option (List ℕ)) → after (byte_of s) m ≡ o
      → option_map_or (λ right. option_and_then (λ p. read f (more s (operation s u p.0)) p.1) (read f (below s) right)) o (Some (u, m)) ≡ Some (t, l)
      → Was (more s u) m t l
  unfolding bytes_of
  more_was s u m t l None a e b k = let d = some_pair_parts u t m l e in rw (← d.0, d.1) (b, k, refl)
  more_was s u m t l (Some right) a e b k =
      option_and_then_some _ _ _ e (λ p x y.
      let w = operand_was s right p.0 p.1 (was (below s) right p.0 p.1 x) in
      let v = was (more s (operation s u p.0)) p.1 t l y (k, w.1, b, w.0) (omega arith) in
      let first = after_some (byte_of s) m right a in
      (v.0, v.1, rw (first, w.2) (sym (append_assoc (bytes_of u) (byte_of s ∷ bytes_of p.0) p.1) ∙ v.2)))

pub was : (f : ℕ) (j : Job) (m : List ℕ) (t : Tree) (l : List ℕ) → read f j m ≡ Some (t, l) → Was j m t l
unfolding read
was zero j m t l e = absurd (cc)
was (suc f) atom m t l e = atom_was f (was f) m t l (after 40 m) refl e
was (suc f) (level s) m t l e = level_was f (was f) s m t l e
was (suc f) (more s u) m t l e = more_was f (was f) s u m t l (after (byte_of s) m) refl e

pub read_only : (m : List ℕ) (t : Tree) → tree_of m ≡ Some t → Binds t × (bytes_of t ≡ m)
unfolding tree_of reading
read_only m t e =
    option_and_then_some _ _ _ e (λ p x y.
    let w = was (4 * length m + 4) (level joined) m p.0 p.1 x in
    go p.0 p.1 y w)
  where
    go : (u : Tree) (l : List ℕ) → whole (u, l) ≡ Some t → Binds u × (rank_of u ≤ 3) × (m ≡ bytes_of u ++ l) → Binds t × (bytes_of t ≡ m)
    go u [] y w = let i : u ≡ t = cc in rw (← i) (w.0, sym (w.2 ∙ append-nil (bytes_of u)))
    go u (b ∷ l) y w = absurd (cc)
