-- What follows a level, an atom or a byte, step by step.
use Rattle.std.proofs.Common.{◌≡◌, ℕ, suc, ◌-◌, ◌≤◌, ◌<◌, Option, Some, None, List, [], ◌∷◌, length, get_or, take, drop, sym, refl, ap, ◌∙◌, arith}
use Rattle.std.specs.Prelude.{option_map, ◌⊎◌}
use Rattle.std.proofs.lemmas.List.{take_all}
use Rattle.combined_lists.specs.Line.{Sign, joined, Tree, parens, operation, byte_of}
use Rattle.combined_lists.specs.Reader.{after, letter_at, Reading, Job, atom, level, more, below, reading}
use Rattle.combined_lists.specs.Inner.Ends.{rest_after}
use Rattle.combined_lists.proofs.form.Steps.{after_hit, after_miss, after_some, letter_hit, letter_miss, below_falls, falls, atom_reading, level_reading, more_reading}

-- ---- a byte that stands first

pub tail_is : (l : List ℕ) → 1 ≤ length l → l ≡ get_or l 0 0 ∷ take (length l - 1) (drop 1 l)
tail_is [] h = absurd (omega arith)
tail_is (b ∷ l) h = ap (λ m. b ∷ m) (sym (take_all (suc (length l) - 1) l (omega arith)))

pub first_hit : (b : ℕ) (l : List ℕ) → 1 ≤ length l → get_or l 0 0 ≡ b → Some (take (length l - 1) (drop 1 l)) ≡ after b l
first_hit b l h e = let t = tail_is l h in sym (ap (after b) (t ∙ ap (λ c. c ∷ take (length l - 1) (drop 1 l)) e) ∙ after_hit b _)

pub first_miss : (b : ℕ) (l : List ℕ) → 1 ≤ length l → (get_or l 0 0 ≡ b → ⊥) → None ≡ after b l
first_miss b l h n = sym (ap (after b) (tail_is l h) ∙ after_miss b _ _ n)

pub first_none : (b : ℕ) (l : List ℕ) → length l < 1 → None ≡ after b l
unfolding after
first_none b [] h = refl
first_none b (c ∷ l) h = absurd (omega arith)

-- ---- what follows what was read

pub read_some : (j : Job) (l r : List ℕ) → Some r ≡ rest_after j l → (t : Tree) × (reading j l ≡ Some (t, r))
unfolding rest_after
read_some j l r e = go (reading j l) refl e
  where
    go : (o : Reading) → reading j l ≡ o → Some r ≡ option_map (λ p. p.1) o → (t : Tree) × (reading j l ≡ Some (t, r))
    go None a d = absurd (cc)
    go (Some p) a d = (p.0, a ∙ ap (λ (m : List ℕ). Some (p.0, m)) (let e : r ≡ p.1 = cc in sym e))

pub read_none : (j : Job) (l : List ℕ) → None ≡ rest_after j l → reading j l ≡ None
unfolding rest_after
read_none j l e = go (reading j l) refl e
  where
    go : (o : Reading) → reading j l ≡ o → None ≡ option_map {U = List ℕ} (λ p. p.1) o → reading j l ≡ None
    go None a d = a
    go (Some p) a d = absurd (cc)

-- ---- bytes fall

pub after_shorter : (b : ℕ) (l r : List ℕ) → Some r ≡ after b l → length r < length l
after_shorter b l r e = let n = ap length (after_some b l r (sym e)) in omega arith

pub below_shorter : (s : Sign) (l r : List ℕ) → Some r ≡ rest_after (below s) l → length r < length l
below_shorter s l r e = let p = read_some (below s) l r e in below_falls s _ _ (falls (below s) l p.0 r p.1)

-- ---- a level

-- what is left to read of a level, from a tree that it begins with, decides what follows the level
pub record Going (s : Sign) (l rest : List ℕ) : Type 0 where
  pub tree : Tree
  pub same : rest_after (level s) l ≡ rest_after (more s tree) rest
  pub shorter : length rest < length l

module _ (s : Sign) (l : List ℕ) where
  pub level_none : None ≡ rest_after (below s) l → None ≡ rest_after (level s) l
  unfolding rest_after
  level_none e = rw (level_reading s l, read_none (below s) l e)

  pub level_begins : (r : List ℕ) → Some r ≡ rest_after (below s) l → Going s l r
  unfolding rest_after
  level_begins r e =
      let p = read_some (below s) l r e in
      record { tree = p.0; same = rw (level_reading s l, p.1); shorter = below_shorter s l r e }

  module _ (rest : List ℕ) (going : Going s l rest) where
    pub level_ends : None ≡ after (byte_of s) rest → Some rest ≡ rest_after (level s) l
    unfolding rest_after
    level_ends e = sym (going.same ∙ rw (more_reading s going.tree rest, ← e))

    module _ (right : List ℕ) (sign : Some right ≡ after (byte_of s) rest) where
      pub right_none : None ≡ rest_after (below s) right → None ≡ rest_after (level s) l
      unfolding rest_after
      right_none e = sym (going.same ∙ rw (more_reading s going.tree rest, ← sign, read_none (below s) right e))

      pub right_goes : (next : List ℕ) → Some next ≡ rest_after (below s) right → Going s l next
      unfolding rest_after
      right_goes next e =
          let p = read_some (below s) right next e in
          record {
            tree = operation s going.tree p.0;
            same = going.same ∙ rw (more_reading s going.tree rest, ← sign, p.1);
            shorter = omega (arith, going.shorter, after_shorter (byte_of s) rest right sign, below_shorter s right next e);
          }

-- ---- an atom

module _ (l : List ℕ) where
  module _ (inner : List ℕ) (parenthesis : Some inner ≡ after 40 l) where
    pub inner_none : None ≡ rest_after (level joined) inner → None ≡ rest_after atom l
    unfolding rest_after
    inner_none e = rw (atom_reading l, ← parenthesis, read_none (level joined) inner e)

    pub inner_closed : (rest : List ℕ) → Some rest ≡ rest_after (level joined) inner → after 41 rest ≡ rest_after atom l
    unfolding rest_after
    inner_closed rest e = let p = read_some (level joined) inner rest e in rw (atom_reading l, ← parenthesis, p.1) (close p.0 (after 41 rest))
      where
        close : (t : Tree) (o : Option (List ℕ)) → o ≡ option_map {U = List ℕ} (λ q. q.1) (option_map {U = Tree × List ℕ} (λ r. (parens t, r)) o)
        close t None = refl
        close t (Some r) = refl

  module _ (other : None ≡ after 40 l) where
    pub atom_none : length l < 1 → None ≡ rest_after atom l
    unfolding rest_after letter_at
    atom_none h = rw (atom_reading l, ← other) (go l h)
      where
        go : (m : List ℕ) → length m < 1 → None ≡ option_map {U = List ℕ} (λ p. p.1) (letter_at m)
        go [] h = refl
        go (b ∷ m) h = absurd (omega arith)

    module _ (inside : 1 ≤ length l) where
      as_letter : rest_after atom l ≡ option_map (λ p. p.1) (letter_at (get_or l 0 0 ∷ take (length l - 1) (drop 1 l)))
      unfolding rest_after
      as_letter = rw (atom_reading l, ← other) (ap (λ m. option_map {U = List ℕ} (λ p. p.1) (letter_at m)) (tail_is l inside))

      pub atom_letter : 65 ≤ get_or l 0 0 → get_or l 0 0 ≤ 68 → Some (take (length l - 1) (drop 1 l)) ≡ rest_after atom l
      atom_letter low high = sym (as_letter ∙ rw (letter_hit _ _ low high))

      pub atom_other : (get_or l 0 0 < 65) ⊎ (68 < get_or l 0 0) → None ≡ rest_after atom l
      atom_other h = sym (as_letter ∙ rw (letter_miss _ _ h))
