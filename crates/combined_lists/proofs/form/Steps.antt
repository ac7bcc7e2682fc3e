-- The reader with no count of steps: what is left falls, enough steps read the same as more, and so each job reads what its parts read.
use Rattle.std.proofs.Common.{◌≡◌, ℕ, zero, suc, ◌+◌, ◌-◌, ◌*◌, ◌≤◌, ◌<◌, Bool, true, false, Option, Some, None, List, [], ◌∷◌, length, sym, refl, ap, ◌∙◌, arith, eq-eqb, ne_eqb, eqb-true}
use Rattle.std.specs.Prelude.{◌==◌, nat_le, option_map, option_and_then, ◌⊎◌}
use Rattle.std.proofs.Math.Logic.{inl, inr}
use Rattle.std.proofs.lemmas.Bool.{le-leb, lt-leb, leb-true}
use Rattle.std.proofs.lemmas.Option.{option_and_then_some, some_pair_parts}
use Rattle.std.specs.Option.{option_map_or}
use Rattle.combined_lists.specs.Line.{Sign, quotient, common, joined, Tree, letter, parens, operation, byte_of, rank, is_letter}
use Rattle.combined_lists.specs.Reader.{after, letter_at, closed, Reading, Job, atom, level, more, below, read, reading}

-- ---- a byte that stands first

pub after_hit : (b : ℕ) (l : List ℕ) → after b (b ∷ l) ≡ Some l
unfolding after
after_hit b l = rw (eq-eqb b b refl)

pub after_miss : (b c : ℕ) (l : List ℕ) → (c ≡ b → ⊥) → after b (c ∷ l) ≡ None
unfolding after
after_miss b c l h = rw (ne_eqb c b h)

pub after_some : (b : ℕ) (l r : List ℕ) → after b l ≡ Some r → l ≡ b ∷ r
unfolding after
after_some b [] r e = cc
after_some b (c ∷ l) r e = go (c == b) refl
  where
    go : (x : Bool) → (c == b) ≡ x → c ∷ l ≡ b ∷ r
    go true h = let d : ◌≡◌ {A = Option (List ℕ)} (Some l) (Some r) = rw h at e in cc (eqb-true c b h)
    go false h = let d : ◌≡◌ {A = Option (List ℕ)} None (Some r) = rw h at e in cc

pub letter_hit : (b : ℕ) (l : List ℕ) → 65 ≤ b → b ≤ 68 → letter_at (b ∷ l) ≡ Some (letter (b - 65), l)
unfolding letter_at
letter_hit b l low high = rw (le-leb 65 b low, le-leb b 68 high)

pub not_letter : (b : ℕ) → (b < 65) ⊎ (68 < b) → is_letter b ≡ false
not_letter b (inl h) = rw (lt-leb 65 b h)
not_letter b (inr h) = let low : 65 ≤ b = omega arith in rw (le-leb 65 b low, lt-leb b 68 h)

pub letter_miss : (b : ℕ) (l : List ℕ) → (b < 65) ⊎ (68 < b) → letter_at (b ∷ l) ≡ None
unfolding letter_at
letter_miss b l h = rw (not_letter b h)

-- a letter was there
pub record WasLetter (m : List ℕ) (t : Tree) (l : List ℕ) : Type 0 where
  pub byte : ℕ
  pub first : m ≡ byte ∷ l
  pub low : 65 ≤ byte
  pub high : byte ≤ 68
  pub names : t ≡ letter (byte - 65)

pub letter_some : (m : List ℕ) (t : Tree) (l : List ℕ) → letter_at m ≡ Some (t, l) → WasLetter m t l
unfolding letter_at
letter_some [] t l e = absurd (cc)
letter_some (b ∷ m) t l e = go (nat_le 65 b) (nat_le b 68) refl refl
  where
    go : (x y : Bool) → nat_le 65 b ≡ x → nat_le b 68 ≡ y → WasLetter (b ∷ m) t l
    go true true h k =
        let d = some_pair_parts (letter (b - 65)) t m l (rw (h, k) at e) in
        record { byte = b; first = ap (λ r. b ∷ r) d.1; low = leb-true 65 b h; high = leb-true b 68 k; names = sym d.0 }
    go true false h k = absurd (let d : ◌≡◌ {A = Reading} None (Some (t, l)) = rw (h, k) at e in cc)
    go false y h k = absurd (let d : ◌≡◌ {A = Reading} None (Some (t, l)) = rw h at e in cc)

-- a parenthesis was there
pub closed_some : (u : Tree) (m : List ℕ) (t : Tree) (l : List ℕ) → closed (u, m) ≡ Some (t, l) → (m ≡ 41 ∷ l) × (t ≡ parens u)
closed_some u m t l e = go (after 41 m) refl e
  where
    go : (o : Option (List ℕ)) → after 41 m ≡ o → option_map {U = Tree × List ℕ} (λ r. (parens u, r)) o ≡ Some (t, l) → (m ≡ 41 ∷ l) × (t ≡ parens u)
    go None a d = absurd (cc)
    go (Some r) a d = let p = some_pair_parts (parens u) t r l d in (after_some 41 m r a ∙ ap (λ x. 41 ∷ x) p.1, sym p.0)

-- ---- what is left falls

abbrev pub Falls : Job → ℕ → ℕ → Type 0
Falls atom n m = m < n
Falls (level s) n m = m < n
Falls (more s t) n m = m ≤ n

pub below_falls : (s : Sign) (n m : ℕ) → Falls (below s) n m → m < n
below_falls quotient n m h = h
below_falls common n m h = h
below_falls joined n m h = h

module _ (f : ℕ) (rest : (j : Job) (l : List ℕ) (t : Tree) (r : List ℕ) → read f j l ≡ Some (t, r) → Falls j (length l) (length r)) where
  atom_falls : (l : List ℕ) (t : Tree) (r : List ℕ) (o : Option (List ℕ)) → after 40 l ≡ o
      → option_map_or (λ inner. option_and_then closed (read f (level joined) inner)) o (letter_at l) ≡ Some (t, r) → length r < length l
  atom_falls l t r None a e = let w = letter_some l t r e in let n = ap length w.first in omega arith
  atom_falls l t r (Some inner) a e =
      option_and_then_some _ _ _ e (λ p x y.
      let n = ap length (after_some 40 l inner a) in
      let k = rest (level joined) inner p.0 p.1 x in
      let c = ap length (closed_some p.0 p.1 t r y).0 in
      omega arith)

  level_falls : (s : Sign) (l : List ℕ) (t : Tree) (r : List ℕ)
      → option_and_then (λ p. read f (more s p.0) p.1) (read f (below s) l) ≡ Some (t, r) → length r < length l
  level_falls s l t r e =
      option_and_then_some _ _ _ e (λ p x y.
      let k = below_falls s _ _ (rest (below s) l p.0 p.1 x) in
      let m = rest (more s p.0) p.1 t r y in
      omega arith)

  more_falls : (s : Sign) (u : Tree) (l : List ℕ) (t : Tree) (r : List ℕ) (o : Option (List ℕ)) → after (byte_of s) l ≡ o
      → option_map_or (λ right. option_and_then (λ p. read f (more s (operation s u p.0)) p.1) (read f (below s) right)) o (Some (u, l)) ≡ Some (t, r)
      → length r ≤ length l
  more_falls s u l t r None a e = let d = some_pair_parts u t l r e in let n = ap length d.1 in omega arith
  more_falls s u l t r (Some right) a e =
      option_and_then_some _ _ _ e (λ p x y.
      let n = ap length (after_some (byte_of s) l right a) in
      let k = below_falls s _ _ (rest (below s) right p.0 p.1 x) in
      let m = rest (more s (operation s u p.0)) p.1 t r y in
      omega arith)

falls_in : (f : ℕ) (j : Job) (l : List ℕ) (t : Tree) (r : List ℕ) → read f j l ≡ Some (t, r) → Falls j (length l) (length r)
unfolding read
falls_in zero j l t r e = absurd (cc)
falls_in (suc f) atom l t r e = atom_falls f (falls_in f) l t r (after 40 l) refl e
falls_in (suc f) (level s) l t r e = level_falls f (falls_in f) s l t r e
falls_in (suc f) (more s u) l t r e = more_falls f (falls_in f) s u l t r (after (byte_of s) l) refl e

pub falls : (j : Job) (l : List ℕ) (t : Tree) (r : List ℕ) → reading j l ≡ Some (t, r) → Falls j (length l) (length r)
unfolding reading
falls j l t r e = falls_in (4 * length l + 4) j l t r e

-- ---- enough steps

-- the steps that a job takes with no byte read
abbrev pub job_rank : Job → ℕ
job_rank atom = 0
job_rank (level s) = rank s
job_rank (more s t) = 0

pub below_rank : (s : Sign) → job_rank (below s) + 1 ≡ rank s
below_rank quotient = refl
below_rank common = refl
below_rank joined = refl

pub rank_low : (s : Sign) → rank s ≤ 3
rank_low quotient = omega arith
rank_low common = omega arith
rank_low joined = omega arith

abbrev Enough : ℕ → ℕ → Type 0
Enough f g = (j : Job) (l : List ℕ) → 4 * length l + job_rank j < f → 4 * length l + job_rank j < g → read f j l ≡ read g j l

module _ (f g : ℕ) (same : Enough f g) where
  atom_enough : (l : List ℕ) → 4 * length l < suc f → 4 * length l < suc g → (o : Option (List ℕ)) → after 40 l ≡ o
      → option_map_or (λ inner. option_and_then closed (read f (level joined) inner)) o (letter_at l)
      ≡ option_map_or (λ inner. option_and_then closed (read g (level joined) inner)) o (letter_at l)
  atom_enough l h k None a = refl
  atom_enough l h k (Some inner) a =
      let n = ap length (after_some 40 l inner a) in
      rw (same (level joined) inner (omega arith) (omega arith))

  then_more : (s : Sign) (u : Tree → Tree) (l : List ℕ) → 4 * length l < f + 4 → 4 * length l < g + 4 → (o : Reading)
      → ((p : Tree × List ℕ) → o ≡ Some p → length p.1 < length l)
      → option_and_then (λ p. read f (more s (u p.0)) p.1) o ≡ option_and_then (λ p. read g (more s (u p.0)) p.1) o
  then_more s u l h k None less = refl
  then_more s u l h k (Some p) less = let n = less p refl in same (more s (u p.0)) p.1 (omega arith) (omega arith)

  level_enough : (s : Sign) (l : List ℕ) → 4 * length l + rank s < suc f → 4 * length l + rank s < suc g
      → option_and_then (λ p. read f (more s p.0) p.1) (read f (below s) l) ≡ option_and_then (λ p. read g (more s p.0) p.1) (read g (below s) l)
  level_enough s l h k =
      let b = below_rank s in
      rw (← same (below s) l (omega arith) (omega arith))
      (then_more s (λ t. t) l (omega arith) (omega arith) (read f (below s) l) (λ p e. below_falls s _ _ (falls_in f (below s) l p.0 p.1 e)))

  more_enough : (s : Sign) (t : Tree) (l : List ℕ) → 4 * length l < suc f → 4 * length l < suc g → (o : Option (List ℕ)) → after (byte_of s) l ≡ o
      → option_map_or (λ right. option_and_then (λ p. read f (more s (operation s t p.0)) p.1) (read f (below s) right)) o (Some (t, l))
      ≡ option_map_or (λ right. option_and_then (λ p. read g (more s (operation s t p.0)) p.1) (read g (below s) right)) o (Some (t, l))
  more_enough s t l h k None a = refl
  more_enough s t l h k (Some right) a =
      let n = ap length (after_some (byte_of s) l right a) in
      let b = below_rank s in
      let low = rank_low s in
      rw (← same (below s) right (omega arith) (omega arith))
      (then_more s (operation s t) right (omega arith) (omega arith) (read f (below s) right)
      (λ p e. below_falls s _ _ (falls_in f (below s) right p.0 p.1 e)))

enough : (f g : ℕ) → Enough f g
unfolding read
enough zero g j l h k = absurd (omega arith)
enough (suc f) zero j l h k = absurd (omega arith)
enough (suc f) (suc g) atom l h k = atom_enough f g (enough f g) l (omega arith) (omega arith) (after 40 l) refl
enough (suc f) (suc g) (level s) l h k = level_enough f g (enough f g) s l h k
enough (suc f) (suc g) (more s t) l h k = more_enough f g (enough f g) s t l (omega arith) (omega arith) (after (byte_of s) l) refl

in_one : (f : ℕ) (j : Job) (l : List ℕ) → 4 * length l + job_rank j < f → read f j l ≡ reading j l
unfolding reading
in_one f j l h = enough f (4 * length l + 4) j l h (omega (arith, job_low j))
  where
    job_low : (i : Job) → job_rank i ≤ 3
    job_low atom = omega arith
    job_low (level s) = rank_low s
    job_low (more s t) = omega arith

-- ---- each job by its parts

pub atom_reading : (l : List ℕ) → reading atom l ≡ option_map_or (λ inner. option_and_then closed (reading (level joined) inner)) (after 40 l) (letter_at l)
unfolding read
atom_reading l = sym (in_one (suc (4 * length l)) atom l (omega arith)) ∙ go (after 40 l) refl
  where
    go : (o : Option (List ℕ)) → after 40 l ≡ o
        → option_map_or (λ inner. option_and_then closed (read (4 * length l) (level joined) inner)) o (letter_at l)
        ≡ option_map_or (λ inner. option_and_then closed (reading (level joined) inner)) o (letter_at l)
    go None a = refl
    go (Some inner) a = let n = ap length (after_some 40 l inner a) in rw (in_one (4 * length l) (level joined) inner (omega arith))

then_reading : (f : ℕ) (s : Sign) (u : Tree → Tree) (l : List ℕ) → 4 * length l < f + 4 → (o : Reading)
    → ((p : Tree × List ℕ) → o ≡ Some p → length p.1 < length l)
    → option_and_then (λ p. read f (more s (u p.0)) p.1) o ≡ option_and_then (λ p. reading (more s (u p.0)) p.1) o
then_reading f s u l h None less = refl
then_reading f s u l h (Some p) less = let n = less p refl in in_one f (more s (u p.0)) p.1 (omega arith)

below_less : (s : Sign) (l : List ℕ) (p : Tree × List ℕ) → reading (below s) l ≡ Some p → length p.1 < length l
below_less s l p e = below_falls s _ _ (falls (below s) l p.0 p.1 e)

pub level_reading : (s : Sign) (l : List ℕ) → reading (level s) l ≡ option_and_then (λ p. reading (more s p.0) p.1) (reading (below s) l)
unfolding read
level_reading s l =
    let b = below_rank s in
    let f = 4 * length l + rank s in
    sym (in_one (suc f) (level s) l (omega arith))
    ∙ rw (in_one f (below s) l (omega arith)) (then_reading f s (λ t. t) l (omega arith) (reading (below s) l) (below_less s l))

pub more_reading : (s : Sign) (t : Tree) (l : List ℕ)
    → reading (more s t) l
    ≡ option_map_or (λ right. option_and_then (λ p. reading (more s (operation s t p.0)) p.1) (reading (below s) right)) (after (byte_of s) l) (Some (t, l))
unfolding read
more_reading s t l = sym (in_one (suc (4 * length l)) (more s t) l (omega arith)) ∙ go (after (byte_of s) l) refl
  where
    go : (o : Option (List ℕ)) → after (byte_of s) l ≡ o
        → option_map_or (λ right. option_and_then (λ p. read (4 * length l) (more s (operation s t p.0)) p.1) (read (4 * length l) (below s) right))
        o (Some (t, l))
        ≡ option_map_or (λ right. option_and_then (λ p. reading (more s (operation s t p.0)) p.1) (reading (below s) right)) o (Some (t, l))
    go None a = refl
    go (Some right) a =
        let n = ap length (after_some (byte_of s) l right a) in
        let b = below_rank s in
        let low = rank_low s in
        rw (in_one (4 * length l) (below s) right (omega arith))
        (then_reading (4 * length l) s (operation s t) right (omega arith) (reading (below s) right) (below_less s right))
