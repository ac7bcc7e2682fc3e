-- Every tree's bytes are read back as that tree.
use Rattle.std.proofs.Common.{◌≡◌, ℕ, ◌+◌, ◌-◌, ◌≤◌, ◌<◌, Some, None, List, [], ◌∷◌, ◌++◌, refl, ◌∙◌, append_assoc, append-nil, arith}
use Rattle.combined_lists.specs.Line.{Sign, quotient, common, joined, Tree, letter, parens, operation, byte_of, bytes_of, rank, rank_of, Binds}
use Rattle.combined_lists.specs.Reader.{after, Job, atom, level, more, below, reading, tree_of}
use Rattle.combined_lists.proofs.form.Steps.{after_hit, after_miss, letter_hit, atom_reading, level_reading, more_reading, rank_low}

-- no sign of rank k or less stands next
abbrev pub Stops : ℕ → List ℕ → Type 0
Stops k l = (s : Sign) → rank s ≤ k → after (byte_of s) l ≡ None

-- the tree is read, whatever follows that does not go on with a sign of the job
abbrev Read : ℕ → Job → Tree → Type 0
Read k j t = (l : List ℕ) → Stops k l → reading j (bytes_of t ++ l) ≡ Some (t, l)

-- a level goes on from the tree
abbrev Goes : Sign → Tree → Type 0
Goes s t = (l : List ℕ) → Stops (rank s - 1) l → reading (level s) (bytes_of t ++ l) ≡ reading (more s t) l

module _ (s : Sign) (t : Tree) where
  begins : Read (rank s - 1) (below s) t → Goes s t
  begins c l stops = rw (level_reading s (bytes_of t ++ l), c l stops)

  ends : Goes s t → Read (rank s) (level s) t
  ends goes l stops = goes l (λ k h. stops k (omega arith)) ∙ rw (more_reading s t l, stops s (omega arith))

rank_high : (s : Sign) → 1 ≤ rank s
rank_high quotient = omega arith
rank_high common = omega arith
rank_high joined = omega arith

-- the signs are three
signs_differ : (s k : Sign) → rank k < rank s → byte_of s ≡ byte_of k → ⊥
signs_differ quotient quotient h e = omega arith
signs_differ quotient common h e = omega arith
signs_differ quotient joined h e = omega arith
signs_differ common quotient h e = omega arith
signs_differ common common h e = omega arith
signs_differ common joined h e = omega arith
signs_differ joined quotient h e = omega arith
signs_differ joined common h e = omega arith
signs_differ joined joined h e = omega arith

module _ (s : Sign) (t u : Tree) where
  turns : Goes s t → Read (rank s - 1) (below s) u → Goes s (operation s t u)
  unfolding bytes_of
  turns goes c l stops =
      rw (append_assoc (bytes_of t) (byte_of s ∷ bytes_of u) l)
      (goes (byte_of s ∷ (bytes_of u ++ l)) (λ k h. after_miss (byte_of k) (byte_of s) _ (signs_differ s k (omega (arith, rank_high s))))
      ∙ rw (more_reading s t (byte_of s ∷ (bytes_of u ++ l)), after_hit (byte_of s) (bytes_of u ++ l), c l stops))

-- from a level on every later one
lifts : (t : Tree) (k s : Sign) → rank k ≤ rank s → Goes k t → Goes s t
lifts t quotient quotient h g = g
lifts t quotient common h g = begins common t (ends quotient t g)
lifts t quotient joined h g = begins joined t (ends common t (begins common t (ends quotient t g)))
lifts t common quotient h g = absurd (omega arith)
lifts t common common h g = g
lifts t common joined h g = begins joined t (ends common t g)
lifts t joined quotient h g = absurd (omega arith)
lifts t joined common h g = absurd (omega arith)
lifts t joined joined h g = g

-- how a tree is read wherever it may stand
record Known (t : Tree) : Type 0 where
  goes : (s : Sign) → rank_of t ≤ rank s → Goes s t
  operand : (s : Sign) → rank_of t < rank s → Read (rank s - 1) (below s) t

from_atom : (t : Tree) → Read 0 atom t → Known t
from_atom t c = record { goes = λ s h. lifts t quotient s (rank_high s) first; operand = operand }
  where
    first : Goes quotient t
    first = begins quotient t c

    operand : (s : Sign) → rank_of t < rank s → Read (rank s - 1) (below s) t
    operand quotient h = c
    operand common h = ends quotient t first
    operand joined h = ends common t (lifts t quotient common (omega arith) first)

from_sign : (t : Tree) (k : Sign) → rank_of t ≡ rank k → Goes k t → Known t
from_sign t k e g = record { goes = λ s h. lifts t k s (omega arith) g; operand = operand }
  where
    operand : (s : Sign) → rank_of t < rank s → Read (rank s - 1) (below s) t
    operand quotient h = absurd (omega (arith, rank_high k))
    operand common h = ends quotient t (lifts t k quotient (omega arith) g)
    operand joined h = ends common t (lifts t k common (omega arith) g)

letter_read : (a : ℕ) → a < 4 → Read 0 atom (letter a)
unfolding bytes_of
letter_read a h l stops =
    let e : 65 + a - 65 ≡ a = omega arith in
    rw (atom_reading ((65 + a) ∷ l), after_miss 40 (65 + a) l (λ q. omega arith), letter_hit (65 + a) l (omega arith) (omega arith), e)

parens_read : (t : Tree) → Goes joined t → Read 0 atom (parens t)
unfolding bytes_of
parens_read t g l stops =
    rw (
      append_assoc (bytes_of t) (41 ∷ []) l,
      atom_reading (40 ∷ (bytes_of t ++ (41 ∷ l))),
      after_hit 40 (bytes_of t ++ (41 ∷ l)),
      ends joined t g (41 ∷ l) (λ k h. after_miss (byte_of k) 41 l (no_sign k)),
      after_hit 41 l,
    )
  where
    no_sign : (s : Sign) → 41 ≡ byte_of s → ⊥
    no_sign quotient e = omega arith
    no_sign common e = omega arith
    no_sign joined e = omega arith

pub top_rank : (t : Tree) → rank_of t ≤ 3
top_rank (letter a) = omega arith
top_rank (parens t) = omega arith
top_rank (operation s l r) = rank_low s

known : (t : Tree) → Binds t → Known t
known (letter a) b = from_atom (letter a) (letter_read a b)
known (parens t) b = from_atom (parens t) (parens_read t ((known t b).goes joined (top_rank t)))
known (operation s l r) b = from_sign (operation s l r) s refl (turns s l r ((known l b.2).goes s b.0) ((known r b.3).operand s b.1))

pub read_back : (t : Tree) → Binds t → tree_of (bytes_of t) ≡ Some t
unfolding tree_of after
read_back t b =
    let e : reading (level joined) (bytes_of t) ≡ Some (t, []) =
    rw (append-nil (bytes_of t)) at (ends joined t ((known t b).goes joined (top_rank t)) [] (λ k h. refl)) in
    rw e
