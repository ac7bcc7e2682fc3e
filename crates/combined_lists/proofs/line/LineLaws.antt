-- What is proved of lines.
use Rattle.std.proofs.Common.{◌≡◌, ℕ, ◌≤◌, ◌<◌, Bool, true, false, Option, Some, None, List, length, refl, ap, ◌∙◌, arith, ltb-true, ltb-false}
use Rattle.std.specs.Prelude.{nat_lt}
use Rattle.pauli.specs.Told.{answer, refused, refuse_if}
use Rattle.combined_lists.specs.Line.{Tree, depth_of, all_sent, deepest, bytes_sent}
use Rattle.combined_lists.specs.Reader.{tree_of}
use Rattle.combined_lists.specs.LineCall.{line_told, longest_line, deepest_line}
use Rattle.combined_lists.specs.LineTheorems.{Reads, Legal, LineLaw}
use Rattle.combined_lists.proofs.form.ReadBack as back
use Rattle.combined_lists.proofs.form.ReadOnly as only
use Rattle.combined_lists.proofs.sent.DepthLaws.{depth_is}
use Rattle.combined_lists.proofs.sent.SentLaws.{letters_are}

tree_of_bytes : (l : List ℕ) (t : Tree) → Reads l t → tree_of l ≡ Some t
tree_of_bytes l t r = rw (r.bytes) at (back.read_back t r.binds)

pub reads_of : (l : List ℕ) (t : Tree) → tree_of l ≡ Some t → Reads l t
reads_of l t e = let (b, w) = only.read_only l t e in record { binds = b; bytes = w }

one_reading : (l : List ℕ) (t u : Tree) → Reads l t → Reads l u → t ≡ u
one_reading l t u p q = let a = tree_of_bytes l t p in let b = tree_of_bytes l u q in cc

ill_formed : (l : List ℕ) → tree_of l ≡ None → (t : Tree) → Reads l t → ⊥
ill_formed l e t r = let a = tree_of_bytes l t r in cc

no_tree : (l : List ℕ) → ((t : Tree) → Reads l t → ⊥) → tree_of l ≡ None
no_tree l h = go (tree_of l) refl
  where
    go : (o : Option Tree) → tree_of l ≡ o → tree_of l ≡ None
    go None e = e
    go (Some t) e = absurd (h t (reads_of l t e))

pub depth_law : (l : List ℕ) (t : Tree) → Reads l t → depth_of t ≡ deepest 0 l
depth_law l t r = rw (r.bytes) at (depth_is t r.binds)

pub letters_law : (sent : ℕ → Bool) (l : List ℕ) (t : Tree) → Reads l t → all_sent sent t ≡ bytes_sent sent l
letters_law sent l t r = rw (r.bytes) at (letters_are sent t r.binds)

-- what a line is told
data Case (sent : ℕ → Bool) (l : List ℕ) : Type 0 where
  ill : line_told sent l ≡ refused 14 0 → ((t : Tree) → Legal sent l t → ⊥) → Case sent l
  deep : (t : Tree) → line_told sent l ≡ refused 15 0 → Legal sent l t → deepest_line < depth_of t → Case sent l
  fine : (t : Tree) → line_told sent l ≡ answer t → Legal sent l t → depth_of t ≤ deepest_line → Case sent l

module _ (sent : ℕ → Bool) (l : List ℕ) where
  same_sent : (t u : Tree) → Reads l t → Legal sent l u → all_sent sent t ≡ true
  same_sent t u r s = let e = one_reading l t u r s.reads in rw e s.named

  case_of : Case sent l
  unfolding line_told refuse_if
  case_of = long (nat_lt longest_line (length l)) refl
    where
      depth : (t : Tree) → tree_of l ≡ Some t → nat_lt longest_line (length l) ≡ false → all_sent sent t ≡ true
          → (b : Bool) → nat_lt deepest_line (depth_of t) ≡ b → Case sent l
      depth t e h s true d = deep t (rw (h, e, s, d)) (record { reads = reads_of l t e; fits = ltb-false _ _ h; named = s }) (ltb-true _ _ d)
      depth t e h s false d = fine t (rw (h, e, s, d)) (record { reads = reads_of l t e; fits = ltb-false _ _ h; named = s }) (ltb-false _ _ d)

      letters : (t : Tree) → tree_of l ≡ Some t → nat_lt longest_line (length l) ≡ false → (b : Bool) → all_sent sent t ≡ b → Case sent l
      letters t e h true s = depth t e h s (nat_lt deepest_line (depth_of t)) refl
      letters t e h false s = ill (rw (h, e, s)) (λ u q. let z = same_sent t u (reads_of l t e) q in cc)

      form : nat_lt longest_line (length l) ≡ false → (o : Option Tree) → tree_of l ≡ o → Case sent l
      form h None e = ill (rw (h, e)) (λ t s. ill_formed l e t s.reads)
      form h (Some t) e = letters t e h (all_sent sent t) refl

      long : (b : Bool) → nat_lt longest_line (length l) ≡ b → Case sent l
      long true h = ill (rw h) (λ t s. omega (arith, ltb-true longest_line (length l) h, s.fits))
      long false h = form h (tree_of l) refl

  same : (t u : Tree) → Legal sent l t → Legal sent l u → t ≡ u
  same t u s r = one_reading l t u s.reads r.reads

  fourteen_only : Case sent l → line_told sent l ≡ refused 14 0 → (t : Tree) → Legal sent l t → ⊥
  fourteen_only (ill e h) q = h
  fourteen_only (deep t e s d) q = absurd (let z : ◌≡◌ {A = ℕ} 14 15 = cc in omega arith)
  fourteen_only (fine t e s d) q = absurd (cc)

  fourteen_when : Case sent l → ((t : Tree) → Legal sent l t → ⊥) → line_told sent l ≡ refused 14 0
  fourteen_when (ill e h) q = e
  fourteen_when (deep t e s d) q = absurd (q t s)
  fourteen_when (fine t e s d) q = absurd (q t s)

  fifteen_only : Case sent l → line_told sent l ≡ refused 15 0 → (t : Tree) × Legal sent l t × (deepest_line < depth_of t)
  fifteen_only (ill e h) q = absurd (let z : ◌≡◌ {A = ℕ} 14 15 = cc in omega arith)
  fifteen_only (deep t e s d) q = (t, s, d)
  fifteen_only (fine t e s d) q = absurd (cc)

  fifteen_when : Case sent l → (t : Tree) → Legal sent l t → deepest_line < depth_of t → line_told sent l ≡ refused 15 0
  fifteen_when (ill e h) u r k = absurd (h u r)
  fifteen_when (deep t e s d) u r k = e
  fifteen_when (fine t e s d) u r k = absurd (let q = ap depth_of (same t u s r) in omega arith)

  accepted_only : Case sent l → (u : Tree) → line_told sent l ≡ answer u → Legal sent l u × (depth_of u ≤ deepest_line)
  accepted_only (ill e h) u q = absurd (cc)
  accepted_only (deep t e s d) u q = absurd (cc)
  accepted_only (fine t e s d) u q = let i : t ≡ u = cc in rw (← i) (s, d)

  accepted_when : Case sent l → (u : Tree) → Legal sent l u → depth_of u ≤ deepest_line → line_told sent l ≡ answer u
  accepted_when (ill e h) u r k = absurd (h u r)
  accepted_when (deep t e s d) u r k = absurd (let q = ap depth_of (same t u s r) in omega arith)
  accepted_when (fine t e s d) u r k = e ∙ ap answer (same t u s r)

pub line_law : LineLaw
line_law = record {
  one_reading = one_reading;
  read_back = back.read_back;
  well_formed = λ l t. (reads_of l t, tree_of_bytes l t);
  ill_formed = λ l. (ill_formed l, no_tree l);
  depth = depth_law;
  letters = letters_law;
  fourteen = λ sent l. (fourteen_only sent l (case_of sent l), fourteen_when sent l (case_of sent l));
  fifteen = λ sent l. (fifteen_only sent l (case_of sent l), λ q. fifteen_when sent l (case_of sent l) q.0 q.1 q.2);
  accepted = λ sent l t. (accepted_only sent l (case_of sent l) t, λ q. accepted_when sent l (case_of sent l) t q.0 q.1);
}
