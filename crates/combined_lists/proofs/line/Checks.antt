-- The check of a line, test by test, by its bytes.
use Rattle.std.proofs.Common.{◌≡◌, ℕ, ◌≤◌, ◌<◌, Bool, true, false, not, Option, Some, None, List, [], ◌∷◌, length, sym, refl, arith, le-ltb, lt-ltb, ne_eqb}
use Rattle.std.specs.Prelude.{nat_lt, is_some, ◌==◌}
use Rattle.pauli.specs.Told.{Told, answer, refused, refuse_if, map_told}
use Rattle.combined_lists.specs.Line.{Tree, joined, depth_of, all_sent, deepest, bytes_sent}
use Rattle.combined_lists.specs.Reader.{level, whole, tree_of}
use Rattle.combined_lists.specs.LineCall.{longest_line, deepest_line, tree_told, line_told, passed}
use Rattle.combined_lists.specs.Inner.Ends.{rest_after}
use Rattle.combined_lists.proofs.form.LevelLaws.{read_some, read_none}
use Rattle.combined_lists.proofs.line.LineLaws.{reads_of, depth_law, letters_law}

-- ---- the form

pub formed : (l rest : List ℕ) → Some rest ≡ rest_after (level joined) l → (length rest == 0) ≡ is_some (tree_of l)
unfolding tree_of
formed l rest e = let p = read_some (level joined) l rest e in rw p.1 (go p.0 rest)
  where
    go : (t : Tree) (r : List ℕ) → (length r == 0) ≡ is_some (whole (t, r))
    go t [] = refl
    go t (b ∷ r) = ne_eqb _ _ (λ q. omega arith)

pub not_formed : (l : List ℕ) → None ≡ rest_after (level joined) l → false ≡ is_some (tree_of l)
unfolding tree_of
not_formed l e = rw (read_none (level joined) l e)

-- ---- the tests in order

module _ (sent : ℕ → Bool) (l : List ℕ) where
  abbrev by_bytes : Bool → Bool → Bool → Bool → Told (Unit {0})
  by_bytes long formed sent deep = refuse_if long 14 0 (refuse_if (not formed) 14 0 (refuse_if (not sent) 14 0 (refuse_if deep 15 0 (answer tt))))

  of_tree : (o : Option Tree) → tree_of l ≡ o → passed (tree_told sent o) ≡ by_bytes false (is_some o) (bytes_sent sent l) (nat_lt deepest_line (deepest 0 l))
  unfolding passed refuse_if map_told
  of_tree None e = refl
  of_tree (Some t) e =
      let r = reads_of l t e in
      rw (← letters_law sent l t r, ← depth_law l t r) (go (all_sent sent t) (nat_lt deepest_line (depth_of t)))
    where
      go : (a d : Bool) → passed (refuse_if (not a) 14 0 (refuse_if d 15 0 (answer t))) ≡ refuse_if (not a) 14 0 (refuse_if d 15 0 (answer tt))
      go true true = refl
      go true false = refl
      go false d = refl

  in_order : (long formed named deep : Bool) → nat_lt longest_line (length l) ≡ long → is_some (tree_of l) ≡ formed → bytes_sent sent l ≡ named
      → nat_lt deepest_line (deepest 0 l) ≡ deep → passed (line_told sent l) ≡ by_bytes long formed named deep
  unfolding passed line_told refuse_if map_told
  in_order true formed named deep a b c d = rw a
  in_order false formed named deep a b c d = rw (a, ← b, ← c, ← d) (of_tree (tree_of l) refl)

  pub too_long : longest_line < length l → refused 14 0 ≡ passed (line_told sent l)
  unfolding refuse_if
  too_long h = sym (in_order true _ _ _ (lt-ltb longest_line (length l) h) refl refl refl)

  module _ (fits : length l ≤ longest_line) where
    pub no_form : false ≡ is_some (tree_of l) → refused 14 0 ≡ passed (line_told sent l)
    unfolding refuse_if
    no_form form = sym (in_order false false _ _ (le-ltb longest_line (length l) fits) (sym form) refl refl)

    module _ (form : true ≡ is_some (tree_of l)) where
      pub not_sent : false ≡ bytes_sent sent l → refused 14 0 ≡ passed (line_told sent l)
      unfolding refuse_if
      not_sent named = sym (in_order false true false _ (le-ltb longest_line (length l) fits) (sym form) (sym named) refl)

      module _ (named : true ≡ bytes_sent sent l) where
        pub too_deep : deepest_line < deepest 0 l → refused 15 0 ≡ passed (line_told sent l)
        unfolding refuse_if
        too_deep d = sym (in_order false true true true (le-ltb longest_line (length l) fits) (sym form) (sym named) (lt-ltb deepest_line (deepest 0 l) d))

        pub passes : deepest 0 l ≤ deepest_line → answer tt ≡ passed (line_told sent l)
        unfolding refuse_if
        passes d = sym (in_order false true true false (le-ltb longest_line (length l) fits) (sym form) (sym named) (le-ltb deepest_line (deepest 0 l) d))
