-- The call on a line: its checks, and what is told and left after them.
use Rattle.std.proofs.Common.{◌≡◌, ℕ, ◌-◌, ◌≤◌, Bool, true, false, List, [], ◌∷◌, ◌++◌, length, take, drop, sym, refl, ap, ◌∙◌, arith, Option, Some, Result, le-ltb}
use Rattle.std.specs.Prelude.{nat_lt}
use Rattle.std.specs.Result.{IsErrAnd}
use Rattle.std.proofs.lemmas.Option.{option_and_then_some, some_pair_parts}
use Rattle.binar.specs.Words.{put_row}
use Rattle.pauli.specs.Pauli.{Pauli}
use Rattle.pauli.specs.Refusals.{told_of, told_refusal}
use Rattle.pauli.specs.Told.{Told, answer, refused, refuse_if, and_then, map_told}
use Rattle.pauli.specs.Writing.{told_bytes, left_in}
use Rattle.pauli.specs.declared.refusal.Refusal.{Refusal}
use Rattle.pauli.specs.declared.roll.Roll.{Roll}
use Rattle.pauli.proofs.refusal.HandedOn.{handed_on}
use Rattle.pauli.proofs.roll.Told.{refused_none, map_refused, map_answer, test_pass}
use Rattle.pauli_group.specs.Calls.{list_bytes}
use Rattle.pauli_group.proofs.area.AreaLaws.{front_part, front_whole}
use Rattle.combined_lists.specs.Line.{joined, Tree, depth_of, byte_sent, bytes_sent}
use Rattle.combined_lists.specs.Reader.{level, whole, tree_of, reading}
use Rattle.combined_lists.specs.LineCall.{deepest_line, line_told, passed, sent_of}
use Rattle.combined_lists.specs.LineTheorems.{Legal}
use Rattle.combined_lists.specs.Work.{value_of}
use Rattle.combined_lists.specs.Combining.{all_read, line_words, checked_line, combine_call, line_cleared, line_area_after}
use Rattle.combined_lists.specs.CombineContract.{CombineCall}
use Rattle.combined_lists.specs.Inner.Worked.{Ready, Worked, Refuses}
use Rattle.combined_lists.specs.Inner.Slots.{on_lists, sent_in, lists_in}
use Rattle.combined_lists.specs.Inner.Call.{AreRolls}
use Rattle.combined_lists.proofs.combine.BytesLaws.{lists_bytes}
use Rattle.combined_lists.proofs.line.LineLaws.{line_law, depth_law, letters_law}
use Rattle.combined_lists.proofs.combine.RollLaws.{sent_same, list_known}

-- ---- a line's tree

-- is what the walk reads
pub whole_line : (l : List ℕ) (t : Tree) → tree_of l ≡ Some t → reading (level joined) l ≡ Some (t, [])
unfolding tree_of
whole_line l t e = option_and_then_some _ _ _ e (λ p x y. x ∙ ap (λ (q : Tree × List ℕ). Some q) (only p.0 p.1 y))
  where
    only : (u : Tree) (m : List ℕ) → whole (u, m) ≡ Some t → ◌≡◌ {A = Tree × List ℕ} (u, m) (t, [])
    only u [] y = let s : u ≡ t = cc in rw s
    only u (b ∷ m) y = absurd (cc)

module _ (l : List ℕ) (t : Tree) (is : tree_of l ≡ Some t) where
  only_tree : (u : Tree) (m : List ℕ) → reading (level joined) l ≡ Some (u, m) → u ≡ t
  only_tree u m e = (some_pair_parts u t m [] (sym e ∙ whole_line l t is)).0

  -- what the walk tells is told of the tree
  module _ (lists : ℕ → List Pauli) where
    pub tree_refused : (n p : ℕ) → Refuses on_lists lists (level joined) l n p → map_told list_bytes (value_of on_lists lists t) ≡ refused n p
    unfolding map_told
    tree_refused n p r = rw (← only_tree r.tree r.rest r.reads, r.told)

    pub tree_worked : {W : Type 0} (Holds : W → ℕ → List Pauli → Type 0) (rest : List ℕ) (w w' : W)
        (worked : Worked on_lists lists Holds (level joined) l rest 0 w w')
        → map_told list_bytes (value_of on_lists lists t) ≡ answer (list_bytes worked.value)
    unfolding map_told
    tree_worked Holds rest w w' worked = rw (← only_tree worked.tree rest worked.reads, worked.told)

-- ---- the area cleared

-- 32,768 words, cleared after any changes
pub line_cleared_whole : (x work : List ℕ) → length x ≡ line_words → length work ≡ line_words → put_row x 0 line_words 0 ≡ line_cleared work
unfolding line_cleared
line_cleared_whole x work a b = front_whole line_words 0 x work a b

-- the first 32,768 words of an area, cleared by themselves
line_cleared_part : (work : List ℕ) → line_words ≤ length work → line_cleared (take line_words work) ++ drop line_words work ≡ line_cleared work
unfolding line_cleared
line_cleared_part work h = front_part line_words 0 work h

-- ---- the checks in order

bytes_same : (f g : ℕ → Bool) → ((a : ℕ) → f a ≡ g a) → (l : List ℕ) → bytes_sent f l ≡ bytes_sent g l
unfolding byte_sent
bytes_same f g same [] = refl
bytes_same f g same (b ∷ l) = rw (same (b - 65), bytes_same f g same l)

module _ (l : List ℕ) (rolls : List (List ℕ)) (words : ℕ) where
  pub line_stops : (n p : ℕ) → refused n p ≡ passed (line_told (sent_of rolls) l) → checked_line l rolls words ≡ refused n p
  unfolding checked_line passed and_then
  line_stops n p e = rw (map_refused _ (line_told (sent_of rolls) l) n p (sym e))

  module _ (line : answer tt ≡ passed (line_told (sent_of rolls) l)) where
    passing : (t : Tree) × (line_told (sent_of rolls) l ≡ answer t)
    unfolding passed
    passing = let p = map_answer _ (line_told (sent_of rolls) l) tt (sym line) in (p.0, p.1)

    -- the line's tree
    pub the_tree : Tree
    the_tree = passing.0

    legal : Legal (sent_of rolls) l the_tree × (depth_of the_tree ≤ deepest_line)
    unfolding the_tree
    legal = (line_law.accepted (sent_of rolls) l passing.0).0 passing.1

    pub tree_is : tree_of l ≡ Some the_tree
    tree_is = (line_law.well_formed l the_tree).1 legal.0.reads

    pub ready : {sent : List (Option Roll)} → AreRolls rolls sent → Ready (sent_in sent) (level joined) l 0
    ready {sent} are = record {
      depth = 0;
      tree = the_tree;
      rest = [];
      reads = whole_line l the_tree tree_is;
      named =
          bytes_same (sent_in sent) (sent_of rolls) (sent_same are) l
          ∙ sym (letters_law (sent_of rolls) l the_tree legal.0.reads) ∙ legal.0.named;
      low = omega arith;
      shallow = omega (arith, legal.1, depth_law l the_tree legal.0.reads);
    }

    then_rolls : checked_line l rolls words ≡ and_then (all_read rolls) (λ done. refuse_if (nat_lt words line_words) 9 0 (answer the_tree))
    unfolding checked_line and_then the_tree
    then_rolls = rw (passing.1)

    pub rolls_stop : (A : Type 0) (n p : ℕ) → passed {A = A} (refused n p) ≡ all_read rolls → checked_line l rolls words ≡ refused n p
    unfolding passed map_told and_then
    rolls_stop A n p e = then_rolls ∙ rw (← e)

    module _ {A : Type 0} (a : A) (read : passed (answer a) ≡ all_read rolls) where
      then_words : checked_line l rolls words ≡ refuse_if (nat_lt words line_words) 9 0 (answer the_tree)
      unfolding passed map_told and_then
      then_words = then_rolls ∙ rw (← read)

      pub words_stop : (n p : ℕ) → refused n p ≡ refuse_if (nat_lt words line_words) 9 0 (answer (tt {0})) → checked_line l rolls words ≡ refused n p
      unfolding refuse_if
      words_stop n p e = then_words ∙ go (nat_lt words line_words) e
        where
          go : (x : Bool) → refused n p ≡ refuse_if x 9 0 (answer (tt {0})) → refuse_if x 9 0 (answer the_tree) ≡ refused n p
          go true h = cc
          go false h = absurd (refused_none n p tt h)

      pub line_passes : line_words ≤ words → checked_line l rolls words ≡ answer the_tree
      line_passes h = then_words ∙ test_pass _ 9 0 _ (le-ltb words line_words h)

-- ---- what is told and left

module _ (l : List ℕ) (rolls : List (List ℕ)) (work out : List ℕ) where
  pub turned_back : (r : Result ℕ Refusal) (q : Refusal) → IsErrAnd r (λ e. e ≡ q) → checked_line l rolls (length work) ≡ told_refusal q
      → CombineCall l rolls work out r work out
  unfolding combine_call and_then told_bytes left_in line_area_after
  turned_back r q same stops = record {
    told = ap told_of (handed_on r q same) ∙ rw stops;
    written = rw stops;
    area = rw stops;
  }

  module _ (line : answer tt ≡ passed (line_told (sent_of rolls) l)) {sent : List (Option Roll)} (are : AreRolls rolls sent)
      (passes : checked_line l rolls (length work) ≡ answer (the_tree l rolls (length work) line)) where
    abbrev told : Told (List ℕ)
    told = map_told list_bytes (value_of on_lists (lists_in sent) (the_tree l rolls (length work) line))

    same_told : told ≡ combine_call l rolls (length work)
    unfolding combine_call and_then
    same_told = rw passes (lists_bytes rolls (lists_in sent) _ (legal l rolls (length work) line).0.named (list_known are))

    pub worked_out : (r : Result ℕ Refusal) (area out' : List ℕ) → line_words ≤ length work → told_of r ≡ told_bytes told out → out' ≡ left_in told out
        → area ≡ line_cleared (take line_words work) → CombineCall l rolls work out r (area ++ drop line_words work) out'
    unfolding line_area_after
    worked_out r area out' long wrote left clear = record {
      told = wrote ∙ ap (λ (t : Told (List ℕ)). told_bytes t out) same_told;
      written = left ∙ ap (λ (t : Told (List ℕ)). left_in t out) same_told;
      area = rw passes (ap (◌++ drop line_words work) clear ∙ line_cleared_part work long);
    }
