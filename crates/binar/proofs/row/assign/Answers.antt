use Rattle.std.proofs.Common.{ℕ, ◌≡◌, ◌+◌, ◌-◌, ◌++◌, ◌≤◌, List, length, take, drop, ap, sym, subst, append_assoc, ◌∙◌, arith}
use Rattle.std.specs.List.{copy_within}
use lib.ListN.{length-drop}
use lib.Seq.{length-take-le, take_at, drop_at}
use Rattle.binar.proofs.echelon.Matrix.{words_value, words_take, words_drop}
use Rattle.binar.proofs.row.Slice.{AreWords}
use Rattle.binar.specs.Words.{value, words, put_row, row_at}
use Rattle.binar.proofs.row.assign.Goals as goal

-- words copied are the words of the row's value
copied_row : (l : List ℕ) (i j n : ℕ) → i + n ≤ length l → j + n ≤ length l → AreWords (copy_within l j (j + n) i) → copy_within l j (j + n) i ≡ put_row l i n (row_at l j n)
unfolding put_row row_at
copied_row l i j n hi hj f =
    let k : j + n - j ≡ n = omega arith in
    let row = take n (drop j l) in
    let rest = drop (i + n) l in
    let size : length row ≡ n = length-take-le n (drop j l) (rw length-drop (omega arith)) in
    let front : length (take i l) ≡ i = length-take-le i l (omega arith) in
    let moved : copy_within l j (j + n) i ≡ take i l ++ (row ++ rest) = ap (λ (m : ℕ). (take i l ++ take m (drop j l)) ++ drop (i + m) l) k ∙ append_assoc (take i l) row rest in
    let known : AreWords row = subst AreWords (ap (take n) (drop_at (take i l) (row ++ rest) i front) ∙ take_at row rest n size) (words_take (drop i (take i l ++ (row ++ rest))) n (words_drop (take i l ++ (row ++ rest)) i (subst AreWords moved f))) in
    moved ∙ ap (λ (ws : List ℕ). take i l ++ (ws ++ rest)) (sym (words_value row known) ∙ ap (λ (m : ℕ). words m (value row)) size)

pub returns : goal.returns
returns c =
    let known : AreWords c.copy_within.new.self = λ q. (c.type_inv.w q).fits in
    c.copy_within.ensures.after ∙ copied_row c.args.w.now c.args.to c.args.from c.args.n c.requires.first c.requires.second (subst AreWords c.copy_within.ensures.after known)
