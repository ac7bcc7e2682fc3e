-- Letters by the bytes, and those of a tree.
use Rattle.std.proofs.Common.{◌≡◌, ℕ, ◌+◌, ◌-◌, ◌≤◌, ◌<◌, Bool, true, not, List, [], ◌∷◌, length, get_or, sym, refl, ap, ◌∙◌, arith}
use Rattle.std.specs.Prelude.{◌==◌, ◌⊎◌}
use Rattle.std.specs.List.{list_all}
use Rattle.std.specs.Borrow.{Bor}
use Rattle.std.proofs.Math.Bool.{and-true}
use Rattle.std.proofs.lemmas.Bool.{le-leb}
use Rattle.std.proofs.lemmas.List.{get_or-map}
use Rattle.std.proofs.lemmas.List.Folds.{list_all-append}
use Rattle.combined_lists.specs.Line.{Sign, quotient, common, joined, Tree, letter, parens, operation, byte_of, bytes_of, Binds, all_sent, byte_sent, bytes_sent}
use Rattle.combined_lists.specs.LineCall.{rolls_in, sent_of}
use Rattle.combined_lists.proofs.form.Steps.{not_letter}

pub letter_sent : (sent : ℕ → Bool) (b : ℕ) → 65 ≤ b → b ≤ 68 → byte_sent sent b ≡ sent (b - 65)
unfolding byte_sent
letter_sent sent b low high = rw (le-leb 65 b low, le-leb b 68 high)

pub other_sent : (sent : ℕ → Bool) (b : ℕ) → (b < 65) ⊎ (68 < b) → byte_sent sent b ≡ true
unfolding byte_sent
other_sent sent b h = rw (not_letter b h)

-- the roll of a letter, where it is lent
pub roll_sent : (rolls : List (Bor (List ℕ))) (b : ℕ) (d : Bor (List ℕ)) (x : Bool)
    → length rolls ≡ 4 → 65 ≤ b → b ≤ 68 → x ≡ (length (get_or rolls (b - 65) d).now == 0)
    → not x ≡ byte_sent (sent_of (rolls_in rolls)) b
unfolding sent_of
roll_sent rolls b d x four low high e =
    let roll = get_or-map (λ (roll : Bor (List ℕ)). roll.now) rolls (b - 65) d [] (omega arith) in
    ap not (e ∙ ap (λ (r : List ℕ). length r == 0) (sym roll)) ∙ sym (letter_sent (sent_of (rolls_in rolls)) b low high)

-- ---- a tree's letters

sign_sent : (sent : ℕ → Bool) (s : Sign) → byte_sent sent (byte_of s) ≡ true
unfolding byte_sent
sign_sent sent quotient = refl
sign_sent sent common = refl
sign_sent sent joined = refl

pub letters_are : (sent : ℕ → Bool) (t : Tree) → Binds t → all_sent sent t ≡ bytes_sent sent (bytes_of t)
unfolding all_sent bytes_of byte_sent
letters_are sent (letter a) b =
    let e : 65 + a - 65 ≡ a = omega arith in
    sym (and-true (byte_sent sent (65 + a)) ∙ letter_sent sent (65 + a) (omega arith) (omega arith) ∙ ap sent e)
letters_are sent (parens t) b =
    letters_are sent t b ∙ sym (list_all-append (byte_sent sent) (bytes_of t) (41 ∷ []) ∙ and-true (list_all (byte_sent sent) (bytes_of t)))
letters_are sent (operation s l r) b =
    rw (list_all-append (byte_sent sent) (bytes_of l) (byte_of s ∷ bytes_of r), sign_sent sent s, letters_are sent l b.2, letters_are sent r b.3)
