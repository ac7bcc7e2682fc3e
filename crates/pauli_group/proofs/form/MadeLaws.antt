-- The echelon form that is made of the rows of a list.
use Rattle.std.proofs.Common.{◌≡◌, ℕ, ◌+◌, ◌-◌, ◌*◌, ◌^◌, ◌<◌, ◌≤◌, true, cond, Option, Some, IsSome, List, ◌++◌, map, length, get_or, drop, sym, ap, ◌∙◌, subst, ap₂, lt_of_lt_of_le, arith, length-append, length-drop, get_or-drop, get_or-append-add, pow_pos, pow_mono, le-leb}
use native.Mathlib.Decide.{dec_lt}
use lib.ListN.{length-map, get_or-eq_default}
use Rattle.binar.specs.Echelon.{echelon, rank as echelon_rank}
use Rattle.binar.specs.Layout.{form_stride, fits, formed, FormIs, form_in}
use Rattle.binar.specs.Laid.{laid_out}
use Rattle.binar.specs.Words.{matrix, image}
use Rattle.binar.proofs.echelon.Bounds.{rank_rows}
use Rattle.binar.proofs.matrix_form.Formed.{form_count}
use Rattle.binar.proofs.echelon.Matrix.{length_image, drop_image, matrix_image, length_matrix}
use Rattle.binar.proofs.matrix_form.Reading.{rank_back}
use Rattle.binar.proofs.matrix_form.Theorems.{form_law}
use Rattle.pauli.specs.Pauli.{Pauli}
use Rattle.pauli.specs.Signed.{list_in, pauli_in}
use Rattle.pauli.specs.Writing.{OnPlaces}
use Rattle.pauli.proofs.write.Writers.{length_list}
use Rattle.pauli_group.specs.Inner.Area.{row_words, stride_of, Outside}
use Rattle.pauli_group.specs.Inner.Lists.{row_over, form_over}
use Rattle.pauli_group.proofs.list.ListLaws.{list_map_at, on_places_at, outside_join}
use Rattle.pauli_group.proofs.rows.RowLaws.{row_lt}

-- ---- what stands behind a matrix

-- a matrix put at the front of a slice
pub image_outside : (s n : ℕ) (M l rest : List ℕ) (k : ℕ) → length M ≡ n → k ≤ length l → length rest ≡ length l - n * s → n * s ≤ length l
    → ((j : ℕ) → k ≤ n * s + j → get_or rest j 0 ≡ get_or l (n * s + j) 0) → n * s ≤ k → Outside 0 k l (image s M rest)
image_outside s n M l rest k count inside size room same low = record {
  size = length_image s M rest ∙ ap (λ (m : ℕ). m * s + length rest) count ∙ omega (arith, size, room);
  before = λ q h. absurd (omega arith);
  after = λ q h.
      let e : q ≡ n * s + (q - n * s) = omega arith in
      ap (λ (p : ℕ). get_or (image s M rest) p 0) e ∙ sym (get_or-drop (n * s) (image s M rest) (q - n * s) 0)
      ∙ ap (λ (m : ℕ). get_or (drop (m * s) (image s M rest)) (q - n * s) 0) (sym count) ∙ ap (λ (x : List ℕ). get_or x (q - n * s) 0) (drop_image s M rest)
      ∙ same (q - n * s) (omega arith) ∙ ap (λ (p : ℕ). get_or l p 0) (sym e);
}

-- ---- the form of a list

module _ (l : List ℕ) (base n s : ℕ) (room : n * stride_of n + n ≤ 4096) (places : s ≤ 128) (size : length l ≡ 4096) (on : OnPlaces s (list_in l base n)) where
  abbrev S : ℕ
  S = stride_of n

  abbrev L : List Pauli
  L = list_in l base n

  abbrev M : List ℕ
  M = map (row_over s) L

  -- the slice with the rows at its front
  abbrev rows : List ℕ
  rows = image S M (drop (n * S) l)

  count : length M ≡ n
  count = length-map L _ ∙ length_list l base n

  wide : 64 * 4 ≤ 64 * S
  unfolding stride_of form_stride
  wide = omega arith

  below : (i : ℕ) → get_or M i 0 < 2 ^ (64 * S)
  below i = go (dec_lt i n)
    where
      go : Dec (i < n) → get_or M i 0 < 2 ^ (64 * S)
      go (yes h) =
          let o = on_places_at s l base n i on h in
          lt_of_lt_of_le (subst (λ (v : ℕ). v < 2 ^ (64 * 4)) (sym (list_map_at (row_over s) l base n i 0 h)) (row_lt s (pauli_in l (base + 5 * i)) places o.0 o.1)) (pow_mono wide)
      go (no h) = subst (λ (v : ℕ). v < 2 ^ (64 * S)) (sym (get_or-eq_default M 0 (omega (arith, count)))) (pow_pos (64 * S))

  rows_size : length rows ≡ 4096
  rows_size = length_image S M (drop (n * S) l) ∙ ap₂ (λ (m : ℕ) (k : ℕ). m * S + k) count (length-drop (n * S) l) ∙ omega (arith, room, size)

  rows_outside : Outside 0 (n * S + n) l rows
  rows_outside = image_outside S n M l (drop (n * S) l) (n * S + n) count (omega (arith, room, size)) (length-drop (n * S) l) (omega (arith, room, size)) (λ j h. get_or-drop (n * S) l j 0) (omega arith)

  rows_back : matrix S n rows ≡ M
  rows_back = ap (λ (k : ℕ). matrix S k rows) (sym count) ∙ matrix_image S M (drop (n * S) l) below

  fit : fits row_words n (2 * s) (length rows) ≡ true
  unfolding fits stride_of
  fit = rw (le-leb (2 * s) (64 * row_words) (omega arith)) (le-leb (n * form_stride row_words n + n) (length rows) (omega (arith, room, rows_size)))

  -- the form made of a slice m that has the rows, k words each
  module _ (k : ℕ) (stride : k ≡ S) (m : List ℕ) (put : m ≡ image k M (drop (n * k) l)) (answer : Option ℕ) (exit : List ℕ) (given : FormIs m row_words n (2 * s) answer exit) where
    h : FormIs rows row_words n (2 * s) answer exit
    h = subst (λ (x : List ℕ). FormIs x row_words n (2 * s) answer exit) (put ∙ ap (λ (j : ℕ). image j M (drop (n * j) l)) stride) given

    made : (answer ≡ Some (echelon_rank (form_over s L))) × (form_in S n row_words (2 * s) (echelon_rank (form_over s L)) exit ≡ form_over s L)
    unfolding stride_of form_over
    made = subst (λ (A : List ℕ). (answer ≡ Some (echelon_rank (echelon (2 * s) A))) × (form_in S n row_words (2 * s) (echelon_rank (echelon (2 * s) A)) exit ≡ echelon (2 * s) A))
        rows_back ((form_law rows row_words n (2 * s) answer exit h).fitting fit)

    pub made_rank : (r : ℕ) → answer ≡ Some r → r ≡ echelon_rank (form_over s L)
    made_rank r e = let m = made.0 in cc

    pub made_form : (r : ℕ) → answer ≡ Some r → form_in S n row_words (2 * s) r exit ≡ form_over s L
    made_form r e = ap (λ (k : ℕ). form_in S n row_words (2 * s) k exit) (made_rank r e) ∙ made.1

    pub made_some : IsSome answer
    made_some = rw made.0

    pub made_outside : Outside 0 (n * S + n) l exit
    unfolding laid_out stride_of
    made_outside =
        let f = formed row_words n (2 * s) rows in
        let c = form_count rows row_words n (2 * s) fit in
        let ps = f.pivots in
        let rest = ps ++ drop (length f.rows * S + length ps) rows in
        let low : length ps ≤ n = omega (arith, rank_back rows row_words n (2 * s) fit, rank_rows (2 * s) (matrix S n rows), length_matrix S n rows) in
        let e : exit ≡ image S f.rows rest = h.left ∙ ap (λ b. cond b (laid_out S f rows) rows) fit in
        outside_join rows_outside (subst (Outside 0 (n * S + n) rows) (sym e)
        (image_outside S n f.rows rows rest (n * S + n) c (omega (arith, room, rows_size))
        (length-append ps (drop (length f.rows * S + length ps) rows) ∙ ap (length ps +◌) (length-drop (length f.rows * S + length ps) rows ∙ ap (λ (m : ℕ). length rows - (m * S + length ps)) c) ∙ omega (arith, room, rows_size, low))
        (omega (arith, room, rows_size))
        (λ j g.
        let q : j ≡ length ps + (j - length ps) = omega (arith, low) in
        let k : n * S + length ps + (j - length ps) ≡ n * S + j = omega (arith, low) in
        ap (λ (p : ℕ). get_or rest p 0) q ∙ get_or-append-add ps (drop (length f.rows * S + length ps) rows) (j - length ps) 0
        ∙ get_or-drop (length f.rows * S + length ps) rows (j - length ps) 0 ∙ ap (λ (m : ℕ). get_or rows (m * S + length ps + (j - length ps)) 0) c ∙ ap (λ (p : ℕ). get_or rows p 0) k)
        (omega arith)))
