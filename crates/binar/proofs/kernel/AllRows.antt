-- The rows of a kernel as the code writes them, by a form in the slice: one free column after the other.
use Rattle.std.proofs.Common.{◌≡◌, refl, sym, ap, ap₂, ◌∙◌, Bool, true, false, cond, not, List, [], ◌∷◌, ◌++◌, append-nil, map, length, length-append, get_or, ◌==◌, take, drop, ℕ, zero, suc, ◌+◌, ◌-◌, ◌*◌, ◌/◌, ◌%◌, ◌^◌, ◌≤◌, ◌<◌, zero-add, suc-mul, mul-le-mul_right, arith}
use Rattle.std.specs.List.{list_any, range_with_len}
use Rattle.std.proofs.lemmas.List.FromFn.{length-range_with_len}
use mathlib.Core.List.{map-append, map-map}
use lib.ListN.{length-map}
use Rattle.binar.specs.Words.{put_row, put_rows, matrix}
use Rattle.binar.specs.Echelon.{R}
use Rattle.binar.specs.Kernel.{without, free_columns, kernel_row, kernel_of}
use Rattle.binar.specs.Layout.{form_in, KernelRoom}
use Rattle.binar.proofs.Lists.{all_map, map_same}
use Rattle.binar.proofs.Without.{is_among, without_length, without_last}
use Rattle.binar.proofs.echelon.FreeColumns.{free_inside}
use Rattle.binar.proofs.kernel.Rows.{put_last, get_puts_before}
use Rattle.binar.proofs.kernel.OneRow.{kernel_columns}
use Rattle.binar.proofs.matrix_form.Alike.{Alike, matrix_alike, part_alike}

range_last : (a k : ℕ) → range_with_len a (k + 1) ≡ range_with_len a k ++ (a + k) ∷ []
range_last a zero = ap (λ (j : ℕ). j ∷ []) (omega arith)
range_last a (suc k) =
    let e : suc k + 1 ≡ suc (k + 1) = omega arith in
    let d : a + 1 + k ≡ a + suc k = omega arith in
    ap (range_with_len a) e ∙ ap (a ∷◌) (range_last (a + 1) k ∙ ap (λ (j : ℕ). range_with_len (a + 1) k ++ j ∷ []) d)

-- those of the free columns below col
unfoldable pub rows_so_far : List ℕ → ℕ → ℕ → ℕ → ℕ → List ℕ
rows_so_far l s n rank col =
    let ps = take rank (drop (n * s) l) in
    map (kernel_row ps (matrix s n l)) (without ps (range_with_len 0 col))

module _ (l : List ℕ) (s n cols rank place width : ℕ) where
  abbrev qs : List ℕ
  qs = take rank (drop (n * s) l)

  abbrev rows : ℕ → List ℕ
  rows = rows_so_far l s n rank

  pub rows_start : l ≡ put_rows l place width (rows 0)
  unfolding rows_so_far without put_rows
  rows_start = refl

  pub few : (col : ℕ) → length (rows col) ≤ col
  unfolding rows_so_far
  few col =
      omega (
        arith,
        length-map (without qs (range_with_len 0 col)) (kernel_row qs (matrix s n l)),
        without_length qs (range_with_len 0 col),
        length-range_with_len 0 col,
      )

  next : (col : ℕ) → rows (col + 1) ≡ rows col ++ map (kernel_row qs (matrix s n l)) (cond (not (is_among qs col)) (col ∷ []) [])
  unfolding rows_so_far
  next col =
      let f = kernel_row qs (matrix s n l) in
      ap (λ (ks : List ℕ). map f (without qs ks)) (range_last 0 col ∙ ap (λ (j : ℕ). range_with_len 0 col ++ j ∷ []) (zero-add col))
      ∙ ap (map f) (without_last qs (range_with_len 0 col) col)
      ∙ map-append f (without qs (range_with_len 0 col)) (cond (not (is_among qs col)) (col ∷ []) [])

  module _ (S : KernelRoom l s n cols rank place width cols) where
    pub row_room : (col count : ℕ) → col < cols → count ≤ col → place + count * width + width ≤ length l
    row_room col count h k =
        let e : suc count * width ≤ cols * width = mul-le-mul_right width (omega arith) in
        omega (arith, S.room, suc-mul count width)

    -- a slice w with the rows of the free columns below col
    module _ (col : ℕ) (h : col < cols) (w : List ℕ) (size : length w ≡ length l) (e : w ≡ put_rows l place width (rows col)) where
      behind : place + length (rows col) * width ≤ length l
      behind = omega (arith, row_room col (length (rows col)) h (few col))

      same : Alike 0 (n * s + rank) l w
      same j a b = ap (λ (t : List ℕ). get_or t j 0) e ∙ get_puts_before l (rows col) place width j behind (omega (arith, S.pivots))

      pub pivots_are : take rank (drop (n * s) w) ≡ qs
      pivots_are = part_alike l w size (n * s) rank (omega (arith, S.pivots, behind)) (λ j a b. same j (omega arith) (omega arith))

      rows_are : matrix s n w ≡ matrix s n l
      rows_are = matrix_alike s n l w size (omega (arith, S.pivots, behind)) (λ j a b. same j a (omega arith))

      pub room_here : (count : ℕ) → count ≡ length (rows col) → KernelRoom w s n cols rank (place + count * width) width 1
      room_here count k = record {
        rows = S.rows;
        pivots = omega (arith, S.pivots);
        room = omega (arith, size, row_room col count h (omega (arith, few col)));
        wide = S.wide;
        narrow = S.narrow;
        inside = λ j b. rw (same (n * s + j) (omega arith) (omega arith)) (S.inside j b);
      }

      -- column col is a pivot, or its row is written
      pub tested : (b : Bool) → b ≡ list_any (λ p. p == col) (take (n * s + rank - n * s) (drop (n * s) w)) → is_among qs col ≡ b
      tested b t =
          let m : n * s + rank - n * s ≡ rank = omega arith in
          sym (t ∙ ap (λ (k : ℕ). is_among (take k (drop (n * s) w)) col) m ∙ ap (λ (p : List ℕ). is_among p col) pivots_are)

      pub pivot_passed : is_among qs col ≡ true → (w ≡ put_rows l place width (rows (col + 1))) × (length (rows (col + 1)) ≡ length (rows col))
      pivot_passed t =
          let r : rows (col + 1) ≡ rows col = next col ∙ rw t (append-nil (rows col)) in
          (e ∙ ap (put_rows l place width) (sym r), ap length r)

      pub row_written : (count : ℕ) → count ≡ length (rows col) → is_among qs col ≡ false → (u : List ℕ)
          → u ≡ put_row w (place + count * width) width (kernel_row (take rank (drop (n * s) w)) (matrix s n w) col)
          → (u ≡ put_rows l place width (rows (col + 1))) × (length (rows (col + 1)) ≡ count + 1)
      row_written count k t u d =
          let v = kernel_row qs (matrix s n l) col in
          let r : rows (col + 1) ≡ rows col ++ v ∷ [] = next col ∙ rw t in (
            d
                ∙ ap₂ (λ (p : List ℕ) (A : List ℕ). put_row w (place + count * width) width (kernel_row p A col)) pivots_are rows_are
                ∙ ap₂ (λ (t : List ℕ) (m : ℕ). put_row t (place + m * width) width v) e k
                ∙ sym (ap (put_rows l place width) r ∙ put_last l (rows col) place width v),
            ap length r ∙ length-append (rows col) (v ∷ []) ∙ ap (◌+ 1) (sym k),
          )

  -- at the end they are those of the form
  pub rows_end : (col : ℕ) → col ≡ cols → rows col ≡ kernel_of cols (form_in s n width cols rank l)
  unfolding rows_so_far kernel_of free_columns form_in R
  rows_end col e =
      let M = matrix s n l in
      let R-rows : map (λ q. q.r) (map (λ v. record { r = v % 2 ^ cols; t = v / 2 ^ (64 * width) }) M) ≡ map (λ v. v % 2 ^ cols) M =
      map-map (λ q. q.r) (λ v. record { r = v % 2 ^ cols; t = v / 2 ^ (64 * width) }) M in
      ap (λ (k : ℕ). map (kernel_row qs M) (without qs (range_with_len 0 k))) e
      ∙ map_same (kernel_row qs M) (kernel_row qs (map (λ v. v % 2 ^ cols) M)) (free_columns cols qs)
      (all_map (λ k h. sym (kernel_columns cols k h qs M)) (free_columns cols qs) (free_inside cols qs))
      ∙ ap (λ (A : List ℕ). map (kernel_row qs A) (free_columns cols qs)) (sym R-rows)
