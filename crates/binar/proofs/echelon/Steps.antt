-- The reduction by its steps: what the pivot search finds, what the placing of a pivot gives, and `Run`, the course of a
-- whole reduction, on which the laws are proved.
use Rattle.std.proofs.Common.{Option, Some, None}
use mathlib.Core.Path.{◌≡◌, refl, sym, ap, ap₂, ◌∙◌, subst}
use mathlib.Core.Bool.{Bool, true, false}
use mathlib.Core.List.{List, [], ◌∷◌, ◌++◌, map, append_assoc}
use Prim.Native.Nat.{ℕ, zero, suc, ◌+◌, ◌-◌, ◌≤◌, ◌<◌}
use native.Mathlib.Omega.{arith}
use lib.Dec.{T, eqb, eqb→eq, eqb_refl}
use lib.ListN.{length, get_or, set, drop, length-append, length-map}
use lib.Seq.{drop_at, get_or_at, set_at, append_snoc}
use Rattle.binar.specs.declared.echelon.Cell.{Cell}
use Rattle.binar.specs.Row.{bit}
use Rattle.binar.specs.Echelon.{in_column, by_columns, pivot_of, swap_rows, clear, unless, add_to_others, place_pivot, Reduction, with_pivot, on_found, echelonize_from, echelonize}
use Rattle.binar.proofs.row.Bits.{bit_lt, Blank, blank_one, blank_join}
use Rattle.binar.proofs.Lists.{All, all_of, all_zip, all_join, all_left, all_right}
use Rattle.binar.proofs.echelon.Span.{if_bit_case}

-- ---- the search
-- what `in_column` gives
data InColumn (c i : ℕ) (vs : List ℕ) (later : Option Cell) : Option Cell → Type 0 where
  first_in : (row : ℕ) (pre : List ℕ) (p : ℕ) (post : List ℕ) → vs ≡ pre ++ p ∷ post → row ≡ i + length pre → bit p c ≡ 1
      → InColumn c i vs later (Some (record { row = row; col = c }))
  none_in : All (λ v. bit v c ≡ 0) vs → InColumn c i vs later later

in_tail : {c i v : ℕ} {vs : List ℕ} {later f : Option Cell} → bit v c ≡ 0 → InColumn c (suc i) vs later f → InColumn c i (v ∷ vs) later f
in_tail {v} z (first_in row pre p post e r o) = first_in row (v ∷ pre) p post (ap (v ∷◌) e) (omega arith) o
in_tail z (none_in a) = none_in (z, a)

in_column_lem : (c i : ℕ) (vs : List ℕ) (later : Option Cell) → InColumn c i vs later (in_column c i vs later)
unfolding in_column
in_column_lem c i [] later = none_in tt
in_column_lem c i (v ∷ vs) later =
    if_bit_case (InColumn c i (v ∷ vs) later) (bit v c)
    (λ z. in_tail z (in_column_lem c (suc i) vs later))
    (λ l. first_in i [] v vs refl (omega arith) (omega (arith, bit_lt v c)))

-- what the search among the rows vs, numbered from i on, gives in the columns from c up to cols: no row has a one there, or
-- the row p after the rows pre has one in column j, and no row has one before it
pub data Search (cols c i : ℕ) (vs : List ℕ) : Option Cell → Type 0 where
  nowhere : All (Blank c cols) vs → Search cols c i vs None
  found : (row j : ℕ) (pre : List ℕ) (p : ℕ) (post : List ℕ) → vs ≡ pre ++ p ∷ post → row ≡ i + length pre → c ≤ j → j < cols → bit p j ≡ 1
      → All (Blank c j) vs → Search cols c i vs (Some (record { row = row; col = j }))

in_columns : {cols c i : ℕ} {vs : List ℕ} {later f : Option Cell} → c < cols → Search cols (suc c) i vs later → InColumn c i vs later f → Search cols c i vs f
in_columns {c} {vs} l s (first_in row pre p post e r o) = found row c pre p post e r (omega arith) l o (all_of (λ v k h u. absurd (omega arith)) vs)
in_columns {cols} {c} {vs} l (nowhere b) (none_in z) = nowhere (all_zip (λ v x y. blank_join c (suc c) cols v (blank_one c v x) y) vs z b)
in_columns {c} {vs} l (found row j pre p post e r h u o b) (none_in z) =
    found row j pre p post e r (omega arith) u o (all_zip (λ v x y. blank_join c (suc c) j v (blank_one c v x) y) vs z b)

by_columns_lem : (n cols c i : ℕ) (vs : List ℕ) → c + n ≡ cols → Search cols c i vs (by_columns n c i vs)
unfolding by_columns
by_columns_lem zero cols c i vs e = nowhere (all_of (λ v k l u. absurd (omega arith)) vs)
by_columns_lem (suc n) cols c i vs e =
    in_columns (omega arith) (by_columns_lem n cols (suc c) i vs (omega arith)) (in_column_lem c i vs (by_columns n (suc c) i vs))

pub pivot_is : (cols r c : ℕ) (M : List ℕ) → c ≤ cols → Search cols c r (drop r M) (pivot_of cols r c M)
unfolding pivot_of
pivot_is cols r c M h = by_columns_lem (cols - c) cols c r (drop r M) (omega arith)

-- ---- the placing of a pivot
-- the rows that are left when the row between pre and post has changed places with the first of them and is taken away
unfoldable pub others : List ℕ → List ℕ → List ℕ
others [] post = post
others (v ∷ pre) post = pre ++ v ∷ post

pub length_others : (pre : List ℕ) (p : ℕ) (post : List ℕ) → suc (length (others pre post)) ≡ length (pre ++ p ∷ post)
unfolding others
length_others [] p post = refl
length_others (v ∷ pre) p post = ap suc (length-append pre (v ∷ post) ∙ sym (length-append pre (p ∷ post)))

-- they are the other rows of pre ++ p ∷ post
module _ (P : ℕ → Type 0) where
  pub others_in : (pre : List ℕ) (p : ℕ) (post : List ℕ) → All P (pre ++ p ∷ post) → All P (others pre post)
  unfolding others
  others_in [] p post h = h.1
  others_in (v ∷ pre) p post h = all_join P pre (v ∷ post) (all_left P pre (p ∷ post) h.1) (h.0, (all_right P pre (p ∷ post) h.1).1)

  pub others_out : (pre : List ℕ) (p : ℕ) (post : List ℕ) → P p → All P (others pre post) → All P (pre ++ p ∷ post)
  unfolding others
  others_out [] p post o h = (o, h)
  others_out (v ∷ pre) p post o h =
      let g = all_right P pre (v ∷ post) h in
      (g.0, all_join P pre (p ∷ post) (all_left P pre (v ∷ post) h) (o, g.1))

-- row number i of done ++ pre ++ p ∷ post
module _ (done pre : List ℕ) (p : ℕ) (post : List ℕ) (i : ℕ) (at_i : length done + length pre ≡ i) where
  get_row : get_or (done ++ (pre ++ p ∷ post)) i 0 ≡ p
  get_row = rw (← append_assoc done pre (p ∷ post)) (get_or_at (done ++ pre) p post 0 i (length-append done pre ∙ at_i))

  set_row : (v : ℕ) → set (done ++ (pre ++ p ∷ post)) i v ≡ done ++ (pre ++ v ∷ post)
  set_row v = rw (← append_assoc done pre (p ∷ post), ← append_assoc done pre (v ∷ post)) (set_at (done ++ pre) p post v i (length-append done pre ∙ at_i))

swap_is : (i r : ℕ) (done pre : List ℕ) (p : ℕ) (post : List ℕ) → length done ≡ r → i ≡ r + length pre
    → swap_rows i r (done ++ (pre ++ p ∷ post)) ≡ done ++ p ∷ others pre post
unfolding swap_rows others
swap_is i r done [] p post d e =
    let at_i : length done + 0 ≡ i = omega arith in
    let at-r : length done + 0 ≡ r = omega arith in
    rw (get_row done [] p post i at_i, get_row done [] p post r at-r, set_row done [] p post i at_i p, set_row done [] p post r at-r p)
swap_is i r done (v ∷ pre) p post d e =
    let at_i : length done + suc (length pre) ≡ i = omega arith in
    let at-r : length done + 0 ≡ r = omega arith in
    rw (get_row done (v ∷ pre) p post i at_i, get_row done [] v (pre ++ p ∷ post) r at-r, set_row done (v ∷ pre) p post i at_i v)
    (set_row done [] v (pre ++ v ∷ post) r at-r p)

unless_false : (b : Bool) (v w : ℕ) → (T b → ⊥) → unless b v w ≡ w
unfolding unless
unless_false true v w h = absurd (h tt)
unless_false false v w h = refl

unless_true : (b : Bool) (v w : ℕ) → T b → unless b v w ≡ v
unfolding unless
unless_true true v w h = refl
unless_true false v w h = absurd h

module _ (c p r : ℕ) where
  add_after : (i : ℕ) (vs : List ℕ) → r < i → add_to_others c p r i vs ≡ map (clear c p) vs
  unfolding add_to_others
  add_after i [] h = refl
  add_after i (v ∷ vs) h = ap₂ ◌∷◌ (unless_false (eqb i r) v (clear c p v) λ t. omega (arith, eqb→eq i r t)) (add_after (suc i) vs (omega arith))

  add_is : (i : ℕ) (done rest : List ℕ) → i + length done ≡ r
      → add_to_others c p r i (done ++ p ∷ rest) ≡ map (clear c p) done ++ p ∷ map (clear c p) rest
  unfolding add_to_others
  add_is i [] rest e =
      ap₂ ◌∷◌ (unless_true (eqb i r) p (clear c p p) (subst (λ (k : ℕ). T (eqb i k)) (omega arith) (eqb_refl i))) (add_after (suc i) rest (omega arith))
  add_is i (v ∷ done) rest e =
      ap₂ ◌∷◌ (unless_false (eqb i r) v (clear c p v) λ t. omega (arith, eqb→eq i r t)) (add_is (suc i) done rest (omega arith))

pub place_is : (r i c : ℕ) (done pre : List ℕ) (p : ℕ) (post : List ℕ) → length done ≡ r → i ≡ r + length pre
    → place_pivot r i c (done ++ (pre ++ p ∷ post)) ≡ map (clear c p) done ++ p ∷ map (clear c p) (others pre post)
unfolding place_pivot
place_is r i c done pre p post d e =
    rw (get_row done pre p post i (omega arith), swap_is i r done pre p post d e) (add_is c p r 0 done (others pre post) (omega arith))

-- ---- the course of a reduction
-- done are the rows with a pivot, in their places, rest the others, whose pivots are looked for from column c on
pub data Run (cols : ℕ) : ℕ → List ℕ → List ℕ → Reduction → Type 0 where
  stop : {c : ℕ} {done rest : List ℕ} → All (Blank c cols) rest → Run cols c done rest (record { rows = done ++ rest; pivots = [] })
  step : {c j : ℕ} {done : List ℕ} {f : Reduction} (pre : List ℕ) (p : ℕ) (post : List ℕ) → c ≤ j → j < cols → bit p j ≡ 1
      → All (Blank c j) (pre ++ p ∷ post) → Run cols (suc j) (map (clear j p) done ++ p ∷ []) (map (clear j p) (others pre post)) f
      → Run cols c done (pre ++ p ∷ post) (with_pivot j f)

run_next : {s : Option Cell} (cols n r c : ℕ) (done rest : List ℕ) → length done ≡ r → length rest ≡ suc n
    → ((c' : ℕ) (done' rest' : List ℕ) → c' ≤ cols → length done' ≡ suc r → length rest' ≡ n
    → Run cols c' done' rest' (echelonize_from cols n (suc r) c' (done' ++ rest')))
    → Search cols c r rest s
    → Run cols c done rest
    (on_found s (record { rows = done ++ rest; pivots = [] }) (λ i j. with_pivot j (echelonize_from cols n (suc r) (suc j) (place_pivot r i j (done ++ rest)))))
unfolding on_found
run_next cols n r c done rest d e more (nowhere b) = stop b
run_next cols n r c done rest d e more (found row j pre p post q i h u o b) =
    rw (q, place_is r row j done pre p post d i, ← append_snoc (map (clear j p) done) p (map (clear j p) (others pre post)))
    (step pre p post h u o (rw q at b) (more (suc j) (map (clear j p) done ++ p ∷ []) (map (clear j p) (others pre post)) u placed left))
  where
    placed : length (map (clear j p) done ++ p ∷ []) ≡ suc r
    placed = rw (length-append (map (clear j p) done) (p ∷ []), length-map done (clear j p)) (omega arith)

    left : length (map (clear j p) (others pre post)) ≡ n
    left = rw (length-map (others pre post) (clear j p)) (omega (arith, length_others pre p post, ap length q))

run_from : (cols n r c : ℕ) (done rest : List ℕ) → c ≤ cols → length done ≡ r → length rest ≡ n → Run cols c done rest (echelonize_from cols n r c (done ++ rest))
unfolding echelonize_from
run_from cols zero r c done [] h d e = stop tt
run_from cols zero r c done (v ∷ rest) h d e = absurd (omega arith)
run_from cols (suc n) r c done rest h d e =
    run_next cols n r c done rest d e (run_from cols n (suc r)) (rw (drop_at done rest r d) at (pivot_is cols r c (done ++ rest) h))

pub run_is : (cols : ℕ) (M : List ℕ) → Run cols 0 [] M (echelonize cols M)
unfolding echelonize
run_is cols M = run_from cols (length M) 0 0 [] M (omega arith) refl refl
