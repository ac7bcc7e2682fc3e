-- The reduction and the sweep commute with additive maps that keep the first columns; so the echelon form and its solutions
-- come from rows that hold the identity past any column w ≥ c, too.
use Rattle.std.proofs.Common.{Option, Some}
use mathlib.Core.Path.{◌≡◌, refl, sym, ap, ap₂, ◌∙◌}
use mathlib.Core.Bool.{Bool, true, false}
use mathlib.Core.List.{List, [], ◌∷◌, map, map-map}
use Prim.Native.Nat.{ℕ, zero, suc, ◌+◌, ◌-◌, ◌*◌, ◌/◌, ◌%◌, ◌^◌, ◌≤◌, ◌<◌}
use native.Mathlib.Nat.{mod-lt}
use native.Mathlib.Omega.{arith}
use lib.Dec.{eqb}
use lib.ListN.{length, get_or, set, drop, length-map, get_or-map}
use lib.Pow.{pow_pos, mod-mod-pow}
use Rattle.binar.specs.declared.echelon.Cell.{Cell}
use Rattle.binar.specs.Row.{◌⊕◌, bit, if_bit}
use Rattle.binar.specs.Echelon.{in_column, by_columns, pivot_of, swap_rows, clear, unless, add_to_others, place_pivot, Reduction, with_pivot, on_found, echelonize_from, echelonize, beside_identity, echelon}
use Rattle.binar.specs.Solve.{sweep}
use Rattle.binar.proofs.row.Bits.{bit_mod, bit_beside, beside_mod, beside_shr, xor_mod, xor_shr, xor_beside}
use Rattle.binar.proofs.Lists.{All, all_of, map_same, map_drop, map_set}
use Rattle.binar.proofs.echelon.Span.{if_bit_map, Additive, additive_zero}
use Rattle.binar.proofs.echelon.Steps.{Search, nowhere, found, pivot_is}
use Rattle.binar.proofs.echelon.Transform.{parts}

unless_map : (f : ℕ → ℕ) (b : Bool) (v w : ℕ) → unless b (f v) (f w) ≡ f (unless b v w)
unfolding unless
unless_map f true v w = refl
unless_map f false v w = refl

-- f on every row
map_rows : (ℕ → ℕ) → Reduction → Reduction
map_rows f e = record { rows = map f e.rows; pivots = e.pivots }

module _ (cols : ℕ) (f : ℕ → ℕ) (additive : (a b : ℕ) → f (a ⊕ b) ≡ f a ⊕ f b) (origin : f 0 ≡ 0)
    (same : (v k : ℕ) → k < cols → bit (f v) k ≡ bit v k) where
  -- ---- the search
  column_map : (c i : ℕ) (vs : List ℕ) (later : Option Cell) → c < cols → in_column c i (map f vs) later ≡ in_column c i vs later
  unfolding in_column
  column_map c i [] later h = refl
  column_map c i (v ∷ vs) later h =
      ap₂ (λ (d : ℕ) (e : Option Cell). if_bit d (Some (record { row = i; col = c })) e) (same v c h) (column_map c (suc i) vs later h)

  columns_map : (n c i : ℕ) (vs : List ℕ) → n ≤ cols - c → by_columns n c i (map f vs) ≡ by_columns n c i vs
  unfolding by_columns
  columns_map zero c i vs h = refl
  columns_map (suc n) c i vs h =
      ap (in_column c i (map f vs)) (columns_map n (suc c) i vs (omega arith)) ∙ column_map c i vs (by_columns n (suc c) i vs) (omega arith)

  pub pivot_map : (i c : ℕ) (M : List ℕ) → pivot_of cols i c (map f M) ≡ pivot_of cols i c M
  unfolding pivot_of
  pivot_map i c M = rw (map_drop f i M) (columns_map (cols - c) c i (drop i M) (omega arith))

  -- ---- the placing of a pivot
  pub clear_map : (c p v : ℕ) → c < cols → clear c (f p) (f v) ≡ f (clear c p v)
  unfolding clear
  clear_map c p v h = rw (same v c h, ← additive v p) (sym (if_bit_map f (bit v c) (v ⊕ p) v))

  add_map : (c p r i : ℕ) (vs : List ℕ) → c < cols → add_to_others c (f p) r i (map f vs) ≡ map f (add_to_others c p r i vs)
  unfolding add_to_others
  add_map c p r i [] h = refl
  add_map c p r i (v ∷ vs) h =
      ap₂ ◌∷◌ (ap (unless (eqb i r) (f v)) (clear_map c p v h) ∙ unless_map f (eqb i r) v (clear c p v)) (add_map c p r (suc i) vs h)

  get_map : (i : ℕ) (M : List ℕ) → get_or (map f M) i 0 ≡ f (get_or M i 0)
  get_map i M = ap (get_or (map f M) i) (sym origin) ∙ get_or-map f M i 0

  swap_map : (i j : ℕ) (M : List ℕ) → swap_rows i j (map f M) ≡ map f (swap_rows i j M)
  unfolding swap_rows
  swap_map i j M = rw (get_map i M, get_map j M, map_set f M i (get_or M j 0)) (map_set f (set M i (get_or M j 0)) j (get_or M i 0))

  pub place_map : (r i c : ℕ) (M : List ℕ) → c < cols → place_pivot r i c (map f M) ≡ map f (place_pivot r i c M)
  unfolding place_pivot
  place_map r i c M h = rw (get_map i M, swap_map i r M) (add_map c (get_or M i 0) r 0 (swap_rows i r M) h)

  -- ---- the reduction
  next_map : {s : Option Cell} (n r c : ℕ) (M : List ℕ)
      → ((c' : ℕ) (N : List ℕ) → c' ≤ cols → echelonize_from cols n (suc r) c' (map f N) ≡ map_rows f (echelonize_from cols n (suc r) c' N)) → Search cols c r (drop r M) s
      → on_found s (record { rows = map f M; pivots = [] }) (λ i j. with_pivot j (echelonize_from cols n (suc r) (suc j) (place_pivot r i j (map f M))))
      ≡ map_rows f (on_found s (record { rows = M; pivots = [] }) (λ i j. with_pivot j (echelonize_from cols n (suc r) (suc j) (place_pivot r i j M))))
  unfolding on_found map_rows with_pivot
  next_map n r c M more (nowhere b) = refl
  next_map n r c M more (found row j pre p post e q h u o b) =
      ap (with_pivot j) (ap (echelonize_from cols n (suc r) (suc j)) (place_map r row j M u) ∙ more (suc j) (place_pivot r row j M) u)

  from_map : (n r c : ℕ) (M : List ℕ) → c ≤ cols → echelonize_from cols n r c (map f M) ≡ map_rows f (echelonize_from cols n r c M)
  unfolding echelonize_from map_rows
  from_map zero r c M h = refl
  from_map (suc n) r c M h = rw (pivot_map r c M) (next_map n r c M (from_map n (suc r)) (pivot_is cols r c M h))

  pub echelonize_map : (M : List ℕ) → ((echelonize cols (map f M)).pivots ≡ (echelonize cols M).pivots) × ((echelonize cols (map f M)).rows ≡ map f (echelonize cols M).rows)
  unfolding echelonize map_rows
  echelonize_map M =
      let e : echelonize_from cols (length (map f M)) 0 0 (map f M) ≡ map_rows f (echelonize_from cols (length M) 0 0 M) =
      rw (length-map M f) (from_map (length M) 0 0 M (omega arith)) in
      (ap (λ d. d.pivots) e, ap (λ d. d.rows) e)

  pub sweep_map : (ps M : List ℕ) (v : ℕ) → All (λ p. p < cols) ps → sweep ps (map f M) (f v) ≡ f (sweep ps M v)
  unfolding sweep
  sweep_map [] M v h = refl
  sweep_map (p ∷ ps) [] v h = refl
  sweep_map (p ∷ ps) (w ∷ M) v h = ap (sweep ps (map f M)) (clear_map p w v h.0) ∙ sweep_map ps M (clear p w v) h.1

-- ---- the identity past column w

module _ (c w : ℕ) (fits : c ≤ w) where
  -- the columns from c up to w left out
  unfoldable pub narrowed : ℕ → ℕ
  narrowed v = v % 2 ^ c + 2 ^ c * (v / 2 ^ w)

  pub narrowed_additive : Additive narrowed
  unfolding narrowed
  narrowed_additive a b =
      rw (xor_mod c a b, xor_shr w a b)
      (sym (xor_beside c (a % 2 ^ c) (b % 2 ^ c) (a / 2 ^ w) (b / 2 ^ w) (mod-lt a (pow_pos c)) (mod-lt b (pow_pos c))))

  pub narrowed_same : (v k : ℕ) → k < c → bit (narrowed v) k ≡ bit v k
  unfolding narrowed
  narrowed_same v k h = bit_beside c (v % 2 ^ c) (v / 2 ^ w) k h ∙ bit_mod c v k h

  first_columns : (v : ℕ) → v % 2 ^ w % 2 ^ c ≡ v % 2 ^ c
  first_columns v = ap (λ (x : ℕ). v % 2 ^ x % 2 ^ c) split ∙ mod-mod-pow v (w - c) c
    where
      split : w ≡ (w - c) + c
      split = omega arith

  narrowed_beside : (i : ℕ) (A : List ℕ) → map narrowed (beside_identity w i A) ≡ beside_identity c i A
  unfolding beside_identity narrowed
  narrowed_beside i [] = refl
  narrowed_beside i (v ∷ A) = ap₂ ◌∷◌ (ap₂ (λ (x y : ℕ). x + 2 ^ c * y) low (beside_shr w (v % 2 ^ w) (2 ^ i) small)) (narrowed_beside (suc i) A)
    where
      small : v % 2 ^ w < 2 ^ w
      small = mod-lt v (pow_pos w)

      low : (v % 2 ^ w + 2 ^ w * 2 ^ i) % 2 ^ c ≡ v % 2 ^ c
      low = sym (first_columns (v % 2 ^ w + 2 ^ w * 2 ^ i)) ∙ ap (λ (x : ℕ). x % 2 ^ c) (beside_mod w (v % 2 ^ w) (2 ^ i) small) ∙ first_columns v

  pub narrowed_mod : (v : ℕ) → narrowed v % 2 ^ c ≡ v % 2 ^ c
  unfolding narrowed
  narrowed_mod v = beside_mod c (v % 2 ^ c) (v / 2 ^ w) (mod-lt v (pow_pos c))

  pub narrowed_shr : (v : ℕ) → narrowed v / 2 ^ c ≡ v / 2 ^ w
  unfolding narrowed
  narrowed_shr v = beside_shr c (v % 2 ^ c) (v / 2 ^ w) (mod-lt v (pow_pos c))

  module _ (A : List ℕ) where
    narrowed_echelonize : ((echelonize c (beside_identity c 0 A)).pivots ≡ (echelonize c (beside_identity w 0 A)).pivots)
        × ((echelonize c (beside_identity c 0 A)).rows ≡ map narrowed (echelonize c (beside_identity w 0 A)).rows)
    narrowed_echelonize =
        rw (narrowed_beside 0 A) at
        (echelonize_map c narrowed narrowed_additive (additive_zero narrowed narrowed_additive) narrowed_same (beside_identity w 0 A))

    pub beside_law : let e = echelonize c (beside_identity w 0 A) in
        (e.pivots ≡ (echelon c A).pivots) × (map (λ v. record { r = v % 2 ^ c; t = v / 2 ^ w }) e.rows ≡ (echelon c A).rows)
    unfolding echelon
    beside_law =
        let rows = (echelonize c (beside_identity w 0 A)).rows in (
          sym narrowed_echelonize.0,
          sym (ap (map (parts c)) narrowed_echelonize.1 ∙ map-map (parts c) narrowed rows
              ∙ map_same (λ v. parts c (narrowed v)) (λ v. record { r = v % 2 ^ c; t = v / 2 ^ w }) rows
              (all_of (λ v. λ i. record { r = narrowed_mod v i; t = narrowed_shr v i }) rows)),
        )
