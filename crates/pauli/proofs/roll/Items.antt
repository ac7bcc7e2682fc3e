-- Items of k bytes each, one after the other: a row of them is read and written back if each item is.
use Rattle.std.proofs.Common.{◌≡◌, ℕ, zero, suc, ◌+◌, ◌*◌, ◌<◌, ◌≤◌, List, [], ◌∷◌, ◌++◌, length, get_or, drop, sym, refl, ap, ◌∙◌, ap₂, append_assoc, add-zero, mul-zero, arith, length-append, length-drop, length-take-le, drop-drop, map, take}
use Rattle.std.specs.Prelude.{slice_index}
use Rattle.std.specs.Simd.{first_chunks}
use Rattle.std.proofs.lemmas.List.{get_or-take, get_or-drop, drop-take}
use Rattle.pauli.specs.Support.{All}
use Rattle.pauli.proofs.support.Lists.{AllBytes, all_bytes_append, drop_past}

-- n items, the first at byte i; `at` reads one
unfoldable pub items_at : {A : Type 0} → ℕ → (ℕ → A) → ℕ → ℕ → List A
items_at k at i zero = []
items_at k at i (suc n) = at i ∷ items_at k at (i + k) n

-- the bytes of items; `put` writes one
unfoldable pub items_bytes : {A : Type 0} → (A → List ℕ) → List A → List ℕ
items_bytes put [] = []
items_bytes put (a ∷ more) = put a ++ items_bytes put more

pub length_items_at : {A : Type 0} (k : ℕ) (at : ℕ → A) (i n : ℕ) → length (items_at k at i n) ≡ n
unfolding items_at
length_items_at k at i zero = refl
length_items_at k at i (suc n) = ap suc (length_items_at k at (i + k) n)

pub get_or_items_at : {A : Type 0} (k : ℕ) (at : ℕ → A) (i n m : ℕ) (d : A) → m < n → get_or (items_at k at i n) m d ≡ at (i + k * m)
unfolding items_at
get_or_items_at k at i zero m d l = absurd (omega arith)
get_or_items_at k at i (suc n) zero d l = rw (mul-zero, add-zero)
get_or_items_at k at i (suc n) (suc m) d l =
    let place : i + k + k * m ≡ i + k * suc m = omega arith in
    get_or_items_at k at (i + k) n m d (omega arith) ∙ ap at place

pub all_bytes_items : {A : Type 0} (put : A → List ℕ) → ((a : A) → AllBytes (put a)) → (l : List A) → AllBytes (items_bytes put l)
unfolding items_bytes
all_bytes_items put low [] = tt
all_bytes_items put low (a ∷ more) = all_bytes_append (put a) _ (low a) (all_bytes_items put low more)

module _ {A : Type 0} (k : ℕ) (put : A → List ℕ) (size : (a : A) → length (put a) ≡ k) where
  pub length_items_bytes : (l : List A) → length (items_bytes put l) ≡ k * length l
  unfolding items_bytes
  length_items_bytes [] = sym (mul-zero k)
  length_items_bytes (a ∷ more) = rw (length-append, size a, length_items_bytes more) (omega arith)

  module _ (b : List ℕ) (at : ℕ → A) where
    -- items that are Ok are read as they were written
    pub items_read : (Ok : A → Type 0) → ((a : A) (i : ℕ) (rest : List ℕ) → Ok a → drop i b ≡ put a ++ rest → at i ≡ a)
        → (l : List A) (i : ℕ) (rest : List ℕ) → All Ok l → drop i b ≡ items_bytes put l ++ rest → items_at k at i (length l) ≡ l
    unfolding items_bytes items_at
    items_read Ok one [] i rest ok h = refl
    items_read Ok one (a ∷ more) i rest ok h =
        let first : drop i b ≡ put a ++ (items_bytes put more ++ rest) = rw append_assoc at h in
        ap₂ ◌∷◌ (one a i _ ok.0 first) (items_read Ok one more (i + k) rest ok.1 (drop_past b i (put a) _ first (size a)))

    -- items are written as they were read
    pub items_written : ((i : ℕ) → i + k ≤ length b → put (at i) ++ drop (i + k) b ≡ drop i b)
        → (n i : ℕ) → i + k * n ≤ length b → items_bytes put (items_at k at i n) ++ drop (i + k * n) b ≡ drop i b
    unfolding items_bytes items_at
    items_written one zero i l = rw (mul-zero, add-zero)
    items_written one (suc n) i l =
        let past : i + k * suc n ≡ i + k + k * n = omega arith in
        rw (append_assoc, past, items_written one n (i + k) (omega arith)) (one i (omega arith))

-- ---- items as a slice is cut into chunks

pub length_stretch : (w : List ℕ) (i m : ℕ) → i + m ≤ length w → length (take m (drop i w)) ≡ m
length_stretch w i m h = length-take-le m (drop i w) (rw (length-drop i w) (omega arith))

-- the first k of what stands from place i of w on
pub chunk_first : (k : ℕ) (w : List ℕ) (i m j : ℕ) → k ≤ m → j < k → slice_index (take k (take m (drop i w))) j ≡ slice_index w (i + j)
chunk_first k w i m j h l = get_or-take k _ j 0 l ∙ get_or-take m (drop i w) j 0 (omega arith) ∙ get_or-drop i w j 0

-- n chunks of k from place i of w on; `read` reads one
pub chunk_items : {A : Type 0} (k : ℕ) (read : List ℕ → A) (at : ℕ → A) (w : List ℕ)
    → ((i : ℕ) (l : List ℕ) → ((j : ℕ) → j < k → slice_index l j ≡ slice_index w (i + j)) → read l ≡ at i)
    → (i n m : ℕ) → m ≡ k * n → map read (first_chunks k n (take m (drop i w))) ≡ items_at k at i n
unfolding items_at
chunk_items k read at w same i zero m e = refl
chunk_items k read at w same i (suc n) m e =
    let size : m ≡ k + k * n = omega arith in
    let rest : drop k (take m (drop i w)) ≡ take (k * n) (drop (i + k) w) =
    ap (λ (j : ℕ). drop k (take j (drop i w))) size ∙ drop-take k (k * n) (drop i w) ∙ ap (take (k * n)) (drop-drop k i w) in
    ap₂ ◌∷◌ (same i _ (λ j l. chunk_first k w i m j (omega arith) l))
    (ap (λ (l : List ℕ). map read (first_chunks k n l)) rest ∙ chunk_items k read at w same (i + k) n (k * n) refl)
