-- Laws of Paulis in a slice, five words each, and of slices that are the same but for some words.
use Rattle.std.proofs.Common.{◌≡◌, ℕ, zero, suc, ◌+◌, ◌*◌, ◌%◌, ◌^◌, ◌<◌, ◌≤◌, List, [], ◌∷◌, ◌++◌, map, length, get_or, take, set, sym, refl, ap, ◌∙◌, subst, ap₂, add-one, arith, length-set, take_all, get_or-set_other, take-suc, get_or-set_same}
use mathlib.Core.List.{map-append}
use lib.Seq.{sets}
use Rattle.binar.specs.Words.{put_row}
use Rattle.binar.proofs.row.Slice.{put_none, put_first}
use Rattle.pauli.specs.declared.signed.Pauli.{Pauli as Held}
use Rattle.pauli.specs.Pauli.{Pauli, normal}
use Rattle.pauli.specs.Writing.{OnPlaces}
use Rattle.pauli.specs.Signed.{held, pauli_in, pauli_words, list_in}
use Rattle.pauli.specs.PlaceSet.{set_in}
use Rattle.pauli_group.specs.Inner.Area.{Outside}

-- ---- Paulis of slices that agree on their words

pub pauli_same : (new old : List ℕ) (at : ℕ) → ((k : ℕ) → at ≤ k → k < at + 5 → get_or new k 0 ≡ get_or old k 0)
    → pauli_in new at ≡ pauli_in old at
unfolding pauli_in
pauli_same new old at h =
    rw (
      h at (omega arith) (omega arith),
      h (at + 1) (omega arith) (omega arith),
      h (at + 2) (omega arith) (omega arith),
      h (at + 3) (omega arith) (omega arith),
      h (at + 4) (omega arith) (omega arith),
    )

pub list_same : (new old : List ℕ) (base n : ℕ) → ((k : ℕ) → base ≤ k → k < base + 5 * n → get_or new k 0 ≡ get_or old k 0)
    → list_in new base n ≡ list_in old base n
unfolding list_in
list_same new old base zero h = refl
list_same new old base (suc n) h =
    ap₂ (λ (p : Pauli) (ps : List Pauli). p ∷ ps) (pauli_same new old base (λ k a b. h k a (omega arith)))
    (list_same new old (base + 5) n (λ k a b. h k (omega arith) (omega arith)))

-- ---- lists in parts

pub list_append : (w : List ℕ) (base m n : ℕ) → list_in w base (m + n) ≡ list_in w base m ++ list_in w (base + 5 * m) n
unfolding list_in
list_append w base zero n =
    let a : zero + n ≡ n = omega arith in
    let b : base + 5 * zero ≡ base = omega arith in
    rw (a, b)
list_append w base (suc m) n =
    let a : suc m + n ≡ suc (m + n) = omega arith in
    let b : base + 5 * suc m ≡ base + 5 + 5 * m = omega arith in
    rw (a, b) (ap (pauli_in w base ∷◌) (list_append w (base + 5) m n))

pub list_one : (w : List ℕ) (at : ℕ) → list_in w at 1 ≡ pauli_in w at ∷ []
unfolding list_in
list_one w at = refl

pub list_snoc : (w : List ℕ) (base i : ℕ) → list_in w base (i + 1) ≡ list_in w base i ++ (pauli_in w (base + 5 * i) ∷ [])
list_snoc w base i = list_append w base i 1 ∙ ap (list_in w base i ++◌) (list_one w (base + 5 * i))

pub list_at_lem : (w : List ℕ) (base n i : ℕ) (d : Pauli) → i < n → get_or (list_in w base n) i d ≡ pauli_in w (base + 5 * i)
unfolding list_in
list_at_lem w base zero i d h = absurd (omega arith)
list_at_lem w base (suc n) zero d h = let b : base ≡ base + 5 * zero = omega arith in ap (pauli_in w) b
list_at_lem w base (suc n) (suc i) d h =
    let b : base + 5 + 5 * i ≡ base + 5 * suc i = omega arith in list_at_lem w (base + 5) n i d (omega arith) ∙ ap (pauli_in w) b

pub list_map_at {ℓ} : {A : Type ℓ} (f : Pauli → A) (w : List ℕ) (base n i : ℕ) (d : A) → i < n
    → get_or (map f (list_in w base n)) i d ≡ f (pauli_in w (base + 5 * i))
unfolding list_in
list_map_at f w base zero i d h = absurd (omega arith)
list_map_at f w base (suc n) zero d h = let b : base ≡ base + 5 * zero = omega arith in ap (λ (k : ℕ). f (pauli_in w k)) b
list_map_at f w base (suc n) (suc i) d h =
    let b : base + 5 + 5 * i ≡ base + 5 * suc i = omega arith in
    list_map_at f w (base + 5) n i d (omega arith) ∙ ap (λ (k : ℕ). f (pauli_in w k)) b

-- every place of Pauli i is below s
pub on_places_at : (s : ℕ) (w : List ℕ) (base n i : ℕ) → OnPlaces s (list_in w base n) → i < n
    → ((pauli_in w (base + 5 * i)).x < 2 ^ s) × ((pauli_in w (base + 5 * i)).z < 2 ^ s)
unfolding list_in OnPlaces
on_places_at s w base zero i on h = absurd (omega arith)
on_places_at s w base (suc n) zero on h =
    let b : base ≡ base + 5 * zero = omega arith in subst (λ (k : ℕ). ((pauli_in w k).x < 2 ^ s) × ((pauli_in w k).z < 2 ^ s)) b on.0
on_places_at s w base (suc n) (suc i) on h =
    let b : base + 5 + 5 * i ≡ base + 5 * suc i = omega arith in
    subst (λ (k : ℕ). ((pauli_in w k).x < 2 ^ s) × ((pauli_in w k).z < 2 ^ s)) b (on_places_at s w (base + 5) n i on.1 (omega arith))

-- ---- slices that are the same but for some words

pub outside_refl : (i n : ℕ) (l : List ℕ) → Outside i n l l
outside_refl i n l = record { size = refl; before = λ k h. refl; after = λ k h. refl }

pub outside_join : {i n : ℕ} {a b c : List ℕ} → Outside i n a b → Outside i n b c → Outside i n a c
outside_join p q = record {
  size = q.size ∙ p.size;
  before = λ k h. q.before k h ∙ p.before k h;
  after = λ k h. q.after k h ∙ p.after k h;
}

pub outside_wider : {i n : ℕ} (j m : ℕ) {a b : List ℕ} → Outside i n a b → j ≤ i → i + n ≤ j + m → Outside j m a b
outside_wider j m p h k = record {
  size = p.size;
  before = λ q l. p.before q (omega arith);
  after = λ q l. p.after q (omega arith);
}

-- a list that lies before the changed words, or after them
pub list_kept : {i n : ℕ} {old new : List ℕ} → Outside i n old new → (base k : ℕ) → base + 5 * k ≤ i → list_in new base k ≡ list_in old base k
list_kept {old = old} {new = new} o base k h = list_same new old base k (λ q a b. o.before q (omega arith))

pub list_kept_after : {i n : ℕ} {old new : List ℕ} → Outside i n old new → (base k : ℕ) → i + n ≤ base → list_in new base k ≡ list_in old base k
list_kept_after {old = old} {new = new} o base k h = list_same new old base k (λ q a b. o.after q (omega arith))

pub pauli_kept : {i n : ℕ} {old new : List ℕ} → Outside i n old new → (at : ℕ) → at + 5 ≤ i → pauli_in new at ≡ pauli_in old at
pauli_kept {old = old} {new = new} o at h = pauli_same new old at (λ q a b. o.before q (omega arith))

pub pauli_kept_after : {i n : ℕ} {old new : List ℕ} → Outside i n old new → (at : ℕ) → i + n ≤ at → pauli_in new at ≡ pauli_in old at
pauli_kept_after {old = old} {new = new} o at h = pauli_same new old at (λ q a b. o.after q (omega arith))

-- ---- words stored

pub set_outside : (l : List ℕ) (i a : ℕ) → Outside i 1 l (set l i a)
set_outside l i a = record {
  size = length-set l i a;
  before = λ k h. get_or-set_other l i k a 0 (λ e. omega arith);
  after = λ k h. get_or-set_other l i k a 0 (λ e. omega arith);
}

pub sets_outside : (l : List ℕ) (i : ℕ) (vs : List ℕ) → Outside i (length vs) l (sets l i vs)
sets_outside l i [] = outside_refl i 0 l
sets_outside l i (a ∷ vs) =
    outside_join (outside_wider i (suc (length vs)) (set_outside l i a) (omega arith) (omega arith))
    (outside_wider i (suc (length vs)) (sets_outside (set l i a) (suc i) vs) (omega arith) (omega arith))

pub put_outside : (l : List ℕ) (i n v : ℕ) → i + n ≤ length l → Outside i n l (put_row l i n v)
put_outside l i zero v h = subst (Outside i 0 l) (sym (put_none l i v)) (outside_refl i 0 l)
put_outside l i (suc n) v h =
    subst (Outside i (suc n) l) (sym (put_first l i n v (omega arith)))
    (outside_join (outside_wider i (suc n) (set_outside l i (v % 2 ^ 64)) (omega arith) (omega arith))
    (outside_wider i (suc n) (put_outside (set l i (v % 2 ^ 64)) (i + 1) n _ (rw length-set (omega arith))) (omega arith) (omega arith)))

-- ---- a Pauli stored

pub store_outside : (l : List ℕ) (at : ℕ) (p : Held) → Outside at 5 l (sets l at (pauli_words p))
unfolding pauli_words
store_outside l at p = sets_outside l at (pauli_words p)

sets_at : (l : List ℕ) (i : ℕ) (a : ℕ) (vs : List ℕ) (j : ℕ) → i < length l → j ≡ i → get_or (sets l i (a ∷ vs)) j 0 ≡ a
sets_at l i a vs j h e =
    (sets_outside (set l i a) (suc i) vs).before j (omega arith) ∙ ap (λ (k : ℕ). get_or (set l i a) k 0) e ∙ get_or-set_same l i a 0 h

pub store_pauli : (l : List ℕ) (at : ℕ) (p : Held) → at + 5 ≤ length l → pauli_in (sets l at (pauli_words p)) at ≡ normal (held p)
unfolding pauli_words pauli_in normal held set_in
store_pauli l at p h =
    let e = p.exponent % 4 in
    let a = p.x.low in
    let b = p.x.high in
    let c = p.z.low in
    let d = p.z.high in
    let l1 = set l at e in
    let l2 = set l1 (suc at) a in
    let l3 = set l2 (suc (suc at)) b in
    let l4 = set l3 (suc (suc (suc at))) c in
    rw (
      sets_at l at e (a ∷ b ∷ c ∷ d ∷ []) at (omega arith) refl,
      sets_at l1 (suc at) a (b ∷ c ∷ d ∷ []) (at + 1) (simp length-set (omega arith)) (omega arith),
      sets_at l2 (suc (suc at)) b (c ∷ d ∷ []) (at + 2) (simp length-set (omega arith)) (omega arith),
      sets_at l3 (suc (suc (suc at))) c (d ∷ []) (at + 3) (simp length-set (omega arith)) (omega arith),
      sets_at l4 (suc (suc (suc (suc at)))) d [] (at + 4) (simp length-set (omega arith)) (omega arith),
    )

-- a Pauli stored behind a list
pub list_store : (l : List ℕ) (base i : ℕ) (p : Held) → base + 5 * i + 5 ≤ length l
    → list_in (sets l (base + 5 * i) (pauli_words p)) base (i + 1) ≡ list_in l base i ++ (normal (held p) ∷ [])
list_store l base i p h =
    list_snoc (sets l (base + 5 * i) (pauli_words p)) base i
    ∙ ap₂ (λ (ps : List Pauli) (q : Pauli). ps ++ (q ∷ []))
    (list_kept (store_outside l (base + 5 * i) p) base i (omega arith)) (store_pauli l (base + 5 * i) p h)

-- a Pauli stored behind the changed words
pub store_further : (first w : List ℕ) (base i : ℕ) (p : Held) → Outside base (5 * i) first w
    → (u : List ℕ) → u ≡ sets w (base + 5 * i) (pauli_words p) → Outside base (5 * (i + 1)) first u
store_further first w base i p o u g =
    subst (Outside base (5 * (i + 1)) first) (sym g)
    (outside_join (outside_wider base (5 * (i + 1)) o (omega arith) (omega arith))
    (outside_wider base (5 * (i + 1)) (store_outside w (base + 5 * i) p) (omega arith) (omega arith)))

-- ---- a list stored, Pauli by Pauli

-- of n elements xs, to be stored as Paulis from word base of the slice first on, the first i are stored in the slice w
pub record StoredUpTo {ℓ} {A : Type ℓ} (f : A → Pauli) (xs : List A) (base n : ℕ) (first : List ℕ) (i : ℕ) (w : List ℕ) : Type ℓ where
  pub list : list_in w base i ≡ map f (take i xs)
  pub rest : Outside base (5 * n) first w

module _ {ℓ} {A : Type ℓ} (f : A → Pauli) (xs : List A) (base n : ℕ) (first : List ℕ) where
  pub stored_none : StoredUpTo f xs base n first 0 first
  unfolding list_in
  stored_none = record { list = refl; rest = outside_refl base (5 * n) first }

  module _ (i : ℕ) (w : List ℕ) (s : StoredUpTo f xs base n first i w) (count : length xs ≡ n) where
    pub stored_step : (d : A) (p : Held) → i < n → base + 5 * n ≤ length first → normal (held p) ≡ f (get_or xs i d)
        → (u : List ℕ) → u ≡ sets w (base + 5 * i) (pauli_words p) → StoredUpTo f xs base n first (i + 1) u
    stored_step d p h room e u g = record {
      list =
          ap (λ (l : List ℕ). list_in l base (i + 1)) g ∙ list_store w base i p (omega (arith, s.rest.size))
          ∙ ap₂ (λ (ps : List Pauli) (q : Pauli). ps ++ (q ∷ [])) s.list e
          ∙ sym
          (ap (λ (k : ℕ). map f (take k xs)) (add-one i) ∙ ap (map f) (take-suc xs i d (rw count h))
          ∙ map-append f (take i xs) (get_or xs i d ∷ []));
      rest =
          subst (Outside base (5 * n) first) (sym g)
          (outside_join s.rest (outside_wider base (5 * n) (store_outside w (base + 5 * i) p) (omega arith) (omega arith)));
    }

    pub stored_all : i ≤ n → n ≤ i → list_in w base n ≡ map f xs
    stored_all l h = let e : n ≡ i = omega arith in ap (list_in w base) e ∙ s.list ∙ ap (map f) (take_all i xs (rw count h))
