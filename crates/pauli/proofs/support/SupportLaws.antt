-- Rising lists of qubit numbers.
use Rattle.std.proofs.Common.{◌≡◌, ℕ, suc, ◌+◌, ◌<◌, ◌≤◌, ◌⊎◌, List, [], ◌∷◌, ◌++◌, length, refl, ap, ◌∙◌, ap₂, inl, inr, ⊎_elim, suc-le-suc, arith, le-ltb, lt-ltb, eq-eqb, ne_eqb}
use mathlib.Core.Logic.{⊎_map}
use mathlib.Core.List.Memᴰ
use mathlib.Core.List.Memᴰ.{cases_cons as in-cons}
use mathlib.Core.List.Memᴰ.{head as here}
use mathlib.Core.List.Memᴰ.{not-nil as not-in-nil}
use mathlib.Core.List.Memᴰ.{tail as there}
use mathlib.Core.List.{Memᴰ as Mem}
use native.Mathlib.Nat.{le_step}
use native.Mathlib.Decide.{dec_lt}
use Rattle.pauli.specs.Support.{insert, insert_all, All, Rising}

-- by the order of two numbers
pub by_order : (q r : ℕ) {X : Type 0} → (q < r → X) → (q ≡ r → X) → (r < q → X) → X
by_order q r below same above = elim (dec_lt q r) [ yes h ↦ below h | no h ↦ elim (dec_lt r q) [ yes k ↦ above k | no k ↦ same (omega arith) ] ]

-- ---- rising lists

pub rising_least : (least : ℕ) (l : List ℕ) → Rising least l → {q : ℕ} → Mem q l → least ≤ q
rising_least least [] h {q = q} m = elim m [ ]
rising_least least (r ∷ rs) h (here e) = omega arith
rising_least least (r ∷ rs) h (there m) = let k : suc r ≤ _ = rising_least (suc r) rs h.1 m in omega arith

pub rising_from : (a b : ℕ) (l : List ℕ) → a ≤ b → Rising b l → Rising a l
rising_from a b [] k h = tt
rising_from a b (r ∷ rs) k h = (omega arith, h.1)

pub rising_bound : (least n : ℕ) (l : List ℕ) → Rising least l → All (λ q. q < n) l → least ≤ n → least + length l ≤ n
rising_bound least n [] h a k = omega arith
rising_bound least n (r ∷ rs) h a k = let more : suc r + length rs ≤ n = rising_bound (suc r) n rs h.1 a.1 a.0 in omega arith

-- every member of l is one of m
abbrev pub Inside : List ℕ → List ℕ → Type 0
Inside l m = (q : ℕ) → Mem q l → Mem q m

-- a rising list from `least` on does not need what stands below `least`
inside_rest : (least r : ℕ) (l m : List ℕ) → Rising least l → r < least → Inside l (r ∷ m) → Inside l m
inside_rest least r l m h k w q i = past (omega (arith, rising_least least l h i)) (w q i)
  where
    past : r < q → Mem q (r ∷ m) → Mem q m
    past j (here e) = absurd (omega arith)
    past j (there x) = x

-- the first of a rising list is its least
first_least : (least r : ℕ) (m : List ℕ) → Rising least (r ∷ m) → {q : ℕ} → Mem q (r ∷ m) → r ≤ q
first_least least r m k i = rising_least r (r ∷ m) (omega arith, k.1) i

-- of two rising lists, the one whose members are all in the other is no longer
pub rising_length : (a c : ℕ) (l m : List ℕ) → Rising a l → Rising c m → Inside m l → length m ≤ length l
rising_length a c [] [] h k w = omega arith
rising_length a c [] (r ∷ m) h k w = absurd (not-in-nil (w r (here refl)))
rising_length a c (q ∷ l) [] h k w = omega arith
rising_length a c (q ∷ l) (r ∷ m) h k w =
    by_order r q
    (λ below. absurd (omega (arith, first_least a q l h (w r (here refl)))))
    (λ same. suc-le-suc (rising_length (suc q) (suc r) l m h.1 k.1 (inside_rest (suc r) q m l k.1 (omega arith) (λ s i. w s (there i)))))
    (λ above. le_step (rising_length (suc q) r l (r ∷ m) h.1 (omega arith, k.1) (inside_rest r q (r ∷ m) l (omega arith, k.1) above w)))

-- two rising lists with the same members are equal
pub rising_ext : (a c : ℕ) (l m : List ℕ) → Rising a l → Rising c m → Inside l m → Inside m l → l ≡ m
rising_ext a c [] [] h k v w = refl
rising_ext a c [] (r ∷ m) h k v w = absurd (not-in-nil (w r (here refl)))
rising_ext a c (q ∷ l) [] h k v w = absurd (not-in-nil (v q (here refl)))
rising_ext a c (q ∷ l) (r ∷ m) h k v w =
    let same : q ≡ r = omega (arith, first_least c r m k (v q (here refl)), first_least a q l h (w r (here refl))) in
    ap₂ ◌∷◌ same
    (rising_ext (suc q) (suc r) l m h.1 k.1
    (inside_rest (suc q) r l m h.1 (omega arith) (λ s i. v s (there i)))
    (inside_rest (suc r) q m l k.1 (omega arith) (λ s i. w s (there i))))

-- ---- insert

module _ (q r : ℕ) (rs : List ℕ) where
  pub insert_below : q < r → insert q (r ∷ rs) ≡ q ∷ r ∷ rs
  unfolding insert
  insert_below h = rw (lt-ltb q r h)

  pub insert_same : q ≡ r → insert q (r ∷ rs) ≡ r ∷ rs
  unfolding insert
  insert_same e = rw (le-ltb q r (omega arith), eq-eqb q r e)

  pub insert_above : r < q → insert q (r ∷ rs) ≡ r ∷ insert q rs
  unfolding insert
  insert_above h = rw (le-ltb q r (omega arith), ne_eqb q r (omega arith))

  insert_cases : (P : List ℕ → Type 0) → (q < r → P (q ∷ r ∷ rs)) → (q ≡ r → P (r ∷ rs)) → (r < q → P (r ∷ insert q rs)) → P (insert q (r ∷ rs))
  insert_cases P below same above =
      by_order q r (λ h. rw insert_below (below h)) (λ e. rw insert_same (same e)) (λ h. rw insert_above (above h))

-- where q is put: behind the lower numbers
pub insert_between : (q : ℕ) (l m : List ℕ) → All (λ r. r < q) l → Rising (suc q) m → insert q (l ++ m) ≡ l ++ q ∷ m
unfolding insert
insert_between q [] [] h k = refl
insert_between q [] (r ∷ m) h k = insert_below q r m k.0
insert_between q (r ∷ l) m h k = insert_above q r (l ++ m) h.0 ∙ ap (λ n. r ∷ n) (insert_between q l m h.1 k)

pub insert_rises : (least q : ℕ) (l : List ℕ) → least ≤ q → Rising least l → Rising least (insert q l)
unfolding insert
insert_rises least q [] k h = (k, tt)
insert_rises least q (r ∷ rs) k h =
    insert_cases q r rs (Rising least) (λ below. (k, (below, h.1))) (λ same. h) (λ above. (h.0, insert_rises (suc r) q rs above h.1))

pub insert_has : (q : ℕ) (l : List ℕ) → Mem q (insert q l)
unfolding insert
insert_has q [] = here refl
insert_has q (r ∷ rs) = insert_cases q r rs (Mem q) (λ below. here refl) (λ same. here same) (λ above. there (insert_has q rs))

pub insert_keeps : (q : ℕ) (l : List ℕ) → Inside l (insert q l)
unfolding insert
insert_keeps q [] s i = absurd (not-in-nil i)
insert_keeps q (r ∷ rs) s i =
    insert_cases q r rs (Mem s) (λ below. there i) (λ same. i) (λ above. ⊎_elim (λ e. here e) (λ j. there (insert_keeps q rs s j)) (in-cons i))

pub in_insert : (q : ℕ) (l : List ℕ) {s : ℕ} → Mem s (insert q l) → (s ≡ q) ⊎ Mem s l
unfolding insert
in_insert q [] i = in-cons i
in_insert q (r ∷ rs) {s} i =
    insert_cases q r rs (λ m. Mem s m → (s ≡ q) ⊎ Mem s (r ∷ rs)) (λ below. in-cons) (λ same. inr)
    (λ above j. ⊎_elim (λ e. inr (here e)) (λ k. ⊎_map (λ e. e) there (in_insert q rs k)) (in-cons j)) i

-- a number that is known changes nothing
pub insert_known : (least q : ℕ) (l : List ℕ) → Rising least l → Mem q l → insert q l ≡ l
insert_known least q l h i =
    rising_ext least least (insert q l) l (insert_rises least q l (rising_least least l h i) h) h
    (λ s j. ⊎_elim (λ e. Memᴰ.cast e i) (λ k. k) (in_insert q l j)) (insert_keeps q l)

-- a number that is not makes the list longer by one
pub insert_new : (q : ℕ) (l : List ℕ) → ¬ Mem q l → length (insert q l) ≡ suc (length l)
unfolding insert
insert_new q [] n = refl
insert_new q (r ∷ rs) n =
    insert_cases q r rs (λ m. length m ≡ suc (suc (length rs))) (λ below. refl) (λ same. absurd (n (here same)))
    (λ above. ap suc (insert_new q rs (λ i. n (there i))))

pub insert_length : (q : ℕ) (l : List ℕ) → (length l ≤ length (insert q l)) × (length (insert q l) ≤ suc (length l))
unfolding insert
insert_length q [] = omega arith
insert_length q (r ∷ rs) =
    insert_cases q r rs (λ m. (suc (length rs) ≤ length m) × (length m ≤ suc (suc (length rs)))) (λ below. omega arith) (λ same. omega arith)
    (λ above. let more = insert_length q rs in omega arith)

-- ---- insert_all

pub insert_all_append : (qs rs known : List ℕ) → insert_all (qs ++ rs) known ≡ insert_all rs (insert_all qs known)
unfolding insert_all
insert_all_append [] rs known = refl
insert_all_append (q ∷ qs) rs known = insert_all_append qs rs (insert q known)

pub insert_all_rises : (qs known : List ℕ) → Rising 0 known → Rising 0 (insert_all qs known)
unfolding insert_all
insert_all_rises [] known h = h
insert_all_rises (q ∷ qs) known h = insert_all_rises qs (insert q known) (insert_rises 0 q known (omega arith) h)

pub insert_all_keeps : (qs known : List ℕ) → Inside known (insert_all qs known)
unfolding insert_all
insert_all_keeps [] known s i = i
insert_all_keeps (q ∷ qs) known s i = insert_all_keeps qs (insert q known) s (insert_keeps q known s i)

pub insert_all_has : (qs known : List ℕ) → Inside qs (insert_all qs known)
unfolding insert_all
insert_all_has [] known s i = absurd (not-in-nil i)
insert_all_has (q ∷ qs) known s i =
    ⊎_elim (λ e. insert_all_keeps qs (insert q known) s (Memᴰ.cast e (insert_has q known))) (insert_all_has qs (insert q known) s) (in-cons i)

pub in_insert_all : (qs known : List ℕ) (s : ℕ) → Mem s (insert_all qs known) → Mem s qs ⊎ Mem s known
unfolding insert_all
in_insert_all [] known s i = inr i
in_insert_all (q ∷ qs) known s i =
    ⊎_elim (λ j. inl (there j)) (λ j. ⊎_map here (λ k. k) (in_insert q known j)) (in_insert_all qs (insert q known) s i)
