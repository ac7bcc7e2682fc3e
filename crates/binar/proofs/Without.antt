-- A list of numbers without those that are excluded, and lists that rise.
use Rattle.std.proofs.Common.{◌≡◌, refl, sym, subst, ℕ, suc, ◌<◌, ◌≤◌, List, [], ◌∷◌, ◌++◌, length, get_or, Bool, true, false, cond, not, ◌==◌, eq-eqb, ne_eqb, arith}
use Rattle.std.specs.List.{list_any}
use Rattle.std.proofs.lemmas.List.Elements.{filter-append}
use native.Mathlib.Decide.{ℕ_discrete}
use Rattle.binar.specs.Kernel.{without}
use Rattle.binar.proofs.Lists.{All, all_get, all_map}

-- the list rises strictly, from lo on
abbrev pub Rises : ℕ → List ℕ → Type 0
Rises lo [] = Unit {0}
Rises lo (x ∷ xs) = (lo ≤ x) × Rises (suc x) xs

pub rises_from : (a b : ℕ) (xs : List ℕ) → a ≤ b → Rises b xs → Rises a xs
rises_from a b [] l h = tt
rises_from a b (x ∷ xs) l h = (omega (arith, h.0), h.1)

pub rises_least : (lo : ℕ) (xs : List ℕ) → Rises lo xs → All (λ x. lo ≤ x) xs
rises_least lo [] h = tt
rises_least lo (x ∷ xs) h = (h.0, all_map (λ y u. omega (arith, h.0)) xs (rises_least (suc x) xs h.1))

-- x is none of the excluded
abbrev pub Apart : List ℕ → ℕ → Type 0
Apart excluded x = All (λ y. x ≡ y → ⊥) excluded

pub apart_below : (x : ℕ) (ys : List ℕ) → Rises (suc x) ys → Apart ys x
apart_below x ys h = all_map (λ y u. λ e. omega arith) ys (rises_least (suc x) ys h)

abbrev pub is_among : List ℕ → ℕ → Bool
is_among excluded x = list_any (λ y. y == x) excluded

among_cases : (P : Bool → Type 0) (excluded : List ℕ) (x : ℕ) → ((i : ℕ) → i < length excluded → get_or excluded i 0 ≡ x → P true) → (Apart excluded x → P false)
    → P (is_among excluded x)
among_cases P [] x f g = g tt
among_cases P (y ∷ ys) x f g =
    elim (ℕ_discrete x y) [
      | yes e ↦ rw (eq-eqb y x (sym e)) (f 0 (omega arith) (sym e))
      | no d ↦ rw (ne_eqb y x (λ e. d (sym e))) (among_cases P ys x (λ i l e. f (suc i) (omega arith) e) (λ a. g (d, a)))
    ]

module _ (excluded : List ℕ) where
  -- the first is excluded, or is kept
  pub without_cases : (P : List ℕ → Type 0) (x : ℕ) (xs : List ℕ) → ((i : ℕ) → i < length excluded → get_or excluded i 0 ≡ x → P (without excluded xs))
      → (Apart excluded x → P (x ∷ without excluded xs)) → P (without excluded (x ∷ xs))
  unfolding without
  without_cases P x xs f g = among_cases (λ b. P (cond (not b) (x ∷ without excluded xs) (without excluded xs))) excluded x f g

  pub without_kept : (x : ℕ) (xs : List ℕ) → Apart excluded x → without excluded (x ∷ xs) ≡ x ∷ without excluded xs
  without_kept x xs a =
      without_cases (λ l. l ≡ x ∷ without excluded xs) x xs (λ i l e. absurd (all_get (λ y. x ≡ y → ⊥) excluded 0 a i l (sym e))) (λ b. refl)

  pub without_all : (Q : ℕ → Type 0) (xs : List ℕ) → All (λ x. Apart excluded x → Q x) xs → All Q (without excluded xs)
  unfolding without
  without_all Q [] h = tt
  without_all Q (x ∷ xs) h = let more = without_all Q xs h.1 in without_cases (All Q) x xs (λ i l e. more) (λ a. (h.0 a, more))

  pub without_length : (xs : List ℕ) → length (without excluded xs) ≤ length xs
  unfolding without
  without_length [] = omega arith
  without_length (x ∷ xs) =
      let more = without_length xs in
      without_cases (λ l. length l ≤ suc (length xs)) x xs (λ i l e. omega arith) (λ a. omega arith)

  -- the last, by the test
  pub without_last : (xs : List ℕ) (x : ℕ) → without excluded (xs ++ x ∷ []) ≡ without excluded xs ++ cond (not (is_among excluded x)) (x ∷ []) []
  unfolding without
  without_last xs x = filter-append (λ y. not (is_among excluded y)) xs (x ∷ [])

  pub without_rises : (lo : ℕ) (xs : List ℕ) → Rises lo xs → Rises lo (without excluded xs)
  unfolding without
  without_rises lo [] h = tt
  without_rises lo (x ∷ xs) h =
      let more = without_rises (suc x) xs h.1 in
      without_cases (Rises lo) x xs (λ i l e. rises_from lo (suc x) (without excluded xs) (omega (arith, h.0)) more) (λ a. (h.0, more))

  -- what holds of the excluded and of those that are left holds of all
  pub without_cover : (Q : ℕ → Type 0) (xs : List ℕ) → All Q excluded → All Q (without excluded xs) → All Q xs
  unfolding without
  without_cover Q [] h g = tt
  without_cover Q (x ∷ xs) h g =
      without_cases (λ l. All Q l → All Q (x ∷ xs)) x xs
      (λ i l e f. (subst Q e (all_get Q excluded 0 h i l), without_cover Q xs h f))
      (λ a f. (f.0, without_cover Q xs h f.1))
      g

-- one that is smaller than all excludes nothing
without_past : (y : ℕ) (ys xs : List ℕ) → Rises (suc y) xs → without (y ∷ ys) xs ≡ without ys xs
unfolding without
without_past y ys [] h = refl
without_past y ys (x ∷ xs) h =
    let d : x ≡ y → ⊥ = λ e. omega (arith, h.0) in
    rw (ne_eqb y x (λ e. d (sym e)), without_past y ys xs (rises_from (suc y) (suc x) xs (omega (arith, h.0)) h.1))

-- the first that is excluded is the first of the list
pub without_first : (x : ℕ) (ys xs : List ℕ) → Rises (suc x) xs → without (x ∷ ys) (x ∷ xs) ≡ without ys xs
unfolding without
without_first x ys xs h = rw (eq-eqb x x refl) (without_past x ys xs h)
