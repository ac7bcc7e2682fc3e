-- Laws of `All`, of members, and of a list read from element i on, `drop i b`.
use Rattle.std.proofs.Common.{◌≡◌, ℕ, zero, suc, ◌+◌, ◌<◌, List, [], ◌∷◌, ◌++◌, length, get_or, drop, sym, refl, ap, ◌∙◌, add-zero, add-one, arith, get_or-drop, drop-cons, drop-drop, drop_at}
use mathlib.Core.List.Memᴰ.{head as here}
use mathlib.Core.List.Memᴰ.{tail as there}
use mathlib.Core.List.{Memᴰ as Mem}
use Rattle.binar.proofs.Lists.{all_join, all_get_d}
use Rattle.pauli.specs.Support.{All}

module _ {A : Type 0} (P : A → Type 0) where
  pub all_in : (l : List A) → ((x : A) → Mem x l → P x) → All P l
  all_in [] h = tt
  all_in (x ∷ l) h = (h x (here refl), all_in l (λ y m. h y (there m)))

  pub all_mem : (l : List A) → All P l → (x : A) → Mem x l → P x
  all_mem [] h x m = elim m [ ]
  all_mem (y ∷ l) h x (here e) = rw e h.0
  all_mem (y ∷ l) h x (there m) = all_mem l h.1 x m

pub in_get_or : {A : Type 0} (l : List A) (i : ℕ) (d : A) → i < length l → Mem (get_or l i d) l
in_get_or [] i d h = absurd (omega arith)
in_get_or (x ∷ l) zero d h = here refl
in_get_or (x ∷ l) (suc i) d h = there (in_get_or l i d (omega arith))

-- a list of bytes
abbrev pub AllBytes : List ℕ → Type 0
AllBytes b = All (λ x. x < 256) b

pub all_bytes_append : (l m : List ℕ) → AllBytes l → AllBytes m → AllBytes (l ++ m)
all_bytes_append = all_join (λ x. x < 256)

pub byte_at : (b : List ℕ) (i : ℕ) → AllBytes b → get_or b i 0 < 256
byte_at b i h = all_get_d (λ x. x < 256) b 0 (omega arith) h i

module _ {A : Type 0} (b : List A) (i : ℕ) where
  -- what follows s, where s stands at i
  pub drop_past : (s rest : List A) → drop i b ≡ s ++ rest → {n : ℕ} → length s ≡ n → drop (i + n) b ≡ rest
  drop_past s rest h {n} e = sym (drop-drop n i b) ∙ ap (drop n) h ∙ drop_at s rest n e

  pub get_d_front : (d x : A) (rest : List A) → drop i b ≡ x ∷ rest → get_or b i d ≡ x
  get_d_front d x rest h = rw (← add-zero i, ← get_or-drop i b 0 d, h)

  pub drop_one : (d : A) → i < length b → get_or b i d ∷ drop (i + 1) b ≡ drop i b
  drop_one d l = rw (add-one, drop-cons b i d l)
