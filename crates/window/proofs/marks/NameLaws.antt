-- What is kept under names: in place of the names.
use Rattle.std.proofs.Common.{◌≡◌, ℕ, suc, ◌≤◌, List, [], ◌∷◌, ◌++◌, length, take, drop, Bool, true, false, Some, None, sym, refl, ap, ◌∙◌, subst, arith}
use Rattle.std.proofs.lemmas.Slice.Eq.{bytes_eq-Decides}
use Rattle.std.specs.Prelude.{cond, bytes_eq}
use Rattle.pauli.specs.Support.{All}
use Rattle.window.specs.Inner.{place}
use Rattle.window.specs.MarkHistory.{Named, kept_at, keep, free}
use Rattle.window.specs.MarkTheorems.{Once}

module _ {A : Type 0} (n : List ℕ) where
  pub place_few : (ms : List (Named A)) → place n ms ≤ length ms
  unfolding place
  place_few [] = omega arith
  place_few (m ∷ ms) = go (bytes_eq m.name n) (place_few ms)
    where
      go : (t : Bool) → place n ms ≤ length ms → cond t 0 (suc (place n ms)) ≤ suc (length ms)
      go true ih = omega arith
      go false ih = omega arith

  pub keep_place : (a : A) (ms : List (Named A)) → keep n a ms ≡ take (place n ms) ms ++ record { name = n; kept = a } ∷ drop (suc (place n ms)) ms
  unfolding place keep
  keep_place a [] = refl
  keep_place a (m ∷ ms) = go (bytes_eq m.name n) (keep_place a ms)
    where
      here : Named A
      here = record { name = n; kept = a }

      go : (t : Bool) → keep n a ms ≡ take (place n ms) ms ++ here ∷ drop (suc (place n ms)) ms
          → cond t (here ∷ ms) (m ∷ keep n a ms) ≡ take (cond t 0 (suc (place n ms))) (m ∷ ms) ++ here ∷ drop (suc (cond t 0 (suc (place n ms)))) (m ∷ ms)
      go true ih = refl
      go false ih = ap (m ∷◌) ih

  pub free_place : (ms : List (Named A)) → free n ms ≡ take (place n ms) ms ++ drop (suc (place n ms)) ms
  unfolding place free
  free_place [] = refl
  free_place (m ∷ ms) = go (bytes_eq m.name n) (free_place ms)
    where
      go : (t : Bool) → free n ms ≡ take (place n ms) ms ++ drop (suc (place n ms)) ms
          → cond t ms (m ∷ free n ms) ≡ take (cond t 0 (suc (place n ms))) (m ∷ ms) ++ drop (suc (cond t 0 (suc (place n ms)))) (m ∷ ms)
      go true ih = refl
      go false ih = ap (m ∷◌) ih

  pub unknown_place : (ms : List (Named A)) → place n ms ≡ length ms → kept_at n ms ≡ None
  unfolding place kept_at
  unknown_place [] e = refl
  unknown_place (m ∷ ms) e = go (bytes_eq m.name n) (unknown_place ms) e
    where
      go : (t : Bool) → (place n ms ≡ length ms → kept_at n ms ≡ None) → cond t 0 (suc (place n ms)) ≡ suc (length ms) → cond t (Some m.kept) (kept_at n ms) ≡ None
      go true ih e = absurd (omega arith)
      go false ih e = ih (omega arith)

  pub keep_new : (a : A) (ms : List (Named A)) → kept_at n ms ≡ None → length (keep n a ms) ≡ suc (length ms)
  unfolding kept_at keep
  keep_new a [] e = refl
  keep_new a (m ∷ ms) e = go (bytes_eq m.name n) (keep_new a ms) e
    where
      go : (t : Bool) → (kept_at n ms ≡ None → length (keep n a ms) ≡ suc (length ms)) → cond t (Some m.kept) (kept_at n ms) ≡ None
          → length (cond t (record { name = n; kept = a } ∷ ms) (m ∷ keep n a ms)) ≡ suc (suc (length ms))
      go true ih e = let z : ◌≡◌ {A = ℕ} 0 1 = cc in absurd (omega arith)
      go false ih e = ap suc (ih e)

  pub keep_used : (a b : A) (ms : List (Named A)) → kept_at n ms ≡ Some b → length (keep n a ms) ≡ length ms
  unfolding kept_at keep
  keep_used a b [] e = let z : ◌≡◌ {A = ℕ} 0 1 = cc in absurd (omega arith)
  keep_used a b (m ∷ ms) e = go (bytes_eq m.name n) (keep_used a b ms) e
    where
      go : (t : Bool) → (kept_at n ms ≡ Some b → length (keep n a ms) ≡ length ms) → cond t (Some m.kept) (kept_at n ms) ≡ Some b
          → length (cond t (record { name = n; kept = a } ∷ ms) (m ∷ keep n a ms)) ≡ suc (length ms)
      go true ih e = refl
      go false ih e = ap suc (ih e)

-- ---- what is kept under a name, after marks were saved and deleted

same_name : (n : List ℕ) → bytes_eq n n ≡ true
same_name n = (bytes_eq-Decides n n).1 refl

differ : true ≡ false → ⊥
differ z = let y : ◌≡◌ {A = ℕ} 0 1 = cc in omega arith

other_name : (m n : List ℕ) → (m ≡ n → ⊥) → bytes_eq m n ≡ false
other_name m n d = go (bytes_eq m n) refl
  where
    go : (t : Bool) → bytes_eq m n ≡ t → t ≡ false
    go true e = absurd (d ((bytes_eq-Decides m n).0 e))
    go false e = refl

module _ {A : Type 0} (n : List ℕ) (a : A) where
  abbrev here : Named A
  here = record { name = n; kept = a }

  pub kept_same : (ms : List (Named A)) → kept_at n (keep n a ms) ≡ Some a
  unfolding kept_at keep
  kept_same [] = rw (same_name n) refl
  kept_same (m ∷ ms) = go (bytes_eq m.name n) refl (kept_same ms)
    where
      go : (t : Bool) → bytes_eq m.name n ≡ t → kept_at n (keep n a ms) ≡ Some a → kept_at n (cond t (here ∷ ms) (m ∷ keep n a ms)) ≡ Some a
      go true e ih = rw (same_name n) refl
      go false e ih = rw e ih

  pub kept_other : (m : List ℕ) → (n ≡ m → ⊥) → (ms : List (Named A)) → kept_at m (keep n a ms) ≡ kept_at m ms
  unfolding kept_at keep
  kept_other m d [] = rw (other_name n m d) refl
  kept_other m d (k ∷ ms) = go (bytes_eq k.name n) refl (kept_other m d ms)
    where
      go : (t : Bool) → bytes_eq k.name n ≡ t → kept_at m (keep n a ms) ≡ kept_at m ms
          → kept_at m (cond t (here ∷ ms) (k ∷ keep n a ms)) ≡ cond (bytes_eq k.name m) (Some k.kept) (kept_at m ms)
      go true e ih =
          let is : k.name ≡ n = (bytes_eq-Decides k.name n).0 e in
          rw (other_name n m d, other_name k.name m λ f. d (sym is ∙ f)) refl
      go false e ih = rw ih refl

  module _ (P : Named A → Type 0) (p : P here) where
    pub all_keep : (ms : List (Named A)) → All P ms → All P (keep n a ms)
    unfolding keep
    all_keep [] h = (p, tt)
    all_keep (m ∷ ms) h = go (bytes_eq m.name n) (all_keep ms h.1)
      where
        go : (t : Bool) → All P (keep n a ms) → All P (cond t (here ∷ ms) (m ∷ keep n a ms))
        go true ih = (p, h.1)
        go false ih = (h.0, ih)

  pub once_keep : (ms : List (Named A)) → Once ms → Once (keep n a ms)
  unfolding keep
  once_keep [] o = (tt, tt)
  once_keep (m ∷ ms) o = go (bytes_eq m.name n) refl (once_keep ms o.1)
    where
      go : (t : Bool) → bytes_eq m.name n ≡ t → Once (keep n a ms) → Once (cond t (here ∷ ms) (m ∷ keep n a ms))
      go true e ih =
          let is : m.name ≡ n = (bytes_eq-Decides m.name n).0 e in
          (subst (λ (x : List ℕ). All (λ k. k.name ≡ x → ⊥) ms) is o.0, o.1)
      go false e ih = (all_keep (λ k. k.name ≡ m.name → ⊥) (λ f. differ (sym ((bytes_eq-Decides m.name n).1 (sym f)) ∙ e)) ms o.0, ih)

module _ {A : Type 0} (n : List ℕ) where
  pub freed_other : (m : List ℕ) → (n ≡ m → ⊥) → (ms : List (Named A)) → kept_at m (free n ms) ≡ kept_at m ms
  unfolding kept_at free
  freed_other m d [] = refl
  freed_other m d (k ∷ ms) = go (bytes_eq k.name n) refl (freed_other m d ms)
    where
      go : (t : Bool) → bytes_eq k.name n ≡ t → kept_at m (free n ms) ≡ kept_at m ms
          → kept_at m (cond t ms (k ∷ free n ms)) ≡ cond (bytes_eq k.name m) (Some k.kept) (kept_at m ms)
      go true e ih =
          let is : k.name ≡ n = (bytes_eq-Decides k.name n).0 e in
          rw (other_name k.name m λ f. d (sym is ∙ f)) refl
      go false e ih = rw ih refl

  pub all_free : (P : Named A → Type 0) (ms : List (Named A)) → All P ms → All P (free n ms)
  unfolding free
  all_free P [] h = tt
  all_free P (m ∷ ms) h = go (bytes_eq m.name n) (all_free P ms h.1)
    where
      go : (t : Bool) → All P (free n ms) → All P (cond t ms (m ∷ free n ms))
      go true ih = h.1
      go false ih = (h.0, ih)

  pub once_free : (ms : List (Named A)) → Once ms → Once (free n ms)
  unfolding free
  once_free [] o = tt
  once_free (m ∷ ms) o = go (bytes_eq m.name n) (once_free ms o.1)
    where
      go : (t : Bool) → Once (free n ms) → Once (cond t ms (m ∷ free n ms))
      go true ih = o.1
      go false ih = (all_free (λ k. k.name ≡ m.name → ⊥) ms o.0, ih)

  none_named : (ms : List (Named A)) → All (λ k. k.name ≡ n → ⊥) ms → kept_at n ms ≡ None
  unfolding kept_at
  none_named [] h = refl
  none_named (m ∷ ms) h = rw (other_name m.name n h.0) (none_named ms h.1)

  pub freed_same : (ms : List (Named A)) → Once ms → kept_at n (free n ms) ≡ None
  unfolding kept_at free
  freed_same [] o = refl
  freed_same (m ∷ ms) o = go (bytes_eq m.name n) refl (freed_same ms o.1)
    where
      go : (t : Bool) → bytes_eq m.name n ≡ t → kept_at n (free n ms) ≡ None → kept_at n (cond t ms (m ∷ free n ms)) ≡ None
      go true e ih = none_named ms (subst (λ (x : List ℕ). All (λ k. k.name ≡ x → ⊥) ms) ((bytes_eq-Decides m.name n).0 e) o.0)
      go false e ih = rw e ih

  pub free_few : (ms : List (Named A)) → length (free n ms) ≤ length ms
  unfolding free
  free_few [] = omega arith
  free_few (m ∷ ms) = go (bytes_eq m.name n) (free_few ms)
    where
      go : (t : Bool) → length (free n ms) ≤ length ms → length (cond t ms (m ∷ free n ms)) ≤ suc (length ms)
      go true ih = omega arith
      go false ih = omega arith
