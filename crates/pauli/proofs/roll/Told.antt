-- Chains of tests: a test passes where its condition is false and refuses where it is true, and where the chain answers every
-- test has passed.
use Rattle.std.proofs.Common.{◌≡◌, ℕ, Bool, true, false, sym, refl, arith}
use Rattle.pauli.specs.Told.{Told, answer, refused, refuse_if, and_then, map_told}

pub refused_none : {A : Type 0} (n p : ℕ) (a : A) → refused n p ≡ answer a → ⊥
refused_none n p a e = let z : ◌≡◌ {A = ℕ} 0 1 = cc in omega arith

pub test_pass : {A : Type 0} (t : Bool) (n p : ℕ) (next : Told A) → t ≡ false → refuse_if t n p next ≡ next
unfolding refuse_if
test_pass t n p next e = rw e

pub test_refuses : {A : Type 0} (t : Bool) (n p : ℕ) (next : Told A) → t ≡ true → refuse_if t n p next ≡ refused n p
unfolding refuse_if
test_refuses t n p next e = rw e

pub test_passed : {A : Type 0} (t : Bool) (n p : ℕ) (next : Told A) (a : A) → refuse_if t n p next ≡ answer a → (t ≡ false) × (next ≡ answer a)
unfolding refuse_if
test_passed true n p next a e = absurd (refused_none n p a e)
test_passed false n p next a e = (refl, e)

pub answered : {A B : Type 0} (t : Told A) (next : A → Told B) (b : B) → and_then t next ≡ answer b → (a : A) × (t ≡ answer a) × (next a ≡ answer b)
unfolding and_then
answered (answer a) next b e = (a, refl, e)
answered (refused n p) next b e = absurd (refused_none n p b e)

-- a test before a change of the answer
pub map_test : {A B : Type 0} (f : A → B) (t : Bool) (n p : ℕ) (next : Told A) → map_told f (refuse_if t n p next) ≡ refuse_if t n p (map_told f next)
unfolding map_told refuse_if
map_test f true n p next = refl
map_test f false n p next = refl

-- ---- what is told of a changed answer

module _ {A B : Type 0} (f : A → B) where
  pub map_refused : (t : Told A) (m p : ℕ) → map_told f t ≡ refused m p → t ≡ refused m p
  unfolding map_told
  map_refused (answer a) m p e = absurd (refused_none m p (f a) (sym e))
  map_refused (refused n q) m p e = cc

  pub map_answer : (t : Told A) (b : B) → map_told f t ≡ answer b → (a : A) × (t ≡ answer a) × (f a ≡ b)
  unfolding map_told
  map_answer (answer a) b e = (a, refl, (cc))
  map_answer (refused n q) b e = absurd (refused_none n q b e)

-- ---- a number that is never told

unfoldable pub Never : {A : Type 0} → ℕ → Told A → Type 0
Never k (answer a) = Unit {0}
Never k (refused n p) = n ≡ k → ⊥

-- a refusal that is told on, by a call of another answer
pub never_on : (A B : Type 0) (k n p : ℕ) → Never {A = A} k (refused n p) → Never {A = B} k (refused n p)
unfolding Never
never_on A B k n p h = h

module _ {A : Type 0} (k : ℕ) where
  pub never : (t : Told A) → Never k t → (p : ℕ) → t ≡ refused k p → ⊥
  unfolding Never
  never t h p e = (rw e at h) refl

  pub never_answer : (a : A) → Never k (answer a)
  unfolding Never
  never_answer a = tt

  pub never_test : (t : Bool) (n p : ℕ) (next : Told A) → (n ≡ k → ⊥) → Never k next → Never k (refuse_if t n p next)
  unfolding Never refuse_if
  never_test true n p next h l = h
  never_test false n p next h l = l

  module _ {B : Type 0} where
    pub never_then : (t : Told A) (next : A → Told B) → Never k t → ((a : A) → Never k (next a)) → Never k (and_then t next)
    unfolding Never and_then
    never_then (answer a) next h l = l a
    never_then (refused n p) next h l = h

    pub never_map : (f : A → B) (t : Told A) → Never k t → Never k (map_told f t)
    unfolding Never map_told
    never_map f (answer a) h = tt
    never_map f (refused n p) h = h
