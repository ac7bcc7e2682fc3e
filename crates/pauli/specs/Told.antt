-- What a call tells: its answer, or a refusal by document 01's number and the refusal's place ("Turned back").
use Rattle.std.specs.Prelude.{ℕ, Bool, true, false}

pub data Told (A : Type 0) : Type 0 where
  answer : A → Told A
  refused : ℕ → ℕ → Told A

-- refused with number n at place p where the test holds; else go on
unfoldable pub refuse_if : {A : Type 0} → Bool → ℕ → ℕ → Told A → Told A
refuse_if true n p next = refused n p
refuse_if false n p next = next

-- what is refused stays refused; an answer goes on
unfoldable pub and_then : {A B : Type 0} → Told A → (A → Told B) → Told B
and_then (answer a) next = next a
and_then (refused n p) next = refused n p

-- an answer, changed by f
unfoldable pub map_told : {A B : Type 0} → (A → B) → Told A → Told B
map_told f (answer a) = answer (f a)
map_told f (refused n p) = refused n p
