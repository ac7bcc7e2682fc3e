-- What inner functions ask.
use Rattle.std.specs.Prelude.{◌≡◌, ℕ, suc, ◌≤◌, List, [], ◌∷◌, ◌++◌, length, drop, cond, bytes_eq}
use Rattle.std.specs.Borrow.{Lends, MutBor, Fml, Array, u8}
use Rattle.pauli.specs.Told.{Told, answer}
use Rattle.window.specs.Layout.{room_bytes, window_bytes}
use Rattle.window.specs.MarkHistory.{Named}

-- the roll, if there is one, is no longer than a window's room
abbrev pub HasRoom : Told (List ℕ) → Type 0
HasRoom t = (roll : List ℕ) → t ≡ answer roll → length roll ≤ room_bytes

-- a window whose front is lent: it ends as it is left, the bytes behind it as they were
abbrev pub LendsFront : MutBor (List ℕ) → MutBor (List ℕ) → Fml
LendsFront w front = Lends (Array u8 0) (Array u8 0) w front (λ bs. bs ++ drop window_bytes w.now)

-- the place of a name among these marks, or how many there are
unfoldable pub place : {A : Type 0} → List ℕ → List (Named A) → ℕ
place n [] = 0
place n (m ∷ ms) = cond (bytes_eq m.name n) 0 (suc (place n ms))
