-- Sets of at most 128 places of a support, as the code holds them: two words.
use Rattle.std.specs.Prelude.{ℕ, ◌+◌, ◌*◌, ◌^◌}
use Rattle.pauli.specs.declared.places.Places.{Places}

-- the set, as a number
unfoldable pub set_in : Places → ℕ
set_in s = s.high * 2 ^ 64 + s.low
