-- Bytes put into an output.
use Rattle.std.specs.Prelude.{◌≡◌, List, ℕ, ◌+◌, length}
use Rattle.pauli.specs.Writing.{put_bytes}

-- a text is put into the output `out` from byte `at` on, which leaves `out'`; the byte past the text is `next`
pub record Put (out : List ℕ) (at : ℕ) (text out' : List ℕ) (next : ℕ) : Type 0 where
  pub bytes : out' ≡ put_bytes out at text
  pub past : next ≡ at + length text
