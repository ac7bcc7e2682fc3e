-- What the answer of a product tells.
use Rattle.pauli.specs.declared.product.Multiplied.{Multiplied}
use Rattle.pauli.specs.JoinCalls.{Made}

-- the length and the bit, as the code holds them
abbrev pub made_in : Multiplied → Made
made_in m = record { bytes = m.bytes; anticommute = m.anticommute }
