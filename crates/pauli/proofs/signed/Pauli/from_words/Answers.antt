-- The exponent is the byte of its word.
use Rattle.std.proofs.Common.{refl}
use Rattle.pauli.specs.Signed.{held, pauli_in, stored}
use Rattle.pauli.specs.PlaceSet.{set_in}
use Rattle.pauli.proofs.signed.Pauli.from_words.Goals as goal

pub returns : goal.returns
unfolding held pauli_in set_in stored
returns c = refl
