use Rattle.pauli.specs.Signed.{pauli_words}
use Rattle.std.proofs.Common.{refl}
use Rattle.pauli.proofs.signed.Pauli.words.Goals as goal

pub returns : goal.returns
unfolding pauli_words
returns c = refl
