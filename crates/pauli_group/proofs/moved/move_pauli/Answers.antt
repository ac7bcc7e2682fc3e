use Rattle.std.proofs.Common.{refl}
use Rattle.pauli.proofs.signed.Algebra.{pauli_path}
use Rattle.pauli.specs.Signed.{held}
use Rattle.pauli.specs.PlaceSet.{set_in}
use Rattle.pauli_theory.specs.Inner.ModuloPlaces.{moved_pauli}
use Rattle.pauli_group.proofs.moved.move_pauli.Goals as goal

pub move_set-requires : goal.move_set-requires
unfolding set_in held
move_set-requires c = (c.requires.0, c.requires.1, c.requires.3.0)

pub move_set-requires-2 : goal.move_set-requires-2
unfolding set_in held
move_set-requires-2 c = (c.requires.0, c.requires.2, c.requires.3.1)

pub returns : goal.returns
unfolding held moved_pauli
returns c = pauli_path refl c.move_set.ensures c.move_set-2.ensures
