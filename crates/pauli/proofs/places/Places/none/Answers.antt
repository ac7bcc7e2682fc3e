-- No place is in the set.
use Rattle.pauli.specs.PlaceSet.{set_in}
use Rattle.std.proofs.Common.{refl}
use Rattle.pauli.proofs.places.Places.none.Goals as goal

pub returns : goal.returns
unfolding set_in
returns c = refl
