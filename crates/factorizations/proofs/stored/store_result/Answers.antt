-- By what membership tells.
use Rattle.std.proofs.Common.{ap, subst}
use Rattle.pauli.specs.PlaceSet.{set_in}
use Rattle.pauli_group.specs.Inner.Members.{factoring_told}
use Rattle.factorizations.specs.Stored.{Storable}
use Rattle.factorizations.proofs.stored.StoredLaws.{other_stored, member_stored}
use Rattle.factorizations.proofs.stored.store_result.Goals as goal

pub returns-in-None : goal.returns-in-None
returns-in-None c =
    rw (c.in-None.is, c.store_other.ensures) (other_stored _ _ c.requires.0)

pub returns-in-Some : goal.returns-in-Some
unfolding set_in
returns-in-Some c =
    let small = subst Storable (ap factoring_told c.in-Some.is) c.requires.1 in
    rw (c.in-Some.is, c.store_member.ensures) (member_stored _ _ c.requires.0 _ _ _ small)
