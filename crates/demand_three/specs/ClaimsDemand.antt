-- Claims of other programs agree with membership: document 02, L10, "Proved: an accepted claim agrees with membership; each member has an
-- acceptable claim; so has each element whose bits lie outside the span. These three hold for an absent or a true promise": `Generators` has
-- such a promise. Of a call nothing is known but what its `ensures` says, whatever it was lent, answered and left.
use Rattle.std.specs.Prelude.{◌≡◌, ◌≤◌, Bool, true, List, [], ◌∷◌, ℕ, length, Result}
use Rattle.std.proofs.Math.Option.{some, none}
use Rattle.pauli.specs.Refusals.{told_by, told_of}
use Rattle.pauli.specs.Roll.{Sparse, read}
use Rattle.pauli.specs.Told.{answer}
use Rattle.pauli.specs.declared.refusal.Refusal.{Refusal}
use Rattle.pauli_theory.specs.Claims.{InSpan}
use Rattle.pauli_theory.specs.Group.{Generated}
use Rattle.pauli_group.specs.Answers.{factored_in}
use Rattle.pauli_group.specs.Calls.{Factored}
use Rattle.claims.specs.ClaimContracts.{MembershipClaim, AbsenceClaim}
use Rattle.demand_three.specs.DemandThree.{Generators, list, Element, pauli, Asked, Member, indexes_at}

-- a claim that x is a member of A, put to its call
pub record Claiming (A : Generators) (x : Element) : Type 0 where
  pub indexes : List ℕ
  pub exponent : ℕ
  pub work : List ℕ
  pub found : Result Bool Refusal
  pub work' : List ℕ
  pub promised : MembershipClaim A.promise A.roll x.roll x.number indexes exponent work found work'

-- a claim that it is none
pub record Denying (A : Generators) (x : Element) : Type 0 where
  pub roll : List ℕ
  pub number : ℕ
  pub found : Result Bool Refusal
  pub promised : AbsenceClaim A.roll x.roll x.number roll number found

abbrev pub Accepted : Result Bool Refusal → Type 0
Accepted found = told_of found ≡ answer true

-- every call of membership that is lent 4,096 words answers "not a member"
unfoldable pub NotMember : Generators → Element → Type 0
NotMember A x = (c : Asked A x) → 4096 ≤ length c.work → told_by factored_in c.found ≡ answer none

pub record ClaimsDemand : Type 0 where
  -- "an accepted claim agrees with membership"
  pub member : (A : Generators) (x : Element) (c : Claiming A x) → Accepted c.found → Member A x
  pub absent : (A : Generators) (x : Element) (d : Denying A x) → Accepted d.found → NotMember A x × (Generated (list A) (pauli x) → ⊥)
  -- "each member has an acceptable claim": the indexes that membership gave, and the exponent that it told
  pub acceptable : (A : Generators) (x : Element) (m : Asked A x) (f : Factored) → told_by factored_in m.found ≡ answer (some f)
      → (c : Claiming A x) → c.indexes ≡ indexes_at m.out' 0 f.count → c.exponent ≡ f.exponent → 4096 ≤ length c.work → Accepted c.found
  -- "so has each element whose bits lie outside the span": there is a roll of one Pauli with which the call accepts
  pub witnessed : (A : Generators) (x : Element) → (InSpan (list A) (pauli x) → ⊥)
      → (roll : List ℕ) × (p : Sparse) × (read roll ≡ answer (p ∷ [])) × ((d : Denying A x) → d.roll ≡ roll → d.number ≡ 0 → Accepted d.found)
  -- no element has acceptable claims of both kinds
  pub not_both : (A : Generators) (x : Element) (c : Claiming A x) (d : Denying A x) → Accepted c.found → Accepted d.found → ⊥
  -- and exactly those have none whose bits are inside the span, with a sign that the group does not have
  pub wrong_sign : (A : Generators) (x : Element) → InSpan (list A) (pauli x) → (Generated (list A) (pauli x) → ⊥)
      → ((c : Claiming A x) → Accepted c.found → ⊥) × ((d : Denying A x) → Accepted d.found → ⊥)
  pub only_wrong_sign : (A : Generators) (x : Element) → ((c : Claiming A x) → Accepted c.found → ⊥) → ((d : Denying A x) → Accepted d.found → ⊥)
      → InSpan (list A) (pauli x) × (Generated (list A) (pauli x) → ⊥)
