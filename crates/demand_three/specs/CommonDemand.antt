-- The common part of two lists, sentence by sentence of its request: document 02, L7. Of a call nothing is known but what its `ensures`
-- says, whatever it was lent, answered and left. "Abelian promises of both lists are set aside in this operation, so that it is right for
-- every pair of lists": its contract speaks of none, so all this holds with any that are handed to it, be they true or false. The other
-- words are those of DemandThree.
use Rattle.std.specs.Prelude.{◌≡◌, List, [], ◌∷◌, map, ℕ, take, Result}
use Rattle.pauli.specs.Pauli.{normal}
use Rattle.pauli.specs.Refusals.{told_by, told_of}
use Rattle.pauli.specs.Roll.{Sparse, read}
use Rattle.pauli.specs.Told.{answer}
use Rattle.pauli.specs.declared.refusal.Refusal.{Refusal}
use Rattle.pauli_theory.specs.Group.{Inside, SameGroup}
use Rattle.pauli_theory.specs.Marked.{on_x, both_x, next_x, minus_next_x}
use Rattle.pauli_theory.specs.Order.{no_order}
use Rattle.pauli_theory.specs.WholeCommonTheorems.{Apart}
use Rattle.pauli_group.specs.Answers.{order_of}
use Rattle.pauli_group.specs.CallContracts.{CommonCall}
use Rattle.demand_three.specs.DemandThree.{Generators, list, Element, pauli, Standardized, Comparing, Member, Limits, if_area, if_room}

-- the call for the common part: A left, B right
pub record Meeting (A B : Generators) : Type 0 where
  pub work : List ℕ
  pub out : List ℕ
  pub wrote : Result ℕ Refusal
  pub work' : List ℕ
  pub out' : List ℕ
  pub promised : CommonCall A.roll B.roll work out wrote work' out'

-- a call for the common part of A and B told a size, and C's roll is the bytes that it left at the front of its output, so many
pub record CommonList (A B C : Generators) : Type 0 where
  pub call : Meeting A B
  pub size : ℕ
  pub told : told_of call.wrote ≡ answer size
  pub bytes : C.roll ≡ take size call.out'

pub record CommonDemand : Type 0 where
  -- none of 1 to 7 refuses the roll: so it is a list like any other
  pub accepted : (A B : Generators) (c : Meeting A B) (n : ℕ) → told_of c.wrote ≡ answer n → (ps : List Sparse) × (read (take n c.out') ≡ answer ps)
  -- "the common part is every element that is a member of both, and nothing else": each asked with no promise or a true one
  pub whole : (A B C : Generators) → CommonList A B C → (x : Element) → Member A x → Member B x → Member C x
  pub in_left : (A B C : Generators) → CommonList A B C → (x : Element) → Member C x → Member A x
  pub in_right : (A B C : Generators) → CommonList A B C → (x : Element) → Member C x → Member B x
  -- "Where neither group holds the other it comes back as standard generators": as the bytes that these are for any list of its group
  pub else_standard : (A B C D : Generators) → CommonList A B C → Apart (list A) (list B) → SameGroup (list D) (list C)
      → (d : Standardized D) (m : ℕ) → told_of d.wrote ≡ answer m → take m d.out' ≡ C.roll
  -- so it is where comparison tells no order
  pub apart : (A B : Generators) (o : Comparing A B) → told_by order_of o.found ≡ answer no_order → Apart (list A) (list B)
  -- "otherwise the smaller list as before": its Paulis in its order, exponents by value
  pub left_inside : (A B C : Generators) → CommonList A B C → Inside (list A) (list B) → list C ≡ map normal (list A)
  pub right_inside : (A B C : Generators) → CommonList A B C → Inside (list B) (list A) → (Inside (list A) (list B) → ⊥)
      → list C ≡ map normal (list B)
  -- "Two crews measured X0, X1 with opposite signs on both. Their product X0X1 belongs to both groups, and the report left it out."
  pub crews : (A B C : Generators) → CommonList A B C → list A ≡ on_x 0 ∷ next_x ∷ [] → list B ≡ on_x 2 ∷ minus_next_x ∷ []
      → (x : Element) → pauli x ≡ both_x → Member C x
  -- within the limits of demand 3 only a short work area (9) or output (12) is refused; else all calls on A and B tell the same
  pub told : (A B : Generators) → Limits A B → (n : ℕ) × ((c : Meeting A B) → told_of c.wrote ≡ if_area c.work (if_room c.out n n))
