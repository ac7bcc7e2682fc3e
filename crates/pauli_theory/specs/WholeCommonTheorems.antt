-- What is proved of the whole common part, for every two lists of Paulis: document 02, L7.
use Rattle.std.specs.Prelude.{◌≡◌, List, [], ◌∷◌, ◌++◌, ◌+◌, ◌≤◌, ◌<◌, min, length}
use Rattle.std.proofs.Math.Option.{some}
use Rattle.pauli.specs.Roll.{most_paulis}
use Rattle.pauli.specs.Support.{All}
use Rattle.pauli.specs.Pauli.{Pauli, phase}
use Rattle.pauli.specs.PauliTheorems.{PauliOn}
use Rattle.pauli_theory.specs.Group.{Generated, Inside, SameGroup, none}
use Rattle.pauli_theory.specs.Standard.{support_of, rank, standard}
use Rattle.pauli_theory.specs.Membership.{factorization_of}
use Rattle.pauli_theory.specs.WholeCommon.{whole_part, whole_common}
use Rattle.pauli_theory.specs.Marked.{on_x, on_z, on_xz, both_x, both_z, next_x, minus_next_x}

-- neither group holds the other
pub record Apart (gs hs : List Pauli) : Type 0 where
  pub left : Inside gs hs → ⊥
  pub right : Inside hs gs → ⊥

-- "the common part is every element that is a member of both, and nothing else"
pub record WholeCommonLaw (gs hs : List Pauli) : Type 0 where
  pub in_left : Inside (whole_common gs hs) gs
  pub in_right : Inside (whole_common gs hs) hs
  pub whole : (p : Pauli) → Generated gs p → Generated hs p → Generated (whole_common gs hs) p
  -- "otherwise the smaller list as before"
  pub inside_left : Inside gs hs → whole_common gs hs ≡ gs
  pub inside_right : Inside hs gs → (Inside gs hs → ⊥) → whole_common gs hs ≡ hs
  -- "Where neither group holds the other it comes back as standard generators": they are their own, and the same for the same groups
  pub else_standard : Apart gs hs → whole_common gs hs ≡ standard (whole_part gs hs)
  pub own_standard : Apart gs hs → standard (whole_common gs hs) ≡ whole_common gs hs
  pub same_list : (ks ls : List Pauli) → SameGroup gs ks → SameGroup hs ls → Apart gs hs → whole_common gs hs ≡ whole_common ks ls
  -- its qubits are among those of either list
  pub on_left : All (PauliOn (support_of gs)) (whole_common gs hs)
  pub on_right : All (PauliOn (support_of hs)) (whole_common gs hs)
  pub on_joined : All (PauliOn (support_of (gs ++ hs))) (whole_common gs hs)
  -- it keeps within the limits of a roll, if the two lists joined do
  pub count : length gs + length hs ≤ most_paulis → length (whole_common gs hs) ≤ most_paulis
  -- the standard generators are at most one more than the lesser rank, with exponents 0 to 3, and made from a list of at most 68
  pub part_ranks : length (standard (whole_part gs hs)) ≤ min (rank gs) (rank hs) + 1
  pub part_values : All (λ p. p.e < 4) (standard (whole_part gs hs))
  pub part_few : length gs + length hs ≤ most_paulis → length (whole_part gs hs) ≤ 68

-- "Two crews measured X0, X1 with opposite signs on both. Their product X0X1 belongs to both groups, and the report left it out." And
-- other pairs of lists
pub record WholeMarked : Type 0 where
  pub crews : whole_common (on_x 0 ∷ next_x ∷ []) (on_x 2 ∷ minus_next_x ∷ []) ≡ both_x ∷ []
  pub crews_have : factorization_of none (whole_common (on_x 0 ∷ next_x ∷ []) (on_x 2 ∷ minus_next_x ∷ [])) both_x ≡ some (record { indexes = 1; exponent = 0 })
  -- <X,Z> and <iX,iZ>: XZ, which is of order four
  pub product : whole_common (on_x 0 ∷ on_z 0 ∷ []) (on_x 1 ∷ on_z 1 ∷ []) ≡ on_xz 0 ∷ []
  -- <X> and <Z>, <X> and <-X>: I
  pub apart : whole_common (on_x 0 ∷ []) (on_z 0 ∷ []) ≡ phase 0 ∷ []
  pub signs : whole_common (on_x 0 ∷ []) (on_x 2 ∷ []) ≡ phase 0 ∷ []
  -- <XX,ZZ> and <XX>: the smaller list as it stands
  pub right_inside : whole_common (both_x ∷ both_z ∷ []) (both_x ∷ []) ≡ both_x ∷ []
  pub left_inside : whole_common (both_x ∷ []) (both_x ∷ both_z ∷ []) ≡ both_x ∷ []
  -- <XX,ZZ> and <XX,X1>: XX
  pub overlap : whole_common (both_x ∷ both_z ∷ []) (both_x ∷ next_x ∷ []) ≡ both_x ∷ []
  -- <X,Z> and <-X,iI>: X, and -I
  pub powers : whole_common (on_x 0 ∷ on_z 0 ∷ []) (on_x 2 ∷ phase 1 ∷ []) ≡ on_x 0 ∷ phase 2 ∷ []
