-- A list that a call has worked out, in the work area, before it is written or kept.
use Rattle.std.specs.Prelude.{◌≡◌, ℕ, ◌≤◌, List, map, length}
use Rattle.pauli.specs.Condense.{condensed}
use Rattle.pauli.specs.Pauli.{Pauli}
use Rattle.pauli.specs.PauliTheorems.{PauliOn}
use Rattle.pauli.specs.Signed.{list_in}
use Rattle.pauli.specs.Support.{All, Rising}
use Rattle.pauli_group.specs.Inner.Area.{further_at}
use Rattle.pauli_group.specs.declared.common.Common.{Common}
use Rattle.pauli_group.specs.declared.common.Common.TheVariants.{Left, Right, Further}

-- the list ps, over the places of qs, is the further list of the area x: n Paulis
pub record FurtherHas (qs : List ℕ) (ps : List Pauli) (x : List ℕ) (n : ℕ) : Type 0 where
  pub rises : Rising 0 qs
  pub places : length qs ≤ 128
  pub few : n ≤ 132
  pub on : All (PauliOn qs) ps
  pub list : list_in x further_at n ≡ map (condensed qs) ps

-- so is some list
pub record SomeFurther (qs x : List ℕ) (n : ℕ) : Type 0 where
  pub list : List Pauli
  pub has : FurtherHas qs list x n

-- the list ps is the left list gs, the right list hs, or the further list of the area x, as the code tells
abbrev pub CommonIs : List Pauli → List Pauli → List Pauli → List ℕ → List ℕ → Common → Type 0
CommonIs gs hs ps qs x Left = ps ≡ gs
CommonIs gs hs ps qs x Right = ps ≡ hs
CommonIs gs hs ps qs x (Further n) = FurtherHas qs ps x n

-- so is some list
pub record SomeCommon (gs hs : List Pauli) (qs x : List ℕ) (part : Common) : Type 0 where
  pub list : List Pauli
  pub is : CommonIs gs hs list qs x part
