-- The calls that check claims, as functions of what they are lent: document 02, L10.
use Rattle.std.specs.Prelude.{Bool, not, List, ℕ, slice_index_or}
use Rattle.pauli.specs.Condense.{nothing}
use Rattle.pauli.specs.JoinCalls.{read_both, within}
use Rattle.pauli.specs.Pauli.{Pauli}
use Rattle.pauli.specs.Roll.{read}
use Rattle.pauli.specs.Sets.{pauli_of}
use Rattle.pauli.specs.Told.{Told, answer, refuse_if, and_then, map_told}
use Rattle.pauli_theory.specs.Claims.{Claim, well_formed, member_accepted, absence_accepted}
use Rattle.pauli_theory.specs.Group.{Promise}
use Rattle.pauli_group.specs.Calls.{paulis, Question}
use Rattle.pauli_group.specs.WorkArea.{enough}

-- ---- a claim of membership

-- "16 for indexes not rising or past the list, or an exponent above 3"
unfoldable pub formed : {A : Type 0} → List Pauli → Claim → Told A → Told A
formed gs c next = refuse_if (not (well_formed gs c)) 16 0 next

-- the rolls, generators before elements (1 to 7), the element's number (8), the claim's form, "checked right after 8", the work area (9)
unfoldable pub member_checked : List ℕ → List ℕ → ℕ → Claim → ℕ → Told Question
member_checked b e n c words =
    and_then (read_both b e) λ l. within n l.right (formed (paulis l.left) c (enough words
    (answer (record { generators = paulis l.left; element = pauli_of (slice_index_or l.right n nothing) }))))

-- whether it is accepted; "a false one [promise] is not refused"
unfoldable pub member_call : Promise → List ℕ → List ℕ → ℕ → Claim → ℕ → Told Bool
member_call promise b e n c words = map_told (λ q. member_accepted promise q.generators q.element c) (member_checked b e n c words)

-- ---- a claim of absence

-- the generators, the element, and the Pauli that is to show that it is none of their group
pub record Absence : Type 0 where
  pub generators : List Pauli
  pub element : Pauli
  pub witness : Pauli

-- "a Pauli, by a roll checked after the element's and a number in it": the rolls, each counted by itself (1 to 7), then the element's
-- number and the Pauli's (8); "this claim needs no work area and never gives 9"
unfoldable pub absence_checked : List ℕ → List ℕ → ℕ → List ℕ → ℕ → Told Absence
absence_checked b e n ws m =
    and_then (read_both b e) λ l. and_then (read ws) λ sent. within n l.right (within m sent
    (answer (record { generators = paulis l.left; element = pauli_of (slice_index_or l.right n nothing); witness = pauli_of (slice_index_or sent m nothing) })))

-- whether it is accepted
unfoldable pub absence_call : List ℕ → List ℕ → ℕ → List ℕ → ℕ → Told Bool
absence_call b e n ws m = map_told (λ a. absence_accepted a.generators a.element a.witness) (absence_checked b e n ws m)
