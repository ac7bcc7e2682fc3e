-- The call, as a function of the bytes lent.
use Rattle.std.specs.Prelude.{List, map, ℕ, nat_lt, length}
use Rattle.std.proofs.Math.Option.{Option}
use Rattle.pauli.specs.JoinCalls.{read_both, Counts}
use Rattle.pauli.specs.Pauli.{Pauli}
use Rattle.pauli.specs.Told.{Told, answer, refused, refuse_if, and_then, map_told}
use Rattle.pauli_theory.specs.Group.{Promise}
use Rattle.pauli_theory.specs.Membership.{Factorization, factorization_of}
use Rattle.pauli_group.specs.Calls.{paulis}
use Rattle.pauli_group.specs.WorkArea.{enough}
use Rattle.factorizations.specs.Records.{results_bytes}

-- the generators, and the elements that are asked about
pub record Questions : Type 0 where
  pub generators : List Pauli
  pub elements : List Pauli

-- the rolls, "generators before elements" (1 to 7), then the work area (9); no element is numbered, so there is no 8
unfoldable pub questions : List ℕ → List ℕ → ℕ → Told Questions
questions b e words =
    and_then (read_both b e) λ l. enough words (answer (record { generators = paulis l.left; elements = paulis l.right }))

-- how many of each there are
unfoldable pub questions_counts : Questions → Counts
questions_counts q = record { left = length q.generators; right = length q.elements }

-- "Each result equals that of the single call, members and non-members mixed"
unfoldable pub results_of : Promise → Questions → List (Option Factorization)
results_of promise q = map (factorization_of promise q.generators) q.elements

-- "A refused element roll gives the refusal and no results. An empty roll gives none"
unfoldable pub factorizations_call : Promise → List ℕ → List ℕ → ℕ → Told (List (Option Factorization))
factorizations_call promise b e words = map_told (results_of promise) (questions b e words)

-- how many results there are, and how many bytes they take
pub record Totals : Type 0 where
  pub count : ℕ
  pub bytes : ℕ

unfoldable pub totals : List (Option Factorization) → Totals
totals os = record { count = length os; bytes = length (results_bytes os) }

-- what the call tells: the totals, or 12 where the output has no room for all
unfoldable pub told_results : Told (List (Option Factorization)) → List ℕ → Told Totals
told_results (answer os) out = refuse_if (nat_lt (length out) (totals os).bytes) 12 0 (answer (totals os))
told_results (refused n p) out = refused n p
