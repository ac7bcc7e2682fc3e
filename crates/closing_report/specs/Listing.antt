-- The closing listing, as a function of the input: document 01, "The closing listing".
use Rattle.std.specs.Prelude.{List, ◌++◌, map, ℕ}
use Rattle.pauli.specs.Told.{Told, answer, refused}
use Rattle.pauli.specs.Pauli.{Pauli}
use Rattle.pauli.specs.Roll.{read}
use Rattle.pauli_theory.specs.Group.{none}
use Rattle.pauli_theory.specs.Standard.{rank, nonabelian, phase_step}
use Rattle.pauli_theory.specs.Membership.{factorization_of}
use Rattle.pauli_group.specs.WorkArea.{enough}
use Rattle.pauli_group.specs.Calls.{paulis}
use Rattle.closing_report.specs.Lines.{first_line, member_lines, refused_line}
use Rattle.closing_report.specs.InputRolls.{rolls_in}

-- the text for a list of generators and a list of elements; "No promise is made"
unfoldable pub report : List Pauli → List Pauli → List ℕ
report gs es = first_line (rank gs) (phase_step none gs) (nonabelian none gs) ++ member_lines 0 (map (factorization_of none gs) es)

-- "A refusal prints only `refused N at K in roll R`, R 1 or 2"; an answer goes on
unfoldable pub or_refused_in : {A : Type 0} → ℕ → Told A → (A → List ℕ) → List ℕ
or_refused_in roll (answer a) next = next a
or_refused_in roll (refused n k) next = refused_line n k roll

-- what is printed for an input: the listing of its two rolls, or the line of the first refusal
unfoldable pub text_of : List ℕ → List ℕ
text_of input =
    or_refused_in 1 (rolls_in input) λ r. or_refused_in 1 (read r.generators) λ gs. or_refused_in 2 (read r.elements) λ es.
    report (paulis gs) (paulis es)

-- the call: its own 9 comes first, whatever the input; then the text, also that of a refused input, is its result
unfoldable pub listing : List ℕ → ℕ → Told (List ℕ)
listing input words = enough words (answer (text_of input))
