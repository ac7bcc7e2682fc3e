-- The five numbers of each answer.
use Rattle.std.proofs.Math.Option.{Option, some, none as nothing}
use Rattle.std.specs.Prelude.{Bool, List, ℕ, length, Option as CodeOption, Some, None}
use Rattle.pauli.specs.Told.{Told, answer, refused}
use Rattle.pauli.specs.JoinCalls.{Looked, Made, Stretch}
use Rattle.pauli_theory.specs.Order.{Order, equal, less, greater, no_order}
use Rattle.pauli_group.specs.Answers.{yes_number}
use Rattle.pauli_group.specs.Calls.{Factored}
use Rattle.factorizations.specs.Calls.{Totals}
use Rattle.sizes.specs.Calls.{Joined}
use Rattle.capi.specs.declared.answer.Answer.{Answer}

-- "A refusal carries its number and its place"; all else is 0
abbrev pub code_refusal : ℕ → ℕ → Answer
code_refusal n p = record { refusal = n; place = p; first = 0; second = 0; third = 0 }

-- an answer has the refusal number 0
abbrev pub code_values : ℕ → ℕ → ℕ → Answer
code_values first second third = record { refusal = 0; place = 0; first = first; second = second; third = third }

-- a count, a length in bytes, a rank, a log2 size; 1 for yes and 0 for no
abbrev pub code_number : Told ℕ → Answer
code_number (answer n) = code_values n 0 0
code_number (refused n p) = code_refusal n p

-- nothing but that it was done
abbrev pub code_done : Told Unit → Answer
code_done (answer done) = code_values 0 0 0
code_done (refused n p) = code_refusal n p

-- 1 for accepted, 0 for not accepted
abbrev pub code_accepted : Told Bool → Answer
code_accepted (answer accepted) = code_values (yes_number accepted) 0 0
code_accepted (refused n p) = code_refusal n p

-- the length in bytes of a product's roll, and whether its factors anticommute
abbrev pub code_product : Told Made → Answer
code_product (answer m) = code_values m.bytes (yes_number m.anticommute) 0
code_product (refused n p) = code_refusal n p

-- how many phases there are: 1 (0), 2 (0,2) or 4 (0,1,2,3)
abbrev pub code_phases : Told (List ℕ) → Answer
code_phases (answer phases) = code_values (length phases) 0 0
code_phases (refused n p) = code_refusal n p

-- "its exponent value and its x and z counts, or the refusal"
abbrev pub code_looked : Told Looked → Answer
code_looked (answer e) = code_values e.exponent e.xcount e.zcount
code_looked (refused n p) = code_refusal n p

-- the roll, 0 for the left one or 1 for the right one; the first byte and the length of the stretch
abbrev pub code_body : Told Stretch → Answer
code_body (answer s) = code_values s.roll s.start s.size
code_body (refused n p) = code_refusal n p

-- 1, "their count and e"; or 0: "\"Not a member\" is no refusal"
abbrev pub code_member : Told (Option Factored) → Answer
code_member (answer (some f)) = code_values 1 f.count f.exponent
code_member (answer nothing) = code_values 0 0 0
code_member (refused n p) = code_refusal n p

-- how many results there are, and how many bytes they take
abbrev pub code_results : Told Totals → Answer
code_results (answer t) = code_values t.count t.bytes 0
code_results (refused n p) = code_refusal n p

-- the joined roll's length in bytes, its count and its number of distinct qubits
abbrev pub code_sizes : Told Joined → Answer
code_sizes (answer s) = code_values s.bytes s.count s.qubits
code_sizes (refused n p) = code_refusal n p

abbrev pub order_number : Order → ℕ
order_number equal = 0
order_number less = 1
order_number greater = 2
order_number no_order = 3

abbrev pub code_order : Told Order → Answer
code_order (answer o) = code_values (order_number o) 0 0
code_order (refused n p) = code_refusal n p

-- 1 and the rank; or 0: the matrix does not fit the words lent
abbrev pub code_form : CodeOption ℕ → Answer
code_form (Some n) = code_values 1 n 0
code_form None = code_values 0 0 0
