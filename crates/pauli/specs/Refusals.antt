-- What a refusal tells.
use Rattle.std.specs.Prelude.{ℕ, Result, Ok, Err}
use Rattle.pauli.specs.declared.refusal.Reason.{Reason}
use Rattle.pauli.specs.declared.refusal.Reason.TheVariants.{Length, Paulis, Entry, Exponent, Rising, Qubits, Number, Work, Listing, Subgroup, Output, Support, Line, Depth, Claim, Width, Checks, Mark, Marks}
use Rattle.pauli.specs.declared.refusal.Refusal.{Refusal}
use Rattle.pauli.specs.Told.{Told, answer, refused}

-- the table of "Turned back", and the numbers of document 02
abbrev pub number_of : Reason → ℕ
number_of Length = 1
number_of Paulis = 2
number_of Entry = 3
number_of Exponent = 4
number_of Rising = 6
number_of Qubits = 7
number_of Number = 8
number_of Work = 9
number_of Listing = 10
number_of Subgroup = 11
number_of Output = 12
number_of Support = 13
number_of Line = 14
number_of Depth = 15
number_of Claim = 16
number_of Width = 17
number_of Checks = 18
number_of Mark = 19
number_of Marks = 20

-- "A refusal carries its number and its place"
abbrev pub told_refusal : {A : Type 0} → Refusal → Told A
told_refusal r = refused (number_of r.reason) r.place

-- a call tells its answer, seen by f, or its refusal
abbrev pub told_by : {A B : Type 0} → (A → B) → Result A Refusal → Told B
told_by f (Ok a) = answer (f a)
told_by f (Err r) = told_refusal r

-- a call whose answer is a number, or no more than that it passed, tells it as it is
abbrev pub told_of : {A : Type 0} → Result A Refusal → Told A
told_of (Ok a) = answer a
told_of (Err r) = told_refusal r
