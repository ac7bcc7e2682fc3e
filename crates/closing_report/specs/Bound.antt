-- How long the text can be, so that a program can lend an output that is never too short.
use Rattle.std.specs.Prelude.{◌≡◌, List, ℕ, ◌≤◌, length, take, Result}
use Rattle.pauli.specs.Told.{answer}
use Rattle.pauli_group.specs.WorkArea.{work_words}
use Rattle.closing_report.specs.Contract.{ReportCall}
use Rattle.closing_report.specs.Listing.{text_of}
use Rattle.pauli.specs.declared.refusal.Refusal.{Refusal}
use Rattle.pauli.specs.Refusals.{told_of}

-- a first line of 36 bytes and 128 lines of 421, in which all of 128 indexes stand
abbrev pub most_text : ℕ
most_text = 53924

-- no input's text is longer
unfoldable pub AlwaysFits : Type 0
AlwaysFits = (input : List ℕ) → length (text_of input) ≤ most_text

-- the call tells the length of the text, and the text stands at the front of the output
pub record Printed (input : List ℕ) (r : Result ℕ Refusal) (out' : List ℕ) : Type 0 where
  pub size : ℕ
  pub told : told_of r ≡ answer size
  pub room : size ≤ length out'
  pub text : take size out' ≡ text_of input

-- with a work area of 4,096 words or more and an output of `most_text` bytes or more the call is never refused
unfoldable pub NeverRefused : Type 0
NeverRefused =
    (input work out : List ℕ) (r : Result ℕ Refusal) (work' out' : List ℕ) → ReportCall input work out r work' out'
    → work_words ≤ length work → most_text ≤ length out → Printed input r out'
