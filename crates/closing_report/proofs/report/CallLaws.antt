-- Laws for the call: what the listing is after each check, and the contract from what is then written.
use mathlib.Core.Path.{◌≡◌, ap, ◌∙◌}
use mathlib.Core.List.{List, ◌++◌, map}
use mathlib.Core.Option.{Option}
use Prim.Native.Nat.{ℕ, ◌≤◌}
use lib.ListN.{length, take, drop}
use Rattle.pauli.specs.declared.refusal.Refusal.{Refusal}
use Rattle.pauli.specs.Refusals.{told_refusal, told_of}
use Rattle.pauli.specs.Condense.{list_of}
use Rattle.pauli.specs.Pauli.{Pauli}
use Rattle.pauli.specs.Roll.{count_of}
use Rattle.pauli.specs.Told.{Told, answer, refused}
use Rattle.pauli.specs.Writing.{put_bytes, told_bytes, left_in}
use Rattle.pauli.proofs.joined.JoinLaws.{accepted, count_refused}
use Rattle.pauli_theory.specs.Group.{none}
use Rattle.pauli_theory.specs.Membership.{Factorization, factorization_of}
use Rattle.pauli_theory.specs.Standard.{rank, nonabelian, phase_step}
use Rattle.pauli_group.specs.WorkArea.{work_words, cleared, area_after}
use Rattle.pauli_group.specs.Calls.{paulis}
use Rattle.pauli_group.proofs.checks.Room.{room_told, room_enough, room_refused}
use Rattle.pauli_group.proofs.area.AreaLaws.{cleared_part}
use Rattle.closing_report.specs.Contract.{ReportCall}
use Rattle.closing_report.specs.Lines.{first_line, member_lines, refused_line}
use Rattle.closing_report.specs.InputRolls.{Rolls, rolls_in}
use Rattle.closing_report.specs.Listing.{report, or_refused_in, text_of, listing}
use Rattle.factorizations.proofs.records.PutLaws.{text_told, text_left}
use Rattle.std.proofs.Common.{Err, Result}

module _ (input : List ℕ) where
  pub input_refused : (n k : ℕ) → rolls_in input ≡ refused n k → text_of input ≡ refused_line n k 1
  unfolding text_of or_refused_in
  input_refused n k h = rw h

  module _ (r : Rolls) (e : rolls_in input ≡ answer r) where
    pub generators_refused : (n k : ℕ) → count_of r.generators ≡ refused n k → text_of input ≡ refused_line n k 1
    unfolding text_of or_refused_in
    generators_refused n k h = rw (e, count_refused r.generators n k h)

    module _ (n : ℕ) (g : count_of r.generators ≡ answer n) where
      pub elements_refused : (m k : ℕ) → count_of r.elements ≡ refused m k → text_of input ≡ refused_line m k 2
      unfolding text_of or_refused_in
      elements_refused m k h = rw (e, (accepted r.generators n g).0, count_refused r.elements m k h)

      pub both_accepted : (m : ℕ) → count_of r.elements ≡ answer m
          → text_of input ≡ report (paulis (list_of r.generators)) (paulis (list_of r.elements))
      unfolding text_of or_refused_in
      both_accepted m h = rw (e, (accepted r.generators n g).0, (accepted r.elements m h).0)

  -- a text that is known to be the input's is written, or there is no room for it
  pub text_written : {text : List ℕ} (out : List ℕ) → text_of input ≡ text → {told : Told ℕ} {u : List ℕ}
      → told ≡ told_bytes (answer text) out → u ≡ left_in (answer text) out
      → (told ≡ told_bytes (answer (text_of input)) out) × (u ≡ left_in (answer (text_of input)) out)
  text_written out e t w = rw e (t, w)

  module _ (words : ℕ) where
    pub work_refused : {m p : ℕ} → refused m p ≡ room_told words → listing input words ≡ refused m p
    unfolding listing
    work_refused h = room_refused words _ h

    pub work_enough : work_words ≤ words → listing input words ≡ answer (text_of input)
    unfolding listing
    work_enough h = room_enough words _ h

-- the text that is written for a group and its results
pub report_text : (gs es : List Pauli) (rank' step clash : ℕ) (os : List (Option Factorization))
    → rank' ≡ rank gs → step ≡ phase_step none gs → clash ≡ nonabelian none gs → os ≡ map (factorization_of none gs) es
    → first_line rank' step clash ++ member_lines 0 os ≡ report gs es
unfolding report
report_text gs es rank' step clash os p q r s = rw (p, q, r, s)

module _ (input work out : List ℕ) where
  -- the work area is too short
  pub call_short : (q : Refusal) → listing input (length work) ≡ told_refusal q → ReportCall input work out (Err q) work out
  unfolding told_bytes left_in area_after
  call_short q h = record { told = rw h; left = rw h; area = rw h }

  -- the text is written, or there is no room for it, and the first words of the area are cleared
  pub call_done : work_words ≤ length work → {r : Result ℕ Refusal} {x u : List ℕ} → told_of r ≡ told_bytes (answer (text_of input)) out
      → u ≡ left_in (answer (text_of input)) out → x ≡ cleared (take work_words work)
      → ReportCall input work out r (x ++ drop work_words work) u
  unfolding area_after
  call_done room t w c =
      let h = work_enough input (length work) room in
      record { told = rw h t; left = rw h w; area = rw h (ap (◌++ drop work_words work) c ∙ cleared_part work room) }

-- with a work area that is large enough, a text that the output has room for is told and put, and the area is cleared
module _ {input work out : List ℕ} {r : Result ℕ Refusal} {work' out' : List ℕ} (c : ReportCall input work out r work' out')
    (words : work_words ≤ length work) (text : List ℕ) (is : text_of input ≡ text) (room : length text ≤ length out) where
  listed : listing input (length work) ≡ answer text
  listed = work_enough input (length work) words ∙ ap answer is

  pub call_told : told_of r ≡ answer (length text)
  call_told = c.told ∙ ap (λ (t : Told (List ℕ)). told_bytes t out) listed ∙ text_told text out room

  pub call_put : out' ≡ put_bytes out 0 text
  call_put = c.left ∙ ap (λ (t : Told (List ℕ)). left_in t out) listed ∙ text_left text out room

  pub call_cleared : work' ≡ cleared work
  unfolding area_after
  call_cleared = c.area ∙ rw listed
