-- How long the text can be.
use mathlib.Core.Path.{◌≡◌, refl, sym, ap, ◌∙◌}
use mathlib.Core.List.{List, [], ◌∷◌, map}
use mathlib.Core.Option.{Option, some, none}
use Prim.Native.Nat.{ℕ, zero, suc, ◌+◌, ◌*◌, ◌/◌, ◌%◌, ◌^◌, ◌≤◌, ◌<◌}
use native.Mathlib.Nat.{lt_of_lt_of_le}
use native.Mathlib.Omega.{arith}
use lib.ListN.{length, take, drop, length-append, length-map, length-take}
use lib.Pow.{pow_mono}
use lib.Seq.{take_at}
use Rattle.pauli.specs.Pauli.{Pauli, cons_if, select}
use Rattle.pauli.specs.Roll.{most_paulis, Sparse, read, count_of}
use Rattle.pauli.specs.Support.{All}
use Rattle.pauli.specs.Sets.{members, pauli_of}
use Rattle.pauli.specs.Told.{Told, answer, refused, map_told}
use Rattle.pauli.specs.Writing.{put_bytes}
use Rattle.pauli.proofs.joined.JoinLaws.{accepted_few}
use Rattle.pauli_theory.specs.Group.{none as no_promise}
use Rattle.pauli_theory.specs.Membership.{Factorization, factorization_of}
use Rattle.pauli_theory.specs.Standard.{if_zero, rank, nonabelian, phase_step}
use Rattle.pauli_theory.proofs.ByProducts.{rank_le}
use Rattle.pauli_theory.proofs.OverPlaces.{count_from, up_to}
use Rattle.pauli_group.specs.Calls.{paulis}
use Rattle.pauli_group.proofs.factorization.QuestionLaws.{indexes_below}
use Rattle.closing_report.specs.Bound.{most_text, AlwaysFits, NeverRefused}
use Rattle.closing_report.specs.Decimal.{ascii, digits, digits_up_to}
use Rattle.closing_report.specs.Lines.{labelled, line_feed, phases_text, abelian_text, indexes_text, first_line, member_line, member_lines, refused_line}
use Rattle.closing_report.specs.InputRolls.{rolls_in}
use Rattle.closing_report.specs.Listing.{report, or_refused_in, text_of}
use Rattle.factorizations.specs.Stored.{Storable}
use Rattle.factorizations.proofs.stored.ResultLaws.{storable}
use Rattle.closing_report.proofs.text.DecimalLaws.{few_digits}
use Rattle.pauli_theory.proofs.IndexSets.{members_up_to}
use Rattle.closing_report.proofs.report.CallLaws.{call_told, call_put}
use Rattle.pauli.proofs.roll.RefusalLaws.{OfRoll, of_test, of_read}

-- ---- the lines

phases_short : (step : ℕ) → length (phases_text step) ≤ 7
unfolding phases_text ascii
phases_short zero = omega arith
phases_short (suc zero) = omega arith
phases_short (suc (suc zero)) = omega arith
phases_short (suc (suc (suc n))) = omega arith

abelian_short : (clash : ℕ) → length (abelian_text clash) ≤ 3
unfolding abelian_text if_zero ascii
abelian_short zero = omega arith
abelian_short (suc n) = omega arith

first_short : (rank step clash : ℕ) → rank < 1000 → length (first_line rank step clash) ≤ 36
unfolding first_line labelled ascii line_feed
first_short rank step clash h =
    simp length-append (omega (arith, few_digits 2 rank h, phases_short step, abelian_short clash))

refused_short : (n k r : ℕ) → n < 10 → k < 1000 → r < 10 → length (refused_line n k r) ≤ 36
unfolding refused_line labelled ascii line_feed
refused_short n k r h l m =
    simp length-append (omega (arith, few_digits 0 n h, few_digits 2 k l, few_digits 0 r m))

-- some of the indexes of a list are no longer than all
first_or_not : (d q : ℕ) (part whole : List ℕ) → length (indexes_text part) ≤ length (indexes_text whole)
    → length (indexes_text (cons_if d q part)) ≤ length (indexes_text (q ∷ whole))
unfolding cons_if indexes_text
first_or_not zero q part whole h = omega (arith, length-append (labelled (ascii " ") q) (indexes_text whole))
first_or_not (suc d) q part whole h =
    omega (arith, length-append (labelled (ascii " ") q) (indexes_text whole), length-append (labelled (ascii " ") q) (indexes_text part))

some_short : (s : ℕ) (qs : List ℕ) → length (indexes_text (select s qs)) ≤ length (indexes_text qs)
unfolding select
some_short s [] = omega arith
some_short s (q ∷ qs) = first_or_not (s % 2) q (select (s / 2) qs) qs (some_short (s / 2) qs)

all_indexes : length (indexes_text (up_to 128)) ≡ 402
unfolding indexes_text up_to count_from labelled ascii digits digits_up_to
all_indexes = refl

indexes_short : (s : ℕ) → s < 2 ^ 128 → length (indexes_text (members s)) ≤ 402
indexes_short s h = rw (members_up_to 128 s h) (omega (arith, some_short s (up_to 128), all_indexes))

-- an answer of membership for a list of at most 128
abbrev Answered : Option Factorization → Type 0
Answered none = Unit {0}
Answered (some f) = (f.indexes < 2 ^ 128) × Storable (some f)

member_short : (i : ℕ) → i < 1000 → (o : Option Factorization) → Answered o → length (member_line i o) ≤ 421
unfolding member_line labelled ascii line_feed
member_short i h none a = simp length-append (omega (arith, few_digits 2 i h))
member_short i h (some f) a =
    simp length-append (omega (arith, few_digits 2 i h, indexes_short f.indexes a.0, few_digits 0 f.exponent (omega arith)))

lines_short : (i : ℕ) (os : List (Option Factorization)) → i + length os ≤ 128 → All Answered os → length (member_lines i os) ≤ 421 * length os
unfolding member_lines
lines_short i [] h a = omega arith
lines_short i (o ∷ os) h a =
    omega (arith, length-append (member_line i o) (member_lines (suc i) os), member_short i (omega arith) o a.0, lines_short (suc i) os (omega arith) a.1)

-- ---- what membership answers

module _ (gs : List Pauli) (few : length gs ≤ 128) where
  answered : (p : Pauli) (o : Option Factorization) → factorization_of no_promise gs p ≡ o → Answered o
  answered p none e = tt
  answered p (some f) e = (lt_of_lt_of_le (indexes_below no_promise gs p f (sym e)) (pow_mono few), storable no_promise gs p (some f) e)

  all_answered : (es : List Pauli) → All Answered (map (factorization_of no_promise gs) es)
  all_answered [] = tt
  all_answered (p ∷ es) = (answered p (factorization_of no_promise gs p) refl, all_answered es)

  report_short : (es : List Pauli) → length es ≤ 128 → length (report gs es) ≤ most_text
  unfolding report
  report_short es h =
      let size = length-map es (factorization_of no_promise gs) in
      let lines = lines_short 0 (map (factorization_of no_promise gs) es) (omega arith) (all_answered es) in
      let head = first_short (rank gs) (phase_step no_promise gs) (nonabelian no_promise gs) (omega (arith, rank_le gs)) in
      simp length-append (omega arith)

-- ---- the listing

or_refused : {A : Type 0} (roll : ℕ) (t : Told A) (next : A → List ℕ) → roll < 10 → OfRoll t
    → ((a : A) → t ≡ answer a → length (next a) ≤ most_text) → length (or_refused_in roll t next) ≤ most_text
unfolding or_refused_in OfRoll
or_refused roll (answer a) next h o k = k a refl
or_refused roll (refused n p) next h o k = omega (arith, refused_short n p roll (omega arith) (omega arith) h)

of_rolls : (input : List ℕ) → OfRoll (rolls_in input)
unfolding rolls_in OfRoll
of_rolls input =
    of_test _ 1 0 _ (omega arith) (omega arith) λ _. of_test _ 1 0 _ (omega arith) (omega arith) λ _.
    of_test _ 1 0 _ (omega arith) (omega arith) λ _. tt

read_few : (b : List ℕ) (ps : List Sparse) → read b ≡ answer ps → length (paulis ps) ≤ 128
unfolding paulis count_of map_told most_paulis
read_few b ps e = omega (arith, accepted_few b (length ps) (ap (map_told length) e), length-map ps pauli_of)

pub always_fits : AlwaysFits
unfolding AlwaysFits text_of
always_fits input =
    or_refused 1 (rolls_in input) _ (omega arith) (of_rolls input) λ r _.
    or_refused 1 (read r.generators) _ (omega arith) (of_read r.generators) λ gs e.
    or_refused 2 (read r.elements) _ (omega arith) (of_read r.elements) λ es f.
    report_short (paulis gs) (read_few _ gs e) (paulis es) (read_few _ es f)

text_front : (text out : List ℕ) → take (length text) (put_bytes out 0 text) ≡ text
unfolding put_bytes
text_front text out = take_at text (drop (0 + length text) out) (length text) refl

pub never_refused : NeverRefused
unfolding NeverRefused AlwaysFits
never_refused input work out r work' out' c h l =
    let text = text_of input in
    let fits : length text ≤ length out = omega (arith, always_fits input) in
    let front : take (length text) out' ≡ text
    = ap (take (length text)) (call_put c h text refl fits) ∙ text_front text out in
    record {
      size = length text;
      told = call_told c h text refl fits;
      room = omega (arith, length-take (length text) out', ap length front);
      text = front;
    }
