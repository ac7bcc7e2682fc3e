-- The call on a line against the calls made singly.
use Rattle.std.proofs.Common.{◌≡◌, ℕ, zero, suc, ◌+◌, ◌≤◌, Bool, true, false, not, if◌then◌else◌, ltb, le-ltb, List, [], ◌∷◌, map, length, take, sym, refl, ap, ◌∙◌, subst, arith, Result, true≢false}
use Rattle.std.proofs.lemmas.Bool.{and_parts}
use Rattle.std.specs.Prelude.{◌==◌}
use Rattle.pauli.specs.Condense.{list_of}
use Rattle.pauli.specs.JoinCalls.{Lists, read_both, few_qubits, joined_of, join_of}
use Rattle.pauli.specs.Pauli.{Pauli, normal}
use Rattle.pauli.specs.Refusals.{told_of}
use Rattle.pauli.specs.Roll.{most_paulis, Sparse, read, write, by_value}
use Rattle.pauli.specs.Support.{most_qubits}
use Rattle.pauli.specs.Told.{Told, answer, refused, refuse_if, and_then, map_told}
use Rattle.pauli.specs.Writing.{told_bytes, left_in}
use Rattle.pauli.specs.declared.refusal.Refusal.{Refusal}
use Rattle.pauli.proofs.join.JoinedLists.{value_within}
use Rattle.pauli.proofs.join.ReadBack.{put_front}
use Rattle.pauli.proofs.roll.Limits.{numbers_bound, within_sized}
use Rattle.pauli.proofs.roll.RollLaws.{answer_parts, parts_count, length_encode}
use Rattle.pauli.proofs.roll.Told.{refused_none, test_passed, answered, map_answer}
use Rattle.pauli_theory.specs.Group.{none}
use Rattle.pauli_theory.specs.Modulo.{try_quotient}
use Rattle.pauli_group.specs.Calls.{paulis, list_bytes, Pair, two_lists, quotient_bytes, quotient_call, common_bytes, common_call}
use Rattle.pauli_group.specs.WorkArea.{work_words, enough}
use Rattle.combined_lists.specs.Combining.{all_read, checked_line, single_call, as_written, line_bytes, combine_call}
use Rattle.combined_lists.specs.CombineTheorems.{largest_roll, bytes_told, SingleCall, roll_in, MadeSingly, has_call, first_letter, Combined, CombineLaw}
use Rattle.combined_lists.specs.Line.{Sign, quotient, common, joined, Tree, letter, parens, operation, all_sent}
use Rattle.combined_lists.specs.LineCall.{line_told, sent_of}
use Rattle.combined_lists.specs.Work.{value_of}
use Rattle.combined_lists.specs.Inner.Slots.{on_lists}
use Rattle.combined_lists.proofs.combine.BytesLaws.{Reads, as_written_is, reads_written, call_told, call_reads, Alike, answers, refusals, Given, value_alike, lists_bytes}
use Rattle.combined_lists.proofs.line.LineLaws.{line_law}
use Rattle.combined_lists.proofs.work.WorkLaws.{run_law}

-- ---- no roll is longer than the longest

-- a list within the limits, written
written_short : (b : List ℕ) (ps : List Sparse) → read b ≡ answer ps → length (write ps) ≤ largest_roll
unfolding write most_paulis most_qubits
written_short b ps e =
    let parts = answer_parts b ps e in
    let count : length ps ≤ most_paulis = omega (arith, parts.few, parts_count b _ _ ps parts) in
    let w = value_within ps count parts.sets parts.qubits in
    omega (arith, length_encode (map by_value ps), numbers_bound most_qubits (map by_value ps) (within_sized (map by_value ps) w), w.count)

-- the written roll of a list that it holds
list_short : (z : List Pauli) → Reads (list_bytes z) z → length (list_bytes z) ≤ largest_roll
list_short z r =
    subst (λ (b : List ℕ). length b ≤ largest_roll) (sym (as_written_is (list_bytes z) r.held r.accepted) ∙ reads_written (list_bytes z) z r)
    (written_short (list_bytes z) r.held r.accepted)

-- ---- what a call tells whose output has room

module _ (t : Told (List ℕ)) (wrote : Result ℕ Refusal) (out out' : List ℕ) (told : told_of wrote ≡ told_bytes t out) (left : out' ≡ left_in t out)
    (room : largest_roll ≤ length out) where
  bytes_told_is : ((bs : List ℕ) → t ≡ answer bs → length bs ≤ largest_roll) → bytes_told wrote out' ≡ t
  unfolding bytes_told map_told told_bytes left_in refuse_if
  bytes_told_is short = go t refl
    where
      go : (u : Told (List ℕ)) → t ≡ u → map_told (λ n. take n out') (told_of wrote) ≡ u
      go (answer bs) e =
          let fits : ltb (length out) (length bs) ≡ false = le-ltb (length out) (length bs) (omega (arith, short bs e, room)) in
          rw (told, left, e, fits) (ap answer (put_front out bs))
      go (refused n p) e = rw (told, e) refl

-- ---- single calls

-- an area that is large enough
two_same : (l r : List ℕ) (words : ℕ) → work_words ≤ words → two_lists l r words ≡ two_lists l r work_words
unfolding two_lists enough
two_same l r words h =
    ap (λ (t : Bool). and_then (read_both l r) λ b. refuse_if (ltb most_paulis (length b.left + length b.right)) 2 0
    (few_qubits b (refuse_if t 9 0 (answer (record { left = paulis b.left; right = paulis b.right })))))
    (le-ltb words work_words h)

-- both rolls are accepted where a call on them answers
BothRead : List ℕ → List ℕ → Type 0
BothRead l r = (ps : List Sparse) × (qs : List Sparse) × (read l ≡ answer ps) × (read r ≡ answer qs)

both_read : {A : Type 0} (l r : List ℕ) (next : Lists → Told A) (a : A) → and_then (read_both l r) next ≡ answer a → BothRead l r
unfolding BothRead read_both
both_read l r next a e =
    let (b, both, after) = answered (read_both l r) next a e in
    let (ps, el, more) = answered (read l) _ b both in
    let (qs, er, last) = answered (read r) _ b more in
    (ps, qs, el, er)

two_read : (l r : List ℕ) (words : ℕ) (given : Pair) → two_lists l r words ≡ answer given → BothRead l r
unfolding two_lists
two_read l r words given e = both_read l r _ given e

single_read : (s : Sign) (l r bs : List ℕ) → single_call s l r ≡ answer bs → BothRead l r
unfolding single_call quotient_call common_call join_of joined_of
single_read quotient l r bs e = let (given, two, next) = answered (two_lists l r work_words) _ bs e in two_read l r work_words given two
single_read common l r bs e = let (given, two, made) = map_answer common_bytes (two_lists l r work_words) bs e in two_read l r work_words given two
single_read joined l r bs e = let (ps, joins, made) = map_answer write (joined_of l r) bs e in both_read l r _ ps joins

single_short : (s : Sign) (l r bs : List ℕ) → single_call s l r ≡ answer bs → length bs ≤ largest_roll
unfolding BothRead
single_short s l r bs e =
    let (ps, qs, el, er) = single_read s l r bs e in
    let x = map normal (paulis ps) in
    let y = map normal (paulis qs) in
    let a : Reads l x = record { held = ps; accepted = el; list = refl } in
    let b : Reads r y = record { held = qs; accepted = er; list = refl } in
    let (z, told, made) = map_answer list_bytes (on_lists s x y) bs (sym (call_told s l r x y a b) ∙ e) in
    subst (λ (c : List ℕ). length c ≤ largest_roll) made (list_short z (call_reads s l r x y a b z told))

-- each single call tells what the line takes it to tell
single_told : (s : Sign) (l r : List ℕ) (o : Told (List ℕ)) → SingleCall s l r o → o ≡ single_call s l r
unfolding single_call quotient_call common_call
single_told quotient l r o c =
    let same = ap (λ (t : Told Pair). and_then t λ b. quotient_bytes (try_quotient none none b.left b.right)) (two_same l r (length c.work) c.area) in
    c.told
    ∙ bytes_told_is (single_call quotient l r) c.wrote c.out c.out' (c.promised.told ∙ ap (λ t. told_bytes t c.out) same) (c.promised.written ∙ ap (λ t. left_in t c.out) same)
    c.room (single_short quotient l r)
single_told common l r o c =
    let same = ap (map_told common_bytes) (two_same l r (length c.work) c.area) in
    c.told
    ∙ bytes_told_is (single_call common l r) c.wrote c.out c.out' (c.promised.told ∙ ap (λ t. told_bytes t c.out) same) (c.promised.written ∙ ap (λ t. left_in t c.out) same)
    c.room (single_short common l r)
single_told joined l r o c =
    c.told ∙ bytes_told_is (single_call joined l r) c.wrote c.out c.out' c.promised.told c.promised.left c.room (single_short joined l r)

singles_are : (rolls : List (List ℕ)) (t : Tree) (u : Told (List ℕ)) → MadeSingly rolls t u → u ≡ value_of single_call (roll_in rolls) t
singles_are rolls = run_law.one_value single_call SingleCall (roll_in rolls) single_told

-- ---- a line that passes

first_of : (t : Bool) {A : Type 0} (x y : Told A) (a : A) → (if t then x else y) ≡ answer a → not t ≡ true → y ≡ answer a
first_of true x y a e f = absurd (true≢false (sym f))
first_of false x y a e f = e

rest_of : (t : Bool) {A B : Type 0} (x : Told A) (o : Told B) (a : A) → (if t then x else and_then o (λ b. x)) ≡ answer a → x ≡ answer a
rest_of true x o a e = e
rest_of false x o a e = let (b, h, next) = answered o _ a e in next

-- a roll that was sent is accepted
sent_read : (rolls : List (List ℕ)) → all_read rolls ≡ answer tt → (a : ℕ) → sent_of rolls a ≡ true → (ps : List Sparse) × (read (roll_in rolls a) ≡ answer ps)
unfolding all_read sent_of
sent_read [] e a s = absurd (true≢false (sym s))
sent_read (b ∷ bs) e zero s =
    let (ps, h, next) = answered (read b) _ tt (first_of (length b == 0) (all_read bs) (and_then (read b) (λ ps. all_read bs)) tt e s) in (ps, h)
sent_read (b ∷ bs) e (suc a) s = sent_read bs (rest_of (length b == 0) (all_read bs) (read b) tt e) a s

record Passes (l : List ℕ) (rolls : List (List ℕ)) (t : Tree) : Type 0 where
  named : all_sent (sent_of rolls) t ≡ true
  rolls_read : all_read rolls ≡ answer tt

passes : (l : List ℕ) (rolls : List (List ℕ)) (words : ℕ) (t : Tree) → checked_line l rolls words ≡ answer t → Passes l rolls t
unfolding checked_line
passes l rolls words t e =
    let (u, told, next) = answered (line_told (sent_of rolls) l) _ t e in
    let (done, given, last) = answered (all_read rolls) _ t next in
    let (area, same) = test_passed _ 9 0 _ t last in
    let tree : u ≡ t = cc in
    record {
      named = subst (λ (v : Tree). all_sent (sent_of rolls) v ≡ true) tree ((line_law.accepted (sent_of rolls) l u).0 told).0.named;
      rolls_read = given;
    }

combine_is : (l : List ℕ) (rolls : List (List ℕ)) (words : ℕ) (t : Tree) → checked_line l rolls words ≡ answer t → combine_call l rolls words ≡ line_bytes rolls t
unfolding combine_call and_then
combine_is l rolls words t e = rw e refl

-- ---- what it comes to

-- two operands worked out, then a call whose result is a written roll
then_written : (f : List ℕ → Told (List ℕ)) (g : List Pauli → Told (List Pauli)) (o : Told (List ℕ)) (u : Told (List Pauli)) → Alike o u
    → ((b : List ℕ) (x : List Pauli) → Reads b x → f b ≡ map_told list_bytes (g x)) → and_then o f ≡ map_told list_bytes (and_then u g)
unfolding and_then map_told
then_written f g o u (answers b x r) h = h b x r
then_written f g o u (refusals n p) h = refl

alike_short : (o : Told (List ℕ)) (u : Told (List Pauli)) → Alike o u → (bs : List ℕ) → map_told as_written o ≡ answer bs → length bs ≤ largest_roll
unfolding map_told
alike_short o u (answers b x r) bs e =
    let same : as_written b ≡ bs = cc in
    subst (λ (c : List ℕ). length c ≤ largest_roll) (sym (as_written_is b r.held r.accepted) ∙ same) (written_short b r.held r.accepted)
alike_short o u (refusals n p) bs e = absurd (refused_none n p bs e)

module _ (l : List ℕ) (rolls : List (List ℕ)) (words : ℕ) (t : Tree) (passed : checked_line l rolls words ≡ answer t) where
  abbrev sent : ℕ → Bool
  sent = sent_of rolls

  ok : Passes l rolls t
  ok = passes l rolls words t passed

  -- the list of a roll, by value
  abbrev lists : ℕ → List Pauli
  lists a = map normal (paulis (list_of (roll_in rolls a)))

  given : (a : ℕ) → sent a ≡ true → Given rolls lists a
  unfolding list_of
  given a s =
      let (ps, e) = sent_read rolls ok.rolls_read a s in
      (ps, e, ap (λ (us : List Sparse). map normal (paulis us)) (answer_parts (roll_in rolls a) ps e).paulis)

  abbrev value : Tree → Told (List ℕ)
  value u = value_of single_call (roll_in rolls) u

  abbrev on_lists_value : Tree → Told (List Pauli)
  on_lists_value u = value_of on_lists lists u

  alike : (u : Tree) → all_sent sent u ≡ true → Alike (value u) (on_lists_value u)
  alike u s = value_alike rolls lists u s given

  -- what calls come to is a written roll
  calls_written : (u : Tree) → all_sent sent u ≡ true → has_call u ≡ true → value u ≡ map_told list_bytes (on_lists_value u)
  unfolding value_of all_sent has_call
  calls_written (letter a) s h = absurd (true≢false (sym h))
  calls_written (parens u) s h = calls_written u s h
  calls_written (operation o a b) s h =
      let (v, w) = and_parts (all_sent sent a) (all_sent sent b) s in
      then_written _ _ _ _ (alike a v) λ c x p. then_written _ _ _ _ (alike b w) λ d y q. call_told o c d x y p q

  -- with no call there is one roll
  one_roll : (u : Tree) → has_call u ≡ false → value u ≡ answer (roll_in rolls (first_letter u))
  unfolding value_of has_call first_letter
  one_roll (letter a) h = refl
  one_roll (parens u) h = one_roll u h
  one_roll (operation o a b) h = absurd (true≢false h)

  first_sent : (u : Tree) → all_sent sent u ≡ true → sent (first_letter u) ≡ true
  unfolding all_sent first_letter
  first_sent (letter a) s = s
  first_sent (parens u) s = first_sent u s
  first_sent (operation o a b) s = first_sent a (and_parts (all_sent sent a) (all_sent sent b) s).0

  line_is : combine_call l rolls words ≡ map_told as_written (value t)
  unfolding line_bytes
  line_is = combine_is l rolls words t passed

  line_short : (bs : List ℕ) → combine_call l rolls words ≡ answer bs → length bs ≤ largest_roll
  line_short bs e = alike_short (value t) (on_lists_value t) (alike t ok.named) bs (sym line_is ∙ e)

  roll_alone : has_call t ≡ false
      → (ps : List Sparse) × (read (roll_in rolls (first_letter t)) ≡ answer ps) × (combine_call l rolls words ≡ answer (write ps))
  unfolding map_told
  roll_alone h =
      let b = roll_in rolls (first_letter t) in
      let (ps, e) = sent_read rolls ok.rolls_read (first_letter t) (first_sent t ok.named) in
      (ps, e, line_is ∙ ap (map_told as_written) (one_roll t h) ∙ ap answer (as_written_is b ps e))

  module _ (u : Told (List ℕ)) (made : MadeSingly rolls t u) where
    by_singles : combine_call l rolls words ≡ map_told as_written u
    by_singles = line_is ∙ ap (map_told as_written) (sym (singles_are rolls t u made))

    written_already : has_call t ≡ true → map_told as_written u ≡ u
    unfolding line_bytes
    written_already h =
        ap (map_told as_written) (singles_are rolls t u made) ∙ sym (lists_bytes rolls lists t ok.named given)
        ∙ sym (calls_written t ok.named h) ∙ sym (singles_are rolls t u made)

-- ---- the theorem

combined_told : (l : List ℕ) (rolls : List (List ℕ)) (t : Tree) (o : Told (List ℕ)) (c : Combined l rolls t o) → o ≡ combine_call l rolls (length c.work)
combined_told l rolls t o c =
    c.told ∙ bytes_told_is (combine_call l rolls (length c.work)) c.wrote c.out c.out' c.promised.told c.promised.written c.room
    (line_short l rolls (length c.work) t c.passed)

pub combine_law : CombineLaw
combine_law = record {
  with_calls = λ l rolls t o u c h made.
      combined_told l rolls t o c ∙ by_singles l rolls (length c.work) t c.passed u made ∙ written_already l rolls (length c.work) t c.passed u made h;
  with_none = λ l rolls t o c h.
      let (ps, e, same) = roll_alone l rolls (length c.work) t c.passed h in
      (ps, e, combined_told l rolls t o c ∙ same);
  one_value = singles_are;
  by_singles = λ l rolls words t u passed made. by_singles l rolls words t passed u made;
  written_already = λ l rolls words t u passed h made. written_already l rolls words t passed u made h;
}
