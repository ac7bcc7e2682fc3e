-- An element put to a list: what the checks tell.
use Rattle.std.proofs.Common.{◌≡◌, ℕ, ◌<◌, ◌≤◌, Bool, true, false, ltb, leb, List, length, get_or, sym, refl, ap, ◌∙◌, arith, le-ltb, le-leb, leb-false}
use borrow.Author.Tests.{lt-leb}
use Rattle.pauli.specs.JoinCalls.{Lists, read_both, within, Counts}
use Rattle.pauli.specs.Condense.{list_of, nothing}
use Rattle.pauli.specs.Roll.{count_of}
use Rattle.pauli.specs.Sets.{pauli_of}
use Rattle.pauli.specs.Told.{Told, answer, refused, refuse_if, and_then, map_told}
use Rattle.pauli.proofs.joined.JoinLaws.{accepted}
use Rattle.pauli.proofs.roll.Told.{refused_none, test_pass, test_refuses, test_passed, map_refused}
use Rattle.pauli_group.specs.WorkArea.{work_words, enough}
use Rattle.pauli_group.specs.Calls.{paulis, question, roll_counts, question_counts}
use Rattle.pauli_group.proofs.checks.Room.{room_told, room_enough, room_passed, room_refused}
use Rattle.pauli_group.proofs.checks.RollsLaws.{Accepted, both}

-- what they let pass, changed by f
unfoldable passed : {A : Type 0} → Told Lists → ℕ → ℕ → (Lists → A) → Told A
passed t number words f = and_then t λ l. within number l.right (enough words (answer (f l)))

module _ (number words : ℕ) {A : Type 0} (f : Lists → A) where
  passed_map : (t : Told Lists) → passed t number words f ≡ map_told f (passed t number words (λ l. l))
  unfolding passed and_then within enough map_told refuse_if
  passed_map (refused n p) = refl
  passed_map (answer l) = go (leb (length l.right) number) (ltb words work_words)
    where
      go : (s t : Bool) → refuse_if s 8 0 (refuse_if t 9 0 (answer (f l))) ≡ map_told f (refuse_if s 8 0 (refuse_if t 9 0 (answer l)))
      go true t = refl
      go false true = refl
      go false false = refl

  passed_refused : (t : Told Lists) (k p : ℕ) → passed t number words (λ l. l) ≡ refused k p
      → passed t number words f ≡ refused k p
  unfolding map_told
  passed_refused t k p h = passed_map t ∙ ap (map_told f) h

module _ (b e : List ℕ) (number words : ℕ) where
  pub counts_refused : (m p : ℕ) → read_both b e ≡ refused m p → refused m p ≡ question_counts b e number words
  unfolding question_counts and_then
  counts_refused m p h = rw h

  module _ (n m : ℕ) (r : Accepted b e n m) where
    checks : question_counts b e number words
        ≡ refuse_if (leb m number) 8 0 (enough words (answer (record { left = n; right = m })))
    unfolding question_counts read_both and_then within
    checks =
        let g = r.generators in
        let h = r.elements in
        rw ((accepted b n g).0, (accepted e m h).0, (accepted b n g).1, (accepted e m h).1)

    pub counts_past : m ≤ number → refused 8 0 ≡ question_counts b e number words
    counts_past h = sym (checks ∙ test_refuses (leb m number) 8 0 _ (le-leb m number h))

    module _ (h : number < m) where
      next : question_counts b e number words ≡ enough words (answer (record { left = n; right = m }))
      next = checks ∙ test_pass (leb m number) 8 0 _ (lt-leb m number h)

      pub counts_short : (k p : ℕ) → refused k p ≡ room_told words → refused k p ≡ question_counts b e number words
      counts_short k p s = sym (next ∙ room_refused words _ s)

      pub counts_pass : work_words ≤ words → answer (record { left = n; right = m }) ≡ question_counts b e number words
      counts_pass s = sym (next ∙ room_enough words _ s)

  -- the rolls can be read, the element is there, and the area is large enough
  pub record Asking (n m : ℕ) : Type 0 where
    pub generators : count_of b ≡ answer n
    pub elements : count_of e ≡ answer m
    pub inside : number < m
    pub room : work_words ≤ words

  pub asking : (n m : ℕ) → answer (record { left = n; right = m }) ≡ question_counts b e number words → Asking n m
  unfolding roll_counts
  asking n m h = go (roll_counts b e) refl
    where
      go : (t : Told Counts) → roll_counts b e ≡ t → Asking n m
      go (refused i p) f = absurd (refused_none i p _ (counts_refused i p (map_refused _ (read_both b e) i p f) ∙ sym h))
      go (answer d) f =
          let r = both b e d.left d.right (sym f) in
          let (within, next) = test_passed (leb d.right number) 8 0 _ _ (sym (checks d.left d.right r) ∙ sym h) in
          let (room, told) = room_passed words _ _ next in
          let same : ◌≡◌ {A = Counts} (record { left = d.left; right = d.right }) (record { left = n; right = m }) = cc in
          let a : d.left ≡ n = ap (λ (c : Counts). c.left) same in
          let c : d.right ≡ m = ap (λ (c : Counts). c.right) same in
          record {
            generators = r.generators ∙ ap answer a;
            elements = r.elements ∙ ap answer c;
            inside = omega (arith, leb-false d.right number within);
            room = room;
          }

  pub question_none : (k p : ℕ) → question_counts b e number words ≡ refused k p → question b e number words ≡ refused k p
  unfolding question question_counts passed
  question_none k p h =
      passed_refused number words _ (read_both b e) k p
      (map_refused _ (passed (read_both b e) number words (λ l. l)) k p (sym (passed_map number words _ (read_both b e)) ∙ h))

  pub question_told : {n m : ℕ} → Asking n m
      → question b e number words ≡ answer (record { generators = paulis (list_of b); element = pauli_of (get_or (list_of e) number nothing) })
  unfolding question read_both and_then within enough refuse_if
  question_told {n} {m} a =
      let (left, _) = accepted b n a.generators in
      let (right, size) = accepted e m a.elements in
      rw (left, right, lt-leb (length (list_of e)) number (rw size a.inside), le-ltb words work_words a.room)
