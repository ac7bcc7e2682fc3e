-- The law of a limit on qubit numbers: the reader without it against the reader with it, test by test.
use Rattle.std.proofs.Common.{◌≡◌, ℕ, suc, ◌+◌, ◌*◌, ◌≤◌, ◌⊎◌, inl, inr, not, ltb, Bool, true, false, List, [], ◌∷◌, ◌++◌, length, sym, refl, ap, ◌∙◌, arith, zero-add, ltb-false, le-ltb, eq-eqb}
use Rattle.binar.proofs.Lists.{all_join, all_left, all_right}
use Rattle.pauli.specs.Told.{Told, answer, refused, refuse_if, and_then}
use Rattle.pauli.specs.Bytes.{u16_at, u32_at, numbers_at}
use Rattle.pauli.specs.Roll.{most_paulis, Sparse, Entry, entry_at, entries_at, paulis_at, check_entries, check_set, check_sets, numbers, support, read}
use Rattle.pauli.specs.Support.{most_qubits, All, insert, insert_all}
use Rattle.pauli.specs.JoinCalls.{read_both}
use Rattle.pauli.specs.OldLimit.{old_limit, check_set_below, check_sets_below, read_below, both_below, NeverFive, SixOrSeven, LimitLaw, x_roll, x_list, AtLimits}
use Rattle.pauli.proofs.roll.Told.{refused_none, test_pass, test_passed, answered, never}
use Rattle.pauli.proofs.roll.NeverFive.{read_never}
use Rattle.pauli.proofs.roll.Checks.{entries_pass, sets_pass}
use Rattle.pauli.proofs.roll.RollLaws.{Parts, answer_parts}

-- t, which is told under a limit, is a refusal with 5 where s is an answer or a refusal with 6 or 7; else it is s
abbrev Under : {A : Type 0} → Told A → Told A → Type 0
Under t s = ((p : ℕ) × (t ≡ refused 5 p) × SixOrSeven s) ⊎ (s ≡ t)

-- t is a refusal with 5, or it is s
abbrev Kept : {A : Type 0} → Told A → Told A → Type 0
Kept t s = ((p : ℕ) × (t ≡ refused 5 p)) ⊎ (s ≡ t)

kept_same : {A : Type 0} (t s : Told A) → Kept t s → NeverFive t → s ≡ t
kept_same t s (inl (p, e)) never = absurd (never p e)
kept_same t s (inr e) never = e

module _ {A : Type 0} where
  kept : (t s : Told A) → Under t s → Kept t s
  kept t s (inl (p, e, o)) = inl (p, e)
  kept t s (inr e) = inr e

  under_test : (t : Bool) (n p : ℕ) (next other : Told A) → Under next other → Under (refuse_if t n p next) (refuse_if t n p other)
  unfolding refuse_if
  under_test true n p next other h = inr refl
  under_test false n p next other h = h

  -- a test of the limit alone
  under_limit : (t : Bool) (p : ℕ) (next other : Told A) → SixOrSeven other → Under next other → Under (refuse_if t 5 p next) other
  unfolding refuse_if
  under_limit true p next other o h = inl (p, refl, o)
  under_limit false p next other o h = h

  late_test : (t : Bool) (n p : ℕ) (next : Told A) → (n ≡ 6) ⊎ (n ≡ 7) → SixOrSeven next → SixOrSeven (refuse_if t n p next)
  unfolding refuse_if
  late_test true n p next h o = h
  late_test false n p next h o = o

  module _ {B : Type 0} where
    late_then : (t : Told A) (next : A → Told B) → SixOrSeven t → ((a : A) → SixOrSeven (next a)) → SixOrSeven (and_then t next)
    unfolding and_then
    late_then (answer a) next h o = o a
    late_then (refused n p) next h o = h

    under_then : (t s : Told A) (next other : A → Told B) → Under t s → ((a : A) → SixOrSeven (other a)) → ((a : A) → Under (next a) (other a))
        → Under (and_then t next) (and_then s other)
    unfolding and_then
    under_then t s next other (inl (p, e, o)) late h = inl (p, rw e refl, late_then s other o late)
    under_then (answer a) s next other (inr e) late h = rw e (h a)
    under_then (refused n p) s next other (inr e) late h = rw e (inr refl)

    kept_then : (t s : Told A) (next other : A → Told B) → Kept t s → ((a : A) → Kept (next a) (other a)) → Kept (and_then t next) (and_then s other)
    unfolding and_then
    kept_then t s next other (inl (p, e)) h = inl (p, rw e refl)
    kept_then (answer a) s next other (inr e) h = rw e (h a)
    kept_then (refused n p) s next other (inr e) h = rw e (inr refl)

    -- a call that goes on
    goes_on : (t s : Told A) (next : A → Told B) → Kept t s → NeverFive (and_then t next) → and_then s next ≡ and_then t next
    goes_on t s next h = kept_same (and_then t next) (and_then s next) (kept_then t s next next h λ a. inr refl)

    under_after : (t : Told A) (next other : A → Told B) → ((a : A) → Under (next a) (other a)) → Under (and_then t next) (and_then t other)
    unfolding and_then
    under_after (answer a) next other h = h a
    under_after (refused n p) next other h = inr refl

set_late : (i least : ℕ) (qs : List ℕ) → SixOrSeven (check_set i least qs)
unfolding check_set
set_late i least [] = tt
set_late i least (q ∷ qs) = late_test _ 6 i _ (inl refl) (set_late i (suc q) qs)

sets_late : (i : ℕ) (ps : List Sparse) → SixOrSeven (check_sets i ps)
unfolding check_sets
sets_late i [] = tt
sets_late i (p ∷ ps) =
    late_then (check_set i 0 p.xs) _ (set_late i 0 p.xs) λ _. late_then (check_set i 0 p.zs) _ (set_late i 0 p.zs) λ _. sets_late (suc i) ps

module _ (limit : ℕ) where
  set_under : (i least : ℕ) (qs : List ℕ) → Under (check_set_below limit i least qs) (check_set i least qs)
  unfolding check_set check_set_below
  set_under i least [] = inr refl
  set_under i least (q ∷ qs) =
      under_limit (ltb limit q) i _ _ (late_test _ 6 i _ (inl refl) (set_late i (suc q) qs)) (under_test (ltb q least) 6 i _ _ (set_under i (suc q) qs))

  sets_under : (i : ℕ) (ps : List Sparse) → Under (check_sets_below limit i ps) (check_sets i ps)
  unfolding check_sets check_sets_below
  sets_under i [] = inr refl
  sets_under i (p ∷ ps) =
      under_then _ _ _ _ (set_under i 0 p.xs) (λ _. late_then (check_set i 0 p.zs) _ (set_late i 0 p.zs) λ _. sets_late (suc i) ps) λ _.
      under_then _ _ _ _ (set_under i 0 p.zs) (λ _. sets_late (suc i) ps) λ _. sets_under (suc i) ps

  read_under : (b : List ℕ) → Under (read_below limit b) (read b)
  unfolding read read_below
  read_under b =
      let n = u16_at b 0 in
      let es = entries_at b 2 n in
      let ps = paulis_at b (2 + 10 * n) es in
      under_test _ 1 0 _ _ (under_test _ 2 0 _ _ (under_test _ 1 0 _ _ (under_after (check_entries 0 0 es) _ _ λ total.
      under_test _ 1 0 _ _ (under_then _ _ _ _ (sets_under 0 ps) (λ _. late_test _ 7 0 _ (inr refl) tt) λ _. inr refl))))

  -- ---- the numbers of a list

  abbrev low : ℕ → Type 0
  low q = q ≤ limit

  set_low : (i least : ℕ) (qs : List ℕ) (u : Unit) → check_set_below limit i least qs ≡ answer u → All low qs
  unfolding check_set_below
  set_low i least [] u h = tt
  set_low i least (q ∷ qs) u h =
      let (below, h1) = test_passed _ 5 i _ u h in
      let (rises, h2) = test_passed _ 6 i _ u h1 in
      (ltb-false _ _ below, set_low i (suc q) qs u h2)

  sets_low : (i : ℕ) (ps : List Sparse) (u : Unit) → check_sets_below limit i ps ≡ answer u → All low (numbers ps)
  unfolding check_sets_below numbers
  sets_low i [] u h = tt
  sets_low i (p ∷ ps) u h =
      let (v, x, h1) = answered (check_set_below limit i 0 p.xs) _ u h in
      let (w, z, h2) = answered (check_set_below limit i 0 p.zs) _ u h1 in
      all_join low (p.xs ++ p.zs) _ (all_join low p.xs p.zs (set_low i 0 p.xs v x) (set_low i 0 p.zs w z)) (sets_low (suc i) ps u h2)

  read_low : (b : List ℕ) (ps : List Sparse) → read_below limit b ≡ answer ps → All low (numbers ps)
  unfolding read_below
  read_low b ps h =
      let (two, h1) = test_passed _ 1 0 _ ps h in
      let (few, h2) = test_passed _ 2 0 _ ps h1 in
      let (room, h3) = test_passed _ 1 0 _ ps h2 in
      let (total, entries, h4) = answered _ _ ps h3 in
      let (whole, h5) = test_passed _ 1 0 _ ps h4 in
      let (u, sets, h6) = answered _ _ ps h5 in
      let (qubits, h7) = test_passed _ 7 0 _ ps h6 in
      let n = u16_at b 0 in
      let qs = paulis_at b (2 + 10 * n) (entries_at b 2 n) in
      let same : qs ≡ ps = cc in
      rw same at (sets_low 0 qs u sets)

  set_same : (i least : ℕ) (qs : List ℕ) → All low qs → check_set_below limit i least qs ≡ check_set i least qs
  unfolding check_set check_set_below
  set_same i least [] h = refl
  set_same i least (q ∷ qs) h = test_pass _ 5 i _ (le-ltb _ _ h.0) ∙ rw (set_same i (suc q) qs h.1) refl

  sets_same : (i : ℕ) (ps : List Sparse) → All low (numbers ps) → check_sets_below limit i ps ≡ check_sets i ps
  unfolding check_sets check_sets_below numbers
  sets_same i [] h = refl
  sets_same i (p ∷ ps) h =
      let sets = all_left low (p.xs ++ p.zs) _ h in
      rw (set_same i 0 p.xs (all_left low p.xs p.zs sets), set_same i 0 p.zs (all_right low p.xs p.zs sets), sets_same (suc i) ps (all_right low (p.xs ++ p.zs) _ h)) refl

  parts_below : (b : List ℕ) (n : ℕ) (es : List Entry) (ps : List Sparse) → Parts b n es ps → All low (numbers ps)
      → read_below limit b ≡ answer ps
  unfolding read_below and_then
  parts_below b n es ps p h =
      test_pass _ 1 0 _ (le-ltb (length b) 2 (omega arith))
      ∙ rw p.counting
      (test_pass _ 2 0 _ (le-ltb most_paulis n p.few)
      ∙ test_pass _ 1 0 _ (le-ltb (length b) (2 + 10 * n) (omega arith))
      ∙ rw (p.entries, entries_pass 0 0 es p.placed, zero-add)
      (test_pass _ 1 0 _ (ap not (eq-eqb _ _ p.whole))
      ∙ rw (p.paulis, sets_same 0 ps h, sets_pass 0 ps p.sets) (test_pass _ 7 0 _ (le-ltb most_qubits (length (support ps)) p.qubits))))

  -- ---- the law

  read_kept : (b : List ℕ) → Kept (read_below limit b) (read b)
  read_kept b = kept (read_below limit b) (read b) (read_under b)

  both_kept : (l r : List ℕ) → Kept (both_below limit l r) (read_both l r)
  unfolding both_below read_both
  both_kept l r = kept_then (read_below limit l) (read l) _ _ (read_kept l) λ ps. kept_then (read_below limit r) (read r) _ _ (read_kept r) λ qs. inr refl

  read_accepted : (b : List ℕ) (ps : List Sparse) → Under (read_below limit b) (read b) → read_below limit b ≡ answer ps → read b ≡ answer ps
  read_accepted b ps (inl (p, e, o)) h = absurd (refused_none 5 p ps (sym e ∙ h))
  read_accepted b ps (inr e) h = e ∙ h

  read_others : (b : List ℕ) (n p : ℕ) → Under (read_below limit b) (read b) → read_below limit b ≡ refused n p → (n ≡ 5 → ⊥) → read b ≡ refused n p
  read_others b n p (inl (q, e, o)) h other = absurd (other cc)
  read_others b n p (inr e) h other = e ∙ h

  read_five : (b : List ℕ) (p : ℕ) → Under (read_below limit b) (read b) → read_below limit b ≡ refused 5 p → SixOrSeven (read b)
  read_five b p (inl (q, e, o)) h = o
  read_five b p (inr e) h = absurd (never 5 (read b) (read_never b) p (e ∙ h))

  pub limit_law : LimitLaw limit
  limit_law =
      record {
        accepted = λ b ps. read_accepted b ps (read_under b);
        others = λ b n p. read_others b n p (read_under b);
        five = λ b p. read_five b p (read_under b);
        low = read_low;
        lists = λ b ps e h. parts_below b _ _ ps (answer_parts b ps e) h;
        same = λ b. kept_same (read_below limit b) (read b) (read_kept b);
        call_on_one = λ b next. goes_on (read_below limit b) (read b) next (read_kept b);
        call_on_two = λ l r next. goes_on (both_below limit l r) (read_both l r) next (both_kept l r);
      }

pub old_limit_law : LimitLaw old_limit
old_limit_law = limit_law old_limit

-- ---- at the limits

pub at_limits : AtLimits
unfolding x_roll x_list old_limit read read_below check_set check_set_below check_sets check_sets_below check_entries entries_at entry_at paulis_at numbers_at numbers support insert_all insert u16_at u32_at most_paulis most_qubits refuse_if and_then
at_limits = record { last = (refl, refl); next = (refl, refl); highest = refl; twice = refl; falling = refl }
