-- The reader of rolls, step by step: each test of `read` where it refuses and where it passes.
use Rattle.std.proofs.Common.{◌≡◌, ℕ, zero, suc, ◌+◌, ◌-◌, ◌*◌, ◌<◌, ◌≤◌, min, not, eqb, ltb, List, [], ◌∷◌, ◌++◌, length, get_or, sym, refl, ap, ◌∙◌, add-zero, zero-add, add-one, arith, le-ltb, lt-ltb, eq-eqb, ne_eqb}
use native.Mathlib.Nat.{sub-zero}
use Rattle.pauli.specs.declared.roll.Entry.{Entry as CodeEntry}
use Rattle.pauli.specs.Told.{Told, answer, refused, refuse_if, and_then, map_told}
use Rattle.pauli.specs.Bytes.{u16_at, u32_at, numbers_at}
use Rattle.pauli.specs.Roll.{most_paulis, Sparse, Entry, entry_at, entries_at, paulis_at, check_entries, check_set, check_sets, numbers, support, read, count_of}
use Rattle.pauli.specs.Support.{most_qubits, insert_all}
use Rattle.pauli.specs.RollAnswers.{told_entry}
use Rattle.pauli.proofs.roll.Told.{refused_none, test_pass, test_refuses}
use Rattle.pauli.proofs.roll.BytesLaws.{length_numbers}
use Rattle.pauli.proofs.roll.Entries.{length_entries}
use Rattle.pauli.proofs.roll.Paulis.{counted, length_paulis}
use Rattle.pauli.proofs.roll.Checks.{entries_passed}
use Rattle.pauli.proofs.roll.RollLaws.{parts_count, answer_parts}
use Rattle.pauli.proofs.support.SupportLaws.{insert_all_append}
use Rattle.pauli.proofs.roll.ListSupport.{numbers_append}
use Rattle.pauli.proofs.support.Walk.{numbers_from, numbers_next, numbers_end}

-- ---- entries

pub entry_path : (b : List ℕ) (i : ℕ) (e : CodeEntry) → e.given ≡ get_or b i 0 → e.exponent ≡ get_or b (i + 1) 0 → e.start ≡ u32_at b (i + 2) → e.xcount ≡ u16_at b (i + 6) → e.zcount ≡ u16_at b (i + 8)
    → told_entry e ≡ entry_at b i
unfolding entry_at
entry_path b i e g x s m n = λ k. record { given = g k; exponent = x k; start = s k; xcount = m k; zcount = n k }

-- the entries from Pauli i on, of n
unfoldable pub entries_from : List ℕ → ℕ → ℕ → List Entry
entries_from b n i = entries_at b (2 + 10 * i) (n - i)

pub entries_start : (b : List ℕ) (n : ℕ) → entries_at b 2 n ≡ entries_from b n 0
unfolding entries_from
entries_start b n = rw sub-zero

pub entries_none : (b : List ℕ) (n i : ℕ) → n ≤ i → entries_from b n i ≡ []
unfolding entries_from entries_at
entries_none b n i h = let e : n - i ≡ 0 = omega arith in rw e

module _ (b : List ℕ) (n i : ℕ) (h : i < n) (e : CodeEntry) (same : told_entry e ≡ entry_at b (2 + 10 * i)) where
  pub entries_next : entries_from b n i ≡ told_entry e ∷ entries_from b n (i + 1)
  unfolding entries_from entries_at
  entries_next =
      let s : n - i ≡ suc (n - (i + 1)) = omega arith in
      let p : 2 + 10 * i + 10 ≡ 2 + 10 * (i + 1) = omega arith in
      rw (s, p, same)

  module _ (before : ℕ) where
    abbrev rest : Told ℕ
    rest = check_entries (i + 1) (before + e.xcount + e.zcount) (entries_from b n (i + 1))

    entry_step : check_entries i before (entries_from b n i)
        ≡ refuse_if (ltb 1 e.given) 3 i (refuse_if (not (eqb e.start before)) 3 i (refuse_if (eqb e.given 0) 4 i rest))
    unfolding check_entries
    entry_step = rw (entries_next, add-one i)

    pub entry_wrong : 1 < e.given → check_entries i before (entries_from b n i) ≡ refused 3 i
    entry_wrong w = entry_step ∙ test_refuses _ 3 i _ (lt-ltb _ _ w)

    module _ (g : e.given ≤ 1) where
      pub entry_misplaced : (e.start ≡ before → ⊥) → check_entries i before (entries_from b n i) ≡ refused 3 i
      entry_misplaced w = entry_step ∙ test_pass _ 3 i _ (le-ltb _ _ g) ∙ test_refuses _ 3 i _ (ap not (ne_eqb _ _ w))

      module _ (s : e.start ≡ before) where
        placed : check_entries i before (entries_from b n i) ≡ refuse_if (eqb e.given 0) 4 i rest
        placed = entry_step ∙ test_pass _ 3 i _ (le-ltb _ _ g) ∙ test_pass _ 3 i _ (ap not (eq-eqb _ _ s))

        pub entry_missing : e.given ≡ 0 → check_entries i before (entries_from b n i) ≡ refused 4 i
        entry_missing w = placed ∙ test_refuses _ 4 i _ (eq-eqb _ _ w)

        pub entry_passes : (e.given ≡ 0 → ⊥) → check_entries i before (entries_from b n i) ≡ rest
        entry_passes w = placed ∙ test_pass _ 4 i _ (ne_eqb _ _ w)

pub entries_end : (b : List ℕ) (n i before : ℕ) → n ≤ i → check_entries i before (entries_from b n i) ≡ answer before
unfolding check_entries
entries_end b n i before h = rw (entries_none b n i h)

-- ---- one set

module _ (ls : List (List ℕ)) (i k : ℕ) (h : k < length ls) (q least : ℕ) (e : q ≡ u32_at (get_or ls k []) 0) where
  abbrev here : Told Unit
  here = check_set i least (numbers_from ls k)

  abbrev further : Told Unit
  further = check_set i (q + 1) (numbers_from ls (k + 1))

  set_step : here ≡ refuse_if (ltb q least) 6 i further
  unfolding check_set
  set_step = rw (numbers_next ls k h, ← e, add-one q)

  pub set_falls : q < least → here ≡ refused 6 i
  set_falls w = set_step ∙ test_refuses _ 6 i _ (lt-ltb _ _ w)

  pub set_rises : least ≤ q → here ≡ further
  set_rises w = set_step ∙ test_pass _ 6 i _ (le-ltb _ _ w)

pub set_end : (ls : List (List ℕ)) (i k least : ℕ) → length ls ≤ k → check_set i least (numbers_from ls k) ≡ answer tt
unfolding check_set
set_end ls i k least h = rw (numbers_end ls k h)

-- ---- all sets

numbers_at_add : (b : List ℕ) (i m n : ℕ) → numbers_at b i (m + n) ≡ numbers_at b i m ++ numbers_at b (i + 4 * m) n
unfolding numbers_at
numbers_at_add b i zero n = simp (zero-add, add-zero)
numbers_at_add b i (suc m) n =
    let e : suc m + n ≡ suc (m + n) = omega arith in
    let f : i + 4 + 4 * m ≡ i + 4 * suc m = omega arith in
    rw (e, ← f) (ap (λ l. u32_at b i ∷ l) (numbers_at_add b (i + 4) m n))

-- the bodies hold as many numbers as the entries tell of, one after the other
pub numbers_paulis : (b : List ℕ) (j : ℕ) (es : List Entry) → numbers (paulis_at b j es) ≡ numbers_at b j (counted es)
unfolding numbers paulis_at counted numbers_at
numbers_paulis b j [] = refl
numbers_paulis b j (a ∷ more) =
    let x : ℕ = a.xcount in
    let z : ℕ = a.zcount in
    let p : j + 4 * x + 4 * z ≡ j + 4 * (x + z) = omega arith in
    rw (numbers_paulis b (j + 4 * (x + z)) more, numbers_at_add b j (x + z) (counted more), numbers_at_add b j x z)

-- the bodies of the Paulis from i on stand at byte `at` and fill the roll
pub record Filled (b : List ℕ) (n at i : ℕ) : Type 0 where
  pub done : i ≤ n
  pub table : 2 + 10 * n ≤ at
  pub bodies : at + 4 * counted (entries_from b n i) ≡ length b

-- the sets from Pauli i on
abbrev pub sets_from : List ℕ → ℕ → ℕ → ℕ → Told Unit
sets_from b n at i = check_sets i (paulis_at b at (entries_from b n i))

pub filled_start : (b : List ℕ) (n : ℕ) → 2 + 10 * n + 4 * length (numbers (paulis_at b (2 + 10 * n) (entries_at b 2 n))) ≡ length b → Filled b n (2 + 10 * n) 0
filled_start b n h = record {
  done = omega arith;
  table = omega arith;
  bodies = rw (numbers_paulis, length_numbers, entries_start) at h;
}

pub sets_start : (b : List ℕ) (n : ℕ) → check_sets 0 (paulis_at b (2 + 10 * n) (entries_at b 2 n)) ≡ sets_from b n (2 + 10 * n) 0
sets_start b n = rw entries_start

pub sets_end : (b : List ℕ) (n at i : ℕ) → n ≤ i → sets_from b n at i ≡ answer tt
unfolding check_sets paulis_at
sets_end b n at i h = rw (entries_none b n i h)

module _ (b : List ℕ) (n at i : ℕ) (h : i < n) (e : CodeEntry) (same : told_entry e ≡ entry_at b (2 + 10 * i)) where
  pub bodies_next : counted (entries_from b n i) ≡ e.xcount + e.zcount + counted (entries_from b n (i + 1))
  unfolding counted
  bodies_next = rw (entries_next b n i h e same)

  pub filled_next : Filled b n at i → Filled b n (at + 4 * (e.xcount + e.zcount)) (i + 1)
  filled_next f = record { done = omega arith; table = omega (arith, f.table); bodies = omega (arith, f.bodies, bodies_next) }

  abbrev xs : Told Unit
  xs = check_set i 0 (numbers_at b at e.xcount)

  abbrev zs : Told Unit
  zs = check_set i 0 (numbers_at b (at + 4 * e.xcount) e.zcount)

  sets_step : sets_from b n at i ≡ and_then xs (λ _. and_then zs (λ _. sets_from b n (at + 4 * (e.xcount + e.zcount)) (i + 1)))
  unfolding check_sets paulis_at
  sets_step = rw (entries_next b n i h e same, add-one i)

  pub sets_x : (m p : ℕ) → xs ≡ refused m p → sets_from b n at i ≡ refused m p
  unfolding and_then
  sets_x m p x = sets_step ∙ rw x

  module _ (u : Unit) (x : xs ≡ answer u) where
    pub sets_z : (m p : ℕ) → zs ≡ refused m p → sets_from b n at i ≡ refused m p
    unfolding and_then
    sets_z m p z = sets_step ∙ rw (x, z)

    pub sets_next : (v : Unit) → zs ≡ answer v → sets_from b n at i ≡ sets_from b n (at + 4 * (e.xcount + e.zcount)) (i + 1)
    unfolding and_then
    sets_next v z = sets_step ∙ rw (x, z)

-- ---- the whole roll

-- no more numbers than the counts of two bytes can tell of
pub counted_bound : (b : List ℕ) → ((k : ℕ) → get_or b k 0 < 256) → (i n : ℕ) → counted (entries_at b i n) ≤ 131072 * n
unfolding counted entries_at entry_at u16_at
counted_bound b low i zero = omega arith
counted_bound b low i (suc n) =
    omega (arith, low (i + 6), low (i + 6 + 1), low (i + 8), low (i + 8 + 1), counted_bound b low (i + 10) n)

abbrev paulis : List ℕ → ℕ → List Sparse
paulis b n = paulis_at b (2 + 10 * n) (entries_at b 2 n)

abbrev after_sets : List ℕ → ℕ → Told (List Sparse)
after_sets b n = refuse_if (ltb most_qubits (length (support (paulis b n)))) 7 0 (answer (paulis b n))

abbrev after_length : List ℕ → ℕ → Told (List Sparse)
after_length b n = and_then (check_sets 0 (paulis b n)) (λ _. after_sets b n)

abbrev after_entries : List ℕ → ℕ → ℕ → Told (List Sparse)
after_entries b n total = refuse_if (not (eqb (length b) (2 + 10 * n + 4 * total))) 1 0 (after_length b n)

abbrev after_table : List ℕ → ℕ → Told (List Sparse)
after_table b n = and_then (check_entries 0 0 (entries_at b 2 n)) (after_entries b n)

count_refused : (b : List ℕ) (m p : ℕ) → read b ≡ refused m p → count_of b ≡ refused m p
unfolding count_of map_told
count_refused b m p e = rw e

pub roll_short : (b : List ℕ) → length b < 2 → count_of b ≡ refused 1 0
unfolding read
roll_short b h = count_refused b 1 0 (test_refuses _ 1 0 _ (lt-ltb _ _ h))

module _ (b : List ℕ) (two : 2 ≤ length b) (n : ℕ) (e : n ≡ u16_at b 0) where
  after_two : read b ≡ refuse_if (ltb most_paulis n) 2 0 (refuse_if (ltb (length b) (2 + 10 * n)) 1 0 (after_table b n))
  unfolding read
  after_two = rw e (test_pass _ 1 0 _ (le-ltb _ _ two))

  pub roll_many : most_paulis < n → count_of b ≡ refused 2 0
  roll_many h = count_refused b 2 0 (after_two ∙ test_refuses _ 2 0 _ (lt-ltb _ _ h))

  module _ (few : n ≤ most_paulis) where
    after_few : read b ≡ refuse_if (ltb (length b) (2 + 10 * n)) 1 0 (after_table b n)
    after_few = after_two ∙ test_pass _ 2 0 _ (le-ltb _ _ few)

    pub roll_cut : length b < 2 + 10 * n → count_of b ≡ refused 1 0
    roll_cut h = count_refused b 1 0 (after_few ∙ test_refuses _ 1 0 _ (lt-ltb _ _ h))

    module _ (table : 2 + 10 * n ≤ length b) where
      after_table_lem : read b ≡ after_table b n
      after_table_lem = after_few ∙ test_pass _ 1 0 _ (le-ltb _ _ table)

      pub roll_entry : (m p : ℕ) → check_entries 0 0 (entries_at b 2 n) ≡ refused m p → count_of b ≡ refused m p
      unfolding and_then
      roll_entry m p h = count_refused b m p (after_table_lem ∙ rw h)

      module _ (total : ℕ) (entries : check_entries 0 0 (entries_at b 2 n) ≡ answer total) where
        pub total_counted : total ≡ counted (entries_at b 2 n)
        total_counted = omega (arith, (entries_passed 0 0 (entries_at b 2 n) total entries).1)

        pub total_bound : ((k : ℕ) → get_or b k 0 < 256) → total ≤ 131072 * n
        total_bound low = rw total_counted (counted_bound b low 2 n)

        after_entries_lem : read b ≡ after_entries b n total
        unfolding and_then
        after_entries_lem = after_table_lem ∙ rw entries

        pub roll_length : (length b ≡ 2 + 10 * n + 4 * total → ⊥) → count_of b ≡ refused 1 0
        roll_length h = count_refused b 1 0 (after_entries_lem ∙ test_refuses _ 1 0 _ (ap not (ne_eqb _ _ h)))

        module _ (long : length b ≡ 2 + 10 * n + 4 * total) where
          pub roll_filled : 2 + 10 * n + 4 * length (numbers (paulis b n)) ≡ length b
          roll_filled = rw (numbers_paulis, length_numbers, ← total_counted) (sym long)

          after_length_lem : read b ≡ after_length b n
          after_length_lem = after_entries_lem ∙ test_pass _ 1 0 _ (ap not (eq-eqb _ _ long))

          pub roll_set : (m p : ℕ) → check_sets 0 (paulis b n) ≡ refused m p → count_of b ≡ refused m p
          unfolding and_then
          roll_set m p h = count_refused b m p (after_length_lem ∙ rw h)

          module _ (u : Unit) (sets : check_sets 0 (paulis b n) ≡ answer u) (d : ℕ)
              (distinct : d ≡ min (length (insert_all (numbers_at b (2 + 10 * n) total) [])) (suc most_qubits)) where
            same_support : insert_all (numbers_at b (2 + 10 * n) total) [] ≡ support (paulis b n)
            unfolding support
            same_support = rw (numbers_paulis, total_counted)

            after_sets_lem : read b ≡ after_sets b n
            unfolding and_then
            after_sets_lem = after_length_lem ∙ rw sets

            pub roll_qubits : most_qubits < d → count_of b ≡ refused 7 0
            roll_qubits h =
                let many : most_qubits < length (support (paulis b n)) = omega (arith, distinct, ap length same_support) in
                count_refused b 7 0 (after_sets_lem ∙ test_refuses _ 7 0 _ (lt-ltb _ _ many))

            pub roll_passes : d ≤ most_qubits → count_of b ≡ answer n
            unfolding count_of map_told
            roll_passes h =
                let few-qubits : length (support (paulis b n)) ≤ most_qubits = omega (arith, distinct, ap length same_support) in
                rw (after_sets_lem, test_pass (ltb most_qubits (length (support (paulis b n)))) 7 0 (answer (paulis b n)) (le-ltb _ _ few-qubits))
                (ap answer (length_paulis b (2 + 10 * n) (entries_at b 2 n) ∙ length_entries b 2 n))

-- ---- an accepted roll

-- it has the count that is told
pub count_read : (b : List ℕ) (n : ℕ) → count_of b ≡ answer n → (ps : List Sparse) × (read b ≡ answer ps) × (length ps ≡ n)
unfolding count_of map_told
count_read b n e = go (read b) refl e
  where
    go : (t : Told (List Sparse)) → read b ≡ t → map_told length t ≡ answer n → (ps : List Sparse) × (read b ≡ answer ps) × (length ps ≡ n)
    go (answer ps) r h = (ps, r, cc)
    go (refused m p) r h = absurd (refused_none m p n h)

module _ (b : List ℕ) (ps : List Sparse) (e : read b ≡ answer ps) where
  total : counted (entries_at b 2 (u16_at b 0)) ≡ length (numbers ps)
  total = let p = answer_parts b ps e in rw (← p.paulis, numbers_paulis, length_numbers)

  -- its numbers stand one after the other behind the table, and nothing follows
  pub read_numbers : numbers_at b (2 + 10 * length ps) (length (numbers ps)) ≡ numbers ps
  read_numbers =
      let p = answer_parts b ps e in
      rw (parts_count b _ _ ps p, ← total) (sym (numbers_paulis b _ _) ∙ ap numbers p.paulis)

  pub read_length : 2 + 10 * length ps + 4 * length (numbers ps) ≡ length b
  read_length = let p = answer_parts b ps e in omega (arith, p.whole, total, parts_count b _ _ ps p)

  -- its numbers, put into the support of other Paulis, give the support of both
  pub read_joined : (qs : List Sparse) → insert_all (numbers_at b (2 + 10 * length ps) (length (numbers ps))) (support qs) ≡ support (qs ++ ps)
  unfolding support
  read_joined qs = rw (read_numbers, numbers_append qs ps, insert_all_append (numbers qs) (numbers ps) [])
