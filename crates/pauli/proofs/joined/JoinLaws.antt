-- Laws of two rolls joined: what is told of them, where a joined generator stands, and the roll that is written.
use Rattle.std.proofs.Common.{◌≡◌, ℕ, suc, ◌+◌, ◌-◌, ◌*◌, ◌%◌, ◌<◌, ◌≤◌, min, Bool, true, false, ltb, List, [], ◌∷◌, ◌++◌, map, length, get_or, take, drop, sym, refl, ap, ◌∙◌, subst, ap₂, append_assoc, append-nil, add-zero, zero-add, add-one, arith, length-append, length-drop, take-append-drop, drop_at, drop_of_length-le, drop-cons, get_or-append-add, ltb-false, le-ltb, lt-ltb, le-leb, Result}
use mathlib.Core.List.{map-append}
use borrow.Author.Tests.{lt-leb}
use lib.ListN.{length-map, get_or-append}
use lib.Seq.{drop-length}
use Rattle.binar.proofs.Lists.{all_by}
use Rattle.pauli.specs.declared.roll.Entry.{Entry as CodeEntry}
use Rattle.pauli.specs.Told.{Told, answer, refused, refuse_if, and_then, map_told}
use Rattle.pauli.specs.RollAnswers.{told_entry}
use Rattle.pauli.specs.Bytes.{u16_at, numbers_at, le16, le32s}
use Rattle.pauli.specs.Roll.{most_paulis, Sparse, entry_at, numbers, support, read, count_of, entry, table, bodies, encode, by_value, write}
use Rattle.pauli.specs.Support.{most_qubits, insert_all}
use Rattle.pauli.specs.Known.{Gathered}
use Rattle.pauli.specs.Condense.{list_of, nothing}
use Rattle.pauli.specs.JoinContract.{JoinCall}
use Rattle.pauli.specs.JoinCalls.{Lists, read_both, few_qubits, within, joined_of, Counts, counts_of, join_of, looked_up, entry_of, stretch_in, stretch_of, bytes_of, body_in, or_empty, body_of}
use Rattle.pauli.specs.Writing.{put_bytes, entry_bytes, told_bytes, left_in}
use Rattle.pauli.proofs.roll.Told.{refused_none, test_pass, test_refuses, test_passed}
use Rattle.pauli.proofs.support.Lists.{AllBytes}
use Rattle.pauli.proofs.roll.BytesLaws.{length_numbers, length_le16, length_le32s, le32s_append, numbers_written}
use Rattle.pauli.proofs.support.SupportLaws.{insert_all_append}
use Rattle.pauli.proofs.roll.ListSupport.{numbers_append, numbers_by_value}
use Rattle.pauli.proofs.roll.Paulis.{table_entries, length_entries_of, length_bodies}
use Rattle.pauli.proofs.roll.Entries.{length_entries_bytes}
use Rattle.pauli.proofs.roll.RollLaws.{answer_parts, length_encode}
use Rattle.pauli.proofs.roll.ReaderLaws.{count_read, counted_bound, read_numbers, read_length, read_joined}
use Rattle.pauli.proofs.condense.BodyLaws.{read_count, entry_room, body_room, exponent_is, xs_is, zs_is}
use Rattle.pauli.proofs.write.Puts.{Left, left_start, left_step, left_room, left_done}
use Rattle.pauli.proofs.write.Writers.{length_entry_bytes}
use Rattle.pauli.specs.declared.refusal.Refusal.{Refusal}
use Rattle.pauli.specs.Refusals.{told_of}

-- ---- an accepted roll

module _ (b : List ℕ) (n : ℕ) (e : count_of b ≡ answer n) where
  pub accepted : (read b ≡ answer (list_of b)) × (length (list_of b) ≡ n)
  unfolding list_of
  accepted =
      let (ps, r, size) = count_read b n e in
      let same = (answer_parts b ps r).paulis in
      (rw same r, rw same size)

  pub accepted_count : n ≡ u16_at b 0
  accepted_count = read_count b (list_of b) accepted.0 n accepted.1

  pub accepted_few : n ≤ most_paulis
  accepted_few = rw accepted_count (answer_parts b (list_of b) accepted.0).few

  pub accepted_length : 2 + 10 * n + 4 * length (numbers (list_of b)) ≡ length b
  accepted_length = rw accepted.1 at (read_length b (list_of b) accepted.0)

  pub accepted_bound : ((k : ℕ) → get_or b k 0 < 256) → length (numbers (list_of b)) ≤ 131072 * n
  accepted_bound low =
      omega (arith, accepted_length, accepted_count, (answer_parts b (list_of b) accepted.0).whole, counted_bound b low 2 (u16_at b 0))

  -- its bodies are what follows the table
  pub accepted_bodies : ((k : ℕ) → get_or b k 0 < 256) → bodies (list_of b) ≡ drop (2 + 10 * n) b
  unfolding bodies
  accepted_bodies low =
      let bytes : AllBytes b = all_by (λ x. x < 256) b 0 (λ i h. low i) in
      let numbers-are = rw accepted.1 at (read_numbers b (list_of b) accepted.0) in
      rw (numbers-are, accepted_length, drop-length, append-nil) at (numbers_written b bytes (length (numbers (list_of b))) (2 + 10 * n) (omega (arith, accepted_length)))

  -- its numbers stand one after the other behind the table
  pub accepted_numbers : numbers_at b (2 + 10 * n) (length (numbers (list_of b))) ≡ numbers (list_of b)
  accepted_numbers = rw accepted.1 at (read_numbers b (list_of b) accepted.0)

  -- its numbers, gathered behind those of other Paulis
  pub accepted_joined : (k : ℕ) → k ≡ length (numbers (list_of b)) → (qs : List Sparse) → insert_all (numbers_at b (2 + 10 * n) k) (support qs) ≡ support (qs ++ list_of b)
  accepted_joined k s qs = rw (s, ← accepted.1) (read_joined b (list_of b) accepted.0 qs)

  pub accepted_table : (i : ℕ) → i < n → 2 + 10 * i + 10 ≤ length b
  accepted_table i h = entry_room b (list_of b) accepted.0 n accepted.1 i h

  module _ (i : ℕ) (h : i < n) (a : CodeEntry) (f : told_entry a ≡ entry_at b (2 + 10 * i)) where
    x_count : length (get_or (list_of b) i nothing).xs ≡ a.xcount
    x_count = ap length (xs_is b (list_of b) accepted.0 n accepted.1 i h a f nothing) ∙ length_numbers b (2 + 10 * n + 4 * a.start) a.xcount

    z_count : length (get_or (list_of b) i nothing).zs ≡ a.zcount
    z_count = ap length (zs_is b (list_of b) accepted.0 n accepted.1 i h a f nothing) ∙ length_numbers b (2 + 10 * n + 4 * a.start + 4 * a.xcount) a.zcount

    value : (get_or (list_of b) i nothing).e ≡ a.exponent
    value = exponent_is b (list_of b) accepted.0 n accepted.1 i h a f nothing

    pub accepted_entry : looked_up (get_or (list_of b) i nothing) ≡ record { exponent = a.exponent % 4; xcount = a.xcount; zcount = a.zcount }
    unfolding looked_up
    accepted_entry = λ k. record { exponent = value k % 4; xcount = x_count k; zcount = z_count k }

    pub accepted_room : 2 + 10 * n + 4 * a.start + 4 * a.xcount + 4 * a.zcount ≤ length b
    accepted_room = body_room b (list_of b) accepted.0 n accepted.1 i h a f

    pub accepted_start : (roll start : ℕ) → start ≡ 2 + 10 * n + 4 * a.start → start ≡ (stretch_in roll b i).start
    unfolding stretch_in
    accepted_start roll start p = rw (p, ← f, ← accepted_count)

    pub accepted_body : (start end : ℕ) → start ≡ 2 + 10 * n + 4 * a.start → end ≡ start + 4 * (a.xcount + a.zcount) → take (end - start) (drop start b) ≡ body_in b i
    unfolding body_in bytes_of stretch_in
    accepted_body start end p q =
        let size : end - start ≡ 4 * (a.xcount + a.zcount) = omega arith in
        rw (size, p, ← f, ← accepted_count)

    -- the entry that is written for it
    pub accepted_next : (before : ℕ) → table before (map by_value (drop i (list_of b)))
        ≡ entry_bytes a.exponent before a.xcount a.zcount ++ table (before + (a.xcount + a.zcount)) (map by_value (drop (i + 1) (list_of b)))
    unfolding table entry entry_bytes by_value
    accepted_next before =
        let sum : before + a.xcount + a.zcount ≡ before + (a.xcount + a.zcount) = omega arith in
        rw (drop-cons (list_of b) i nothing (rw accepted.1 h), add-one i) (rw (value, x_count, z_count, sum))

-- ---- the joined support

pub own_few : (b : List ℕ) (n : ℕ) → count_of b ≡ answer n → length (support (list_of b)) ≤ most_qubits
own_few b n e = (answer_parts b (list_of b) (accepted b n e).0).qubits

module _ (ps rs : List Sparse) (few : length (support ps) ≤ most_qubits) (mid : List ℕ) (g : Gathered (insert_all (numbers ps) []) mid) where
  left_known : mid ≡ support ps
  unfolding support
  left_known = g.known few

  pub both_gathered : (qs : List ℕ) → Gathered (insert_all (numbers rs) mid) qs → Gathered (support (ps ++ rs)) qs
  unfolding support
  both_gathered qs h =
      let same : insert_all (numbers rs) mid ≡ support (ps ++ rs) = rw left_known (rw numbers_append (sym (insert_all_append (numbers ps) (numbers rs) []))) in
      subst (λ (S : List ℕ). Gathered S qs) same h

-- ---- the counts

pub count_refused : (b : List ℕ) (m p : ℕ) → count_of b ≡ refused m p → read b ≡ refused m p
unfolding count_of map_told
count_refused b m p e = go (read b) refl e
  where
    go : (t : Told (List Sparse)) → read b ≡ t → map_told length t ≡ refused m p → read b ≡ refused m p
    go (answer ps) r h = absurd (refused_none m p (length ps) (sym h))
    go (refused n q) r h = cc

module _ (l r : List ℕ) where
  pub counts_left : (m p : ℕ) → count_of l ≡ refused m p → counts_of l r ≡ refused m p
  unfolding counts_of read_both and_then
  counts_left m p e = rw (count_refused l m p e)

  module _ (nl : ℕ) (el : count_of l ≡ answer nl) where
    pub counts_right : (m p : ℕ) → count_of r ≡ refused m p → counts_of l r ≡ refused m p
    unfolding counts_of read_both and_then
    counts_right m p e = rw ((accepted l nl el).0, count_refused r m p e)

    module _ (nr : ℕ) (er : count_of r ≡ answer nr) where
      limits : counts_of l r ≡ refuse_if (ltb most_paulis (nl + nr)) 2 0 (refuse_if (ltb most_qubits (length (support (list_of l ++ list_of r)))) 7 0 (answer (record { left = nl; right = nr })))
      unfolding counts_of read_both and_then few_qubits
      limits = rw ((accepted l nl el).0, (accepted r nr er).0, (accepted l nl el).1, (accepted r nr er).1)

      joined_limits : joined_of l r ≡ refuse_if (ltb most_paulis (nl + nr)) 2 0 (refuse_if (ltb most_qubits (length (support (list_of l ++ list_of r)))) 7 0 (answer (list_of l ++ list_of r)))
      unfolding joined_of read_both and_then few_qubits
      joined_limits = rw ((accepted l nl el).0, (accepted r nr er).0, (accepted l nl el).1, (accepted r nr er).1)

      pub counts_many : most_paulis < nl + nr → counts_of l r ≡ refused 2 0
      counts_many h = limits ∙ test_refuses _ 2 0 _ (lt-ltb _ _ h)

      module _ (h : nl + nr ≤ most_paulis) (d : ℕ) (distinct : d ≡ min (length (support (list_of l ++ list_of r))) (suc most_qubits)) where
        pub counts_qubits : most_qubits < d → counts_of l r ≡ refused 7 0
        counts_qubits q =
            let many : most_qubits < length (support (list_of l ++ list_of r)) = omega (arith, distinct) in
            limits ∙ test_pass _ 2 0 _ (le-ltb _ _ h) ∙ test_refuses _ 7 0 _ (lt-ltb _ _ many)

        pub counts_pass : d ≤ most_qubits → counts_of l r ≡ answer (record { left = nl; right = nr })
        counts_pass q =
            let few : length (support (list_of l ++ list_of r)) ≤ most_qubits = omega (arith, distinct) in
            limits ∙ test_pass _ 2 0 _ (le-ltb _ _ h) ∙ test_pass _ 7 0 _ (le-ltb _ _ few)

  -- two rolls that can be joined
  pub record Joining (nl nr : ℕ) : Type 0 where
    pub left : count_of l ≡ answer nl
    pub right : count_of r ≡ answer nr
    pub joined : joined_of l r ≡ answer (list_of l ++ list_of r)
    pub few : nl + nr ≤ most_paulis
    pub qubits : length (support (list_of l ++ list_of r)) ≤ most_qubits

  pub counts_joining : (c : Counts) → counts_of l r ≡ answer c → Joining c.left c.right
  counts_joining c e = both (count_of l) refl (count_of r) refl
    where
      both : (s : Told ℕ) → count_of l ≡ s → (t : Told ℕ) → count_of r ≡ t → Joining c.left c.right
      both (refused m p) el t er = absurd (refused_none m p c (sym (counts_left m p el) ∙ e))
      both (answer nl) el (refused m p) er = absurd (refused_none m p c (sym (counts_right nl el m p er) ∙ e))
      both (answer nl) el (answer nr) er =
          let counts : Counts = record { left = nl; right = nr } in
          let distinct : ℕ = length (support (list_of l ++ list_of r)) in
          let (many, h) = test_passed (ltb most_paulis (nl + nr)) 2 0 (refuse_if (ltb most_qubits distinct) 7 0 (answer counts)) c (sym (limits nl el nr er) ∙ e) in
          let (qubits, told) = test_passed (ltb most_qubits distinct) 7 0 (answer counts) c h in
          let same : counts ≡ c = cc in
          subst (λ (x : Counts). Joining x.left x.right) same
          (record { left = el; right = er; joined = joined_limits nl el nr er ∙ test_pass _ 2 0 _ many ∙ test_pass _ 7 0 _ qubits; few = ltb-false most_paulis (nl + nr) many; qubits = ltb-false most_qubits distinct qubits })

  -- where the counts are refused, so is all that comes behind the same checks
  pub limits_refused : {B : Type 0} (next : Lists → Told B) (m p : ℕ) → counts_of l r ≡ refused m p
      → and_then (read_both l r) (λ b. refuse_if (ltb most_paulis (length b.left + length b.right)) 2 0 (few_qubits b (next b))) ≡ refused m p
  unfolding counts_of and_then few_qubits refuse_if
  limits_refused {B} next m p e = go (read_both l r) refl e
    where
      tests : {A : Type 0} (s t : Bool) (a : A) (more : Told B) → refuse_if s 2 0 (refuse_if t 7 0 (answer a)) ≡ refused m p → refuse_if s 2 0 (refuse_if t 7 0 more) ≡ refused m p
      tests true t a more h = cc
      tests false true a more h = cc
      tests false false a more h = absurd (refused_none m p a (sym h))

      go : (t : Told Lists) → read_both l r ≡ t
          → and_then {B = Counts} t (λ b. refuse_if (ltb most_paulis (length b.left + length b.right)) 2 0 (few_qubits b (answer (record { left = length b.left; right = length b.right })))) ≡ refused m p
          → and_then (read_both l r) (λ b. refuse_if (ltb most_paulis (length b.left + length b.right)) 2 0 (few_qubits b (next b))) ≡ refused m p
      go (answer b) f h = rw f (tests (ltb most_paulis (length b.left + length b.right)) (ltb most_qubits (length (support (b.left ++ b.right)))) _ (next b) h)
      go (refused n q) f h = rw f (cc)

  pub counts_refused : (m p : ℕ) → counts_of l r ≡ refused m p → joined_of l r ≡ refused m p
  unfolding joined_of
  counts_refused m p e = limits_refused (λ b. answer (b.left ++ b.right)) m p e

-- ---- the lookups

module _ (l r : List ℕ) (n : ℕ) where
  module _ (m p : ℕ) (e : counts_of l r ≡ refused m p) where
    pub entry_refused : entry_of l r n ≡ refused m p
    unfolding entry_of and_then
    entry_refused = rw (counts_refused l r m p e)

    pub stretch_refused : stretch_of l r n ≡ refused m p
    unfolding stretch_of map_told
    stretch_refused = rw entry_refused

    pub body_refused : body_of l r n ≡ []
    unfolding body_of or_empty map_told
    body_refused = rw stretch_refused

  module _ (nl nr : ℕ) (j : Joining l r nl nr) where
    total : length (list_of l ++ list_of r) ≡ nl + nr
    total = length-append (list_of l) (list_of r) ∙ ap₂ ◌+◌ (accepted l nl j.left).1 (accepted r nr j.right).1

    pub entry_past : nl + nr ≤ n → entry_of l r n ≡ refused 8 0
    unfolding entry_of and_then within
    entry_past h = rw j.joined (test_refuses _ 8 0 _ (le-leb (length (list_of l ++ list_of r)) n (rw total h)))

    pub stretch_past : nl + nr ≤ n → stretch_of l r n ≡ refused 8 0
    unfolding stretch_of map_told
    stretch_past h = rw (entry_past h)

    pub body_past : nl + nr ≤ n → body_of l r n ≡ []
    unfolding body_of or_empty map_told
    body_past h = rw (stretch_past h)

    entry_is : n < nl + nr → entry_of l r n ≡ answer (looked_up (get_or (list_of l ++ list_of r) n nothing))
    unfolding entry_of and_then within
    entry_is h = rw j.joined (test_pass _ 8 0 _ (lt-leb (length (list_of l ++ list_of r)) n (rw total h)))

    module _ (h : n < nl) where
      pub entry_left : entry_of l r n ≡ answer (looked_up (get_or (list_of l) n nothing))
      entry_left = entry_is (omega arith) ∙ ap (λ (p : Sparse). answer (looked_up p)) (get_or-append (list_of l) (list_of r) nothing n (rw (accepted l nl j.left).1 h))

      pub stretch_left : stretch_of l r n ≡ answer (stretch_in 0 l n)
      unfolding stretch_of map_told
      stretch_left = rw (entry_left, lt-ltb n (u16_at l 0) (rw (accepted_count l nl j.left) at h))

      pub body_left : body_of l r n ≡ body_in l n
      unfolding body_of or_empty map_told bytes_of body_in stretch_in
      body_left = rw stretch_left

    module _ (past : nl ≤ n) (h : n - nl < nr) where
      pub entry_right : entry_of l r n ≡ answer (looked_up (get_or (list_of r) (n - nl) nothing))
      entry_right =
          let at : n ≡ length (list_of l) + (n - nl) = omega (arith, (accepted l nl j.left).1) in
          entry_is (omega arith)
          ∙ ap (λ (p : Sparse). answer (looked_up p)) (ap (λ (k : ℕ). get_or (list_of l ++ list_of r) k nothing) at ∙ get_or-append-add (list_of l) (list_of r) (n - nl) nothing)

      pub stretch_right : stretch_of l r n ≡ answer (stretch_in 1 r (n - nl))
      unfolding stretch_of map_told
      stretch_right =
          let count = accepted_count l nl j.left in
          rw (entry_right, le-ltb n (u16_at l 0) (rw count at past), ← count)

      pub body_right : body_of l r n ≡ body_in r (n - nl)
      unfolding body_of or_empty map_told bytes_of body_in stretch_in
      body_right = rw stretch_right

-- ---- the joined roll

table_append : (before : ℕ) (ps qs : List Sparse) → table before (ps ++ qs) ≡ table before ps ++ table (before + length (numbers ps)) qs
unfolding table numbers
table_append before [] qs = rw (add-zero before)
table_append before (p ∷ ps) qs =
    let x : ℕ = length p.xs in
    let z : ℕ = length p.zs in
    let sum : before + x + z + length (numbers ps) ≡ before + length (p.xs ++ p.zs ++ numbers ps) = simp length-append (omega arith) in
    ap (entry before p ++◌) (table_append (before + x + z) ps qs)
    ∙ sym (append_assoc (entry before p) (table (before + x + z) ps) (table (before + x + z + length (numbers ps)) qs))
    ∙ ap (λ (k : ℕ). (entry before p ++ table (before + x + z) ps) ++ table k qs) sum

length_table : (before : ℕ) (ps : List Sparse) → length (table before ps) ≡ 10 * length ps
length_table before ps = rw (table_entries, length_entries_bytes, length_entries_of)

module _ (l r : List ℕ) (nl nr : ℕ) (el : count_of l ≡ answer nl) (er : count_of r ≡ answer nr) (kl : ℕ)
    (sl : kl ≡ length (numbers (list_of l))) where
  abbrev whole : List ℕ
  whole = write (list_of l ++ list_of r)

  abbrev left_table : List ℕ
  left_table = table 0 (map by_value (list_of l))

  abbrev right_table : List ℕ
  right_table = table kl (map by_value (list_of r))

  joined_is : whole ≡ le16 (nl + nr) ++ (left_table ++ (right_table ++ (bodies (list_of l) ++ bodies (list_of r))))
  unfolding write encode bodies
  joined_is =
      let ps = list_of l in
      let qs = list_of r in
      let ws = map by_value (ps ++ qs) in
      let count : length ws ≡ nl + nr = length-map (ps ++ qs) by_value ∙ length-append ps qs ∙ ap₂ ◌+◌ (accepted l nl el).1 (accepted r nr er).1 in
      let before : 0 + length (numbers (map by_value ps)) ≡ kl = zero-add _ ∙ ap length (numbers_by_value ps) ∙ sym sl in
      let tables : table 0 ws ≡ left_table ++ right_table =
      ap (table 0) (map-append by_value ps qs) ∙ table_append 0 (map by_value ps) (map by_value qs) ∙ ap (λ (k : ℕ). left_table ++ table k (map by_value qs)) before in
      let behind : le32s (numbers ws) ≡ le32s (numbers ps) ++ le32s (numbers qs) = ap le32s (numbers_by_value (ps ++ qs) ∙ numbers_append ps qs) ∙ le32s_append (numbers ps) (numbers qs) in
      rw (count, tables, behind) (simp append_assoc)

  pub joined_size : (kr : ℕ) → kr ≡ length (numbers (list_of r)) → length whole ≡ 2 + 10 * (nl + nr) + 4 * (kl + kr)
  unfolding write
  joined_size kr sr =
      length_encode (map by_value (list_of l ++ list_of r))
      ∙ simp (length-map, numbers_by_value, numbers_append, length-append) (omega (arith, (accepted l nl el).1, (accepted r nr er).1))

  -- the count, the two tables and the bodies of both, put one behind the other
  pub joined_puts : (out a b c d f : List ℕ) → length whole ≤ length out → a ≡ put_bytes out 0 (le16 (nl + nr)) → length a ≡ length out
      → b ≡ put_bytes a 2 left_table → length b ≡ length a → c ≡ put_bytes b (2 + 10 * nl) right_table → length c ≡ length b
      → d ≡ put_bytes c (2 + 10 * nl + 10 * nr) (bodies (list_of l)) → length d ≡ length c
      → f ≡ put_bytes d (2 + 10 * nl + 10 * nr + 4 * kl) (bodies (list_of r)) → length f ≡ length d → f ≡ put_bytes out 0 whole
  joined_puts out a b c d f room pa la pb lb pc lc pd ld pf lf =
      let size-left : length left_table ≡ 10 * nl = length_table 0 (map by_value (list_of l)) ∙ ap (10 *◌) (length-map (list_of l) by_value ∙ (accepted l nl el).1) in
      let size-right : length right_table ≡ 10 * nr = length_table kl (map by_value (list_of r)) ∙ ap (10 *◌) (length-map (list_of r) by_value ∙ (accepted r nr er).1) in
      let size-body : length (bodies (list_of l)) ≡ 4 * kl = length_bodies (list_of l) ∙ ap (4 *◌) (sym sl) in
      let one = left_start out 0 whole _ joined_is (omega arith) in
      let two = left_step one (le16 (nl + nr)) (left_table ++ (right_table ++ (bodies (list_of l) ++ bodies (list_of r)))) 2 refl (length_le16 (nl + nr)) a pa la in
      let three = left_step two left_table (right_table ++ (bodies (list_of l) ++ bodies (list_of r))) (10 * nl) refl size-left b pb lb in
      let four = left_step three right_table (bodies (list_of l) ++ bodies (list_of r)) (10 * nr) refl size-right c pc lc in
      let five = left_step four (bodies (list_of l)) (bodies (list_of r)) (4 * kl) refl size-body d pd ld in
      let six = left_step five (bodies (list_of r)) [] (4 * length (numbers (list_of r))) (sym (append-nil (bodies (list_of r)))) (length_bodies (list_of r)) f pf lf in
      (left_done six refl).0

-- what is told and left
module _ (l r out : List ℕ) where
  pub join_refused : (w : Result ℕ Refusal) (m p : ℕ) → told_of w ≡ refused m p → counts_of l r ≡ refused m p → JoinCall l r out w out
  unfolding join_of map_told told_bytes left_in
  join_refused w m p t e = let j = counts_refused l r m p e in record { told = t ∙ rw j; left = rw j }

  module _ (nl nr : ℕ) (j : Joining l r nl nr) (size : ℕ) (s : length (write (list_of l ++ list_of r)) ≡ size) where
    joined_roll : join_of l r ≡ answer (write (list_of l ++ list_of r))
    unfolding join_of map_told
    joined_roll = rw j.joined

    pub join_short : length out < size → (w : Result ℕ Refusal) → told_of w ≡ refused 12 0 → JoinCall l r out w out
    unfolding told_bytes left_in refuse_if
    join_short h w e =
        let t = lt-ltb (length out) (length (write (list_of l ++ list_of r))) (rw s h) in
        record { told = e ∙ rw (joined_roll, t); left = rw (joined_roll, t) }

    pub join_long : size ≤ length out → (w : Result ℕ Refusal) → told_of w ≡ answer size → (u : List ℕ) → u ≡ put_bytes out 0 (write (list_of l ++ list_of r))
        → JoinCall l r out w u
    unfolding told_bytes left_in refuse_if
    join_long h w e u k =
        let t = le-ltb (length out) (length (write (list_of l ++ list_of r))) (rw s h) in
        record { told = e ∙ rw (joined_roll, t) (ap answer (sym s)); left = rw (joined_roll, t) k }

-- ---- entries, copied one by one

module _ {first whole out : List ℕ} {at to : ℕ} (b : List ℕ) (n : ℕ) (e : count_of b ≡ answer n) (i : ℕ) (h : i < n) (a : CodeEntry)
    (f : told_entry a ≡ entry_at b (2 + 10 * i)) (before : ℕ) (l : Left first at whole out to (table before (map by_value (drop i (list_of b))))) where
  abbrev piece : List ℕ
  piece = entry_bytes a.exponent before a.xcount a.zcount

  abbrev more : List ℕ
  more = table (before + (a.xcount + a.zcount)) (map by_value (drop (i + 1) (list_of b)))

  pub entry_fits : to + 10 ≤ length out
  entry_fits = left_room l piece more 10 (accepted_next b n e i h a f before) (length_entry_bytes a.exponent before a.xcount a.zcount)

  pub entry_copied : (u : List ℕ) → u ≡ put_bytes out to piece → length u ≡ length out → Left first at whole u (to + 10) more
  entry_copied u d k =
      left_step l piece more 10 (accepted_next b n e i h a f before) (length_entry_bytes a.exponent before a.xcount a.zcount) u d k

module _ (b : List ℕ) (n : ℕ) (e : count_of b ≡ answer n) where
  pub entries_length : (before from : ℕ) → length (table before (map by_value (drop from (list_of b)))) ≡ 10 * (n - from)
  entries_length before from =
      length_table before (map by_value (drop from (list_of b)))
      ∙ ap (10 *◌) (length-map (drop from (list_of b)) by_value ∙ length-drop from (list_of b) ∙ ap (◌- from) (accepted b n e).1)

  pub entries_start : (first : List ℕ) (at from before : ℕ) → at + 10 * (n - from) ≤ length first
      → let rest = table before (map by_value (drop from (list_of b))) in Left first at rest first at rest
  entries_start first at from before h = left_start first at _ _ refl (rw (entries_length before from) h)

  none_left : (i : ℕ) → n ≤ i → drop i (list_of b) ≡ []
  none_left i h = drop_of_length-le (list_of b) (rw (accepted b n e).1 h)

  pub entries_done : (before i : ℕ) → n ≤ i → table before (map by_value (drop i (list_of b))) ≡ []
  unfolding table
  entries_done before i h = ap (λ (ps : List Sparse). table before (map by_value ps)) (none_left i h)

  -- how many qubit numbers the bodies from Pauli i on hold
  pub numbers_next : (i : ℕ) → i < n → (a : CodeEntry) → told_entry a ≡ entry_at b (2 + 10 * i)
      → length (numbers (drop i (list_of b))) ≡ a.xcount + a.zcount + length (numbers (drop (i + 1) (list_of b)))
  unfolding numbers
  numbers_next i h a f =
      rw (drop-cons (list_of b) i nothing (rw (accepted b n e).1 h), add-one i)
      (simp length-append (omega (arith, x_count b n e i h a f, z_count b n e i h a f)))

  pub numbers_done : (i : ℕ) → n ≤ i → length (numbers (drop i (list_of b))) ≡ 0
  unfolding numbers
  numbers_done i h = rw (none_left i h)

  -- those of the first Paulis stand before them
  pub later_bodies : (from : ℕ) → drop (4 * (length (numbers (list_of b)) - length (numbers (drop from (list_of b))))) (bodies (list_of b)) ≡ bodies (drop from (list_of b))
  unfolding bodies
  later_bodies from =
      let all : numbers (list_of b) ≡ numbers (take from (list_of b)) ++ numbers (drop from (list_of b)) =
      ap numbers (sym (take-append-drop from (list_of b))) ∙ numbers_append (take from (list_of b)) (drop from (list_of b)) in
      let past : 4 * (length (numbers (list_of b)) - length (numbers (drop from (list_of b)))) ≡ length (le32s (numbers (take from (list_of b)))) =
      omega (arith, ap length all ∙ length-append (numbers (take from (list_of b))) (numbers (drop from (list_of b))), length_le32s (numbers (take from (list_of b)))) in
      ap₂ (λ (k : ℕ) (l : List ℕ). drop k l) past (ap le32s all ∙ le32s_append (numbers (take from (list_of b))) (numbers (drop from (list_of b))))
      ∙ drop_at (le32s (numbers (take from (list_of b)))) (le32s (numbers (drop from (list_of b)))) _ refl
