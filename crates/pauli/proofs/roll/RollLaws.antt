-- The law of rolls: what `read` accepts is what `encode` writes. Both are compared with the parts that a roll has.
use Rattle.std.proofs.Common.{◌≡◌, ℕ, zero, suc, ◌+◌, ◌*◌, ◌<◌, ◌≤◌, not, List, [], ◌∷◌, ◌++◌, map, length, get_or, drop, sym, refl, ap, ◌∙◌, append_assoc, append-nil, add-zero, zero-add, arith, length-append, ltb-false, le-ltb, eq-eqb, eqb-true}
use lib.ListN.{length-map}
use lib.Seq.{drop-length}
use borrow.Author.Tests.{not-false}
use Rattle.binar.proofs.Lists.{all_map, all_zip, all_over}
use Rattle.pauli.specs.Told.{answer, and_then}
use Rattle.pauli.specs.Bytes.{u16_at, le16}
use Rattle.pauli.specs.Roll.{most_paulis, Sparse, Entry, entry_at, entries_at, paulis_at, numbers, support, read, table, bodies, encode, by_value, write}
use Rattle.pauli.specs.Support.{most_qubits, All}
use Rattle.pauli.specs.RollTheorems.{Allowed, Within, ReadLaw}
use Rattle.pauli.proofs.support.Lists.{AllBytes, all_bytes_append, byte_at, drop_past}
use Rattle.pauli.proofs.roll.Items.{items_bytes}
use Rattle.pauli.proofs.roll.BytesLaws.{u16_read, u16_written, length_le16, all_bytes_le16}
use Rattle.pauli.proofs.roll.ListSupport.{support_by_value}
use Rattle.pauli.proofs.roll.Told.{test_pass, test_passed, answered}
use Rattle.pauli.proofs.roll.Entries.{ten_bytes, length_entries, get_or_entries, length_entries_bytes, entries_read, entries_written}
use Rattle.pauli.proofs.roll.Paulis.{entries_of, counted, Placed, body_at, table_entries, length_entries_of, entries_of_placed, entries_of_counted, length_bodies, all_bytes_table, all_bytes_bodies, length_paulis, entries_of_paulis, paulis_low, paulis_read, paulis_written, get_or_paulis}
use Rattle.pauli.proofs.roll.Checks.{AllowedSets, entries_pass, entries_passed, sets_pass, sets_passed}
use Rattle.pauli.proofs.roll.Limits.{within_fits}

-- b is a roll with n entries es and the Paulis ps
pub record Parts (b : List ℕ) (n : ℕ) (es : List Entry) (ps : List Sparse) : Type 0 where
  pub counting : u16_at b 0 ≡ n
  pub few : n ≤ most_paulis
  pub entries : entries_at b 2 n ≡ es
  pub placed : Placed 0 es
  pub whole : length b ≡ 2 + 10 * n + 4 * counted es
  pub paulis : paulis_at b (2 + 10 * n) es ≡ ps
  pub sets : All AllowedSets ps
  pub qubits : length (support ps) ≤ most_qubits

pub parts_count : (b : List ℕ) (n : ℕ) (es : List Entry) (ps : List Sparse) → Parts b n es ps → length ps ≡ n
parts_count b n es ps p = cc (length_paulis b (2 + 10 * n) es, length_entries b 2 n)

pub parts_answer : (b : List ℕ) (n : ℕ) (es : List Entry) (ps : List Sparse) → Parts b n es ps → read b ≡ answer ps
unfolding read and_then
parts_answer b n es ps p =
    test_pass _ 1 0 _ (le-ltb (length b) 2 (omega arith))
    ∙ rw p.counting
    (test_pass _ 2 0 _ (le-ltb most_paulis n p.few)
    ∙ test_pass _ 1 0 _ (le-ltb (length b) (2 + 10 * n) (omega arith))
    ∙ rw (p.entries, entries_pass 0 0 es p.placed, zero-add)
    (test_pass _ 1 0 _ (ap not (eq-eqb _ _ p.whole))
    ∙ rw (p.paulis, sets_pass 0 ps p.sets) (test_pass _ 7 0 _ (le-ltb most_qubits (length (support ps)) p.qubits))))

pub answer_parts : (b : List ℕ) (ps : List Sparse) → read b ≡ answer ps → Parts b (u16_at b 0) (entries_at b 2 (u16_at b 0)) ps
unfolding read
answer_parts b ps h =
    let (two, h1) = test_passed _ 1 0 _ ps h in
    let (few, h2) = test_passed _ 2 0 _ ps h1 in
    let (room, h3) = test_passed _ 1 0 _ ps h2 in
    let (total, entries, h4) = answered _ _ ps h3 in
    let (whole, h5) = test_passed _ 1 0 _ ps h4 in
    let (u, sets, h6) = answered _ _ ps h5 in
    let (qubits, h7) = test_passed _ 7 0 _ ps h6 in
    let n = u16_at b 0 in
    let es = entries_at b 2 n in
    let (placed, sum) = entries_passed 0 0 es total entries in
    let qs = paulis_at b (2 + 10 * n) es in
    let same : qs ≡ ps = cc in
    let ends : length b ≡ 2 + 10 * n + 4 * total = eqb-true _ _ (not-false _ whole) in
    record {
      counting = refl;
      few = ltb-false _ _ few;
      entries = refl;
      placed = placed;
      whole = omega arith;
      paulis = same;
      sets = rw same at (all_zip {R = AllowedSets} (λ q s l. (record { rise = s.0; low = l.0 }, record { rise = s.1; low = l.1 })) qs
          (sets_passed 0 qs u sets) (paulis_low b (2 + 10 * n) es));
      qubits = rw same at (ltb-false most_qubits (length (support qs)) qubits);
    }

-- Pauli m is read by its own entry alone
pub read_pauli : (b : List ℕ) (ps : List Sparse) → read b ≡ answer ps → (m : ℕ) → m < length ps → (d : Sparse)
    → get_or ps m d ≡ body_at b (2 + 10 * u16_at b 0) (entry_at b (2 + 10 * m))
read_pauli b ps h m l d =
    let p = answer_parts b ps h in
    let n = u16_at b 0 in
    let es = entries_at b 2 n in
    let size = parts_count b n es ps p in
    let first = entry_at b 0 in
    rw (← p.paulis, ← get_or_entries b 2 n m first (omega arith))
    (rw add-zero at (get_or_paulis b (2 + 10 * n) 0 es p.placed m (omega (arith, length_entries b 2 n)) d first))

-- ---- what is written is accepted

pub encode_is : (ps : List Sparse) → encode ps ≡ le16 (length ps) ++ (items_bytes ten_bytes (entries_of 0 ps) ++ bodies ps)
unfolding encode
encode_is ps = rw (append_assoc, table_entries)

pub length_encode : (ps : List Sparse) → length (encode ps) ≡ 2 + 10 * length ps + 4 * length (numbers ps)
length_encode ps = rw encode_is (simp (length-append, length_le16, length_entries_bytes, length_entries_of, length_bodies) (omega arith))

pub all_bytes_encode : (ps : List Sparse) → All (λ p. p.e < 256) ps → AllBytes (encode ps)
unfolding encode
all_bytes_encode ps h =
    let front = all_bytes_append (le16 (length ps)) (table 0 ps) (all_bytes_le16 _) (all_bytes_table 0 ps h) in
    all_bytes_append (le16 (length ps) ++ table 0 ps) (bodies ps) front (all_bytes_bodies ps)

written_parts : (ps : List Sparse) → Within ps → Parts (encode ps) (length ps) (entries_of 0 ps) ps
unfolding most_paulis
written_parts ps w =
    let b = encode ps in
    let n = length ps in
    let es = entries_of 0 ps in
    let t = items_bytes ten_bytes es in
    let at0 : drop 0 b ≡ le16 n ++ (t ++ bodies ps) = encode_is ps in
    let at2 : drop 2 b ≡ t ++ bodies ps = drop_past b 0 (le16 n) _ at0 (length_le16 n) in
    let size : length t ≡ 10 * n = rw (length_entries_bytes, length_entries_of) in
    let at-bodies : drop (2 + 10 * n) b ≡ bodies ps = drop_past b 2 t _ at2 size in
    record {
      counting = u16_read b n 0 _ (omega (arith, w.count)) at0;
      few = w.count;
      entries = rw length_entries_of at (entries_read b es 2 (bodies ps) (within_fits ps w) at2);
      placed = entries_of_placed 0 ps;
      whole = rw entries_of_counted (length_encode ps);
      paulis = paulis_read b 0 _ ps [] w.allowed (at-bodies ∙ sym (append-nil (bodies ps)));
      sets = all_map (λ p a. (a.x, a.z)) ps w.allowed;
      qubits = w.qubits;
    }

read_encode : (ps : List Sparse) → Within ps → read (encode ps) ≡ answer ps
read_encode ps w = parts_answer _ _ _ ps (written_parts ps w)

-- ---- what is accepted is within the limits, and written back

entries_byte : (b : List ℕ) → AllBytes b → (i n : ℕ) → All (λ a. a.exponent < 256) (entries_at b i n)
unfolding entries_at entry_at
entries_byte b low i zero = tt
entries_byte b low i (suc n) = (byte_at b (i + 1) low, entries_byte b low (i + 10) n)

paulis_byte : (b : List ℕ) (j : ℕ) (es : List Entry) → All (λ a. a.exponent < 256) es → All (λ p. p.e < 256) (paulis_at b j es)
unfolding paulis_at
paulis_byte b j [] h = tt
paulis_byte b j (a ∷ more) h = (h.0, paulis_byte b (j + 4 * (a.xcount + a.zcount)) more h.1)

module _ (b : List ℕ) (low : AllBytes b) (n : ℕ) (es : List Entry) (ps : List Sparse) (p : Parts b n es ps) where
  within : Within ps
  within =
      let bytes : All (λ q. q.e < 256) ps = rw p.paulis at (paulis_byte b (2 + 10 * n) es (rw p.entries at (entries_byte b low 2 n))) in
      record {
        count = rw (parts_count b n es ps p) p.few;
        allowed = all_zip (λ q s byte. record { byte = byte; x = s.0; z = s.1 }) ps p.sets bytes;
        qubits = p.qubits;
      }

  written : encode ps ≡ b
  written =
      let entries : entries_of 0 ps ≡ es = rw p.paulis at (entries_of_paulis b 0 (2 + 10 * n) es p.placed) in
      let whole = p.whole in
      let at-bodies : bodies ps ≡ drop (2 + 10 * n) b = rw (p.paulis, ← whole, drop-length, append-nil) at (paulis_written b low (2 + 10 * n) es (omega arith)) in
      let at2 : items_bytes ten_bytes es ++ drop (2 + 10 * n) b ≡ drop 2 b = rw p.entries at (entries_written b low n 2 (omega arith)) in
      let at0 : le16 n ++ drop 2 b ≡ b = rw p.counting at (u16_written b low 0 (omega arith)) in
      rw (encode_is, parts_count b n es ps p, entries, at-bodies, at2, at0)

-- ---- the law

pub by_value_within : (ps : List Sparse) → Within ps → Within (map by_value ps)
unfolding by_value
by_value_within ps w =
    record {
      count = rw length-map w.count;
      allowed = all_over Allowed by_value ps (all_map (λ p a. record { byte = omega arith; x = a.x; z = a.z }) ps w.allowed);
      qubits = rw support_by_value w.qubits;
    }

pub by_value_exponents : (ps : List Sparse) → All (λ p. p.e < 4) (map by_value ps)
unfolding by_value
by_value_exponents [] = tt
by_value_exponents (p ∷ ps) = (omega arith, by_value_exponents ps)

read_written : (ps : List Sparse) → Within ps → read (write ps) ≡ answer (map by_value ps)
unfolding write
read_written ps w = read_encode (map by_value ps) (by_value_within ps w)

pub read_law : ReadLaw
read_law =
    record {
      accepted = λ b low ps h. let p = answer_parts b ps h in (within b low _ _ ps p, written b low _ _ ps p);
      accepts = read_encode;
      round_trip = read_written;
      written_exponents = λ ps qs w h. let same : map by_value ps ≡ qs = cc (read_written ps w, h) in rw same at (by_value_exponents ps);
    }
