-- Paulis in a roll: their entries and bodies are read as they were written, and written as they were read.
use Rattle.std.proofs.Common.{◌≡◌, ℕ, zero, suc, ◌+◌, ◌*◌, ◌<◌, ◌≤◌, List, [], ◌∷◌, ◌++◌, length, get_or, drop, sym, refl, ap, ap₂, append_assoc, add-zero, arith, length-append}
use Rattle.binar.proofs.Lists.{all_map}
use Rattle.pauli.specs.Bytes.{numbers_at, le32s}
use Rattle.pauli.specs.Roll.{highest_qubit, Sparse, Entry, paulis_at, entry, table, numbers, bodies}
use Rattle.pauli.specs.RollTheorems.{Allowed}
use Rattle.pauli.specs.Support.{All}
use Rattle.pauli.proofs.support.Lists.{AllBytes, all_bytes_append, drop_past}
use Rattle.pauli.proofs.roll.Items.{items_bytes}
use Rattle.pauli.proofs.roll.BytesLaws.{le32s_append, length_numbers, length_le32s, all_bytes_le32s, numbers_low, numbers_read, numbers_written}
use Rattle.pauli.proofs.roll.Entries.{ten_bytes, all_bytes_ten_bytes}

-- the entry of p, where `before` qubit numbers stand in earlier bodies
unfoldable pub entry_of : ℕ → Sparse → Entry
entry_of before p = record { given = 1; exponent = p.e; start = before; xcount = length p.xs; zcount = length p.zs }

unfoldable pub entries_of : ℕ → List Sparse → List Entry
entries_of before [] = []
entries_of before (p ∷ ps) = entry_of before p ∷ entries_of (before + length p.xs + length p.zs) ps

-- how many qubit numbers the entries tell of
unfoldable pub counted : List Entry → ℕ
counted [] = 0
counted (a ∷ more) = a.xcount + a.zcount + counted more

-- each entry is given, and starts where the bodies of the earlier ones end
abbrev pub Placed : ℕ → List Entry → Type 0
Placed before [] = Unit {0}
Placed before (a ∷ more) = (a.given ≡ 1) × (a.start ≡ before) × Placed (before + a.xcount + a.zcount) more

-- the Pauli of entry a, where the bodies start at byte j
unfoldable pub body_at : List ℕ → ℕ → Entry → Sparse
body_at b j a =
    record { e = a.exponent; xs = numbers_at b (j + 4 * a.start) a.xcount; zs = numbers_at b (j + 4 * (a.start + a.xcount)) a.zcount }

-- ---- writing

entry_bytes_lem : (before : ℕ) (p : Sparse) → entry before p ≡ ten_bytes (entry_of before p)
unfolding entry entry_of ten_bytes
entry_bytes_lem before p = simp append_assoc

pub table_entries : (before : ℕ) (ps : List Sparse) → table before ps ≡ items_bytes ten_bytes (entries_of before ps)
unfolding table entries_of items_bytes
table_entries before [] = refl
table_entries before (p ∷ ps) = ap₂ ◌++◌ (entry_bytes_lem before p) (table_entries (before + length p.xs + length p.zs) ps)

pub length_entries_of : (before : ℕ) (ps : List Sparse) → length (entries_of before ps) ≡ length ps
unfolding entries_of
length_entries_of before [] = refl
length_entries_of before (p ∷ ps) = ap suc (length_entries_of (before + length p.xs + length p.zs) ps)

pub entries_of_placed : (before : ℕ) (ps : List Sparse) → Placed before (entries_of before ps)
unfolding entries_of entry_of
entries_of_placed before [] = tt
entries_of_placed before (p ∷ ps) = (refl, refl, entries_of_placed (before + length p.xs + length p.zs) ps)

pub entries_of_counted : (before : ℕ) (ps : List Sparse) → counted (entries_of before ps) ≡ length (numbers ps)
unfolding entries_of entry_of counted numbers
entries_of_counted before [] = refl
entries_of_counted before (p ∷ ps) = rw (length-append, length-append, entries_of_counted (before + length p.xs + length p.zs) ps) (omega arith)

pub length_bodies : (ps : List Sparse) → length (bodies ps) ≡ 4 * length (numbers ps)
unfolding bodies
length_bodies ps = length_le32s (numbers ps)

pub all_bytes_bodies : (ps : List Sparse) → AllBytes (bodies ps)
unfolding bodies
all_bytes_bodies ps = all_bytes_le32s (numbers ps)

pub bodies_none : bodies [] ≡ []
unfolding bodies numbers le32s
bodies_none = refl

pub bodies_cons : (p : Sparse) (ps : List Sparse) → bodies (p ∷ ps) ≡ le32s p.xs ++ (le32s p.zs ++ bodies ps)
unfolding bodies numbers
bodies_cons p ps = rw (le32s_append, le32s_append, append_assoc)

pub all_bytes_table : (before : ℕ) (ps : List Sparse) → All (λ p. p.e < 256) ps → AllBytes (table before ps)
unfolding table entry_of
all_bytes_table before [] h = tt
all_bytes_table before (p ∷ ps) h =
    all_bytes_append (entry before p) _ (rw entry_bytes_lem (all_bytes_ten_bytes (entry_of before p) (omega arith) h.0)) (all_bytes_table (before + length p.xs + length p.zs) ps h.1)

-- ---- reading

module _ (b : List ℕ) where
  set_read : (qs : List ℕ) (i : ℕ) (rest : List ℕ) → All (λ q. q ≤ highest_qubit) qs → drop i b ≡ le32s qs ++ rest → numbers_at b i (length qs) ≡ qs
  unfolding highest_qubit
  set_read qs i rest low h = numbers_read b qs i rest (all_map (λ q k. omega arith) qs low) h

  -- what four bytes write is no higher than they can
  set_low : (i n : ℕ) → All (λ q. q ≤ highest_qubit) (numbers_at b i n)
  unfolding highest_qubit
  set_low i n = all_map (λ q k. omega arith) (numbers_at b i n) (numbers_low b i n)

  pub paulis_low : (j : ℕ) (es : List Entry) → All (λ p. All (λ q. q ≤ highest_qubit) p.xs × All (λ q. q ≤ highest_qubit) p.zs) (paulis_at b j es)
  unfolding paulis_at
  paulis_low j [] = tt
  paulis_low j (a ∷ more) = ((set_low j a.xcount, set_low (j + 4 * a.xcount) a.zcount), paulis_low (j + 4 * (a.xcount + a.zcount)) more)

  pub length_paulis : (j : ℕ) (es : List Entry) → length (paulis_at b j es) ≡ length es
  unfolding paulis_at
  length_paulis j [] = refl
  length_paulis j (a ∷ more) = ap suc (length_paulis (j + 4 * (a.xcount + a.zcount)) more)

  pub entries_of_paulis : (before j : ℕ) (es : List Entry) → Placed before es → entries_of before (paulis_at b j es) ≡ es
  unfolding entries_of entry_of paulis_at
  entries_of_paulis before j [] h = refl
  entries_of_paulis before j (a ∷ more) h =
      simp length_numbers
      (ap₂ ◌∷◌ (λ k. record { given = sym h.0 k; exponent = a.exponent; start = sym h.1 k; xcount = a.xcount; zcount = a.zcount })
      (entries_of_paulis (before + a.xcount + a.zcount) (j + 4 * (a.xcount + a.zcount)) more h.2))

  pub paulis_read : (before j : ℕ) (ps : List Sparse) (rest : List ℕ) → All Allowed ps → drop j b ≡ bodies ps ++ rest
      → paulis_at b j (entries_of before ps) ≡ ps
  unfolding entries_of entry_of paulis_at
  paulis_read before j [] rest ok h = refl
  paulis_read before j (p ∷ ps) rest ok h =
      let x : ℕ = length p.xs in
      let z : ℕ = length p.zs in
      let at_x : drop j b ≡ le32s p.xs ++ (le32s p.zs ++ (bodies ps ++ rest)) = simp (bodies_cons, append_assoc) at h in
      let at-z = drop_past b j (le32s p.xs) _ at_x (length_le32s _) in
      let past : j + 4 * x + 4 * z ≡ j + 4 * (x + z) = omega arith in
      let at_more = rw past at (drop_past b (j + 4 * x) (le32s p.zs) _ at-z (length_le32s _)) in
      ap₂ ◌∷◌
      (λ k. record { e = p.e; xs = set_read p.xs j _ ok.0.x.low at_x k; zs = set_read p.zs (j + 4 * x) _ ok.0.z.low at-z k })
      (paulis_read (before + length p.xs + length p.zs) (j + 4 * (x + z)) ps rest ok.1 at_more)

  pub paulis_written : AllBytes b → (j : ℕ) (es : List Entry) → j + 4 * counted es ≤ length b
      → bodies (paulis_at b j es) ++ drop (j + 4 * counted es) b ≡ drop j b
  unfolding paulis_at counted
  paulis_written low j [] l = rw (bodies_none, add-zero)
  paulis_written low j (a ∷ more) l =
      let x : ℕ = a.xcount in
      let z : ℕ = a.zcount in
      let past : j + 4 * x + 4 * z ≡ j + 4 * (x + z) = omega arith in
      let ends : j + 4 * (x + z + counted more) ≡ j + 4 * (x + z) + 4 * counted more = omega arith in
      simp (bodies_cons, append_assoc)
      (rw (ends, paulis_written low (j + 4 * (x + z)) more (omega arith), ← past, numbers_written b low z (j + 4 * x) (omega arith))
      (numbers_written b low x j (omega arith)))

  -- each Pauli stands where its entry's start says
  pub get_or_paulis : (j before : ℕ) (es : List Entry) → Placed before es → (m : ℕ) → m < length es → (d : Sparse) (f : Entry)
      → get_or (paulis_at b (j + 4 * before) es) m d ≡ body_at b j (get_or es m f)
  unfolding paulis_at body_at
  get_or_paulis j before [] h m l d f = absurd (omega arith)
  get_or_paulis j before (a ∷ more) h zero l d f =
      let x : j + 4 * before ≡ j + 4 * a.start = omega arith in
      let z : j + 4 * before + 4 * a.xcount ≡ j + 4 * (a.start + a.xcount) = omega arith in
      λ k. record { e = a.exponent; xs = numbers_at b (x k) a.xcount; zs = numbers_at b (z k) a.zcount }
  get_or_paulis j before (a ∷ more) h (suc m) l d f =
      let next : j + 4 * before + 4 * (a.xcount + a.zcount) ≡ j + 4 * (before + a.xcount + a.zcount) = omega arith in
      rw next (get_or_paulis j (before + a.xcount + a.zcount) more h.2 m (omega arith) d f)
