-- The table of a roll: entries are read from their bytes as they were written, and written as they were read.
use Rattle.std.proofs.Common.{◌≡◌, ℕ, zero, suc, ◌+◌, ◌*◌, ◌^◌, ◌<◌, ◌≤◌, List, [], ◌∷◌, ◌++◌, length, get_or, drop, refl, ap, append_assoc, add_assoc, arith, length-append}
use Rattle.pauli.specs.Bytes.{le16, le32}
use Rattle.pauli.specs.Roll.{Entry, entry_at, entries_at}
use Rattle.pauli.specs.Support.{All}
use Rattle.pauli.proofs.support.Lists.{AllBytes, all_bytes_append, drop_past, get_d_front, drop_one}
use Rattle.pauli.proofs.roll.Items.{items_at, items_bytes, length_items_at, get_or_items_at, length_items_bytes, items_read, items_written}
use Rattle.pauli.proofs.roll.BytesLaws.{u16_read, u32_read, u16_written, u32_written, length_le16, length_le32, all_bytes_le16, all_bytes_le32}

-- the ten bytes of an entry
unfoldable pub ten_bytes : Entry → List ℕ
ten_bytes a = a.given ∷ a.exponent ∷ (le32 a.start ++ (le16 a.xcount ++ le16 a.zcount))

pub length_ten_bytes : (a : Entry) → length (ten_bytes a) ≡ 10
unfolding ten_bytes
length_ten_bytes a = simp (length-append, length_le32, length_le16)

pub all_bytes_ten_bytes : (a : Entry) → a.given < 256 → a.exponent < 256 → AllBytes (ten_bytes a)
unfolding ten_bytes
all_bytes_ten_bytes a g e =
    let counts = all_bytes_append (le16 a.xcount) (le16 a.zcount) (all_bytes_le16 _) (all_bytes_le16 _) in
    (g, (e, all_bytes_append (le32 a.start) _ (all_bytes_le32 _) counts))

-- an entry whose numbers fit their bytes
pub record Fits (a : Entry) : Type 0 where
  pub start : a.start < 2 ^ 32
  pub xcount : a.xcount < 2 ^ 16
  pub zcount : a.zcount < 2 ^ 16

entries_items : (b : List ℕ) (i n : ℕ) → entries_at b i n ≡ items_at 10 (entry_at b) i n
unfolding entries_at items_at
entries_items b i zero = refl
entries_items b i (suc n) = ap (λ l. entry_at b i ∷ l) (entries_items b (i + 10) n)

pub length_entries : (b : List ℕ) (i n : ℕ) → length (entries_at b i n) ≡ n
length_entries b i n = rw (entries_items, length_items_at)

pub get_or_entries : (b : List ℕ) (i n m : ℕ) (d : Entry) → m < n → get_or (entries_at b i n) m d ≡ entry_at b (i + 10 * m)
get_or_entries b i n m d l = rw entries_items (get_or_items_at 10 (entry_at b) i n m d l)

pub length_entries_bytes : (es : List Entry) → length (items_bytes ten_bytes es) ≡ 10 * length es
length_entries_bytes = length_items_bytes 10 ten_bytes length_ten_bytes

module _ (b : List ℕ) where
  entry_read : (a : Entry) (i : ℕ) (rest : List ℕ) → Fits a → drop i b ≡ ten_bytes a ++ rest → entry_at b i ≡ a
  unfolding ten_bytes entry_at
  entry_read a i rest f h =
      let at0 : drop i b ≡ a.given ∷ a.exponent ∷ (le32 a.start ++ (le16 a.xcount ++ (le16 a.zcount ++ rest))) = simp append_assoc at h in
      let at1 = drop_past b i (a.given ∷ []) _ at0 refl in
      let at2 = drop_past b i (a.given ∷ a.exponent ∷ []) _ at0 refl in
      let at6 = rw add_assoc at (drop_past b (i + 2) (le32 a.start) _ at2 (length_le32 _)) in
      let at8 = rw add_assoc at (drop_past b (i + 6) (le16 a.xcount) _ at6 (length_le16 _)) in
      λ k.
      record {
        given = get_d_front b i 0 _ _ at0 k;
        exponent = get_d_front b (i + 1) 0 _ _ at1 k;
        start = u32_read b _ (i + 2) _ f.start at2 k;
        xcount = u16_read b _ (i + 6) _ f.xcount at6 k;
        zcount = u16_read b _ (i + 8) _ f.zcount at8 k;
      }

  pub entries_read : (es : List Entry) (i : ℕ) (rest : List ℕ) → All Fits es → drop i b ≡ items_bytes ten_bytes es ++ rest
      → entries_at b i (length es) ≡ es
  entries_read es i rest f h = rw entries_items (items_read 10 ten_bytes length_ten_bytes b (entry_at b) Fits entry_read es i rest f h)

  module _ (low : AllBytes b) where
    entry_written : (i : ℕ) → i + 10 ≤ length b → ten_bytes (entry_at b i) ++ drop (i + 10) b ≡ drop i b
    unfolding ten_bytes entry_at
    entry_written i l =
        let at8 = rw add_assoc at (u16_written b low (i + 8) (omega arith)) in
        let at6 = rw add_assoc at (u16_written b low (i + 6) (omega arith)) in
        let at2 = rw add_assoc at (u32_written b low (i + 2) (omega arith)) in
        let at1 = rw add_assoc at (drop_one b (i + 1) 0 (omega arith)) in
        simp append_assoc (rw (at8, at6, at2, at1, drop_one b i 0 (omega arith)))

    pub entries_written : (n i : ℕ) → i + 10 * n ≤ length b → items_bytes ten_bytes (entries_at b i n) ++ drop (i + 10 * n) b ≡ drop i b
    entries_written n i l = rw entries_items (items_written 10 ten_bytes length_ten_bytes b (entry_at b) entry_written n i l)
