-- Laws of bytes put into an output, one after the other.
use Rattle.std.proofs.Common.{◌≡◌, ℕ, suc, ◌+◌, ◌*◌, ◌%◌, ◌<◌, ◌≤◌, List, [], ◌∷◌, ◌++◌, length, get_or, take, drop, set, sym, refl, ap, ◌∙◌, ap₂, append_assoc, add-zero, add_assoc, add-one, arith, length-append, length-drop, length-set, take-append-drop, length-take-le, drop-drop, take-suc-set, take_at, drop-set-lt}
use lib.Seq.{take-append-add, drop-append-add}
use Rattle.pauli.proofs.support.Lists.{drop_one}
use borrow.Rule.Slice.PartMut.{put_mid}
use Rattle.pauli.specs.Bytes.{le16, le32, le32s}
use Rattle.pauli.specs.Pauli.{select}
use Rattle.pauli.specs.Writing.{put_bytes, entry_bytes}
use Rattle.pauli.proofs.roll.BytesLaws.{length_le32, length_le32s}
use Rattle.pauli.specs.Sets.{members}
use Rattle.pauli.proofs.places.Members.{at_indexes, at_hit, at_past, select_members}

pub put_nothing : (out : List ℕ) (i : ℕ) → put_bytes out i [] ≡ out
unfolding put_bytes
put_nothing out i = rw (add-zero i) (take-append-drop i out)

pub put_byte : (out : List ℕ) (i a : ℕ) (bs : List ℕ) → i < length out → put_bytes out i (a ∷ bs) ≡ put_bytes (set out i a) (i + 1) bs
unfolding put_bytes
put_byte out i a bs h =
    let e : i + suc (length bs) ≡ suc i + length bs = omega arith in
    rw (add-one i, take-suc-set out i a h, drop-set-lt (suc i + length bs) out i a (omega arith), append_assoc (take i out) (a ∷ []))
    (ap (λ (k : ℕ). take i out ++ (a ∷ (bs ++ drop k out))) e)

module _ (out : List ℕ) (i : ℕ) where
  pub put_two : (a b : ℕ) → i + 2 ≤ length out → set (set out i a) (i + 1) b ≡ put_bytes out i (a ∷ b ∷ [])
  put_two a b h =
      sym (put_byte out i a (b ∷ []) (omega arith) ∙ put_byte (set out i a) (i + 1) b [] (rw length-set (omega arith)) ∙ put_nothing _ (i + 1 + 1))

-- a part of an output, from byte i on, that is overwritten
pub put_part : (out ys bs : List ℕ) (i k : ℕ) → ys ≡ bs → length bs ≡ k → put_mid i k out ys ≡ put_bytes out i bs
unfolding put_bytes
put_part out ys bs i k e n = rw (e, n) (ap (λ (rest : List ℕ). take i out ++ (bs ++ rest)) (drop-drop k i out))

-- the front of an output in which bytes are put
module _ (out : List ℕ) (i : ℕ) (a : List ℕ) (room : i + length a ≤ length out) where
  front : length (take i out) ≡ i
  front = length-take-le i out (omega arith)

  pub length_put : length (put_bytes out i a) ≡ length out
  unfolding put_bytes
  length_put = length-append (take i out) (a ++ drop (i + length a) out) ∙ ap₂ ◌+◌ front (length-append a (drop (i + length a) out) ∙ ap (length a +◌) (length-drop (i + length a) out)) ∙ omega arith

  put_take : take (i + length a) (put_bytes out i a) ≡ take i out ++ a
  unfolding put_bytes
  put_take =
      ap (λ (k : ℕ). take (k + length a) (take i out ++ (a ++ drop (i + length a) out))) (sym front)
      ∙ take-append-add (take i out) (a ++ drop (i + length a) out) (length a) ∙ ap (take i out ++◌) (take_at a (drop (i + length a) out) (length a) refl)

  pub put_drop : (k : ℕ) → drop (i + length a + k) (put_bytes out i a) ≡ drop (i + length a + k) out
  unfolding put_bytes
  put_drop k =
      ap (λ (j : ℕ). drop j (take i out ++ (a ++ drop (i + length a) out))) (add_assoc i (length a) k ∙ ap (◌+ (length a + k)) (sym front))
      ∙ drop-append-add (take i out) (a ++ drop (i + length a) out) (length a + k)
      ∙ drop-append-add a (drop (i + length a) out) k ∙ drop-drop k (i + length a) out

  -- more bytes behind them
  pub put_append : (b : List ℕ) → put_bytes (put_bytes out i a) (i + length a) b ≡ put_bytes out i (a ++ b)
  unfolding put_bytes
  put_append b =
      let all : i + length a + length b ≡ i + length (a ++ b) = add_assoc i (length a) (length b) ∙ ap (i +◌) (sym (length-append a b)) in
      ap₂ (λ (x : List ℕ) (y : List ℕ). x ++ (b ++ y)) put_take (put_drop (length b) ∙ ap (λ (k : ℕ). drop k out) all)
      ∙ append_assoc (take i out) a (b ++ drop (i + length (a ++ b)) out) ∙ ap (take i out ++◌) (sym (append_assoc a b (drop (i + length (a ++ b)) out)))

-- ---- an entry

pub entry_puts : (out : List ℕ) (i e start xcount zcount : ℕ) → i + 10 ≤ length out
    → put_bytes (put_bytes (put_bytes (set (set out i 1) (i + 1) (e % 4)) (i + 2) (le32 start)) (i + 6) (le16 xcount)) (i + 8) (le16 zcount)
    ≡ put_bytes out i (entry_bytes e start xcount zcount)
unfolding entry_bytes le32 le16
entry_puts out i e start xcount zcount h =
    let head : List ℕ = 1 ∷ e % 4 ∷ [] in
    let first = head ++ le32 start in
    let second = first ++ le16 xcount in
    ap (λ (o : List ℕ). put_bytes (put_bytes (put_bytes o (i + 2) (le32 start)) (i + 6) (le16 xcount)) (i + 8) (le16 zcount)) (put_two out i 1 (e % 4) (omega arith))
    ∙ ap (λ (o : List ℕ). put_bytes (put_bytes o (i + 6) (le16 xcount)) (i + 8) (le16 zcount)) (put_append out i head (omega arith) (le32 start))
    ∙ ap (λ (o : List ℕ). put_bytes o (i + 8) (le16 zcount)) (put_append out i first (omega arith) (le16 xcount))
    ∙ put_append out i second (omega arith) (le16 zcount)

-- the same, for outputs that are equal to these
pub entry_all : (out : List ℕ) (i e start xcount zcount : ℕ) → i + 10 ≤ length out → (a b c : List ℕ)
    → a ≡ put_bytes (set (set out i 1) (i + 1) (e % 4)) (i + 2) (le32 start) → b ≡ put_bytes a (i + 6) (le16 xcount) → c ≡ put_bytes b (i + 8) (le16 zcount)
    → c ≡ put_bytes out i (entry_bytes e start xcount zcount)
entry_all out i e start xcount zcount h a b c p q r =
    r ∙ ap (λ (o : List ℕ). put_bytes o (i + 8) (le16 zcount)) (q ∙ ap (λ (o : List ℕ). put_bytes o (i + 6) (le16 xcount)) p) ∙ entry_puts out i e start xcount zcount h

-- ---- writing piece by piece

-- the bytes `whole` are being written from byte `start` of the output `first` on; the output is now `out`, and `rest` is left to
-- write, from byte `next` on
pub record Left (first : List ℕ) (start : ℕ) (whole out : List ℕ) (next : ℕ) (rest : List ℕ) : Type 0 where
  pub size : length out ≡ length first
  pub room : next + length rest ≤ length out
  pub bytes : put_bytes first start whole ≡ put_bytes out next rest
  pub end : start + length whole ≡ next + length rest

pub left_start : (first : List ℕ) (start : ℕ) (whole rest : List ℕ) → whole ≡ rest → start + length whole ≤ length first → Left first start whole first start rest
left_start first start whole rest e h = record { size = refl; room = rw (← e) h; bytes = ap (put_bytes first start) e; end = ap (λ (l : List ℕ). start + length l) e }

module _ {first : List ℕ} {start : ℕ} {whole out : List ℕ} {next : ℕ} {rest : List ℕ} (r : Left first start whole out next rest) where
  pub left_done : rest ≡ [] → (out ≡ put_bytes first start whole) × (next ≡ start + length whole)
  left_done e =
      (sym (r.bytes ∙ ap (put_bytes out next) e ∙ put_nothing out next), sym (r.end ∙ ap (λ (l : List ℕ). next + length l) e ∙ add-zero next))

  pub left_same : (more : List ℕ) → rest ≡ more → Left first start whole out next more
  left_same more e = record { size = r.size; room = rw (← e) r.room; bytes = rw (← e) r.bytes; end = rw (← e) r.end }

  module _ (piece more : List ℕ) (k : ℕ) (e : rest ≡ piece ++ more) (n : length piece ≡ k) where
    counted : length rest ≡ k + length more
    counted = ap length e ∙ length-append piece more ∙ ap (◌+ length more) n

    pub left_room : next + k ≤ length out
    left_room = omega (arith, counted, r.room)

    -- the next piece is written
    pub left_step : (u : List ℕ) → u ≡ put_bytes out next piece → length u ≡ length out → Left first start whole u (next + k) more
    left_step u d l = record {
      size = l ∙ r.size;
      room = omega (arith, counted, r.room);
      bytes =
          r.bytes ∙ ap (put_bytes out next) e ∙ sym (put_append out next piece (rw n left_room) more)
          ∙ ap₂ (λ (o : List ℕ) (j : ℕ). put_bytes o (next + j) more) (sym d) n;
      end = omega (arith, counted, r.end);
    }

-- bytes are being written one by one, and those from number k on are left
module _ {first whole out : List ℕ} {start next : ℕ} (b : List ℕ) (k : ℕ) (h : k < length b) (r : Left first start whole out next (drop k b)) where
  byte : drop k b ≡ (get_or b k 0 ∷ []) ++ drop (k + 1) b
  byte = sym (drop_one b k 0 h)

  pub byte_fits : next + 1 ≤ length out
  byte_fits = left_room r (get_or b k 0 ∷ []) (drop (k + 1) b) 1 byte refl

  pub byte_copied : Left first start whole (set out next (get_or b k 0)) (next + 1) (drop (k + 1) b)
  byte_copied =
      left_step r (get_or b k 0 ∷ []) (drop (k + 1) b) 1 byte refl (set out next (get_or b k 0))
      (sym (put_byte out next (get_or b k 0) [] (omega (arith, byte_fits)) ∙ put_nothing (set out next (get_or b k 0)) (next + 1))) (simp length-set)

-- the numbers of a set of places are being written, and those of the places `left` are left
pub set_start : (first : List ℕ) (start s : ℕ) (support : List ℕ) → start + 4 * length (select s support) ≤ length first
    → Left first start (le32s (select s support)) first start (le32s (at_indexes (members s) support))
set_start first start s support h = left_start first start _ _ (ap le32s (select_members support s)) (rw length_le32s h)

module _ {first : List ℕ} {start : ℕ} {out : List ℕ} {next : ℕ} (s : ℕ) (support left : List ℕ)
    (r : Left first start (le32s (select s support)) out next (le32s (at_indexes left support))) where
  pub set_done : left ≡ [] → (out ≡ put_bytes first start (le32s (select s support))) × (next ≡ start + 4 * length (select s support))
  unfolding le32s at_indexes
  set_done h =
      let e = left_done r (ap (λ (is : List ℕ). le32s (at_indexes is support)) h) in
      (e.0, e.1 ∙ ap (start +◌) (length_le32s (select s support)))

  -- the next place is p
  module _ (p : ℕ) (more : List ℕ) (e : left ≡ p ∷ more) where
    pub set_past : length support ≤ p → Left first start (le32s (select s support)) out next (le32s (at_indexes more support))
    set_past h = left_same r _ (ap (λ (is : List ℕ). le32s (at_indexes is support)) e ∙ ap le32s (at_past support p more h))

    module _ (h : p < length support) where
      number : le32s (at_indexes left support) ≡ le32 (get_or support p 0) ++ le32s (at_indexes more support)
      unfolding le32s
      number = ap (λ (is : List ℕ). le32s (at_indexes is support)) e ∙ ap le32s (at_hit support p more 0 h)

      pub set_room : next + 4 ≤ length out
      set_room = left_room r (le32 (get_or support p 0)) _ 4 number (length_le32 (get_or support p 0))

      pub set_hit : (u : List ℕ) → u ≡ put_bytes out next (le32 (get_or support p 0)) → length u ≡ length out
          → Left first start (le32s (select s support)) u (next + 4) (le32s (at_indexes more support))
      set_hit = left_step r (le32 (get_or support p 0)) _ 4 number (length_le32 (get_or support p 0))
