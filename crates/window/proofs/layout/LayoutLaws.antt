-- Bytes of a window: a roll that is put into them is read back, and the width stays.
use Rattle.std.proofs.Common.{◌≡◌, ℕ, ◌+◌, ◌-◌, ◌*◌, ◌<◌, ◌≤◌, min, max, List, [], ◌++◌, length, get_or, take, drop, sym, refl, ap, ap₂, ◌∙◌, append_assoc, zero-add, add-zero, arith, le-ltb, length-drop, length-take-le, take-append-drop, take_at, take_all, drop_at, drop-drop, take-take, get_or-take, get_or-drop}
use Rattle.std.proofs.lemmas.List.{drop-take, drop-append-le}
use borrow.Rule.Slice.PartMut.{mid_of, put_mid}
use Rattle.pauli.specs.Bytes.{u16_at, u32_at, le16, le32, le32s}
use Rattle.pauli.specs.Roll.{write, encode, table, bodies, numbers}
use Rattle.pauli.specs.Told.{Told, answer, refused, map_told}
use Rattle.pauli.specs.Writing.{put_bytes, told_bytes, left_in}
use Rattle.pauli.proofs.roll.BytesLaws.{length_le16, length_le32, u16_read, u32_read}
use Rattle.pauli.proofs.roll.Told.{refused_none, test_pass}
use Rattle.pauli.proofs.write.Puts.{length_put, put_drop}
use Rattle.window.specs.History.{widest, or_same}
use Rattle.window.specs.Inner.{HasRoom}
use Rattle.window.specs.Layout.{room_bytes, window_bytes, width_at, front, roll_in, width_in, holding}

-- ---- what is read

pub roll_part : (w : List ℕ) (n : ℕ) → n ≡ min (u32_at w 0) room_bytes → mid_of 4 (4 + n - 4) w ≡ roll_in w
unfolding roll_in
roll_part w n e = let s : 4 + n - 4 ≡ min (u32_at w 0) room_bytes = omega arith in rw s refl

pub roll_few : (w : List ℕ) → window_bytes ≤ length w → length (roll_in w) ≤ room_bytes
unfolding roll_in
roll_few w size =
    let n = min (u32_at w 0) room_bytes in
    rw (length-take-le n (drop 4 w) (rw length-drop (omega arith))) (omega arith)

pub width_some : (w : List ℕ) → 1 ≤ width_in w
unfolding width_in
width_some w = omega arith

pub width_few : (w : List ℕ) → width_in w ≤ 64
unfolding width_in widest
width_few w = omega arith

-- ---- a roll that goes to the room

-- a part of bytes, at whose front others are put
part_put : (w : List ℕ) (a k : ℕ) (bs : List ℕ) → a + k ≤ length w → length bs ≤ k → put_mid a k w (put_bytes (mid_of a k w) 0 bs) ≡ put_bytes w a bs
unfolding put_bytes
part_put w a k bs room h =
    let space = take k (drop a w) in
    let rest = drop k (drop a w) in
    let size : length space ≡ k = length-take-le k (drop a w) (rw length-drop (omega arith)) in
    let more : drop (length bs) space ++ rest ≡ drop (a + length bs) w =
    sym (drop-append-le (length bs) space rest (rw size h)) ∙ ap (drop (length bs)) (take-append-drop k (drop a w)) ∙ drop-drop (length bs) a w in
    rw (zero-add (length bs)) (ap (take a w ++◌) (append_assoc bs (drop (length bs) space) rest ∙ ap (bs ++◌) more))

-- what a roll leaves that is told for the room
module _ (w : List ℕ) (size : length w ≡ window_bytes) where
  abbrev space : List ℕ
  space = mid_of 4 room_bytes w

  space_length : length space ≡ room_bytes
  space_length = length-take-le room_bytes (drop 4 w) (rw length-drop (omega arith))

  pub put_refused : (t : Told (List ℕ)) → HasRoom t → (m p : ℕ) → refused m p ≡ told_bytes t space → (u : List ℕ) → u ≡ left_in t space
      → (refused m p ≡ map_told (λ roll. tt {0}) t) × (put_mid 4 room_bytes w u ≡ or_same w (map_told (holding w) t))
  unfolding told_bytes left_in map_told or_same
  put_refused (refused n q) room m p h u l = ((cc), ap (put_mid 4 room_bytes w) l ∙ ap (take 4 w ++◌) (take-append-drop room_bytes (drop 4 w)) ∙ take-append-drop 4 w)
  put_refused (answer bs) room m p h u l =
      absurd (refused_none m p (length bs) (h ∙ test_pass _ 12 0 _ (le-ltb (length space) (length bs) (rw space_length (room bs refl)))))

  -- its length, and what the bytes then are
  pub put_answered : (t : Told (List ℕ)) → HasRoom t → (k : ℕ) → answer k ≡ told_bytes t space → (u : List ℕ) → u ≡ left_in t space
      → (k ≤ room_bytes) × (answer tt ≡ map_told (λ roll. tt {0}) t) × (put_bytes (put_mid 4 room_bytes w u) 0 (le32 k) ≡ or_same w (map_told (holding w) t))
  unfolding told_bytes left_in map_told or_same holding
  put_answered (refused n q) room k h u l = absurd (refused_none n q k (sym h))
  put_answered (answer bs) room k h u l =
      let fits = le-ltb (length space) (length bs) (rw space_length (room bs refl)) in
      let count : k ≡ length bs = cc (h, test_pass _ 12 0 (answer (length bs)) fits) in
      let left : u ≡ put_bytes space 0 bs = rw fits at l in
      (rw count (room bs refl), refl, ap₂ (λ (x : List ℕ) (n : ℕ). put_bytes x 0 (le32 n)) (ap (put_mid 4 room_bytes w) left ∙ part_put w 4 room_bytes bs (omega arith) (room bs refl)) count)

-- ---- what is held is read back

pub first_byte : (l : List ℕ) (j : ℕ) → get_or l j 0 ≡ get_or (drop j l) 0 0
first_byte l j = sym (get_or-drop j l 0 0 ∙ ap (λ (i : ℕ). get_or l i 0) (add-zero j))

-- a byte behind what is put is as it was
pub behind : (w : List ℕ) (i : ℕ) (bs : List ℕ) → i + length bs ≤ length w → (k : ℕ) → i + length bs ≤ k → get_or (put_bytes w i bs) k 0 ≡ get_or w k 0
behind w i bs room k h =
    let at : k ≡ i + length bs + (k - (i + length bs)) = omega arith in
    let n = i + length bs + (k - (i + length bs)) in
    ap (λ (j : ℕ). get_or (put_bytes w i bs) j 0) at
    ∙ first_byte (put_bytes w i bs) n ∙ ap (λ (l : List ℕ). get_or l 0 0) (put_drop w i bs room (k - (i + length bs))) ∙ sym (first_byte w n) ∙ ap (λ (j : ℕ). get_or w j 0) (sym at)

drop_put : (w : List ℕ) (i : ℕ) (bs : List ℕ) → i ≤ length w → drop i (put_bytes w i bs) ≡ bs ++ drop (i + length bs) w
unfolding put_bytes
drop_put w i bs h = drop_at (take i w) (bs ++ drop (i + length bs) w) i (length-take-le i w h)

module _ (w : List ℕ) (size : length w ≡ window_bytes) (bs : List ℕ) (few : length bs ≤ room_bytes) where
  abbrev put : List ℕ
  put = put_bytes w 4 bs

  put_length : length put ≡ window_bytes
  put_length = length_put w 4 bs (omega arith) ∙ size

  head : length (le32 (length bs)) ≡ 4
  head = length_le32 (length bs)

  pub hold_length : length (holding w bs) ≡ window_bytes
  unfolding holding
  hold_length = length_put put 0 (le32 (length bs)) (omega (arith, put_length, head)) ∙ put_length

  hold_byte : (k : ℕ) → 4 + room_bytes ≤ k → get_or (holding w bs) k 0 ≡ get_or w k 0
  unfolding holding
  hold_byte k h = behind put 0 (le32 (length bs)) (omega (arith, put_length, head)) k (omega (arith, head)) ∙ behind w 4 bs (omega arith) k (omega arith)

  pub hold_width : width_in (holding w bs) ≡ width_in w
  unfolding width_in u16_at
  hold_width = ap₂ (λ (a : ℕ) (b : ℕ). max (min (a + 256 * b) widest) 1) (hold_byte width_at (omega arith)) (hold_byte (width_at + 1) (omega arith))

  hold_front : holding w bs ≡ le32 (length bs) ++ drop 4 put
  unfolding holding put_bytes
  hold_front = rw head refl

  hold_size : u32_at (holding w bs) 0 ≡ length bs
  hold_size = u32_read (holding w bs) (length bs) 0 (drop 4 put) (omega arith) hold_front

  pub hold_roll : roll_in (holding w bs) ≡ bs
  unfolding roll_in
  hold_roll =
      let small : min (u32_at (holding w bs) 0) room_bytes ≡ length bs = omega (arith, hold_size) in
      let rest : drop 4 (holding w bs) ≡ bs ++ drop (4 + length bs) w = ap (drop 4) hold_front ∙ drop_at (le32 (length bs)) (drop 4 put) 4 head ∙ drop_put w 4 bs (omega arith) in
      ap₂ (λ (n : ℕ) (l : List ℕ). take n l) small rest ∙ take_at bs (drop (4 + length bs) w) (length bs) refl

-- ---- a width that is put

pub width_put : (w : List ℕ) (v : ℕ) → length w ≡ window_bytes → 1 ≤ v → v ≤ widest
    → (length (put_bytes w width_at (le16 v)) ≡ window_bytes) × (width_in (put_bytes w width_at (le16 v)) ≡ v)
unfolding width_in widest
width_put w v size one few =
    let wide = put_bytes w width_at (le16 v) in
    let is : u16_at wide width_at ≡ v = u16_read wide v width_at (drop (width_at + length (le16 v)) w) (omega arith) (drop_put w width_at (le16 v) (omega arith)) in
    (length_put w width_at (le16 v) (omega (arith, length_le16 v)) ∙ size, omega arith)

pub empty_length : length (write []) ≡ 2
unfolding write encode table bodies numbers le32s le16
empty_length = refl

-- the roll of no check, byte for byte
pub empty_roll : write [] ≡ le16 0
unfolding write encode table bodies numbers le32s le16
empty_roll = refl

-- ---- the front of the bytes is what holds the window

pub front_all : (w : List ℕ) → length w ≡ window_bytes → front w ≡ w
unfolding front
front_all w size = take_all window_bytes w (omega arith)

pub front_length : (w : List ℕ) → window_bytes ≤ length w → length (front w) ≡ window_bytes
unfolding front
front_length w h = length-take-le window_bytes w h

module _ (w : List ℕ) where
  front_byte : (k : ℕ) → k < window_bytes → get_or (front w) k 0 ≡ get_or w k 0
  unfolding front
  front_byte k h = get_or-take window_bytes w k 0 h

  front_number : u32_at (front w) 0 ≡ u32_at w 0
  unfolding u32_at
  front_number = rw (front_byte 0 (omega arith), front_byte 1 (omega arith), front_byte 2 (omega arith), front_byte 3 (omega arith)) refl

  front_rest : drop 4 (front w) ≡ take 66180 (drop 4 w)
  unfolding front
  front_rest = drop-take 4 66180 w

  pub front_roll : roll_in (front w) ≡ roll_in w
  unfolding roll_in
  front_roll =
      ap₂ (λ (n : ℕ) (l : List ℕ). take (min n room_bytes) l) front_number front_rest
      ∙ take-take (min (u32_at w 0) room_bytes) 66180 (drop 4 w) (omega arith)

  pub front_width : width_in (front w) ≡ width_in w
  unfolding width_in u16_at
  front_width = ap₂ (λ (a : ℕ) (b : ℕ). max (min (a + 256 * b) widest) 1) (front_byte width_at (omega arith)) (front_byte (width_at + 1) (omega arith))
