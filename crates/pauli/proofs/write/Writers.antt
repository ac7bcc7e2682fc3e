-- Laws of the writer of rolls: the Paulis of a list, taken one by one.
use Rattle.std.proofs.Common.{◌≡◌, ℕ, zero, suc, ◌+◌, ◌*◌, ◌/◌, ◌%◌, ◌^◌, ◌<◌, ◌≤◌, List, [], ◌∷◌, ◌++◌, map, length, get_or, drop, sym, refl, ap, ◌∙◌, subst, ap₂, append_assoc, zero-add, add-one, arith, drop-cons, drop_of_length-le, length-append, le-ltb, lt-ltb}
use lib.Count.{ones, ones_step}
use lib.ListN.{length-map}
use Rattle.binar.specs.Row.{weight}
use Rattle.binar.proofs.row.Bits.{ones_zero}
use Rattle.pauli.specs.declared.signed.Pauli.{Pauli as Held}
use Rattle.pauli.specs.Bytes.{le16, le32, le32s}
use Rattle.pauli.specs.Roll.{numbers, entry, table, bodies, encode}
use Rattle.pauli.specs.Pauli.{Pauli, normal, cons_if, select}
use Rattle.pauli.specs.Signed.{held, pauli_in, list_in, paulis_in, stored}
use Rattle.pauli.specs.PlaceSet.{set_in}
use Rattle.pauli.specs.Told.{answer, refused, refuse_if}
use Rattle.pauli.specs.Writing.{put_bytes, entry_bytes, numbers_of, table_of, sparse_over, OnPlaces, roll_over, told_bytes, left_in}
use Rattle.pauli.proofs.roll.BytesLaws.{length_le32s, le32s_append}
use Rattle.pauli.proofs.signed.SignedLaws.{length_paulis, stored_value}
use Rattle.pauli.proofs.write.Puts.{put_append, Left, left_step, left_room}

-- ---- a Pauli that was loaded

pub record Loaded (r : Held) (p : Pauli) : Type 0 where
  pub e : r.exponent % 4 ≡ p.e % 4
  pub x : set_in r.x ≡ p.x
  pub z : set_in r.z ≡ p.z

pub loaded : (r : Held) (p : Pauli) → held r ≡ stored p → Loaded r p
unfolding normal held
loaded r p h =
    let value = stored_value p h in
    record { e = ap (λ (q : Pauli). q.e) value; x = ap (λ (q : Pauli). q.x) value; z = ap (λ (q : Pauli). q.z) value }

-- ---- the Paulis of words

pub length_list : (w : List ℕ) (base n : ℕ) → length (list_in w base n) ≡ n
unfolding list_in
length_list w base zero = refl
length_list w base (suc n) = ap suc (length_list w (base + 5) n)

-- ---- the Paulis of a list from number i on

unfoldable pub paulis_from : List (List ℕ) → ℕ → List Pauli
paulis_from ls i = paulis_in (drop i ls)

module _ (ls : List (List ℕ)) where
  pub paulis_start : paulis_in ls ≡ paulis_from ls 0
  unfolding paulis_from
  paulis_start = refl

  pub paulis_next : (i : ℕ) → i < length ls → paulis_from ls i ≡ pauli_in (get_or ls i []) 0 ∷ paulis_from ls (i + 1)
  unfolding paulis_from paulis_in
  paulis_next i h = rw (drop-cons ls i [] h, add-one i) refl

  pub paulis_end : (i : ℕ) → length ls ≤ i → paulis_from ls i ≡ []
  unfolding paulis_from paulis_in
  paulis_end i h = ap paulis_in (drop_of_length-le ls h)

  -- ---- how many numbers

  pub numbers_start : numbers_of (paulis_in ls) ≡ 0 + numbers_of (paulis_from ls 0)
  numbers_start = ap numbers_of paulis_start ∙ omega arith

  pub numbers_step : (i : ℕ) → i < length ls → (r : Held) → Loaded r (pauli_in (get_or ls i []) 0) → (a b t : ℕ) → a ≡ weight (set_in r.x) → b ≡ weight (set_in r.z)
      → t + numbers_of (paulis_from ls i) ≡ t + (a + b) + numbers_of (paulis_from ls (i + 1))
  unfolding numbers_of
  numbers_step i h r f a b t p q =
      ap (λ (l : List Pauli). t + numbers_of l) (paulis_next i h)
      ∙ omega (arith, p ∙ ap weight f.x, q ∙ ap weight f.z)

  pub numbers_end : (i t : ℕ) → length ls ≤ i → t + numbers_of (paulis_from ls i) ≡ t
  unfolding numbers_of
  numbers_end i t h = ap (λ (l : List Pauli). t + numbers_of l) (paulis_end i h) ∙ omega arith

-- ---- the table

pub length_entry_bytes : (e start a b : ℕ) → length (entry_bytes e start a b) ≡ 10
unfolding entry_bytes le32 le16
length_entry_bytes e start a b = refl

entry_same : (e f start a b c d : ℕ) → e % 4 ≡ f % 4 → a ≡ c → b ≡ d → entry_bytes e start a b ≡ entry_bytes f start c d
unfolding entry_bytes
entry_same e f start a b c d p q r = rw (p, q, r)

module _ {first out : List ℕ} (ls : List (List ℕ)) (i before : ℕ) (h : i < length ls) (r : Held) (f : Loaded r (pauli_in (get_or ls i []) 0)) (a b : ℕ)
    (p : a ≡ weight (set_in r.x)) (q : b ≡ weight (set_in r.z))
    (l : Left first 2 (table_of 0 (paulis_in ls)) out (2 + 10 * i) (table_of before (paulis_from ls i))) where
  abbrev g : Pauli
  g = pauli_in (get_or ls i []) 0

  next_entry : table_of before (paulis_from ls i) ≡ entry_bytes r.exponent before a b ++ table_of (before + (a + b)) (paulis_from ls (i + 1))
  unfolding table_of
  next_entry =
      let wa : a ≡ weight g.x = p ∙ ap weight f.x in
      let wb : b ≡ weight g.z = q ∙ ap weight f.z in
      let sum : before + weight g.x + weight g.z ≡ before + (a + b) = omega arith in
      ap (table_of before) (paulis_next ls i h)
      ∙ ap₂ (λ (x : List ℕ) (k : ℕ). x ++ table_of k (paulis_from ls (i + 1))) (sym (entry_same r.exponent g.e before a b (weight g.x) (weight g.z) f.e wa wb)) sum

  pub table_room : 2 + 10 * i + 10 ≤ length out
  table_room = left_room l (entry_bytes r.exponent before a b) (table_of (before + (a + b)) (paulis_from ls (i + 1))) 10 next_entry (length_entry_bytes r.exponent before a b)

  pub table_step : (u : List ℕ) → u ≡ put_bytes out (2 + 10 * i) (entry_bytes r.exponent before a b) → length u ≡ length out
      → Left first 2 (table_of 0 (paulis_in ls)) u (2 + 10 * (i + 1)) (table_of (before + (a + b)) (paulis_from ls (i + 1)))
  table_step u d k =
      let e : 2 + 10 * i + 10 ≡ 2 + 10 * (i + 1) = omega arith in
      subst (λ (j : ℕ). Left first 2 (table_of 0 (paulis_in ls)) u j (table_of (before + (a + b)) (paulis_from ls (i + 1)))) e
      (left_step l (entry_bytes r.exponent before a b) (table_of (before + (a + b)) (paulis_from ls (i + 1))) 10 next_entry (length_entry_bytes r.exponent before a b) u d k)

length_table : (before : ℕ) (ps : List Pauli) → length (table_of before ps) ≡ 10 * length ps
unfolding table_of
length_table before [] = refl
length_table before (p ∷ ps) =
    length-append (entry_bytes p.e before (weight p.x) (weight p.z)) (table_of (before + weight p.x + weight p.z) ps)
    ∙ omega (arith, length_entry_bytes p.e before (weight p.x) (weight p.z), length_table (before + weight p.x + weight p.z) ps)

pub table_length : (ls : List (List ℕ)) → length (table_of 0 (paulis_in ls)) ≡ 10 * length ls
table_length ls = length_table 0 (paulis_in ls) ∙ ap (10 *◌) (length_paulis ls)

-- ---- the bodies

-- the bytes of the bodies of Paulis over a support
unfoldable pub body_bytes : List ℕ → List Pauli → List ℕ
body_bytes qs ps = le32s (numbers (map (sparse_over qs) ps))

module _ {first out : List ℕ} {start next : ℕ} (ls : List (List ℕ)) (qs : List ℕ) (i : ℕ) (h : i < length ls) (r : Held) (f : Loaded r (pauli_in (get_or ls i []) 0))
    (l : Left first start (body_bytes qs (paulis_in ls)) out next (body_bytes qs (paulis_from ls i))) where
  abbrev xs : List ℕ
  xs = select (set_in r.x) qs

  abbrev zs : List ℕ
  zs = select (set_in r.z) qs

  abbrev more : List ℕ
  more = body_bytes qs (paulis_from ls (i + 1))

  next_body : body_bytes qs (paulis_from ls i) ≡ le32s xs ++ (le32s zs ++ more)
  unfolding body_bytes numbers sparse_over
  next_body =
      ap (body_bytes qs) (paulis_next ls i h)
      ∙ ap₂ (λ (x : ℕ) (z : ℕ). le32s (select x qs ++ select z qs ++ numbers (map (sparse_over qs) (paulis_from ls (i + 1))))) (sym f.x) (sym f.z)
      ∙ le32s_append (xs ++ zs) (numbers (map (sparse_over qs) (paulis_from ls (i + 1))))
      ∙ ap (◌++ more) (le32s_append xs zs) ∙ append_assoc (le32s xs) (le32s zs) more

  pub body_room : next + 4 * length xs ≤ length out
  body_room = left_room l (le32s xs) (le32s zs ++ more) (4 * length xs) next_body (length_le32s xs)

  module _ (u : List ℕ) (d : u ≡ put_bytes out next (le32s xs)) (k : length u ≡ length out) where
    half : Left first start (body_bytes qs (paulis_in ls)) u (next + 4 * length xs) (le32s zs ++ more)
    half = left_step l (le32s xs) (le32s zs ++ more) (4 * length xs) next_body (length_le32s xs) u d k

    pub body_room_z : next + 4 * length xs + 4 * length zs ≤ length u
    body_room_z = left_room half (le32s zs) more (4 * length zs) refl (length_le32s zs)

    pub body_step : (m : ℕ) → m ≡ next + 4 * length xs → (v : List ℕ) → v ≡ put_bytes u m (le32s zs) → length v ≡ length u → (k : ℕ) → k ≡ m + 4 * length zs
        → Left first start (body_bytes qs (paulis_in ls)) v k more
    body_step m e v d s k f =
        subst (λ (j : ℕ). Left first start (body_bytes qs (paulis_in ls)) v j more) (sym (f ∙ ap (◌+ 4 * length zs) e))
        (left_step half (le32s zs) more (4 * length zs) refl (length_le32s zs) v (d ∙ ap (λ (j : ℕ). put_bytes u j (le32s zs)) e) s)

pub body_end : (ls : List (List ℕ)) (qs : List ℕ) (i : ℕ) → length ls ≤ i → body_bytes qs (paulis_from ls i) ≡ []
unfolding body_bytes numbers le32s
body_end ls qs i h = ap (body_bytes qs) (paulis_end ls i h)

-- ---- the whole roll

-- a set of places picks as many qubits as it has places
count_select : (s : ℕ) (qs : List ℕ) → s < 2 ^ length qs → length (select s qs) ≡ weight s
unfolding select weight cons_if
count_select s [] h = sym (ap ones (omega arith) ∙ ones_zero)
count_select s (q ∷ qs) h =
    let bound : s < 2 ^ suc (length qs) = h in
    counted (s % 2) (omega arith) ∙ ap (s % 2 +◌) (count_select (s / 2) qs (omega arith)) ∙ sym (ones_step s)
  where
    counted : (d : ℕ) → d < 2 → length (cons_if d q (select (s / 2) qs)) ≡ d + length (select (s / 2) qs)
    counted zero b = omega arith
    counted (suc zero) b = omega arith
    counted (suc (suc d)) b = absurd (omega arith)

module _ (qs : List ℕ) where
  pub numbers_over : (ps : List Pauli) → OnPlaces (length qs) ps → length (numbers (map (sparse_over qs) ps)) ≡ numbers_of ps
  unfolding OnPlaces numbers sparse_over numbers_of
  numbers_over [] h = refl
  numbers_over (p ∷ ps) h =
      length-append (select p.x qs ++ select p.z qs) (numbers (map (sparse_over qs) ps)) ∙ ap (◌+ length (numbers (map (sparse_over qs) ps))) (length-append (select p.x qs) (select p.z qs))
      ∙ omega (arith, count_select p.x qs h.0.0, count_select p.z qs h.0.1, numbers_over ps h.1)

  table_over : (before : ℕ) (ps : List Pauli) → OnPlaces (length qs) ps → table before (map (sparse_over qs) ps) ≡ table_of before ps
  unfolding OnPlaces table entry table_of entry_bytes sparse_over
  table_over before [] h = refl
  table_over before (p ∷ ps) h =
      rw (count_select p.x qs h.0.0, count_select p.z qs h.0.1)
      (ap (entry_bytes p.e before (weight p.x) (weight p.z) ++◌) (table_over (before + weight p.x + weight p.z) ps h.1))

  module _ (ps : List Pauli) (on : OnPlaces (length qs) ps) where
    pub roll_is : roll_over qs ps ≡ le16 (length ps) ++ table_of 0 ps ++ body_bytes qs ps
    unfolding roll_over encode bodies body_bytes
    roll_is = ap₂ (λ (k : ℕ) (t : List ℕ). le16 k ++ t ++ le32s (numbers (map (sparse_over qs) ps))) (length-map ps (sparse_over qs)) (table_over 0 ps on)

    pub roll_size : length (roll_over qs ps) ≡ 2 + 10 * length ps + 4 * numbers_of ps
    unfolding le16 body_bytes
    roll_size =
        ap length roll_is ∙ length-append (le16 (length ps) ++ table_of 0 ps) (body_bytes qs ps)
        ∙ ap₂ ◌+◌ (length-append (le16 (length ps)) (table_of 0 ps) ∙ ap (2 +◌) (length_table 0 ps)) (length_le32s (numbers (map (sparse_over qs) ps)) ∙ ap (4 *◌) (numbers_over ps on))

    -- the count, the table and the bodies, put one behind the other
    pub roll_puts : (out a b c : List ℕ) → 2 + 10 * length ps + 4 * numbers_of ps ≤ length out → a ≡ put_bytes out 0 (le16 (length ps)) → b ≡ put_bytes a 2 (table_of 0 ps)
        → c ≡ put_bytes b (2 + 10 * length ps) (body_bytes qs ps) → c ≡ put_bytes out 0 (roll_over qs ps)
    unfolding le16
    roll_puts out a b c h p q r =
        let head : List ℕ = le16 (length ps) in
        let second = head ++ table_of 0 ps in
        let size : length second ≡ 2 + 10 * length ps = length-append head (table_of 0 ps) ∙ ap (2 +◌) (length_table 0 ps) in
        r ∙ ap (λ (o : List ℕ). put_bytes o (2 + 10 * length ps) (body_bytes qs ps)) (q ∙ ap (λ (o : List ℕ). put_bytes o 2 (table_of 0 ps)) p ∙ put_append out 0 head (omega arith) (table_of 0 ps))
        ∙ ap (λ (k : ℕ). put_bytes (put_bytes out 0 second) k (body_bytes qs ps)) (sym (zero-add (length second) ∙ size)) ∙ put_append out 0 second (omega (arith, size)) (body_bytes qs ps)
        ∙ ap (put_bytes out 0) (sym roll_is)

-- what is told and left, with the length that was counted
module _ (ls : List (List ℕ)) (qs out : List ℕ) (on : OnPlaces (length qs) (paulis_in ls)) (total : ℕ) (e : total ≡ numbers_of (paulis_in ls)) where
  abbrev ps : List Pauli
  ps = paulis_in ls

  size : length (roll_over qs ps) ≡ 2 + 10 * length ls + 4 * total
  size = roll_size qs ps on ∙ ap₂ (λ (a : ℕ) (b : ℕ). 2 + 10 * a + 4 * b) (length_paulis ls) (sym e)

  pub roll_short : length out < 2 + 10 * length ls + 4 * total → (refused 12 0 ≡ told_bytes (answer (roll_over qs ps)) out) × (out ≡ left_in (answer (roll_over qs ps)) out)
  unfolding told_bytes left_in refuse_if
  roll_short h = let t = lt-ltb (length out) (length (roll_over qs ps)) (rw size h) in (rw t, rw t)

  pub numbers_room : length (numbers (map (sparse_over qs) ps)) ≡ total
  numbers_room = numbers_over qs ps on ∙ sym e

  pub roll_long : 2 + 10 * length ls + 4 * total ≤ length out → (a b c : List ℕ) → a ≡ put_bytes out 0 (le16 (length ls)) → b ≡ put_bytes a 2 (table_of 0 ps)
      → c ≡ put_bytes b (2 + 10 * length ls) (le32s (numbers (map (sparse_over qs) ps)))
      → (answer (2 + 10 * length ls + 4 * total) ≡ told_bytes (answer (roll_over qs ps)) out) × (c ≡ left_in (answer (roll_over qs ps)) out)
  unfolding told_bytes left_in refuse_if body_bytes
  roll_long h a b c p q r =
      let t = le-ltb (length out) (length (roll_over qs ps)) (rw size h) in
      let k = sym (length_paulis ls) in (
        rw t (ap answer (sym size)),
        rw t
            (roll_puts qs ps on out a b c (omega (arith, length_paulis ls, sym e)) (p ∙ ap (λ (m : ℕ). put_bytes out 0 (le16 m)) k) q
            (r ∙ ap (λ (m : ℕ). put_bytes b (2 + 10 * m) (le32s (numbers (map (sparse_over qs) ps)))) k)),
      )
