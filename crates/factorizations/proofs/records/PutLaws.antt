-- Laws of bytes put into an output, one piece behind the other.
use Rattle.std.proofs.Common.{◌≡◌, sym, ap, ap₂, ◌∙◌, false, List, [], ◌∷◌, ◌++◌, ℕ, ◌+◌, ◌≤◌, ◌<◌, arith, ltb, length, length-append}
use borrow.Author.Tests.{lt-ltb, le-ltb}
use Rattle.pauli.specs.Told.{answer, refused, refuse_if}
use Rattle.pauli.specs.Writing.{put_bytes, told_bytes, left_in}
use Rattle.pauli.proofs.write.Puts.{length_put, put_append}
use Rattle.factorizations.specs.Put.{Put}

-- ---- piece by piece

-- a text that goes on with further pieces
unfoldable pub joined : List ℕ → List (List ℕ) → List ℕ
joined a [] = a
joined a (b ∷ bs) = joined (a ++ b) bs

joined_longer : (a : List ℕ) (bs : List (List ℕ)) → length a ≤ length (joined a bs)
unfolding joined
joined_longer a [] = omega arith
joined_longer a (b ∷ bs) = omega (arith, joined_longer (a ++ b) bs, length-append a b)

-- a text is put into `out` from byte `at` on; so far its first pieces `a`, which leaves `u`, and the next piece goes to byte m
pub record Begun (out : List ℕ) (at : ℕ) (a : List ℕ) (bs : List (List ℕ)) (u : List ℕ) (m : ℕ) : Type 0 where
  pub put : Put out at a u m
  pub fits : at + length (joined a bs) ≤ length out

pub begun : {out : List ℕ} {at : ℕ} {a u : List ℕ} {m : ℕ} (bs : List (List ℕ)) → at + length (joined a bs) ≤ length out → Put out at a u m
    → Begun out at a bs u m
begun bs h p = record { put = p; fits = h }

-- there is room for the first piece
pub room : (at size : ℕ) (a : List ℕ) (bs : List (List ℕ)) → at + length (joined a bs) ≤ size → at + length a ≤ size
room at size a bs h = omega (arith, joined_longer a bs)

module _ {out : List ℕ} {at : ℕ} {a : List ℕ} {b : List ℕ} {bs : List (List ℕ)} {u : List ℕ} {m : ℕ} (p : Begun out at a (b ∷ bs) u m) where
  both : at + length (a ++ b) ≤ length out
  unfolding joined
  both = room at (length out) (a ++ b) bs p.fits

  front : at + length a ≤ length out
  front = omega (arith, both, length-append a b)

  -- and for the next one
  pub next_room : m + length b ≤ length u
  next_room = omega (arith, p.put.past, ap length p.put.bytes ∙ length_put out at a front, both, length-append a b)

  -- which is put
  pub next_put : {v : List ℕ} {n : ℕ} → Put u m b v n → Begun out at (a ++ b) bs v n
  unfolding joined
  next_put q = record {
    put = record {
      bytes =
          q.bytes ∙ ap₂ (λ (o : List ℕ) (i : ℕ). put_bytes o i b) p.put.bytes p.put.past ∙ put_append out at a front b;
      past = omega (arith, p.put.past, q.past, length-append a b);
    };
    fits = p.fits;
  }

-- ---- a whole text, at the front of an output

module _ (text out : List ℕ) (h : length text ≤ length out) where
  fits : ltb (length out) (length text) ≡ false
  fits = le-ltb (length out) (length text) h

  pub text_told : told_bytes (answer text) out ≡ answer (length text)
  unfolding told_bytes refuse_if
  text_told = rw fits

  pub text_left : left_in (answer text) out ≡ put_bytes out 0 text
  unfolding left_in
  text_left = rw fits

-- the same for a function that has counted the bytes
module _ (text out : List ℕ) (size : ℕ) (e : size ≡ length text) where
  pub text_short : length out < size → (refused 12 0 ≡ told_bytes (answer text) out) × (out ≡ left_in (answer text) out)
  unfolding told_bytes left_in refuse_if
  text_short h = let t = lt-ltb (length out) (length text) (rw e at h) in (rw t, rw t)

  pub text_long : size ≤ length out → {u : List ℕ} {n : ℕ} → Put out 0 text u n
      → (answer size ≡ told_bytes (answer text) out) × (u ≡ left_in (answer text) out)
  text_long h p =
      let room = rw e at h in
      (ap answer e ∙ sym (text_told text out room), p.bytes ∙ sym (text_left text out room))

pub length_both : (x y : List ℕ) {a b : ℕ} → a ≡ length x → b ≡ length y → a + b ≡ length (x ++ y)
length_both x y p q = omega (arith, length-append x y)
