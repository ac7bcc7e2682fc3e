-- The indexes of a member line, one after the other.
use Rattle.std.proofs.Common.{◌≡◌, refl, ap, ◌∙◌, List, [], ◌∷◌, ◌++◌, ℕ, ◌+◌, ◌*◌, ◌≤◌, arith, length, length-append}
use Rattle.pauli.specs.Sets.{members}
use Rattle.pauli.proofs.condense.Sets.{members_count}
use Rattle.pauli.proofs.write.Puts.{Left, left_done, left_room, left_step}
use Rattle.closing_report.specs.Decimal.{ascii, digits}
use Rattle.closing_report.specs.Lines.{labelled, indexes_text}
use Rattle.binar.specs.Row.{weight}
use Rattle.factorizations.specs.Put.{Put}

-- what is left is one index and more
next_text : {left more : List ℕ} {i : ℕ} → left ≡ i ∷ more → indexes_text left ≡ labelled (ascii " ") i ++ indexes_text more
unfolding indexes_text
next_text e = ap indexes_text e

no_text : {left : List ℕ} → left ≡ [] → indexes_text left ≡ []
unfolding indexes_text
no_text e = ap indexes_text e

-- ---- their length

-- the text of the members of s is counted but for those left
pub record Counted (s : ℕ) (left : List ℕ) (total : ℕ) : Type 0 where
  pub few : total + 21 * length left ≤ 2688
  pub sum : total + length (indexes_text left) ≡ length (indexes_text (members s))

pub counted_start : (s : ℕ) → weight s ≤ 128 → Counted s (members s) 0
counted_start s h = record { few = omega (arith, members_count s); sum = omega arith }

module _ {s total : ℕ} {left : List ℕ} (c : Counted s left total) where
  pub counted_end : left ≡ [] → (total ≡ length (indexes_text (members s))) × (total ≤ 2688)
  counted_end e = (omega (arith, c.sum, ap length (no_text e)), omega (arith, c.few))

  pub counted_next : {i : ℕ} {more : List ℕ} → left ≡ i ∷ more → (k : ℕ) → k ≡ length (digits i) → k ≤ 20 → Counted s more (total + (1 + k))
  unfolding labelled ascii
  counted_next {i = i} {more = more} e k d f =
      let whole = ap length (next_text e) ∙ length-append (labelled (ascii " ") i) (indexes_text more) in
      record { few = omega (arith, c.few, ap length e); sum = omega (arith, c.sum, whole) }

-- ---- their writing

module _ {first : List ℕ} {start : ℕ} {out : List ℕ} {next : ℕ} {whole left : List ℕ}
    (r : Left first start whole out next (indexes_text left)) where
  pub put_end : left ≡ [] → Put first start whole out next
  put_end e = let all = left_done r (no_text e) in record { bytes = all.0; past = all.1 }

  module _ {i : ℕ} {more : List ℕ} (e : left ≡ i ∷ more) where
    pub put_fits : next + length (labelled (ascii " ") i) ≤ length out
    put_fits = left_room r (labelled (ascii " ") i) (indexes_text more) (length (labelled (ascii " ") i)) (next_text e) refl

    pub put_next : (u : List ℕ) (m : ℕ) → Put out next (labelled (ascii " ") i) u m → length u ≡ length out
        → Left first start whole u m (indexes_text more)
    put_next u m p k =
        rw p.past
        (left_step r (labelled (ascii " ") i) (indexes_text more) (length (labelled (ascii " ") i)) (next_text e) refl u p.bytes k)
