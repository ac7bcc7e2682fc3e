-- Laws of one Pauli of an accepted roll: where its body stands, and what it is.
use Rattle.std.proofs.Common.{◌≡◌, ℕ, zero, suc, ◌+◌, ◌*◌, ◌<◌, ◌≤◌, List, [], ◌∷◌, length, get_or, sym, ap, ◌∙◌, ap₂, arith}
use Rattle.pauli.specs.declared.roll.Entry.{Entry as CodeEntry}
use Rattle.pauli.specs.RollAnswers.{told_entry}
use Rattle.pauli.specs.Told.{answer}
use Rattle.pauli.specs.Bytes.{u16_at, numbers_at}
use Rattle.pauli.specs.Roll.{Sparse, Entry, entry_at, entries_at, read}
use Rattle.pauli.proofs.roll.Entries.{length_entries, get_or_entries}
use Rattle.pauli.proofs.roll.Paulis.{counted, Placed, body_at}
use Rattle.pauli.proofs.roll.RollLaws.{Parts, answer_parts, parts_count, read_pauli}

-- the bodies of the entries of a table stand one behind the other
placed_room : (before : ℕ) (es : List Entry) → Placed before es → (m : ℕ) → m < length es → (d : Entry)
    → (get_or es m d).start + (get_or es m d).xcount + (get_or es m d).zcount ≤ before + counted es
unfolding counted
placed_room before [] p m h d = absurd (omega arith)
placed_room before (a ∷ es) p zero h d = omega (arith, p.1)
placed_room before (a ∷ es) p (suc m) h d = omega (arith, placed_room (before + a.xcount + a.zcount) es p.2 m (omega arith) d)

-- a roll that is read as the n Paulis ps
module _ (b : List ℕ) (ps : List Sparse) (r : read b ≡ answer ps) (n : ℕ) (size : length ps ≡ n) where
  abbrev parts : Parts b (u16_at b 0) (entries_at b 2 (u16_at b 0)) ps
  parts = answer_parts b ps r

  pub read_count : n ≡ u16_at b 0
  read_count = sym size ∙ parts_count b (u16_at b 0) (entries_at b 2 (u16_at b 0)) ps parts

  pub entry_room : (i : ℕ) → i < n → 2 + 10 * i + 10 ≤ length b
  entry_room i h = omega (arith, parts.whole, read_count)

  module _ (i : ℕ) (h : i < n) (e : CodeEntry) (f : told_entry e ≡ entry_at b (2 + 10 * i)) where
    here : get_or (entries_at b 2 (u16_at b 0)) i (entry_at b 0) ≡ told_entry e
    here = get_or_entries b 2 (u16_at b 0) i (entry_at b 0) (omega (arith, read_count)) ∙ sym f

    pub body_room : 2 + 10 * n + 4 * e.start + 4 * e.xcount + 4 * e.zcount ≤ length b
    body_room =
        omega (
          arith,
          parts.whole,
          read_count,
          rw here at (placed_room 0 (entries_at b 2 (u16_at b 0)) parts.placed i (omega (arith, length_entries b 2 (u16_at b 0), read_count)) (entry_at b 0)),
        )

    pub pauli_is : (d : Sparse) → get_or ps i d ≡ body_at b (2 + 10 * n) (told_entry e)
    pauli_is d = read_pauli b ps r i (rw size h) d ∙ ap₂ (λ (m : ℕ) (a : Entry). body_at b (2 + 10 * m) a) (sym read_count) (sym f)

    pub exponent_is : (d : Sparse) → (get_or ps i d).e ≡ e.exponent
    unfolding body_at
    exponent_is d = ap (λ (p : Sparse). p.e) (pauli_is d)

    pub xs_is : (d : Sparse) → (get_or ps i d).xs ≡ numbers_at b (2 + 10 * n + 4 * e.start) e.xcount
    unfolding body_at
    xs_is d = ap (λ (p : Sparse). p.xs) (pauli_is d)

    pub zs_is : (d : Sparse) → (get_or ps i d).zs ≡ numbers_at b (2 + 10 * n + 4 * e.start + 4 * e.xcount) e.zcount
    unfolding body_at
    zs_is d =
        let at : 2 + 10 * n + 4 * (e.start + e.xcount) ≡ 2 + 10 * n + 4 * e.start + 4 * e.xcount = omega arith in
        ap (λ (p : Sparse). p.zs) (pauli_is d) ∙ ap (λ (j : ℕ). numbers_at b j e.zcount) at
