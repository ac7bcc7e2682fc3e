-- The stretch found for a joined generator is the body of that Pauli.
use Rattle.std.proofs.Common.{◌≡◌, ℕ, ◌+◌, ◌-◌, ◌*◌, ◌<◌, ◌≤◌, Bool, true, false, ltb, List, ◌++◌, length, get_or, take, drop, sym, refl, ap, ◌∙◌, subst, ap₂, append_assoc, arith, length-append, take_at, get_or-append-add, ltb-false, ltb-true}
use lib.ListN.{get_or-append}
use Rattle.pauli.specs.declared.roll.Entry.{Entry as CodeEntry}
use Rattle.pauli.specs.RollAnswers.{told_entry}
use Rattle.pauli.specs.Told.{Told, answer, refused}
use Rattle.pauli.specs.Bytes.{numbers_at, le32s}
use Rattle.pauli.specs.Roll.{Sparse, entry_at, count_of}
use Rattle.pauli.specs.Condense.{list_of, nothing}
use Rattle.pauli.specs.JoinCalls.{Counts, counts_of, joined_of, stretch_in, bytes_of, body_in}
use Rattle.pauli.specs.JoinTheorems.{body_bytes, StretchLaw, JoinedBodyLaw}
use Rattle.pauli.proofs.support.Lists.{AllBytes}
use Rattle.pauli.proofs.roll.Told.{refused_none}
use Rattle.pauli.proofs.roll.BytesLaws.{length_numbers, length_le32s, numbers_written}
use Rattle.pauli.proofs.condense.BodyLaws.{xs_is, zs_is}
use Rattle.pauli.proofs.joined.JoinLaws.{accepted, accepted_count, accepted_room, Joining, counts_joining, counts_refused, stretch_left, stretch_right, body_left, body_right}

-- ---- one roll

module _ (b : List ℕ) (low : AllBytes b) (n : ℕ) (e : count_of b ≡ answer n) (i : ℕ) (h : i < n) where
  abbrev a : CodeEntry
  a =
      let f = entry_at b (2 + 10 * i) in
      record { given = f.given; exponent = f.exponent; start = f.start; xcount = f.xcount; zcount = f.zcount }

  told : told_entry a ≡ entry_at b (2 + 10 * i)
  told = refl

  abbrev at : ℕ
  at = 2 + 10 * n + 4 * a.start

  fits : at + 4 * a.xcount + 4 * a.zcount ≤ length b
  fits = accepted_room b n e i h a told

  stretch_inside : (roll : ℕ) → (stretch_in roll b i).start + (stretch_in roll b i).size ≤ length b
  unfolding stretch_in
  stretch_inside roll = omega (arith, fits, accepted_count b n e)

  body_numbers : body_in b i ≡ body_bytes (get_or (list_of b) i nothing)
  unfolding body_in bytes_of stretch_in body_bytes
  body_numbers =
      let x : List ℕ = numbers_at b at a.xcount in
      let z : List ℕ = numbers_at b (at + 4 * a.xcount) a.zcount in
      let rest : List ℕ = drop (at + 4 * a.xcount + 4 * a.zcount) b in
      let first : le32s x ++ drop (at + 4 * a.xcount) b ≡ drop at b = numbers_written b low a.xcount at (omega (arith, fits)) in
      let second : le32s z ++ rest ≡ drop (at + 4 * a.xcount) b = numbers_written b low a.zcount (at + 4 * a.xcount) fits in
      let bytes : drop at b ≡ (le32s x ++ le32s z) ++ rest
      = sym first ∙ ap (le32s x ++◌) (sym second) ∙ sym (append_assoc (le32s x) (le32s z) rest) in
      let size : length (le32s x ++ le32s z) ≡ 4 * (a.xcount + a.zcount)
      = omega (
        arith,
        length-append (le32s x) (le32s z),
        length_le32s x,
        length_le32s z,
        length_numbers b at a.xcount,
        length_numbers b (at + 4 * a.xcount) a.zcount,
      ) in
      let ps = list_of b in
      ap (λ (m : ℕ). take (4 * (a.xcount + a.zcount)) (drop (2 + 10 * m + 4 * a.start) b)) (sym (accepted_count b n e))
      ∙ ap (take (4 * (a.xcount + a.zcount))) bytes ∙ take_at (le32s x ++ le32s z) rest (4 * (a.xcount + a.zcount)) size
      ∙ sym
      (ap₂ (λ (xs zs : List ℕ). le32s xs ++ le32s zs)
      (xs_is b ps (accepted b n e).0 n (accepted b n e).1 i h a told nothing)
      (zs_is b ps (accepted b n e).0 n (accepted b n e).1 i h a told nothing))

-- ---- two rolls

module _ (l r : List ℕ) (bytes_left : AllBytes l) (bytes-right : AllBytes r) (n : ℕ) where
  module _ (nl nr : ℕ) (j : Joining l r nl nr) where
    in_left : n < nl → StretchLaw l r (list_of l ++ list_of r) n
    unfolding bytes_of body_in stretch_in
    in_left h =
        let pauli = get_or-append (list_of l) (list_of r) nothing n (rw (accepted l nl j.left).1 h) in
        record {
          stretch = stretch_in 0 l n;
          told = stretch_left l r n nl nr j h;
          inside = stretch_inside l bytes_left nl j.left n h 0;
          body = body_left l r n nl nr j h;
          numbers = body_numbers l bytes_left nl j.left n h ∙ ap body_bytes (sym pauli);
        }

    in_right : nl ≤ n → n - nl < nr → StretchLaw l r (list_of l ++ list_of r) n
    unfolding bytes_of body_in stretch_in
    in_right past h =
        let at : n ≡ length (list_of l) + (n - nl) = omega (arith, (accepted l nl j.left).1) in
        let pauli = ap (λ (k : ℕ). get_or (list_of l ++ list_of r) k nothing) at ∙ get_or-append-add (list_of l) (list_of r) (n - nl) nothing in
        record {
          stretch = stretch_in 1 r (n - nl);
          told = stretch_right l r n nl nr j past h;
          inside = stretch_inside r bytes-right nr j.right (n - nl) h 1;
          body = body_right l r n nl nr j past h;
          numbers = body_numbers r bytes-right nr j.right (n - nl) h ∙ ap body_bytes (sym pauli);
        }

    in_either : n < length (list_of l ++ list_of r) → StretchLaw l r (list_of l ++ list_of r) n
    in_either h = go (ltb n nl) refl
      where
        total : n < nl + nr
        total = omega (arith, h, length-append (list_of l) (list_of r), (accepted l nl j.left).1, (accepted r nr j.right).1)

        go : (t : Bool) → ltb n nl ≡ t → StretchLaw l r (list_of l ++ list_of r) n
        go true e = in_left (ltb-true n nl e)
        go false e = in_right (ltb-false n nl e) (omega (arith, total, ltb-false n nl e))

  joined_body : (ps : List Sparse) → joined_of l r ≡ answer ps → n < length ps → StretchLaw l r ps n
  joined_body ps e h = go (counts_of l r) refl
    where
      go : (t : Told Counts) → counts_of l r ≡ t → StretchLaw l r ps n
      go (refused m p) f = absurd (refused_none m p ps (sym (counts_refused l r m p f) ∙ e))
      go (answer c) f =
          let j = counts_joining l r c f in
          let whole : ◌≡◌ {A = Told (List Sparse)} (answer (list_of l ++ list_of r)) (answer ps) = sym j.joined ∙ e in
          let same : list_of l ++ list_of r ≡ ps = cc in
          subst (λ (qs : List Sparse). StretchLaw l r qs n) same (in_either c.left c.right j (rw same h))

pub joined_body_law : JoinedBodyLaw
joined_body_law l r bl br ps e n h = joined_body l r bl br n ps e h
