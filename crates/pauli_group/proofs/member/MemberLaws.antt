-- Laws of numbers that are all in a support, and of index sets written.
use Rattle.std.proofs.Common.{◌≡◌, ℕ, zero, suc, ◌+◌, ◌*◌, ◌<◌, ◌≤◌, true, false, cond, ltb, List, [], ◌∷◌, ◌++◌, length, get_or, sym, refl, ap, ◌∙◌, ap₂, arith, length-append, le-ltb, lt-ltb}
use mathlib.Core.List.{Memᴰ as Mem}
use Rattle.binar.specs.Row.{weight}
use Rattle.pauli.specs.declared.roll.Entry.{Entry}
use Rattle.pauli.specs.RollAnswers.{told_entry}
use Rattle.pauli.specs.Bytes.{u32_at, numbers_at, u32s_in, le16}
use Rattle.pauli.specs.Condense.{list_of, nothing}
use Rattle.pauli.specs.Roll.{entry_at, count_of}
use Rattle.pauli.specs.Support.{insert, Rising}
use Rattle.pauli.specs.Known.{place_of, lower}
use Rattle.pauli.specs.Sets.{members}
use Rattle.pauli.specs.Told.{answer}
use Rattle.pauli.specs.Writing.{put_bytes}
use Rattle.pauli.proofs.condense.BodyLaws.{xs_is, zs_is}
use Rattle.pauli.proofs.roll.BytesLaws.{length_le16}
use Rattle.pauli.proofs.joined.JoinLaws.{accepted}
use Rattle.pauli.proofs.write.Puts.{Left, left_start, left_done, left_room, left_step}
use Rattle.pauli.proofs.condense.Sets.{members_count}
use Rattle.pauli.proofs.condense.Places.{place_in, qubit_at_place, no_place}
use Rattle.pauli.proofs.support.Lists.{in_get_or}
use Rattle.pauli.proofs.support.Walk.{lower_here, lower_next, insert_there, numbers_from, numbers_start, numbers_next, numbers_end}
use Rattle.pauli_group.specs.Inner.Members.{covered}
use Rattle.pauli_group.specs.Calls.{le16s}

-- ---- numbers in a support, one after the other

-- a number that does not stand where it is to stand is not in the support
pub stands_nowhere : (qs : List ℕ) → Rising 0 qs → (q i : ℕ) → i ≡ lower q qs → (i < length qs → get_or qs i 0 ≡ q → ⊥) → ¬ Mem q qs
stands_nowhere qs rises q i p none m =
    let stands = qubit_at_place qs q m in
    let same : place_of qs q ≡ i = lower_here 0 q qs rises (place_of qs q) (place_in qs q m) stands ∙ sym p in
    none (omega (arith, same, place_in qs q m)) (rw same at stands)

-- the answer for all numbers is that for those from number k on, and the walk for a number above `last` may start at `from`
pub record CoveredFrom (qs : List ℕ) (ls : List (List ℕ)) (from last k : ℕ) : Type 0 where
  pub within : k ≤ length ls
  pub same : covered qs (u32s_in ls) ≡ covered qs (numbers_from ls k)
  pub walk : (s : ℕ) → last < s → from ≤ lower s qs

module _ (qs : List ℕ) (ls : List (List ℕ)) where
  pub covered_start : CoveredFrom qs ls 0 0 0
  covered_start = record { within = omega arith; same = ap (covered qs) (numbers_start ls); walk = λ s h. omega arith }

  module _ (from last k : ℕ) (f : CoveredFrom qs ls from last k) where
    pub covered_end : length ls ≤ k → true ≡ covered qs (u32s_in ls)
    unfolding covered
    covered_end h = sym (f.same ∙ ap (covered qs) (numbers_end ls k h))

    module _ (h : k < length ls) (q : ℕ) (e : q ≡ u32_at (get_or ls k []) 0) (i : ℕ) (p : i ≡ lower q qs) where
      next : covered qs (u32s_in ls)
          ≡ cond (ltb (place_of qs q) (length qs)) (covered qs (numbers_from ls (k + 1))) false
      unfolding covered
      next = f.same ∙ ap (covered qs) (numbers_next ls k h) ∙ rw e

      pub covered_none : Rising 0 qs → (i < length qs → get_or qs i 0 ≡ q → ⊥) → false ≡ covered qs (u32s_in ls)
      covered_none rises none =
          sym (next ∙ rw (le-ltb (place_of qs q) (length qs) (omega (arith, no_place qs q (stands_nowhere qs rises q i p none)))))

      pub covered_next : i < length qs → get_or qs i 0 ≡ q → CoveredFrom qs ls (i + 1) q (k + 1)
      covered_next l stands =
          let m : Mem q qs = rw (← stands) (in_get_or qs i 0 l) in
          let there : insert q qs ≡ qs = insert_there q qs (omega arith) (rw (← p) stands) in
          record {
            within = omega arith;
            same = next ∙ rw (lt-ltb (place_of qs q) (length qs) (place_in qs q m));
            walk = λ s above. omega (arith, rw there at (lower_next q s qs above));
          }

-- ---- the numbers of a Pauli of a roll

numbers_join : (b : List ℕ) (at m n : ℕ) → numbers_at b at (m + n) ≡ numbers_at b at m ++ numbers_at b (at + 4 * m) n
unfolding numbers_at
numbers_join b at zero n =
    let a : zero + n ≡ n = omega arith in
    let i : at + 4 * zero ≡ at = omega arith in
    rw (a, i)
numbers_join b at (suc m) n =
    let a : suc m + n ≡ suc (m + n) = omega arith in
    let i : at + 4 * suc m ≡ at + 4 + 4 * m = omega arith in
    rw (a, i) (ap (u32_at b at ∷◌) (numbers_join b (at + 4) m n))

pub body_numbers : (b : List ℕ) (n : ℕ) → count_of b ≡ answer n → (i : ℕ) → i < n
    → (e : Entry) → told_entry e ≡ entry_at b (2 + 10 * i)
    → numbers_at b (2 + 10 * n + 4 * e.start) (e.xcount + e.zcount)
    ≡ (get_or (list_of b) i nothing).xs ++ (get_or (list_of b) i nothing).zs
body_numbers b n c i h e f =
    let (r, size) = accepted b n c in
    numbers_join b (2 + 10 * n + 4 * e.start) e.xcount e.zcount
    ∙ sym (ap₂ ◌++◌ (xs_is b (list_of b) r n size i h e f nothing) (zs_is b (list_of b) r n size i h e f nothing))

-- ---- index sets, written

length_le16s : (ns : List ℕ) → length (le16s ns) ≡ 2 * length ns
unfolding le16s
length_le16s [] = refl
length_le16s (n ∷ ns) = length-append (le16 n) (le16s ns) ∙ omega (arith, length_le16 n, length_le16s ns)

pub length_indexes : (s : ℕ) → length (le16s (members s)) ≡ 2 * weight s
length_indexes s = length_le16s (members s) ∙ ap (2 *◌) (members_count s)

pub indexes_start : (first : List ℕ) (start s : ℕ) → start + 2 * weight s ≤ length first
    → Left first start (le16s (members s)) first start (le16s (members s))
indexes_start first start s room = left_start first start _ _ refl (omega (arith, length_indexes s))

-- the indexes of a set are being written, and those in `left` are left
module _ (s : ℕ) {first : List ℕ} {start : ℕ} {out : List ℕ} {next : ℕ} (left : List ℕ)
    (r : Left first start (le16s (members s)) out next (le16s left)) where
  pub indexes_done : left ≡ [] → out ≡ put_bytes first start (le16s (members s))
  unfolding le16s
  indexes_done e = (left_done r (ap le16s e)).0

  -- the next is i
  module _ (i : ℕ) (more : List ℕ) (e : left ≡ i ∷ more) where
    index : le16s left ≡ le16 i ++ le16s more
    unfolding le16s
    index = ap le16s e

    pub indexes_room : next + 2 ≤ length out
    indexes_room = left_room r (le16 i) _ 2 index (length_le16 i)

    pub indexes_next : (u : List ℕ) → u ≡ put_bytes out next (le16 i) → length u ≡ length out
        → Left first start (le16s (members s)) u (next + 2) (le16s more)
    indexes_next = left_step r (le16 i) _ 2 index (length_le16 i)
