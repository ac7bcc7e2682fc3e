-- Laws of the product of two Paulis of rolls: the refusals in turn, and the product over the joined support.
use Rattle.std.proofs.Common.{◌≡◌, ℕ, ◌<◌, ◌≤◌, List, [], ◌∷◌, ◌++◌, length, get_or, ◌==◌, sym, refl, ap, ◌∙◌, subst, ap₂, arith, le-ltb, lt-ltb, le-leb, ltb-false, leb-false, Result}
use mathlib.Core.List.Memᴰ
use mathlib.Core.List.{Memᴰ as Mem}
use borrow.Author.Tests.{lt-leb}
use lib.Seq.{sets}
use Rattle.binar.specs.Row.{◌⊕◌}
use Rattle.binar.proofs.Lists.{all_get}
use Rattle.pauli.specs.Told.{Told, answer, refused, refuse_if, and_then, map_told}
use Rattle.pauli.specs.Roll.{Sparse, support, read, count_of, encode, write}
use Rattle.pauli.specs.Support.{most_qubits}
use Rattle.pauli.specs.RollTheorems.{AllowedSet}
use Rattle.pauli.specs.declared.signed.Pauli.{Pauli as Held}
use Rattle.pauli.specs.Pauli.{Pauli, times, normal, anticommute}
use Rattle.pauli.specs.Signed.{held, pauli_in, pauli_words, paulis_in}
use Rattle.pauli.specs.PlaceSet.{set_in}
use Rattle.pauli.specs.Sets.{pauli_of, sparse_of}
use Rattle.pauli.specs.PauliTheorems.{PauliOn}
use Rattle.pauli.specs.Known.{Gathered}
use Rattle.pauli.specs.Writing.{sparse_over, roll_over, told_bytes, left_in, OnPlaces}
use Rattle.pauli.specs.Condense.{list_of, nothing, condensed, Covered, Readable}
use Rattle.pauli.specs.Product.{product_over, product_bytes, anticommute_over, made_over}
use Rattle.pauli.specs.ProductAnswers.{made_in}
use Rattle.pauli.specs.ProductContract.{ProductCall}
use Rattle.pauli.specs.JoinCalls.{read_both, few_qubits, within, Factors, factors_of, product_of, Made, made_with, made_of}
use Rattle.pauli.proofs.roll.Checks.{AllowedSets}
use Rattle.pauli.proofs.support.Lists.{in_get_or, all_in}
use Rattle.pauli.proofs.roll.ListSupport.{support_rises, sets_in_support}
use Rattle.pauli.proofs.joined.JoinLaws.{accepted, count_refused}
use Rattle.pauli.proofs.write.Condensed.{condensed_times, condensed_anticommute, sparse_over_lem}
use Rattle.pauli.proofs.condense.Places.{condense_lt, condense_sum}
use Rattle.pauli.proofs.condense.Rows.{on_times}
use Rattle.pauli.proofs.condense.PauliTheorems.{support_law}
use Rattle.pauli.proofs.roll.RollLaws.{answer_parts}
use Rattle.pauli.proofs.roll.Told.{test_passed, answered, map_answer}
use Rattle.pauli.specs.declared.product.Multiplied.{Multiplied}
use Rattle.pauli.specs.declared.refusal.Refusal.{Refusal}
use Rattle.pauli.specs.Refusals.{told_by}

-- ---- what checking a roll tells

-- an accepted roll of n Paulis
pub record Accepted (b : List ℕ) (n : ℕ) : Type 0 where
  pub accepted : read b ≡ answer (list_of b)
  pub count : length (list_of b) ≡ n

pub count_accepted : (b : List ℕ) (n : ℕ) → count_of b ≡ answer n → Accepted b n
count_accepted b n e = record { accepted = (accepted b n e).0; count = (accepted b n e).1 }

-- ---- the refusals of two factors in turn

module _ (l : List ℕ) (i : ℕ) (r : List ℕ) (j : ℕ) where
  factors_left_refused : (m p : ℕ) → read l ≡ refused m p → factors_of l i r j ≡ refused m p
  unfolding factors_of read_both and_then
  factors_left_refused m p e = rw e

  module _ (nl : ℕ) (a : Accepted l nl) where
    factors_right_refused : (m p : ℕ) → read r ≡ refused m p → factors_of l i r j ≡ refused m p
    unfolding factors_of read_both and_then
    factors_right_refused m p e = rw (a.accepted, e)

    module _ (nr : ℕ) (b : Accepted r nr) where
      abbrev ps : List Sparse
      ps = list_of l

      abbrev rs : List Sparse
      rs = list_of r

      abbrev factors : Factors
      factors = record { left = pauli_of (get_or ps i nothing); right = pauli_of (get_or rs j nothing) }

      both_read : factors_of l i r j ≡ few_qubits (record { left = ps; right = rs }) (within i ps (within j rs (answer factors)))
      unfolding factors_of read_both and_then
      both_read = rw (a.accepted, b.accepted)

      factors_many : most_qubits < length (support (ps ++ rs)) → factors_of l i r j ≡ refused 7 0
      unfolding few_qubits refuse_if
      factors_many h = both_read ∙ rw (lt-ltb most_qubits (length (support (ps ++ rs))) h)

      module _ (few : length (support (ps ++ rs)) ≤ most_qubits) where
        factors_past_left : nl ≤ i → factors_of l i r j ≡ refused 8 0
        unfolding few_qubits within refuse_if
        factors_past_left h = both_read ∙ rw (le-ltb most_qubits (length (support (ps ++ rs))) few, le-leb (length ps) i (rw a.count h))

        factors_past_right : i < nl → nr ≤ j → factors_of l i r j ≡ refused 8 0
        unfolding few_qubits within refuse_if
        factors_past_right h k =
            both_read ∙ rw (le-ltb most_qubits (length (support (ps ++ rs))) few, lt-leb (length ps) i (rw a.count h), le-leb (length rs) j (rw b.count k))

        factors_answer : i < nl → j < nr → factors_of l i r j ≡ answer factors
        unfolding few_qubits within refuse_if
        factors_answer h k =
            both_read ∙ rw (le-ltb most_qubits (length (support (ps ++ rs))) few, lt-leb (length ps) i (rw a.count h), lt-leb (length rs) j (rw b.count k))

-- ---- what two factors give

module _ (l : List ℕ) (i : ℕ) (r : List ℕ) (j : ℕ) (f : Factors) (e : factors_of l i r j ≡ answer f) where
  pub product_answer : product_of l i r j ≡ answer (write (sparse_of (times f.left f.right) ∷ []))
  unfolding product_of map_told
  product_answer = rw e

  pub made_answer : (out : List ℕ) → made_of l i r j out ≡ made_with (anticommute f.left f.right) (told_bytes (product_of l i r j) out)
  unfolding made_of and_then
  made_answer out = rw e

-- ---- the Paulis of an accepted roll over a support that has its qubits

covered : (ps : List Sparse) (p : Sparse) → Mem p ps → (ns : List ℕ) → AllowedSet 0 ns → ((q : ℕ) → Mem q ns → Mem q (p.xs ++ p.zs)) → Covered ns (support ps)
covered ps p m ns a inside =
    record {
      rise = a.rise;
      support = support_rises ps;
      in_support = all_in (λ (q : ℕ). Mem q (support ps)) ns (λ q k. sets_in_support p ps m q (inside q k));
    }

pub readable : (b : List ℕ) (n : ℕ) → Accepted b n → (i : ℕ) → i < n → (ps : List Sparse) → ((p : Sparse) → Mem p (list_of b) → Mem p ps) → Readable b n i (support ps)
readable b n a i h ps inside =
    let size : i < length (list_of b) = rw a.count h in
    let p = get_or (list_of b) i nothing in
    let sets = all_get AllowedSets (list_of b) nothing (answer_parts b (list_of b) a.accepted).sets i size in
    let m = inside p (in_get_or (list_of b) i nothing size) in
    record {
      accepted = a.accepted;
      count = a.count;
      number = h;
      x = covered ps p m p.xs sets.0 (λ q k. Memᴰ.append_left p.zs k);
      z = covered ps p m p.zs sets.1 (λ q k. Memᴰ.append_right p.xs k);
    }

-- ---- a product over places, as it is stored and written

list_stored : (m : Held) (w : List ℕ) → w ≡ sets (0 ∷ 0 ∷ 0 ∷ 0 ∷ 0 ∷ []) 0 (pauli_words m) → paulis_in (w ∷ []) ≡ normal (held m) ∷ []
unfolding paulis_in pauli_in pauli_words held set_in normal
list_stored m w e = rw e refl

module _ (qs : List ℕ) (ps : List Sparse) (i : ℕ) (rs : List Sparse) (j : ℕ) (p q m : Held) (w : List ℕ)
    (hp : held p ≡ condensed qs (pauli_of (get_or ps i nothing))) (hq : held q ≡ condensed qs (pauli_of (get_or rs j nothing)))
    (hm : normal (held m) ≡ times (held p) (held q)) (hw : w ≡ sets (0 ∷ 0 ∷ 0 ∷ 0 ∷ 0 ∷ []) 0 (pauli_words m)) where
  written_list : paulis_in (w ∷ []) ≡ product_over qs ps i rs j ∷ []
  unfolding product_over
  written_list = list_stored m w hw ∙ ap (λ (u : Pauli). u ∷ []) (hm ∙ ap₂ times hp hq)

  written_roll : roll_over qs (paulis_in (w ∷ [])) ≡ product_bytes qs ps i rs j
  unfolding product_bytes
  written_roll = ap (roll_over qs) written_list

  -- what writing it told, beside the bit
  pub written_told : (out : List ℕ) (t : Told ℕ) → t ≡ told_bytes (answer (roll_over qs (paulis_in (w ∷ [])))) out
      → made_with (anticommute (held p) (held q)) t ≡ made_over qs ps i rs j out
  unfolding made_over anticommute_over
  written_told out t e = ap₂ made_with (ap₂ anticommute hp hq) (e ∙ ap (λ (bs : List ℕ). told_bytes (answer bs) out) written_roll)

  pub written_left : (out out' : List ℕ) → out' ≡ left_in (answer (roll_over qs (paulis_in (w ∷ [])))) out
      → out' ≡ left_in (answer (product_bytes qs ps i rs j)) out
  written_left out out' e = e ∙ ap (λ (bs : List ℕ). left_in (answer bs) out) written_roll

  pub written_places : (n : ℕ) → length qs ≡ n → OnPlaces n (paulis_in (w ∷ []))
  unfolding OnPlaces product_over times condensed
  written_places n e =
      let P = pauli_of (get_or ps i nothing) in
      let R = pauli_of (get_or rs j nothing) in
      rw (written_list, ← e, ← condense_sum qs P.x R.x, ← condense_sum qs P.z R.z)
      ((condense_lt qs (P.x ⊕ R.x), condense_lt qs (P.z ⊕ R.z)), tt)

-- ---- the product over the places of a support is the product

module _ (ps : List Sparse) (i : ℕ) (rs : List Sparse) (j : ℕ) (hi : i < length ps) (hj : j < length rs) where
  abbrev both : List ℕ
  both = support (ps ++ rs)

  abbrev P : Pauli
  P = pauli_of (get_or ps i nothing)

  abbrev R : Pauli
  R = pauli_of (get_or rs j nothing)

  on_left : PauliOn both P
  on_left = (support_law (ps ++ rs)).covers (get_or ps i nothing) (Memᴰ.append_left rs (in_get_or ps i nothing hi))

  on_right : PauliOn both R
  on_right = (support_law (ps ++ rs)).covers (get_or rs j nothing) (Memᴰ.append_right ps (in_get_or rs j nothing hj))

  product_roll : product_bytes both ps i rs j ≡ write (sparse_of (times P R) ∷ [])
  unfolding product_bytes product_over roll_over write
  product_roll =
      let rises = support_rises (ps ++ rs) in
      ap (λ (s : Sparse). encode (s ∷ []))
      (ap (sparse_over both) (condensed_times both rises P R on_left) ∙ sparse_over_lem both rises (times P R) (on_times both P R on_left on_right))

  product_bit : anticommute_over both ps i rs j ≡ anticommute P R
  unfolding anticommute_over
  product_bit = condensed_anticommute both (support_rises (ps ++ rs)) P R on_left

-- ---- what the call tells and leaves, in turn

module _ (l : List ℕ) (i : ℕ) (r : List ℕ) (j : ℕ) (out : List ℕ) where
  -- a refusal tells itself and leaves the output alone
  refusing : (w : Result Multiplied Refusal) (m p : ℕ) → told_by made_in w ≡ refused m p → factors_of l i r j ≡ refused m p → ProductCall l i r j out w out
  unfolding made_of and_then product_of map_told left_in
  refusing w m p t e = record { told = t ∙ rw e; left = rw e }

  pub left_refused : (w : Result Multiplied Refusal) (m p : ℕ) → told_by made_in w ≡ refused m p → count_of l ≡ refused m p → ProductCall l i r j out w out
  left_refused w m p t e = refusing w m p t (factors_left_refused l i r j m p (count_refused l m p e))

  module _ (nl : ℕ) (el : count_of l ≡ answer nl) where
    pub right_refused : (w : Result Multiplied Refusal) (m p : ℕ) → told_by made_in w ≡ refused m p → count_of r ≡ refused m p → ProductCall l i r j out w out
    right_refused w m p t e = refusing w m p t (factors_right_refused l i r j nl (count_accepted l nl el) m p (count_refused r m p e))

    module _ (nr : ℕ) (er : count_of r ≡ answer nr) (qs : List ℕ) (J : Gathered (support (list_of l ++ list_of r)) qs) where
      abbrev al : Accepted l nl
      al = count_accepted l nl el

      abbrev ar : Accepted r nr
      ar = count_accepted r nr er

      abbrev joined : List Sparse
      joined = list_of l ++ list_of r

      pub many_refused : most_qubits < length qs → (w : Result Multiplied Refusal) → told_by made_in w ≡ refused 7 0 → ProductCall l i r j out w out
      many_refused h w t = refusing w 7 0 t (factors_many l i r j nl al nr ar (omega (arith, h, J.count)))

      module _ (few : length qs ≤ most_qubits) where
        few_joined : length (support joined) ≤ most_qubits
        few_joined = omega (arith, few, J.count)

        pub past_left_refused : nl ≤ i → (w : Result Multiplied Refusal) → told_by made_in w ≡ refused 8 0 → ProductCall l i r j out w out
        past_left_refused h w t = refusing w 8 0 t (factors_past_left l i r j nl al nr ar few_joined h)

        module _ (hi : i < nl) where
          pub past_right_refused : nr ≤ j → (w : Result Multiplied Refusal) → told_by made_in w ≡ refused 8 0 → ProductCall l i r j out w out
          past_right_refused h w t = refusing w 8 0 t (factors_past_right l i r j nl al nr ar few_joined hi h)

          pub left_readable : Readable l nl i qs
          left_readable = subst (Readable l nl i) (sym (J.known few_joined)) (readable l nl al i hi joined (λ p m. Memᴰ.append_left (list_of r) m))

          module _ (hj : j < nr) where
            pub right_readable : Readable r nr j qs
            right_readable = subst (Readable r nr j) (sym (J.known few_joined)) (readable r nr ar j hj joined (λ p m. Memᴰ.append_right (list_of l) m))

            abbrev both_given : factors_of l i r j ≡ answer (factors l i r j nl al nr ar)
            both_given = factors_answer l i r j nl al nr ar few_joined hi hj

            bytes_written : answer (product_bytes qs (list_of l) i (list_of r) j) ≡ product_of l i r j
            bytes_written =
                ap answer (ap (λ (ks : List ℕ). product_bytes ks (list_of l) i (list_of r) j) (J.known few_joined)
                ∙ product_roll (list_of l) i (list_of r) j (rw al.count hi) (rw ar.count hj))
                ∙ sym (product_answer l i r j _ both_given)

            bit_told : anticommute_over qs (list_of l) i (list_of r) j
                ≡ anticommute (pauli_of (get_or (list_of l) i nothing)) (pauli_of (get_or (list_of r) j nothing))
            bit_told =
                ap (λ (ks : List ℕ). anticommute_over ks (list_of l) i (list_of r) j) (J.known few_joined)
                ∙ product_bit (list_of l) i (list_of r) j (rw al.count hi) (rw ar.count hj)

            pub written : (w : Result Multiplied Refusal) (left : List ℕ) → told_by made_in w ≡ made_over qs (list_of l) i (list_of r) j out
                → left ≡ left_in (answer (product_bytes qs (list_of l) i (list_of r) j)) out → ProductCall l i r j out w left
            unfolding made_over
            written w left et eleft = record {
              told =
                  et ∙ ap₂ (λ (b : ℕ) (u : Told (List ℕ)). made_with b (told_bytes u out)) bit_told bytes_written
                  ∙ sym (made_answer l i r j _ both_given out);
              left = eleft ∙ ap (λ (u : Told (List ℕ)). left_in u out) bytes_written;
            }

-- ---- a product that was answered

-- the lists that its rolls hold, and its factors in them
pub record Answered (l : List ℕ) (i : ℕ) (r : List ℕ) (j : ℕ) (ps qs : List Sparse) : Type 0 where
  pub few : length (support (ps ++ qs)) ≤ most_qubits
  pub first : i < length ps
  pub second : j < length qs
  pub factors : factors_of l i r j ≡ answer (record { left = pauli_of (get_or ps i nothing); right = pauli_of (get_or qs j nothing) })

module _ (l : List ℕ) (i : ℕ) (r : List ℕ) (j : ℕ) (out : List ℕ) (m : Made) (e : made_of l i r j out ≡ answer m) where
  factors_answered : (f : Factors) × (factors_of l i r j ≡ answer f)
  unfolding made_of
  factors_answered = let (f, s, _) = answered (factors_of l i r j) _ m e in (f, s)

  pub lists_read : (ps : List Sparse) × (qs : List Sparse) × (read l ≡ answer ps) × (read r ≡ answer qs)
  unfolding factors_of read_both
  lists_read =
      let (f, s) = factors_answered in
      let (b, both, _) = answered (and_then (read l) _) _ f s in
      let (ps, el, rest) = answered (read l) _ b both in
      let (qs, er, _) = answered (read r) _ b rest in
      (ps, qs, el, er)

  module _ (ps qs : List Sparse) (el : read l ≡ answer ps) (er : read r ≡ answer qs) where
    pub made_answered : Answered l i r j ps qs
    unfolding factors_of read_both and_then few_qubits within
    made_answered =
        let (f, s) = factors_answered in
        let (few, s₁) = test_passed _ 7 0 _ f (rw (el, er) at s) in
        let (first, s₂) = test_passed _ 8 0 _ f s₁ in
        let (second, s₃) = test_passed _ 8 0 _ f s₂ in
        record {
          few = ltb-false most_qubits (length (support (ps ++ qs))) few;
          first = leb-false (length ps) i first;
          second = leb-false (length qs) j second;
          factors = s ∙ sym s₃;
        }

    made_parts : (n : ℕ) × (told_bytes (product_of l i r j) out ≡ answer n)
        × (record { bytes = n; anticommute = anticommute (pauli_of (get_or ps i nothing)) (pauli_of (get_or qs j nothing)) == 1 } ≡ m)
    unfolding made_with
    made_parts = map_answer _ (told_bytes (product_of l i r j) out) m (sym (made_answer l i r j _ made_answered.factors out) ∙ e)

    pub made_size : told_bytes (product_of l i r j) out ≡ answer m.bytes
    made_size = let (n, s, t) = made_parts in s ∙ ap answer (ap (λ (k : Made). k.bytes) t)

    pub made_bit : (anticommute (pauli_of (get_or ps i nothing)) (pauli_of (get_or qs j nothing)) == 1) ≡ m.anticommute
    made_bit = let (n, s, t) = made_parts in ap (λ (k : Made). k.anticommute) t
