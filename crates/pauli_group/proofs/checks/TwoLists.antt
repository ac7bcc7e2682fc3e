-- Two lists: what their checks tell, and what is told and left after them.
use Rattle.std.proofs.Common.{◌≡◌, ℕ, ◌+◌, ◌≤◌, ltb, List, ◌++◌, length, take, drop, sym, refl, ap, ◌∙◌, subst, le-ltb}
use Rattle.pauli.specs.JoinCalls.{Counts, counts_of, read_both, few_qubits}
use Rattle.pauli.specs.Condense.{list_of}
use Rattle.pauli.specs.Roll.{most_paulis, support}
use Rattle.pauli.specs.Support.{most_qubits}
use Rattle.pauli.specs.Told.{Told, answer, refused, and_then, map_told}
use Rattle.pauli.specs.Writing.{told_bytes, left_in}
use Rattle.pauli.proofs.joined.JoinLaws.{accepted, Joining, counts_joining, limits_refused}
use Rattle.pauli.proofs.roll.Told.{refused_none, test_pass, map_refused, map_answer}
use Rattle.pauli_group.specs.WorkArea.{work_words, enough, cleared, area_after}
use Rattle.pauli_group.specs.Calls.{paulis, Pair, pair_counts, two_lists}
use Rattle.pauli_group.proofs.checks.Room.{room_told, room_enough, room_passed, room_refused}
use Rattle.pauli_group.proofs.area.AreaLaws.{cleared_part}
use Rattle.pauli_group.proofs.group.GroupedLaws.{list_length}
use Rattle.pauli_group.proofs.source.SourceLaws.{roll_counted}

-- ---- what the checks tell

module _ (l r : List ℕ) (size : ℕ) where
  pub pair_refused : (m p : ℕ) → counts_of l r ≡ refused m p → two_lists l r size ≡ refused m p
  unfolding two_lists
  pair_refused m p e = limits_refused l r (λ b. enough size (answer (record { left = paulis b.left; right = paulis b.right }))) m p e

  module _ (nl nr : ℕ) (j : Joining l r nl nr) where
    pair : two_lists l r size ≡ enough size (answer (record { left = paulis (list_of l); right = paulis (list_of r) }))
    unfolding two_lists read_both and_then few_qubits
    pair = rw ((accepted l nl j.left).0, (accepted r nr j.right).0, (accepted l nl j.left).1, (accepted r nr j.right).1)
        (test_pass (ltb most_paulis (nl + nr)) 2 0 _ (le-ltb most_paulis (nl + nr) j.few)
        ∙ test_pass (ltb most_qubits (length (support (list_of l ++ list_of r)))) 7 0 _ (le-ltb most_qubits (length (support (list_of l ++ list_of r))) j.qubits))

    pub pair_long : work_words ≤ size → two_lists l r size ≡ answer (record { left = paulis (list_of l); right = paulis (list_of r) })
    pair_long h = pair ∙ room_enough size _ h

  pub counted_refused : (m p : ℕ) → counts_of l r ≡ refused m p → refused m p ≡ map_told pair_counts (two_lists l r size)
  unfolding map_told
  counted_refused m p e = rw (pair_refused m p e)

  module _ (nl nr : ℕ) (j : Joining l r nl nr) where
    pub counted_short : (m p : ℕ) → refused m p ≡ room_told size → refused m p ≡ map_told pair_counts (two_lists l r size)
    unfolding map_told
    counted_short m p h = rw (pair nl nr j ∙ room_refused size _ h)

    pub counted_long : work_words ≤ size → answer (record { left = nl; right = nr }) ≡ map_told pair_counts (two_lists l r size)
    unfolding map_told pair_counts
    counted_long h = rw (pair_long nl nr j h, list_length _ _ (roll_counted l nl j.left), list_length _ _ (roll_counted r nr j.right))

  -- the two can be joined, and the area is large enough
  pub record Paired (nl nr : ℕ) : Type 0 where
    pub joining : Joining l r nl nr
    pub room : work_words ≤ size

  pub paired : (c : Counts) → answer c ≡ map_told pair_counts (two_lists l r size) → Paired c.left c.right
  unfolding enough
  paired c e = go (counts_of l r) refl
    where
      go : (t : Told Counts) → counts_of l r ≡ t → Paired c.left c.right
      go (refused m p) f = absurd (refused_none m p c (counted_refused m p f ∙ sym e))
      go (answer d) f =
          let j = counts_joining l r d f in
          let (both, told, counts) = map_answer pair_counts (two_lists l r size) c (sym e) in
          let (room, same) = room_passed size _ both (sym (pair d.left d.right j) ∙ told) in
          let told_same : answer d ≡ answer c = counted_long d.left d.right j room ∙ sym e in
          let counts_same : d ≡ c = cc in
          subst (λ (x : Counts). Paired x.left x.right) counts_same (record { joining = j; room = room })

  pub pair_none : {m p : ℕ} → refused m p ≡ map_told pair_counts (two_lists l r size) → two_lists l r size ≡ refused m p
  pair_none e = map_refused pair_counts (two_lists l r size) _ _ (sym e)

-- ---- the work area after the checks

module _ (l r work : List ℕ) where
  abbrev both : Told Pair
  both = two_lists l r (length work)

  pub pair_kept : {m p : ℕ} → both ≡ refused m p → work ≡ area_after both work
  unfolding area_after
  pair_kept e = sym (ap (λ (t : Told Pair). area_after t work) e)

  module _ (nl nr : ℕ) (j : Joining l r nl nr) (room : work_words ≤ length work) where
    pub pair_cleared : (x : List ℕ) → x ≡ cleared (take work_words work) → x ++ drop work_words work ≡ area_after both work
    unfolding area_after
    pair_cleared x e = ap (◌++ drop work_words work) e ∙ cleared_part work room ∙ sym (ap (λ (t : Told Pair). area_after t work) (pair_long l r (length work) nl nr j room))

-- ---- a call that writes a roll

-- F makes a roll's bytes of the two lists, or refuses
module _ (l r work out : List ℕ) (F : Told Pair → Told (List ℕ)) where
  -- what is told, the output and the work area at exit
  pub record Ends (told : Told ℕ) (out' work' : List ℕ) : Type 0 where
    pub answered : told ≡ told_bytes (F (two_lists l r (length work))) out
    pub written : out' ≡ left_in (F (two_lists l r (length work))) out
    pub area : work' ≡ area_after (two_lists l r (length work)) work

  pub ends_refused : {m p : ℕ} → F (refused m p) ≡ refused m p → two_lists l r (length work) ≡ refused m p → Ends (refused m p) out work
  unfolding told_bytes left_in area_after
  ends_refused {m} {p} strict e =
      let f : F (two_lists l r (length work)) ≡ refused m p = ap F e ∙ strict in
      record {
        answered = sym (ap (λ (t : Told (List ℕ)). told_bytes t out) f);
        written = sym (ap (λ (t : Told (List ℕ)). left_in t out) f);
        area = sym (ap (λ (t : Told Pair). area_after t work) e);
      }

  pub ends_answered : {nl nr : ℕ} → (j : Joining l r nl nr) → work_words ≤ length work → (t : Told (List ℕ))
      → F (answer (record { left = paulis (list_of l); right = paulis (list_of r) })) ≡ t → (u : Told ℕ) (v x : List ℕ) → u ≡ told_bytes t out
      → v ≡ left_in t out → x ≡ cleared (take work_words work) → Ends u v (x ++ drop work_words work)
  ends_answered {nl} {nr} j room t same u v x a b c =
      let f : F (two_lists l r (length work)) ≡ t = ap F (pair_long l r (length work) nl nr j room) ∙ same in
      record {
        answered = a ∙ sym (ap (λ (t : Told (List ℕ)). told_bytes t out) f);
        written = b ∙ sym (ap (λ (t : Told (List ℕ)). left_in t out) f);
        area = pair_cleared l r work nl nr j room x c;
      }
