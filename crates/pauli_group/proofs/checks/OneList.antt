-- One list: what its checks tell, and what is told and left after them.
use Rattle.std.proofs.Common.{◌≡◌, ℕ, ◌≤◌, List, ◌++◌, length, take, drop, sym, refl, ap, ◌∙◌}
use Rattle.pauli.specs.Condense.{list_of}
use Rattle.pauli.specs.Pauli.{Pauli}
use Rattle.pauli.specs.Roll.{read, count_of}
use Rattle.pauli.specs.Told.{Told, answer, refused, and_then, map_told}
use Rattle.pauli.proofs.joined.JoinLaws.{accepted}
use Rattle.pauli.proofs.roll.Told.{refused_none, map_refused, map_answer}
use Rattle.pauli_group.specs.WorkArea.{work_words, enough, cleared, area_after}
use Rattle.pauli_group.specs.Calls.{paulis, one_list}
use Rattle.pauli_group.proofs.checks.Room.{room_told, room_enough, room_passed, room_refused}
use Rattle.pauli_group.proofs.area.AreaLaws.{cleared_part}
use Rattle.pauli_group.proofs.group.GroupedLaws.{list_length}
use Rattle.pauli_group.proofs.source.SourceLaws.{roll_counted}

-- ---- one list, checked

module _ (b : List ℕ) (size : ℕ) where
  pub list_refused : (m p : ℕ) → count_of b ≡ refused m p → refused m p ≡ map_told length (one_list b size)
  unfolding count_of one_list and_then map_told
  list_refused m p e = rw (map_refused length (read b) m p e)

  module _ (n : ℕ) (e : count_of b ≡ answer n) where
    counted : one_list b size ≡ enough size (answer (paulis (list_of b)))
    unfolding one_list and_then
    counted = rw (accepted b n e).0

    pub list_short : (m p : ℕ) → refused m p ≡ room_told size → refused m p ≡ map_told length (one_list b size)
    unfolding map_told
    list_short m p h = rw (counted ∙ room_refused size _ h)

    pub list_long : work_words ≤ size → answer n ≡ map_told length (one_list b size)
    unfolding map_told
    list_long h = rw (counted ∙ room_enough size _ h) (ap answer (sym (list_length _ _ (roll_counted b n e))))

  -- a roll of n Paulis is read, and the area is large enough
  pub record Given (n : ℕ) : Type 0 where
    pub count : count_of b ≡ answer n
    pub room : work_words ≤ size
    pub told : one_list b size ≡ answer (paulis (list_of b))

  pub given : (n : ℕ) → answer n ≡ map_told length (one_list b size) → Given n
  given n e = go (count_of b) refl
    where
      go : (t : Told ℕ) → count_of b ≡ t → Given n
      go (refused m p) f = absurd (refused_none m p n (list_refused m p f ∙ sym e))
      go (answer k) f =
          let (gs, told, many) = map_answer length (one_list b size) n (sym e) in
          let (room, same) = room_passed size (answer (paulis (list_of b))) gs (sym (counted k f) ∙ told) in
          let list : paulis (list_of b) ≡ gs = cc in
          let number : k ≡ n = sym (list_length _ _ (roll_counted b k f)) ∙ ap length list ∙ many in
          record { count = f ∙ ap answer number; room = room; told = told ∙ sym same }

  pub list_none : {m p : ℕ} → refused m p ≡ map_told length (one_list b size) → one_list b size ≡ refused m p
  list_none e = map_refused length (one_list b size) _ _ (sym e)

-- ---- one list, answered

module _ (b work : List ℕ) where
  abbrev told : Told (List Pauli)
  told = one_list b (length work)

  module _ {n : ℕ} (g : Given b (length work) n) where
    pub answers : {A : Type 0} (f : List Pauli → A) (v : A) → v ≡ f (paulis (list_of b)) → answer v ≡ map_told f told
    unfolding map_told
    answers f v e = rw g.told (ap answer e)

    pub area_cleared : (x : List ℕ) → x ≡ cleared (take work_words work) → x ++ drop work_words work ≡ area_after told work
    unfolding area_after
    area_cleared x e = rw g.told (ap (◌++ drop work_words work) e ∙ cleared_part work g.room)

  module _ {m p : ℕ} (e : told ≡ refused m p) where
    pub refuses : {A : Type 0} (f : List Pauli → A) → refused m p ≡ map_told f told
    unfolding map_told
    refuses f = rw e

    pub area_kept : work ≡ area_after told work
    unfolding area_after
    area_kept = rw e
