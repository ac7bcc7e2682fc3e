-- What the calls on marks tell and leave.
use Rattle.std.proofs.Common.{◌≡◌, ℕ, suc, ◌+◌, ◌-◌, ◌*◌, ◌<◌, ◌≤◌, max, List, ◌∷◌, ◌++◌, length, take, drop, set, Some, Option, Result, Ok, sym, refl, ap, ap₂, ◌∙◌, arith, le-ltb, lt-ltb, length-append, length-drop, length-take-le, drop-drop}
use Rattle.std.specs.List.{copy_within}
use Rattle.pauli.specs.Refusals.{told_of}
use Rattle.pauli.specs.Told.{answer, refused, map_told}
use Rattle.pauli.specs.Writing.{put_bytes}
use Rattle.pauli.specs.declared.refusal.Refusal.{Refusal}
use Rattle.pauli.proofs.roll.Told.{test_pass, test_refuses}
use Rattle.window.specs.History.{or_same}
use Rattle.window.specs.Inner.{place}
use Rattle.window.specs.Layout.{width_at}
use Rattle.window.specs.MarkContracts.{SaveCall, ReturnCall, DeleteCall}
use Rattle.window.specs.MarkHistory.{Named, most_marks, kept_at, keep, free, keep_few, known}
use Rattle.window.specs.MarkLayout.{array_bytes, round_at, held_at, marks_at, mark_bytes, state_bytes, held_in, marks_in, with_marks, state, restored, saved, returned, deleted}
use Rattle.window.proofs.marks.MarkBytes.{copied, marks_length, put_saved, put_deleted, put_restored, kept_found}
use Rattle.window.proofs.marks.NameLaws.{place_few, keep_place, free_place, unknown_place}

pub few_held : (w : List ℕ) → held_in w ≤ 8
unfolding held_in most_marks
few_held w = omega arith

pub held_length : (w : List ℕ) → length (marks_in w) ≡ held_in w
unfolding marks_in
held_length w = marks_length (held_in w) (drop marks_at w)

pub state_length : (w : List ℕ) → length w ≡ array_bytes → length (state w) ≡ state_bytes
unfolding state
state_length w size =
    let front : length (take width_at w) ≡ width_at = length-take-le width_at w (omega arith) in
    let round : length (take 8 (drop round_at w)) ≡ 8 = length-take-le 8 (drop round_at w) (rw length-drop (omega arith)) in
    omega (arith, front, round, length-append (take width_at w) (take 8 (drop round_at w)))

module _ (w name : List ℕ) (size : length w ≡ array_bytes) (p : ℕ) (ep : p ≡ place name (marks_in w)) where
  abbrev ms : List (Named (List ℕ))
  ms = marks_in w

  at_most : p ≤ held_in w
  at_most = omega (arith, ep, place_few name ms, held_length w)

  abbrev here : Named (List ℕ)
  here = record { name = name; kept = state w }

  keep_is : keep name (state w) ms ≡ take p ms ++ here ∷ drop (suc p) ms
  keep_is = keep_place name (state w) ms ∙ ap (λ (q : ℕ). take q ms ++ here ∷ drop (suc q) ms) (sym ep)

  keep_length : length (keep name (state w) ms) ≡ max (held_in w) (p + 1)
  keep_length =
      let taken : length (take p ms) ≡ p = length-take-le p ms (rw held_length at_most) in
      omega (arith, ap length keep_is, length-append (take p ms) (here ∷ drop (suc p) ms), taken, length-drop (suc p) ms, held_length w, at_most)

  module _ (r : Result Unit Refusal) where
    pub save_full : p ≡ 8 → told_of r ≡ refused 20 0 → SaveCall w name r w
    unfolding saved keep_few most_marks map_told or_same
    save_full e t =
        let is : saved w name ≡ refused 20 0 = ap (map_told (with_marks w)) (test_refuses _ 20 0 _ (lt-ltb 8 _ (omega (arith, keep_length, few_held w)))) in
        record { told = t ∙ rw is refl; left = rw is refl }

    unknown : p ≡ held_in w → known (kept_at name ms) ≡ refused 19 0
    unfolding known
    unknown e = ap known (unknown_place name ms (sym ep ∙ e ∙ sym (held_length w)))

    pub return_unknown : p ≡ held_in w → told_of r ≡ refused 19 0 → ReturnCall w name r w
    unfolding returned map_told or_same
    return_unknown e t =
        let is : returned w name ≡ refused 19 0 = ap (map_told (restored w)) (unknown e) in
        record { told = t ∙ rw is refl; left = rw is refl }

    pub delete_unknown : p ≡ held_in w → told_of r ≡ refused 19 0 → DeleteCall w name r w
    unfolding deleted map_told or_same
    delete_unknown e t =
        let is : deleted w name ≡ refused 19 0 = ap (map_told (λ (s : List ℕ). with_marks w (free name ms))) (unknown e) in
        record { told = t ∙ rw is refl; left = rw is refl }

  module _ (en : length name ≡ 8) (room : p ≡ 8 → ⊥) where
    saved_left : (k : ℕ) → k ≡ max (held_in w) (p + 1) → set (put_bytes w (marks_at + mark_bytes * p) (name ++ state w)) held_at k ≡ with_marks w (keep name (state w) ms)
    unfolding marks_in
    saved_left k e =
        put_saved w size (held_in w) p (few_held w) at_most here en (state_length w size) (omega (arith, few_held w, at_most, room)) k e ∙ ap (with_marks w) (sym keep_is)

    pub save_done : (h k : ℕ) → h ≡ held_in w → k ≡ max h (p + 1) → (u : List ℕ) → u ≡ put_bytes w (marks_at + mark_bytes * p) (name ++ state w) → SaveCall w name (Ok tt) (set u held_at k)
    unfolding saved keep_few most_marks map_told or_same
    save_done h k eh ek u pu =
        let fits : keep_few name (state w) ms ≡ answer (keep name (state w) ms) = test_pass _ 20 0 _ (le-ltb 8 _ (omega (arith, keep_length, few_held w, at_most, room))) in
        let is : saved w name ≡ answer (with_marks w (keep name (state w) ms)) = ap (map_told (with_marks w)) fits in
        record { told = rw is refl; left = rw is (ap (λ (x : List ℕ). set x held_at k) pu ∙ saved_left k (ek ∙ ap (λ (n : ℕ). max n (p + 1)) eh)) }

  module _ (used : p ≡ held_in w → ⊥) where
    abbrev at : ℕ
    at = marks_at + mark_bytes * p

    inside : p < held_in w
    inside = omega (arith, at_most, used)

    found : kept_at name ms ≡ Some (take state_bytes (drop (at + 8) w))
    unfolding marks_in
    found =
        let is = kept_found name (held_in w) (drop marks_at w) (rw (← ep) inside) in
        let moved : drop 8 (drop (mark_bytes * place name ms) (drop marks_at w)) ≡ drop (at + 8) w =
        ap (λ (q : ℕ). drop 8 (drop (mark_bytes * q) (drop marks_at w))) (sym ep) ∙ ap (drop 8) (drop-drop (mark_bytes * p) marks_at w) ∙ drop-drop 8 at w in
        is ∙ ap (λ (x : List ℕ). Some (take state_bytes x)) moved

    pub return_done : (u v : List ℕ) → u ≡ copy_within w (at + 8) (at + 8 + width_at) 0 → v ≡ copy_within u (at + 8 + width_at) (at + 8 + width_at + 8) round_at
        → ReturnCall w name (Ok tt) v
    unfolding returned known map_told or_same
    return_done u v cu cv =
        let is : returned w name ≡ answer (restored w (take state_bytes (drop (at + 8) w))) = ap (λ (o : Option (List ℕ)). map_told (restored w) (known o)) found in
        record {
          told = rw is refl;
          left = rw is (put_restored w size (held_in w) p (few_held w) (at + 8) (omega arith) (omega (arith, inside, few_held w)) u v cu cv);
        }

    deleted_left : (n : ℕ) → n ≡ mark_bytes * (held_in w - suc p)
        → set (put_bytes w at (take n (drop (marks_at + mark_bytes * suc p) w))) held_at (held_in w - 1) ≡ with_marks w (free name ms)
    unfolding marks_in
    deleted_left n e =
        put_deleted w size (held_in w) p (few_held w) at_most inside n e
        ∙ ap (with_marks w) (sym (free_place name ms ∙ ap (λ (q : ℕ). take q ms ++ drop (suc q) ms) (sym ep)))

    pub delete_done : (h : ℕ) → h ≡ held_in w → (u : List ℕ) → u ≡ copy_within w (at + mark_bytes) (marks_at + mark_bytes * h) at → DeleteCall w name (Ok tt) (set u held_at (h - 1))
    unfolding deleted known map_told or_same
    delete_done h e u cu =
        let n = mark_bytes * (held_in w - suc p) in
        let from : at + mark_bytes ≡ marks_at + mark_bytes * suc p = omega arith in
        let to : marks_at + mark_bytes * h ≡ at + mark_bytes + n = omega (arith, inside) in
        let is : deleted w name ≡ answer (with_marks w (free name ms)) = ap (λ (o : Option (List ℕ)). map_told (λ (s : List ℕ). with_marks w (free name ms)) (known o)) found in
        let pu : u ≡ put_bytes w at (take n (drop (marks_at + mark_bytes * suc p) w)) =
        cu ∙ copied w (at + mark_bytes) (marks_at + mark_bytes * h) n at to (omega (arith, inside, few_held w)) ∙ ap (λ (j : ℕ). put_bytes w at (take n (drop j w))) from in
        record { told = rw is refl; left = rw is (ap₂ (λ (x : List ℕ) (k : ℕ). set x held_at k) pu (ap (◌- 1) e) ∙ deleted_left n refl) }
