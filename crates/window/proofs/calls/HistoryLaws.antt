-- The checks accepted of the rolls sent, and the bytes that hold the last of them.
use Rattle.std.proofs.Common.{◌≡◌, ℕ, zero, suc, ◌-◌, ◌≤◌, List, [], ◌∷◌, ◌++◌, map, length, drop, sym, refl, ap, ap₂, ◌∙◌, arith, ltb-false}
use mathlib.Core.List.{map-append}
use Rattle.binar.proofs.Lists.{all_join}
use Rattle.pauli.specs.Roll.{Sparse, read, support, numbers, write, by_value}
use Rattle.pauli.specs.Support.{most_qubits, All, insert_all}
use Rattle.pauli.specs.Told.{Told, answer, refused, and_then, map_told}
use Rattle.pauli.proofs.roll.Checks.{AllowedSets}
use Rattle.pauli.proofs.roll.ListSupport.{support_by_value}
use Rattle.pauli.proofs.roll.NeverFive.{read_never_above}
use Rattle.pauli.proofs.roll.RollLaws.{answer_parts}
use Rattle.pauli.proofs.roll.Told.{Never, refused_none, test_passed, answered, never_answer, never_test, never_then}
use Rattle.window.specs.History.{widest, only_one, check_in, few_inside, last_of, accept, or_same}
use Rattle.window.specs.Layout.{room_bytes, window_bytes, roll_in, width_in, holding, sent}
use Rattle.window.proofs.entering.EnteringLaws.{few_map}
use Rattle.window.proofs.entering.Values.{values_twice, write_values, last_few, last_more, last_values, all_drop, fresh_read, fresh_room}
use Rattle.window.proofs.layout.LayoutLaws.{hold_length, hold_width, hold_roll}

-- ---- what is accepted keeps to the limits

-- its sets rise, its exponents are by value, and the last w of it are on few qubits
pub record Kept (w : ℕ) (ps : List Sparse) : Type 0 where
  pub sets : All AllowedSets ps
  pub values : map by_value ps ≡ ps
  pub qubits : length (support (last_of w ps)) ≤ most_qubits

pub drop_nil : (n : ℕ) → drop {A = Sparse} n [] ≡ []
drop_nil zero = refl
drop_nil (suc n) = refl

pub kept_none : (w : ℕ) → Kept w []
unfolding last_of support numbers insert_all most_qubits
kept_none w = record { sets = tt; values = refl; qubits = rw (drop_nil (0 - w)) (omega arith) }

only : (ps : List Sparse) (p : Sparse) → only_one ps ≡ answer p → ps ≡ p ∷ []
unfolding only_one
only [] p o = absurd (refused_none 18 0 p o)
only (q ∷ []) p o = cc
only (q ∷ r ∷ rs) p o = absurd (refused_none 18 0 p o)

-- the one Pauli of a roll that is sent
one_read : (b : List ℕ) (p : Sparse) → check_in b ≡ answer p → read b ≡ answer (p ∷ [])
unfolding check_in
one_read b p e = let (ps, r, o) = answered (read b) only_one p e in r ∙ ap answer (only ps p o)

-- with one more it is the list of both, by value
more_is : (ps : List Sparse) (p : Sparse) → map by_value ps ≡ ps → ps ++ by_value p ∷ [] ≡ map by_value (ps ++ p ∷ [])
more_is ps p v = ap (◌++ (by_value p ∷ [])) (sym v) ∙ sym (map-append by_value ps (p ∷ []))

module _ (w : ℕ) (ps : List Sparse) (k : Kept w ps) where
  last_written : (p : Sparse) → write (last_of w (ps ++ by_value p ∷ [])) ≡ write (last_of w (ps ++ p ∷ []))
  last_written p =
      ap (λ (l : List Sparse). write (last_of w l)) (more_is ps p k.values) ∙ ap write (last_values w (ps ++ p ∷ [])) ∙ write_values (last_of w (ps ++ p ∷ []))

  kept_one : (p : Sparse) → AllowedSets p → length (support (last_of w (ps ++ p ∷ []))) ≤ most_qubits → Kept w (ps ++ by_value p ∷ [])
  unfolding by_value
  kept_one p a few = record {
    sets = all_join AllowedSets ps (by_value p ∷ []) k.sets (a, tt);
    values = ap (map by_value) (more_is ps p k.values) ∙ values_twice (ps ++ p ∷ []) ∙ sym (more_is ps p k.values);
    qubits = rw (more_is ps p k.values, last_values, support_by_value) few;
  }

  pub kept_more : (b : List ℕ) (qs : List Sparse) → accept w ps b ≡ answer qs → Kept w qs
  unfolding accept few_inside
  kept_more b qs e =
      let (p, one, r) = answered (check_in b) _ qs e in
      let (few, same) = test_passed _ 7 0 _ qs r in
      let is : ps ++ by_value p ∷ [] ≡ qs = cc in
      rw (← is) (kept_one p (answer_parts b (p ∷ []) (one_read b p one)).sets.0 (ltb-false most_qubits _ few))

  module _ (few : w ≤ widest) where
    short : length (last_of w ps) ≤ 64
    unfolding widest
    short = omega (arith, last_few w ps)

    sets_of : All AllowedSets (last_of w ps)
    unfolding last_of
    sets_of = all_drop AllowedSets (length ps - w) ps k.sets

    -- the roll of the last w is accepted, and holds them
    pub kept_fresh : read (write (last_of w ps)) ≡ answer (last_of w ps)
    kept_fresh = fresh_read (last_of w ps) short sets_of k.qubits ∙ ap answer (sym (last_values w ps) ∙ ap (last_of w) k.values)

    pub kept_room : length (write (last_of w ps)) ≤ room_bytes
    kept_room = fresh_room (last_of w ps) short sets_of k.qubits

only_never : (ps : List Sparse) → Never 12 (only_one ps)
unfolding only_one Never
only_never [] = omega arith
only_never (p ∷ []) = tt
only_never (p ∷ q ∷ ps) = omega arith

-- 12 is never told
pub accept_never : (w : ℕ) (ps : List Sparse) (b : List ℕ) → Never 12 (accept w ps b)
unfolding accept check_in few_inside
accept_never w ps b =
    never_then 12 _ _ (never_then 12 (read b) only_one (read_never_above 12 (omega arith) b) only_never) λ p. never_test 12 _ 7 0 _ (omega arith) (never_answer 12 _)

-- ---- bytes that hold a window

-- they hold the width w and the last w of the checks ps
pub record Holds (w : ℕ) (ps : List Sparse) (f : List ℕ) : Type 0 where
  pub size : length f ≡ window_bytes
  pub width : width_in f ≡ w
  pub roll : roll_in f ≡ write (last_of w ps)

module _ (w : ℕ) (low : w ≤ widest) (ps : List Sparse) (k : Kept w ps) (f : List ℕ) (h : Holds w ps f) where
  inside : read (roll_in f) ≡ answer (last_of w ps)
  inside = ap read h.roll ∙ kept_fresh w ps k low

  entered : (p : Sparse) → few_inside (last_of w (last_of w ps ++ p ∷ [])) (answer (holding f (write (last_of w (last_of w ps ++ p ∷ [])))))
      ≡ map_told (λ qs. holding f (write (last_of w qs))) (few_inside (last_of w (ps ++ p ∷ [])) (answer (ps ++ by_value p ∷ [])))
  entered p =
      ap₂ (λ (l : List Sparse) (roll : List ℕ). few_inside l (answer (holding f roll))) (last_more w ps (p ∷ [])) (ap write (last_more w ps (p ∷ [])) ∙ sym (last_written w ps k p))
      ∙ few_map (last_of w (ps ++ p ∷ [])) (λ (qs : List Sparse). holding f (write (last_of w qs))) (ps ++ by_value p ∷ [])

  -- what a roll that is sent leaves, as the checks accepted say
  pub sent_is : (b : List ℕ) → sent f b ≡ map_told (λ qs. holding f (write (last_of w qs))) (accept w ps b)
  unfolding sent accept and_then map_told
  sent_is b = go (check_in b)
    where
      go : (t : Told Sparse)
          → and_then t (λ p. and_then (read (roll_in f)) λ rs. few_inside (last_of (width_in f) (rs ++ p ∷ [])) (answer (holding f (write (last_of (width_in f) (rs ++ p ∷ []))))))
          ≡ map_told (λ qs. holding f (write (last_of w qs))) (and_then t λ p. few_inside (last_of w (ps ++ p ∷ [])) (answer (ps ++ by_value p ∷ [])))
      go (refused n p) = refl
      go (answer p) = rw (inside, h.width) (entered p)

  next_holds : (t : Told (List Sparse)) → ((qs : List Sparse) → t ≡ answer qs → length (write (last_of w qs)) ≤ room_bytes)
      → Holds w (or_same ps t) (or_same f (map_told (λ qs. holding f (write (last_of w qs))) t))
  unfolding or_same map_told
  next_holds (refused n p) room = h
  next_holds (answer qs) room =
      let roll = write (last_of w qs) in
      let r = room qs refl in
      record { size = hold_length f h.size roll r; width = hold_width f h.size roll r ∙ h.width; roll = hold_roll f h.size roll r }

  pub sent_holds : (b : List ℕ) → Holds w (or_same ps (accept w ps b)) (or_same f (sent f b))
  sent_holds b = rw sent_is (next_holds (accept w ps b) (λ qs e. kept_room w qs (kept_more w ps k b qs e) low))

-- ---- one roll after the other

pub kept_or_same : (w : ℕ) (ps : List Sparse) (b : List ℕ) → Kept w ps → Kept w (or_same ps (accept w ps b))
unfolding or_same
kept_or_same w ps b k = go (accept w ps b) (λ qs e. kept_more w ps k b qs e)
  where
    go : (t : Told (List Sparse)) → ((qs : List Sparse) → t ≡ answer qs → Kept w qs) → Kept w (or_same ps t)
    go (answer qs) more = more qs refl
    go (refused n p) more = k
