-- A check that enters: the roll of those that stay, joined with its own, is the roll of the checks that are then inside.
use Rattle.std.proofs.Common.{◌≡◌, ℕ, ◌+◌, ◌-◌, ◌≤◌, ltb, List, [], ◌∷◌, ◌++◌, map, length, take, drop, sym, refl, ap, ap₂, ◌∙◌, arith, length-drop, length-append, ltb-false, le-ltb}
use mathlib.Core.List.{map-append}
use lib.ListN.{length-map}
use Rattle.binar.proofs.Lists.{all_join}
use Rattle.pauli.specs.Condense.{list_of}
use Rattle.pauli.specs.JoinCalls.{join_of}
use Rattle.pauli.specs.Roll.{most_paulis, Sparse, read, support, count_of, encode, write, by_value}
use Rattle.pauli.specs.Support.{most_qubits, All}
use Rattle.pauli.specs.Told.{Told, answer, refused, refuse_if, and_then, map_told}
use Rattle.pauli.specs.Writing.{put_bytes}
use Rattle.pauli.proofs.join.JoinedLists.{join_is}
use Rattle.pauli.proofs.join.ReadBack.{put_front}
use Rattle.pauli.proofs.joined.JoinLaws.{accepted, count_refused, own_few}
use Rattle.pauli.proofs.roll.Checks.{AllowedSets}
use Rattle.pauli.proofs.roll.ListSupport.{support_by_value}
use Rattle.pauli.proofs.roll.RollLaws.{answer_parts}
use Rattle.pauli.proofs.roll.Told.{test_pass, test_passed, map_test}
use Rattle.window.specs.History.{only_one, check_in, few_inside, last_of, or_same}
use Rattle.window.specs.Inner.{HasRoom}
use Rattle.window.specs.Layout.{roll_in, width_in, holding, sent}
use Rattle.window.proofs.entering.Values.{values_twice, last_stay, all_drop, drop_qubits, fresh_read, fresh_room}
use Rattle.window.proofs.layout.LayoutLaws.{width_some, width_few}

pub map_twice : {A B : Type 0} (f : A → B) (t : Told A) → map_told (λ b. tt {0}) (map_told f t) ≡ map_told (λ a. tt {0}) t
unfolding map_told
map_twice f (answer a) = refl
map_twice f (refused n p) = refl

pub few_map : {A B : Type 0} (ps : List Sparse) (f : A → B) (a : A) → few_inside ps (answer (f a)) ≡ map_told f (few_inside ps (answer a))
unfolding few_inside map_told
few_map ps f a = sym (map_test f _ 7 0 (answer a))

others : (ps : List Sparse) → (length ps ≡ 1 → ⊥) → only_one ps ≡ refused 18 0
unfolding only_one
others [] d = refl
others (p ∷ []) d = absurd (d refl)
others (p ∷ q ∷ ps) d = refl

-- ---- the roll that is sent

module _ (w b : List ℕ) where
  pub sent_refused : (m p : ℕ) → count_of b ≡ refused m p → sent w b ≡ refused m p
  unfolding sent check_in and_then
  sent_refused m p e = rw (count_refused b m p e) refl

  pub sent_not_one : (n : ℕ) → count_of b ≡ answer n → (n ≡ 1 → ⊥) → sent w b ≡ refused 18 0
  unfolding sent check_in and_then
  sent_not_one n e d = rw ((accepted b n e).0, others (list_of b) (λ one. d (sym (accepted b n e).1 ∙ one))) refl

-- the one check of a roll of one
pub record One (b : List ℕ) : Type 0 where
  pub check : Sparse
  pub is : check_in b ≡ answer check
  pub reads : read b ≡ answer (check ∷ [])

pub one_in : (b : List ℕ) → count_of b ≡ answer 1 → One b
unfolding check_in only_one and_then
one_in b e = only (list_of b) (accepted b 1 e).0 (accepted b 1 e).1
  where
    only : (ps : List Sparse) → read b ≡ answer ps → length ps ≡ 1 → One b
    only [] r l = absurd (omega arith)
    only (p ∷ []) r l = record { check = p; is = rw r refl; reads = r }
    only (p ∷ q ∷ ps) r l = absurd (omega arith)

-- ---- those that stay

module _ (w b : List ℕ) (one : count_of b ≡ answer 1) where
  -- bytes in which no roll stands
  pub sent_forged : (m q : ℕ) → count_of (roll_in w) ≡ refused m q → sent w b ≡ refused m q
  unfolding sent and_then
  sent_forged m q e = let o = one_in b one in rw (o.is, count_refused (roll_in w) m q e) refl

  pub told_forged : (m q : ℕ) → count_of (roll_in w) ≡ refused m q → refused m q ≡ map_told (λ bytes. tt {0}) (sent w b)
  unfolding map_told
  told_forged m q e = rw (sent_forged m q e) refl

  pub left_forged : (m q : ℕ) → count_of (roll_in w) ≡ refused m q → w ≡ or_same w (sent w b)
  unfolding or_same
  left_forged m q e = rw (sent_forged m q e) refl

  module _ (n : ℕ) (c : count_of (roll_in w) ≡ answer n) (k : ℕ) (ek : k ≡ n + 1 - width_in w) where
    abbrev inside : List Sparse
    inside = list_of (roll_in w)

    abbrev stay : List Sparse
    stay = drop k inside

    abbrev p : Sparse
    p = (one_in b one).check

    count : length inside ≡ n
    count = (accepted (roll_in w) n c).1

    few : length stay ≤ 63
    few = omega (arith, length-drop k inside, count, width_some w, width_few w, ek)

    sets : All AllowedSets stay
    sets = all_drop AllowedSets k inside (answer_parts (roll_in w) inside (accepted (roll_in w) n c).0).sets

    qubits : length (support stay) ≤ most_qubits
    qubits = omega (arith, drop_qubits k inside, own_few (roll_in w) n c)

    then_inside : last_of (width_in w) (inside ++ p ∷ []) ≡ stay ++ p ∷ []
    then_inside = last_stay (width_in w) (width_some w) inside p ∙ ap (λ (j : ℕ). drop j inside ++ p ∷ []) (ap (λ (j : ℕ). j + 1 - width_in w) count ∙ sym ek)

    -- of what is joined, the exponents of those that stay are by value already
    values : map by_value (map by_value stay ++ p ∷ []) ≡ map by_value (stay ++ p ∷ [])
    values = map-append by_value (map by_value stay) (p ∷ []) ∙ ap (◌++ (by_value p ∷ [])) (values_twice stay) ∙ sym (map-append by_value stay (p ∷ []))

    same_support : support (map by_value stay ++ p ∷ []) ≡ support (stay ++ p ∷ [])
    same_support = sym (support_by_value (map by_value stay ++ p ∷ [])) ∙ ap support values ∙ support_by_value (stay ++ p ∷ [])

    same_roll : write (map by_value stay ++ p ∷ []) ≡ write (stay ++ p ∷ [])
    unfolding write
    same_roll = ap encode values

    pub joins : join_of (write stay) b ≡ few_inside (stay ++ p ∷ []) (answer (write (stay ++ p ∷ [])))
    unfolding few_inside most_paulis
    joins =
        join_is (write stay) b (map by_value stay) (p ∷ []) (fresh_read stay (omega (arith, few)) sets qubits) (one_in b one).reads
        ∙ test_pass _ 2 0 _ (le-ltb 128 (length (map by_value stay) + 1) (omega (arith, few, length-map stay by_value)))
        ∙ ap₂ (λ (qs : List ℕ) (roll : List ℕ). refuse_if (ltb most_qubits (length qs)) 7 0 (answer roll)) same_support same_roll

    pub sent_joined : sent w b ≡ map_told (holding w) (join_of (write stay) b)
    unfolding sent and_then
    sent_joined =
        rw ((one_in b one).is, (accepted (roll_in w) n c).0)
        (ap (λ (ps : List Sparse). few_inside ps (answer (holding w (write ps)))) then_inside
        ∙ few_map (stay ++ p ∷ []) (holding w) (write (stay ++ p ∷ [])) ∙ ap (map_told (holding w)) (sym joins))

    pub joined_room : HasRoom (join_of (write stay) b)
    unfolding few_inside
    joined_room roll e =
        let all = stay ++ p ∷ [] in
        let (q, same) = test_passed _ 7 0 _ roll (sym joins ∙ e) in
        let is : write all ≡ roll = cc in
        let one_set : AllowedSets p = (answer_parts b (p ∷ []) (one_in b one).reads).sets.0 in
        rw (← is) (fresh_room all (omega (arith, few, length-append stay (p ∷ []))) (all_join AllowedSets stay (p ∷ []) sets (one_set, tt)) (ltb-false most_qubits (length (support all)) q))

    -- the bytes of those that stay, written at the front of others
    module _ (roll : List ℕ) (er : roll ≡ roll_in w) (out u : List ℕ) (pu : u ≡ put_bytes out 0 (write (drop k (list_of roll)))) (size : ℕ)
        (es : size ≡ length (write (drop k (list_of roll)))) where
      written : take size u ≡ write stay
      written =
          ap₂ (λ (n : ℕ) (l : List ℕ). take n l) es pu ∙ put_front out (write (drop k (list_of roll))) ∙ ap (λ (r : List ℕ). write (drop k (list_of r))) er

      pub enter_room : HasRoom (join_of (take size u) b)
      enter_room = rw written joined_room

      pub enter_told : map_told (λ roll. tt {0}) (join_of (take size u) b) ≡ map_told (λ bytes. tt {0}) (sent w b)
      enter_told = rw (written, sent_joined) (sym (map_twice (holding w) (join_of (write stay) b)))

      pub enter_left : or_same w (map_told (holding w) (join_of (take size u) b)) ≡ or_same w (sent w b)
      enter_left = rw (written, sent_joined) refl
