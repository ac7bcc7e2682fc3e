-- What making a window and sending leave, where the front was lent to what L11 proves of it.
use Rattle.std.proofs.Common.{◌≡◌, ℕ, List, [], ◌∷◌, ◌++◌, length, take, drop, set, Result, sym, refl, ap, ◌∙◌, subst, arith, append_assoc, take_at, drop_at, drop-drop, length-append, length-drop}
use Rattle.std.specs.Int.{w64, from_le_bytes, to_le_bytes}
use Rattle.pauli.specs.Refusals.{told_of}
use Rattle.pauli.specs.Told.{answer, refused, map_told}
use Rattle.pauli.specs.Writing.{put_bytes}
use Rattle.pauli.specs.declared.refusal.Refusal.{Refusal}
use Rattle.pauli.proofs.roll.Told.{map_refused, map_answer}
use Rattle.pauli.proofs.write.Puts.{put_append, length_put}
use Rattle.window.specs.CallContracts.{MakeCall, SendCall}
use Rattle.window.specs.History.{or_same}
use Rattle.window.specs.Layout.{window_bytes, front, made, sent}
use Rattle.window.specs.MarkLayout.{array_bytes, round_at, held_at, marks_at, behind, round_in, with_round, next_round, behind_made, behind_sent}
use Rattle.window.proofs.layout.LayoutLaws.{front_all, front_length}
use Rattle.window.proofs.marks.MarkBytes.{joined_put, set_put}

-- ---- a front, and what is behind it

module _ (u : List ℕ) (long : length u ≡ window_bytes) (r : List ℕ) where
  pub front_joined : front (u ++ r) ≡ u
  unfolding front
  front_joined = take_at u r window_bytes long

  pub behind_joined : behind (u ++ r) ≡ r
  unfolding behind
  behind_joined = drop_at u r window_bytes long

module _ (w u : List ℕ) (size : length w ≡ array_bytes) (long : length u ≡ window_bytes) where
  abbrev rest : List ℕ
  rest = drop window_bytes w

  twice : front (front w) ≡ front w
  twice = front_all (front w) (front_length w (omega arith))

  pub joined_round : round_in (u ++ rest) ≡ round_in w
  unfolding round_in
  joined_round = ap (λ (l : List ℕ). from_le_bytes w64 (take 8 l)) (drop_at u rest round_at long)

  with_joined : (n : ℕ) → with_round (u ++ rest) n ≡ u ++ (to_le_bytes w64 n ++ drop held_at w)
  unfolding with_round
  with_joined n =
      joined_put u rest (to_le_bytes w64 n) long ∙ ap (λ (l : List ℕ). u ++ (to_le_bytes w64 n ++ l)) (drop-drop 8 window_bytes w)

  none_joined : (n : ℕ) → set (with_round (u ++ rest) n) held_at 0 ≡ u ++ (to_le_bytes w64 n ++ (0 ∷ drop marks_at w))
  unfolding with_round
  none_joined n =
      let all = u ++ rest in
      let round = to_le_bytes w64 n in
      let whole : length all ≡ array_bytes = omega (arith, length-append u rest, length-drop window_bytes w, long, size) in
      set_put (put_bytes all round_at round) held_at 0 (omega (arith, length_put all round_at round (omega arith)))
      ∙ put_append all round_at round (omega arith) (0 ∷ []) ∙ joined_put u rest (round ++ 0 ∷ []) long
      ∙ ap (u ++◌) (ap ((round ++ 0 ∷ []) ++◌) (drop-drop 9 window_bytes w) ∙ append_assoc round (0 ∷ []) (drop marks_at w))

  module _ (f : List ℕ) (ef : f ≡ front w) (r : Result Unit Refusal) where
    module _ (width : ℕ) (c : MakeCall f width r u) where
      told : told_of r ≡ map_told (λ bytes. tt {0}) (made (front w) width)
      told = c.told ∙ ap (λ (l : List ℕ). map_told (λ bytes. tt {0}) (made l width)) (ap front ef ∙ twice)

      pub make_call : (x : List ℕ) → MakeCall w width r (u ++ x)
      make_call x = record {
        told = told;
        left = front_joined u long x ∙ sym (front_all u long) ∙ c.left ∙ ap (λ (l : List ℕ). or_same l (made l width)) (ap front ef ∙ twice);
      }

      pub make_refused : (n p : ℕ) → told_of r ≡ refused n p → behind (u ++ rest) ≡ behind_made w width
      unfolding behind_made behind map_told or_same
      make_refused n p e =
          let is : made (front w) width ≡ refused n p = map_refused (λ bytes. tt {0}) _ n p (sym told ∙ e) in
          behind_joined u long rest ∙ rw is refl

      make_begun : told_of r ≡ answer tt → behind (u ++ (to_le_bytes w64 0 ++ (0 ∷ drop marks_at w))) ≡ behind_made w width
      unfolding behind_made map_told or_same
      make_begun e =
          let (v, is, same) = map_answer (λ bytes. tt {0}) (made (front w) width) tt (sym told ∙ e) in
          behind_joined u long (to_le_bytes w64 0 ++ (0 ∷ drop marks_at w)) ∙ rw is refl

      pub make_done : told_of r ≡ answer tt → (v : List ℕ) → v ≡ with_round (u ++ rest) 0
          → MakeCall w width r (set v held_at 0) × (behind (set v held_at 0) ≡ behind_made w width)
      make_done e v pv =
          let y = to_le_bytes w64 0 ++ (0 ∷ drop marks_at w) in
          let is : set v held_at 0 ≡ u ++ y = ap (λ (l : List ℕ). set l held_at 0) pv ∙ none_joined 0 in
          (subst (MakeCall w width r) (sym is) (make_call y), ap behind is ∙ make_begun e)

    module _ (b : List ℕ) (c : SendCall f b r u) where
      sent_told : told_of r ≡ map_told (λ bytes. tt {0}) (sent (front w) b)
      sent_told = c.told ∙ ap (λ (l : List ℕ). map_told (λ bytes. tt {0}) (sent l b)) (ap front ef ∙ twice)

      pub send_call : (x : List ℕ) → SendCall w b r (u ++ x)
      send_call x = record {
        told = sent_told;
        left = front_joined u long x ∙ sym (front_all u long) ∙ c.left ∙ ap (λ (l : List ℕ). or_same l (sent l b)) (ap front ef ∙ twice);
      }

      pub send_refused : (n p : ℕ) → told_of r ≡ refused n p → behind (u ++ rest) ≡ behind_sent w b
      unfolding behind_sent behind map_told or_same
      send_refused n p e =
          let is : sent (front w) b ≡ refused n p = map_refused (λ bytes. tt {0}) _ n p (sym sent_told ∙ e) in
          behind_joined u long rest ∙ rw is refl

      send_counted : told_of r ≡ answer tt → (n : ℕ) → n ≡ next_round (round_in w) → behind (u ++ (to_le_bytes w64 n ++ drop held_at w)) ≡ behind_sent w b
      unfolding behind_sent map_told or_same
      send_counted e n en =
          let (v, is, same) = map_answer (λ bytes. tt {0}) (sent (front w) b) tt (sym sent_told ∙ e) in
          behind_joined u long (to_le_bytes w64 n ++ drop held_at w) ∙ rw is (ap (λ (k : ℕ). to_le_bytes w64 k ++ drop held_at w) en)

      pub send_done : told_of r ≡ answer tt → (a n : ℕ) → a ≡ round_in (u ++ rest) → n ≡ next_round a → (v : List ℕ) → v ≡ with_round (u ++ rest) n
          → SendCall w b r v × (behind v ≡ behind_sent w b)
      send_done e a n ea en v pv =
          let y = to_le_bytes w64 n ++ drop held_at w in
          let is : v ≡ u ++ y = pv ∙ with_joined n in
          (subst (SendCall w b r) (sym is) (send_call y), ap behind is ∙ send_counted e n (en ∙ ap next_round (ea ∙ joined_round)))
