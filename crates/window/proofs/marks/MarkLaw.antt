-- Windows with marks, over the calls' contracts.
use Rattle.std.proofs.Common.{◌≡◌, ℕ, suc, ◌+◌, ◌^◌, ◌<◌, ◌≤◌, min, List, [], ◌∷◌, ◌++◌, length, take, drop, get_or, nat_lt, Some, None, Option, Result, sym, refl, ap, ap₂, ◌∙◌, subst, arith, length-append, length-drop, length-take-le, take-append-drop, take_at, drop_at, drop-drop}
use Rattle.std.proofs.lemmas.Nat.{from_le_bytes-to_le_bytes_8}
use Rattle.std.specs.Int.{w64, from_le_bytes, to_le_bytes}
use Rattle.pauli.specs.Refusals.{told_of}
use Rattle.pauli.specs.Roll.{Sparse, by_value, write}
use Rattle.pauli.specs.Support.{All}
use Rattle.pauli.specs.Told.{Told, answer, refused, refuse_if, map_told}
use Rattle.pauli.specs.declared.refusal.Refusal.{Refusal}
use Rattle.pauli.proofs.roll.Told.{refused_none, map_refused, map_answer, map_test, test_passed, answered}
use Rattle.window.specs.CallContracts.{MakeCall, SendCall}
use Rattle.window.specs.History.{widest, check_in, few_inside, last_of, accept, or_same}
use Rattle.window.specs.Layout.{window_bytes, front, holding, made, sent}
use Rattle.window.specs.MarkContracts.{RoundCall}
use Rattle.window.specs.MarkHistory.{Named, most_marks, kept_at, keep, free, keep_few, known, most_round, round_of, Operation, sending, saving, returning, deleting, History, operate, history_after, history_of}
use Rattle.window.specs.MarkLayout.{array_bytes, held_at, marks_at, behind, round_in, next_round, held_in, marks_from, marks_in, with_marks, state, restored, behind_made, behind_sent, saved, returned, deleted}
use Rattle.window.specs.MarkTheorems.{IsName, MarkRun, end, send, save, return_to, delete, make, MarkedWindow, told, Unchanged, MarkedLaw, MarkLaw}
use Rattle.window.specs.WindowTheorems.{Run, Window}
use Rattle.window.proofs.calls.HistoryLaws.{Kept, Holds, sent_is, sent_holds, kept_or_same}
use Rattle.window.proofs.calls.WindowLaw.{Stands, same_front, history_law, begun, stands}
use Rattle.window.proofs.entering.EnteringLaws.{map_twice}
use Rattle.window.proofs.layout.LayoutLaws.{first_byte, front_length, front_roll, front_width}
use Rattle.window.proofs.marks.HeldBytes.{Held, Alike, Match, Sized, alike_length, alike_names, alike_kept, alike_keep, alike_free, sized_in, marked_front, marked_round, marked_marks, marked_length, marks_same, state_roll, state_round, restored_length, restored_roll, restored_width, restored_round, restored_marks}
use Rattle.window.proofs.marks.MarkCalls.{few_held, held_length, state_length}
use Rattle.window.proofs.marks.MarkHistoryLaws.{Few, few_of, kept_few, tells, last}
use Rattle.window.proofs.marks.NameLaws.{all_keep, all_free, free_few}

-- ---- refusals change nothing

behind_same : (v v' : List ℕ) (g : List ℕ → List ℕ) (t : Told (List ℕ)) (r : Result Unit Refusal) (n p : ℕ) → told_of r ≡ map_told (λ bytes. tt {0}) t
    → behind v' ≡ or_same (behind v) (map_told g t) → told_of r ≡ refused n p → behind v' ≡ behind v
unfolding or_same map_told
behind_same v v' g t r n p said left e =
    let is : t ≡ refused n p = map_refused (λ bytes. tt {0}) t n p (sym said ∙ e) in
    left ∙ rw is refl

whole_same : (v v' : List ℕ) → front v' ≡ front v → behind v' ≡ behind v → v' ≡ v
unfolding front behind
whole_same v v' e f = sym (take-append-drop window_bytes v') ∙ ap₂ ◌++◌ e f ∙ take-append-drop window_bytes v

module _ (v : List ℕ) where
  send_same : (b : List ℕ) (r : Result Unit Refusal) (v' : List ℕ) (n p : ℕ) → SendCall v b r v' → behind v' ≡ behind_sent v b → told_of r ≡ refused n p → v' ≡ v
  unfolding behind_sent
  send_same b r v' n p c f e =
      whole_same v v' (same_front (front v) (front v') (sent (front v) b) r n p c.told c.left e) (behind_same v v' _ (sent (front v) b) r n p c.told f e)

  make_same : (width : ℕ) (r : Result Unit Refusal) (v' : List ℕ) (n p : ℕ) → MakeCall v width r v' → behind v' ≡ behind_made v width → told_of r ≡ refused n p → v' ≡ v
  unfolding behind_made
  make_same width r v' n p c f e =
      whole_same v v' (same_front (front v) (front v') (made (front v) width) r n p c.told c.left e) (behind_same v v' _ (made (front v) width) r n p c.told f e)

  unchanged : Unchanged v
  unchanged = record {
    send = send_same;
    save = λ n r v' m p c e. same_front v v' (saved v n) r m p c.told c.left e;
    return_to = λ n r v' m p c e. same_front v v' (returned v n) r m p c.told c.left e;
    delete = λ n r v' m p c e. same_front v v' (deleted v n) r m p c.told c.left e;
  }

-- ---- the bytes behind the front, and the round in them

whole_length : (x : List ℕ) → length (front x) ≡ window_bytes → length x ≡ window_bytes + length (behind x)
unfolding front behind
whole_length x e = omega (arith, ap length (take-append-drop window_bytes x), length-append (take window_bytes x) (drop window_bytes x), e)

past_front : (x : List ℕ) → drop held_at x ≡ drop 8 (behind x)
unfolding behind
past_front x = sym (drop-drop 8 window_bytes x)

round_front : (x : List ℕ) → round_in x ≡ from_le_bytes w64 (take 8 (behind x))
unfolding round_in behind
round_front x = refl

round_length : (x : List ℕ) → length x ≡ array_bytes → length (take 8 (behind x)) ≡ 8
unfolding behind
round_length x e = length-take-le 8 (drop window_bytes x) (rw length-drop (omega arith))

next_small : (n : ℕ) → next_round n < 2 ^ 64
unfolding next_round most_round
next_small n = omega arith

-- one check more, one round more, up to the largest
round_more : (ps qs : List Sparse) → length qs ≡ suc (length ps) → round_of qs ≡ next_round (round_of ps)
unfolding round_of next_round
round_more ps qs e = omega arith

-- ---- one operation after the other

module _ (w : ℕ) (low : w ≤ widest) where
  -- these bytes hold the window that has this history
  record Standing (h : History) (v : List ℕ) : Type 0 where
    pub stands : Stands w low h.checks v
    pub size : length v ≡ array_bytes
    pub round : round_in v ≡ round_of h.checks
    pub marks : Alike w (marks_in v) h.marks

  module _ (h : History) (v : List ℕ) (st : Standing h v) where
    abbrev ms : List (Named (List ℕ))
    ms = marks_in v

    -- what is kept of them
    held_now : Held w (state v) h.checks
    held_now = record {
      kept = st.stands.kept;
      size = state_length v st.size;
      roll = state_roll v st.size ∙ sym (front_roll v) ∙ st.stands.holds.roll;
      round = state_round v st.size ∙ st.round;
    }

    with_other : (xs : List (Named (List ℕ))) (ys : List (Named (List Sparse))) → Alike w xs ys → length xs ≤ 8 → All Sized xs
        → Standing (record { checks = h.checks; marks = ys }) (with_marks v xs)
    with_other xs ys a few s = record {
      stands = record { kept = st.stands.kept; holds = subst (Holds w h.checks) (sym (marked_front v st.size xs few s)) st.stands.holds };
      size = marked_length v st.size xs few s;
      round = marked_round v st.size xs few s ∙ st.round;
      marks = subst (λ (l : List (Named (List ℕ))). Alike w l ys) (sym (marked_marks v st.size xs few s)) a;
    }

    module _ (n : List ℕ) where
      alike_now : Alike w (keep n (state v) ms) (keep n h.checks h.marks)
      alike_now = alike_keep w n (state v) h.checks held_now ms h.marks st.marks

      same_told : told (keep_few n (state v) ms) ≡ told (keep_few n h.checks h.marks)
      unfolding keep_few map_told
      same_told =
          map_test (λ ks. tt {0}) _ 20 0 _ ∙ ap (λ (k : ℕ). refuse_if (nat_lt most_marks k) 20 0 (answer (tt {0}))) (alike_length w (keep n (state v) ms) (keep n h.checks h.marks) alike_now)
          ∙ sym (map_test (λ ks. tt {0}) _ 20 0 _)

      save_told : map_told (λ bytes. tt {0}) (saved v n) ≡ told (operate w h (saving n))
      unfolding saved operate
      save_told = map_twice (with_marks v) (keep_few n (state v) ms) ∙ same_told ∙ sym (map_twice {B = History} (λ ks. record { checks = h.checks; marks = ks }) (keep_few n h.checks h.marks))

      save_stands : IsName n → Standing (or_same h (operate w h (saving n))) (or_same v (saved v n))
      unfolding saved operate or_same map_told most_marks
      save_stands en = go (keep_few n (state v) ms) (keep_few n h.checks h.marks) same_told (kept_few n (state v) ms) (kept_few n h.checks h.marks)
        where
          go : (t : Told (List (Named (List ℕ)))) (u : Told (List (Named (List Sparse)))) → told t ≡ told u
              → ((xs : List (Named (List ℕ))) → t ≡ answer xs → (keep n (state v) ms ≡ xs) × (length (keep n (state v) ms) ≤ 8))
              → ((ys : List (Named (List Sparse))) → u ≡ answer ys → (keep n h.checks h.marks ≡ ys) × (length (keep n h.checks h.marks) ≤ 8))
              → Standing (or_same h (map_told (λ ks. record { checks = h.checks; marks = ks }) u)) (or_same v (map_told (with_marks v) t))
          go (answer xs) (answer ys) e f g =
              let (px, few) = f xs refl in
              let (py, many) = g ys refl in
              with_other xs ys (subst (λ (l : List (Named (List Sparse))). Alike w xs l) py (subst (λ (l : List (Named (List ℕ))). Alike w l (keep n h.checks h.marks)) px alike_now))
              (rw (← px) few) (subst (All Sized) px (all_keep n (state v) Sized (en, state_length v st.size) ms (sized_in v st.size)))
          go (refused a p) (refused b q) e f g = st
          go (answer xs) (refused b q) e f g = absurd (refused_none b q (tt {0}) (sym e))
          go (refused a p) (answer ys) e f g = absurd (refused_none a p (tt {0}) e)

      match_now : Match w (kept_at n ms) (kept_at n h.marks)
      match_now = alike_kept w n ms h.marks st.marks

      return_told : map_told (λ bytes. tt {0}) (returned v n) ≡ told (operate w h (returning n))
      unfolding returned operate map_told known
      return_told = go (kept_at n ms) (kept_at n h.marks) match_now
        where
          go : (t : Option (List ℕ)) (u : Option (List Sparse)) → Match w t u
              → map_told (λ bytes. tt {0}) (map_told (restored v) (known t)) ≡ told (map_told {B = History} (λ ps. record { checks = ps; marks = h.marks }) (known u))
          go None None m = refl
          go None (Some ps) m = absurd m
          go (Some s) None m = absurd m
          go (Some s) (Some ps) m = refl

      return_stands : Standing (or_same h (operate w h (returning n))) (or_same v (returned v n))
      unfolding returned operate or_same map_told known
      return_stands = go (kept_at n ms) (kept_at n h.marks) match_now
        where
          go : (t : Option (List ℕ)) (u : Option (List Sparse)) → Match w t u
              → Standing (or_same h (map_told (λ ps. record { checks = ps; marks = h.marks }) (known u))) (or_same v (map_told (restored v) (known t)))
          go None None m = st
          go None (Some ps) m = absurd m
          go (Some s) None m = absurd m
          go (Some s) (Some ps) m =
              let long = restored_length v st.size s m.size in
              record {
                stands = record {
                  kept = m.kept;
                  holds = record {
                    size = front_length (restored v s) (omega (arith, long));
                    width = front_width (restored v s) ∙ restored_width v st.size s m.size ∙ sym (front_width v) ∙ st.stands.holds.width;
                    roll = front_roll (restored v s) ∙ restored_roll v st.size s m.size ∙ m.roll;
                  };
                };
                size = long;
                round = restored_round v st.size s m.size ∙ m.round;
                marks = subst (λ (l : List (Named (List ℕ))). Alike w l h.marks) (sym (restored_marks v st.size s m.size)) st.marks;
              }

      delete_told : map_told (λ bytes. tt {0}) (deleted v n) ≡ told (operate w h (deleting n))
      unfolding deleted operate map_told known
      delete_told = go (kept_at n ms) (kept_at n h.marks) match_now
        where
          go : (t : Option (List ℕ)) (u : Option (List Sparse)) → Match w t u
              → map_told (λ bytes. tt {0}) (map_told (λ s. with_marks v (free n ms)) (known t)) ≡ told (map_told {B = History} (λ ps. record { checks = h.checks; marks = free n h.marks }) (known u))
          go None None m = refl
          go None (Some ps) m = absurd m
          go (Some s) None m = absurd m
          go (Some s) (Some ps) m = refl

      delete_stands : Standing (or_same h (operate w h (deleting n))) (or_same v (deleted v n))
      unfolding deleted operate or_same map_told known
      delete_stands = go (kept_at n ms) (kept_at n h.marks) match_now
        where
          go : (t : Option (List ℕ)) (u : Option (List Sparse)) → Match w t u
              → Standing (or_same h (map_told (λ ps. record { checks = h.checks; marks = free n h.marks }) (known u))) (or_same v (map_told (λ s. with_marks v (free n ms)) (known t)))
          go None None m = st
          go None (Some ps) m = absurd m
          go (Some s) None m = absurd m
          go (Some s) (Some ps) m =
              with_other (free n ms) (free n h.marks) (alike_free w n ms h.marks st.marks) (omega (arith, free_few n ms, held_length v, few_held v)) (all_free n Sized ms (sized_in v st.size))

  -- ---- a roll that is sent

  more_checks : (ps : List Sparse) (b : List ℕ) (qs : List Sparse) → accept w ps b ≡ answer qs → length qs ≡ suc (length ps)
  unfolding accept few_inside
  more_checks ps b qs e =
      let (p, one, r) = answered (check_in b) _ qs e in
      let (few, same) = test_passed _ 7 0 _ qs r in
      let is : ps ++ by_value p ∷ [] ≡ qs = cc in
      omega (arith, ap length is, length-append ps (by_value p ∷ []))

  module _ (h : History) (v : List ℕ) (st : Standing h v) (b v' : List ℕ) where
    -- the front holds these checks, and the bytes behind it these marks and this round
    sent_stands : (ps : List Sparse) → Kept w ps → Holds w ps (front v') → (n : ℕ) → n ≡ round_of ps → (x : List ℕ) → length x ≡ 8 → from_le_bytes w64 x ≡ n
        → behind v' ≡ x ++ drop held_at v → Standing (record { checks = ps; marks = h.marks }) v'
    sent_stands ps k f n en x ex ev e =
        let past : drop held_at v' ≡ drop held_at v = past_front v' ∙ ap (drop 8) e ∙ drop_at x (drop held_at v) 8 ex in
        record {
          stands = record { kept = k; holds = f };
          size = omega (arith, whole_length v' f.size, ap length e, length-append x (drop held_at v), ex, length-drop held_at v, st.size);
          round = round_front v' ∙ ap (λ (l : List ℕ). from_le_bytes w64 (take 8 l)) e ∙ ap (from_le_bytes w64) (take_at x (drop held_at v) 8 ex) ∙ ev ∙ en;
          marks = subst (λ (l : List (Named (List ℕ))). Alike w l h.marks) (sym (marks_same v' v past)) st.marks;
        }

    send_stands : (r : Result Unit Refusal) → SendCall v b r v' → behind v' ≡ behind_sent v b → Standing (or_same h (operate w h (sending b))) v'
    unfolding behind_sent operate or_same map_told
    send_stands r c e =
        go (accept w h.checks b) (kept_or_same w h.checks b st.stands.kept)
        (subst (Holds w (or_same h.checks (accept w h.checks b))) (sym c.left) (sent_holds w low h.checks st.stands.kept (front v) st.stands.holds b))
        (e ∙ ap (λ (t : Told (List ℕ)). or_same (behind v) (map_told (λ f. counted) t)) (sent_is w low h.checks st.stands.kept (front v) st.stands.holds b))
        (more_checks h.checks b)
      where
        counted : List ℕ
        counted = to_le_bytes w64 (next_round (round_in v)) ++ drop held_at v

        go : (t : Told (List Sparse)) → Kept w (or_same h.checks t) → Holds w (or_same h.checks t) (front v')
            → behind v' ≡ or_same (behind v) (map_told (λ f. counted) (map_told (λ qs. holding (front v) (write (last_of w qs))) t))
            → ((qs : List Sparse) → t ≡ answer qs → length qs ≡ suc (length h.checks))
            → Standing (or_same h (map_told (λ ps. record { checks = ps; marks = h.marks }) t)) v'
        go (answer qs) k f e more =
            let n = next_round (round_in v) in
            sent_stands qs k f n (ap next_round st.round ∙ sym (round_more h.checks qs (more qs refl))) (to_le_bytes w64 n) refl (from_le_bytes-to_le_bytes_8 n (next_small (round_in v))) e
        go (refused n p) k f e more =
            let x = take 8 (behind v) in
            sent_stands h.checks k f (round_in v) st.round x (round_length v st.size) (sym (round_front v)) (e ∙ sym (take-append-drop 8 (behind v)) ∙ ap (x ++◌) (sym (past_front v)))

  -- ---- a run

  ran : (v : List ℕ) (os : List Operation) (last : List ℕ) → MarkRun v os last → (h : History) → Standing h v → Standing (history_after w h os) last
  unfolding history_after
  ran v os last (end u) h s = s
  ran v os last (send u b r u' more z c e run) h s = ran u' more z run (or_same h (operate w h (sending b))) (send_stands h u s b u' r c e)
  ran v os last (save u n r u' more z en c run) h s =
      ran u' more z run (or_same h (operate w h (saving n))) (subst (Standing (or_same h (operate w h (saving n)))) (sym c.left) (save_stands h u s n en))
  ran v os last (return_to u n r u' more z en c run) h s =
      ran u' more z run (or_same h (operate w h (returning n))) (subst (Standing (or_same h (operate w h (returning n)))) (sym c.left) (return_stands h u s n))
  ran v os last (delete u n r u' more z en c run) h s =
      ran u' more z run (or_same h (operate w h (deleting n))) (subst (Standing (or_same h (operate w h (deleting n)))) (sym c.left) (delete_stands h u s n))
  ran v os last (make u width r u' n p more z c e f run) h s = ran u' more z run h (subst (Standing h) (sym (make_same u width r u' n p c e f)) s)

  -- what holds of bytes that stand so
  marked_law : (h : History) (v : List ℕ) → Standing h v → Few h → MarkedLaw w h v
  marked_law h v st f = record {
    history = history_law w low h.checks v st.stands;
    round = λ r c. c.told ∙ st.round;
    few = f.few;
    once = f.once;
    names = alike_names w (marks_in v) h.marks st.marks;
    next_save = λ n r v' en c. c.told ∙ save_told h v st n;
    next_return = λ n r v' en c. c.told ∙ return_told h v st n;
    next_delete = λ n r v' en c. c.told ∙ delete_told h v st n;
    unchanged = unchanged v;
  }

-- ---- from the making on

module _ (width : ℕ) (os : List Operation) (v : List ℕ) (c : MarkedWindow width os v) where
  made_window : Window width [] c.begun
  made_window = record { lent = c.lent; size = omega (arith, c.size); wrote = c.wrote; begun = c.begun; promised = c.promised; made = c.made; run = Run.end c.begun }

  abbrev low : width ≤ widest
  low = (begun width [] c.begun made_window).few

  begun_behind : behind c.begun ≡ to_le_bytes w64 0 ++ (0 ∷ drop marks_at c.lent)
  unfolding behind_made or_same map_told
  begun_behind =
      let (u, is, same) = map_answer (λ bytes. tt {0}) (made (front c.lent) width) tt (sym c.promised.told ∙ c.made) in
      c.promised_behind ∙ rw is refl

  no_mark : marks_in c.begun ≡ []
  unfolding marks_in marks_from held_in most_marks
  no_mark =
      let past : drop held_at c.begun ≡ 0 ∷ drop marks_at c.lent = past_front c.begun ∙ ap (drop 8) begun_behind ∙ drop_at (to_le_bytes w64 0) (0 ∷ drop marks_at c.lent) 8 refl in
      let first : get_or c.begun held_at 0 ≡ 0 = first_byte c.begun held_at ∙ ap (λ (l : List ℕ). get_or l 0 0) past in
      let held : min (get_or c.begun held_at 0) 8 ≡ 0 = omega (arith, first) in
      rw held refl

  start : Standing width low (record { checks = []; marks = [] }) c.begun
  unfolding round_of made_window
  start =
      let s = stands width [] c.begun made_window in
      record {
        stands = s;
        size = omega (arith, whole_length c.begun s.holds.size, ap length begun_behind, length-drop marks_at c.lent, c.size);
        round = round_front c.begun ∙ ap (λ (l : List ℕ). from_le_bytes w64 (take 8 l)) begun_behind ∙ omega arith;
        marks = rw no_mark tt;
      }

  whole_law : MarkedLaw width (history_of width os) v
  unfolding history_of
  whole_law = marked_law width low (history_of width os) v (ran width low c.begun os v c.run (record { checks = []; marks = [] }) start) (few_of width os)

module _ (width : ℕ) (v : List ℕ) (c : MarkedWindow width [] v) where
  begins : (r : ℕ) → RoundCall v r → r ≡ 0
  unfolding history_of history_after round_of
  begins r q = (whole_law width [] v c).round r q ∙ omega arith

pub mark_law : MarkLaw
mark_law = record {
  begins = begins;
  history = whole_law;
  tells = λ width os n. tells width (history_of width os) n (few_of width os);
  last = λ width before n after s. last width n before after s;
}
