-- Windows, over the calls' contracts.
use Rattle.std.proofs.Common.{◌≡◌, ℕ, ◌-◌, ◌≤◌, ltb, Bool, true, false, List, [], length, sym, refl, ap, ◌∙◌, subst, arith, ltb-false, ltb-true, Result}
use Rattle.pauli.specs.Bytes.{le16}
use Rattle.pauli.specs.Refusals.{told_of}
use Rattle.pauli.specs.Roll.{Sparse, read, write}
use Rattle.pauli.specs.Told.{Told, answer, refused, map_told}
use Rattle.pauli.specs.Writing.{put_bytes}
use Rattle.pauli.specs.declared.refusal.Refusal.{Refusal}
use Rattle.pauli.proofs.roll.Told.{map_refused, map_answer, test_passed, never}
use Rattle.pauli_theory.specs.Group.{none}
use Rattle.pauli_group.specs.CallContracts.{StandardCall, RankCall, PhasesCall, MemberCall}
use Rattle.window.specs.CallContracts.{MakeCall, SendCall}
use Rattle.window.specs.History.{widest, allowed_width, last_of, accept, accepted, accepted_after, or_same}
use Rattle.window.specs.Layout.{width_at, front, roll_in, holding, made}
use Rattle.window.specs.WindowTheorems.{Run, end, send, make, Window, MakeLaw, HistoryLaw, WindowLaw}
use Rattle.window.proofs.calls.CallLaws.{made_narrow, made_wide, made_is}
use Rattle.window.proofs.calls.HistoryLaws.{Kept, kept_none, kept_or_same, kept_fresh, accept_never, Holds, drop_nil, sent_is, sent_holds}
use Rattle.window.proofs.entering.EnteringLaws.{map_twice}
use Rattle.window.proofs.entering.Values.{last_few}
use Rattle.window.proofs.layout.LayoutLaws.{width_put, empty_length, hold_length, hold_width, hold_roll, front_length, front_roll, front_width}

-- ---- a refusal changes nothing

pub same_front : (v v' : List ℕ) (t : Told (List ℕ)) (r : Result Unit Refusal) (n p : ℕ) → told_of r ≡ map_told (λ bytes. tt {0}) t → v' ≡ or_same v t → told_of r ≡ refused n p → v' ≡ v
unfolding or_same
same_front v v' t r n p told left e =
    let is : t ≡ refused n p = map_refused (λ bytes. tt {0}) t n p (sym told ∙ e) in
    left ∙ rw is refl

-- ---- making

module _ (w : List ℕ) (width : ℕ) (r : Result Unit Refusal) (w' : List ℕ) (c : MakeCall w width r w') where
  outside : (1 ≤ width → width ≤ widest → ⊥) → made (front w) width ≡ refused 17 0
  outside out = go (ltb width 1) refl (ltb widest width) refl
    where
      go : (s : Bool) → ltb width 1 ≡ s → (t : Bool) → ltb widest width ≡ t → made (front w) width ≡ refused 17 0
      go true e t f = made_narrow width (front w) (ltb-true width 1 e)
      go false e true f = made_wide width (front w) (ltb-false width 1 e) (ltb-true widest width f)
      go false e false f = absurd (out (ltb-false width 1 e) (ltb-false widest width f))

  make_law : MakeLaw w width r w'
  unfolding map_told or_same
  make_law = record {
    made = λ h k. c.told ∙ rw (made_is width (front w) h k) refl;
    refuses = λ out. let e = outside out in (c.told ∙ rw e refl, c.left ∙ rw e refl);
  }

-- ---- a run

module _ (w : ℕ) (low : w ≤ widest) where
  -- what holds of the bytes at the front
  pub record Stands (ps : List Sparse) (v : List ℕ) : Type 0 where
    pub kept : Kept w ps
    pub holds : Holds w ps (front v)

  ran : (v : List ℕ) (bs : List (List ℕ)) (last : List ℕ) → Run v bs last → (ps : List Sparse) → Stands ps v → Stands (accepted_after w ps bs) last
  unfolding accepted_after
  ran v bs last (end u) ps s = s
  ran v bs last (send u b r u' more z c run) ps s =
      ran u' more z run (or_same ps (accept w ps b))
      (record {
        kept = kept_or_same w ps b s.kept;
        holds = subst (Holds w (or_same ps (accept w ps b))) (sym c.left) (sent_holds w low ps s.kept (front u) s.holds b);
      })
  ran v bs last (make u width r u' n p more z c e run) ps s =
      ran u' more z run ps
      (record { kept = s.kept; holds = subst (Holds w ps) (sym (same_front (front u) (front u') _ r n p c.told c.left e)) s.holds })

-- ---- what holds of bytes that stand so

module _ (width : ℕ) (low : width ≤ widest) (ps : List Sparse) (w : List ℕ) (stand : Stands width low ps w) where
  inside : roll_in w ≡ write (last_of width ps)
  inside = sym (front_roll w) ∙ stand.holds.roll

  next : (b : List ℕ) (r : Result Unit Refusal) (w' : List ℕ) → SendCall w b r w' → told_of r ≡ map_told (λ ps. tt {0}) (accept width ps b)
  next b r w' s =
      s.told ∙ ap (map_told (λ bytes. tt)) (sent_is width low ps stand.kept (front w) stand.holds b)
      ∙ map_twice (λ (qs : List Sparse). holding (front w) (write (last_of width qs))) (accept width ps b)

  pub history_law : HistoryLaw width ps w
  history_law = record {
    inside = inside;
    read_back = ap read inside ∙ kept_fresh width ps stand.kept low;
    few = last_few width ps;
    qubits = stand.kept.qubits;
    keeps_width = sym (front_width w) ∙ stand.holds.width;
    next = next;
    never_short = λ b r w' p s e. never 12 (accept width ps b) (accept_never width ps b) p (map_refused (λ ps. tt) (accept width ps b) 12 p (sym (next b r w' s) ∙ e));
    unchanged = λ b r w' n p s e. same_front (front w) (front w') _ r n p s.told s.left e;
    questions = record {
      standard_generators = λ work out r work' out' s. subst (λ (b : List ℕ). StandardCall b work out r work' out') inside s;
      rank = λ work r work' s. subst (λ (b : List ℕ). RankCall b work r work') inside s;
      phases = λ work r work' s. subst (λ (b : List ℕ). PhasesCall none b work r work') inside s;
      membership = λ e n work out r work' out' s. subst (λ (b : List ℕ). MemberCall none b e n work out r work' out') inside s;
    };
  }

-- ---- from the making on

module _ (width : ℕ) (bs : List (List ℕ)) (w : List ℕ) (c : Window width bs w) where
  pub record Begun : Type 0 where
    pub one : 1 ≤ width
    pub few : width ≤ widest
    pub bytes : front c.begun ≡ holding (put_bytes (front c.lent) width_at (le16 width)) (write [])

  pub begun : Begun
  unfolding made allowed_width or_same
  begun =
      let lent = front c.lent in
      let (u, is, same) = map_answer (λ (bytes : List ℕ). tt) (made lent width) tt (sym c.promised.told ∙ c.made) in
      let (narrow, rest) = test_passed _ 17 0 _ u is in
      let (wide, last) = test_passed _ 17 0 _ u rest in
      let bytes : u ≡ holding (put_bytes lent width_at (le16 width)) (write []) = cc in
      record { one = ltb-false width 1 narrow; few = ltb-false widest width wide; bytes = c.promised.left ∙ rw is bytes }

  pub stands : Stands width begun.few [] c.begun
  unfolding last_of
  stands =
      let b = begun in
      let put = width_put (front c.lent) width (front_length c.lent c.size) b.one b.few in
      let wide = put_bytes (front c.lent) width_at (le16 width) in
      let room : length (write []) ≤ 66178 = rw empty_length (omega arith) in
      record {
        kept = kept_none width;
        holds = subst (Holds width []) (sym b.bytes) (record {
          size = hold_length wide put.0 (write []) room;
          width = hold_width wide put.0 (write []) room ∙ put.1;
          roll = hold_roll wide put.0 (write []) room ∙ ap write (sym (drop_nil (0 - width)));
        });
      }

  after : Stands width begun.few (accepted width bs) w
  unfolding accepted
  after = ran width begun.few c.begun bs w c.run [] stands

  window_history : HistoryLaw width (accepted width bs) w
  window_history = history_law width begun.few (accepted width bs) w after

none_inside : (width : ℕ) → last_of width (accepted width []) ≡ []
unfolding accepted accepted_after last_of
none_inside width = drop_nil (0 - width)

pub window_law : WindowLaw
window_law = record {
  making = make_law;
  before_first = λ width w c. (window_history width [] w c).read_back ∙ ap answer (none_inside width);
  history = window_history;
}
