-- What making a window and sending tell and leave, where the array has the bytes of a window and no more.
use Rattle.std.proofs.Common.{◌≡◌, ℕ, ◌<◌, ◌≤◌, List, [], length, sym, refl, ap, ap₂, ◌∙◌, arith, le-ltb, lt-ltb, Result, Ok}
use Rattle.pauli.specs.Bytes.{le16, le32}
use Rattle.pauli.specs.Refusals.{told_of}
use Rattle.pauli.specs.Roll.{count_of, write}
use Rattle.pauli.specs.Told.{Told, answer, refused, map_told}
use Rattle.pauli.specs.Writing.{put_bytes}
use Rattle.pauli.specs.declared.refusal.Refusal.{Refusal}
use Rattle.pauli.proofs.roll.Told.{test_pass, test_refuses}
use Rattle.window.specs.CallContracts.{MakeCall, SendCall}
use Rattle.window.specs.History.{widest, allowed_width, or_same}
use Rattle.window.specs.Layout.{window_bytes, width_at, front, holding, made, sent}
use Rattle.window.proofs.entering.EnteringLaws.{sent_refused, sent_not_one}
use Rattle.window.proofs.layout.LayoutLaws.{front_all, hold_length, width_put, empty_length, empty_roll}

module _ (width : ℕ) where
  pub made_narrow : (v : List ℕ) → width < 1 → made v width ≡ refused 17 0
  unfolding made allowed_width
  made_narrow v h = test_refuses _ 17 0 _ (lt-ltb width 1 h)

  pub made_wide : (v : List ℕ) → 1 ≤ width → widest < width → made v width ≡ refused 17 0
  unfolding made allowed_width
  made_wide v h k = test_pass _ 17 0 _ (le-ltb width 1 h) ∙ test_refuses _ 17 0 _ (lt-ltb widest width k)

  pub made_is : (v : List ℕ) → 1 ≤ width → width ≤ widest → made v width ≡ answer (holding (put_bytes v width_at (le16 width)) (write []))
  unfolding made allowed_width
  made_is v h k = test_pass _ 17 0 _ (le-ltb width 1 h) ∙ test_pass _ 17 0 _ (le-ltb widest width k)

module _ (w : List ℕ) (size : length w ≡ window_bytes) where
  refused_told : (t : Told (List ℕ)) (m p : ℕ) → t ≡ refused m p → (r : Result Unit Refusal) → told_of r ≡ refused m p
      → (told_of r ≡ map_told (λ bytes. tt {0}) t) × (front w ≡ or_same (front w) t)
  unfolding map_told or_same
  refused_told t m p e r h = (h ∙ rw e refl, rw e refl)

  module _ (width : ℕ) where
    pub make_narrow : width < 1 → (r : Result Unit Refusal) → told_of r ≡ refused 17 0 → MakeCall w width r w
    make_narrow h r e = let t = refused_told (made (front w) width) 17 0 (made_narrow width (front w) h) r e in record { told = t.0; left = t.1 }

    pub make_wide : 1 ≤ width → 64 < width → (r : Result Unit Refusal) → told_of r ≡ refused 17 0 → MakeCall w width r w
    unfolding widest
    make_wide h k r e = let t = refused_told (made (front w) width) 17 0 (made_wide width (front w) h k) r e in record { told = t.0; left = t.1 }

    pub make_done : 1 ≤ width → width ≤ 64 → (a b c : List ℕ) → a ≡ put_bytes w width_at (le16 width) → b ≡ put_bytes a 4 (le16 0) → c ≡ put_bytes b 0 (le32 2)
        → MakeCall w width (Ok tt) c
    unfolding widest map_told or_same holding
    make_done h k a b c pa pb pc =
        let all = front_all w size in
        let wide = put_bytes w width_at (le16 width) in
        let is : c ≡ holding wide (write []) =
        pc ∙ ap₂ (λ (x : List ℕ) (n : ℕ). put_bytes x 0 (le32 n)) (pb ∙ ap₂ (λ (x : List ℕ) (l : List ℕ). put_bytes x 4 l) pa (sym empty_roll)) (sym empty_length) in
        let long : length c ≡ window_bytes = ap length is ∙ hold_length wide (width_put w width size h k).0 (write []) (rw empty_length (omega arith)) in
        let told = made_is width w h k in
        record { told = rw (all, told) refl; left = front_all c long ∙ rw (all, told) is }

  module _ (b : List ℕ) where
    pub send_refused : (m p : ℕ) → count_of b ≡ refused m p → (r : Result Unit Refusal) → told_of r ≡ refused m p → SendCall w b r w
    send_refused m p e r h = let t = refused_told (sent (front w) b) m p (sent_refused (front w) b m p e) r h in record { told = t.0; left = t.1 }

    pub send_not_one : (n : ℕ) → count_of b ≡ answer n → (n ≡ 1 → ⊥) → (r : Result Unit Refusal) → told_of r ≡ refused 18 0 → SendCall w b r w
    send_not_one n e d r h = let t = refused_told (sent (front w) b) 18 0 (sent_not_one (front w) b n e d) r h in record { told = t.0; left = t.1 }

    pub send_entered : (r : Result Unit Refusal) (w' : List ℕ) → told_of r ≡ map_told (λ bytes. tt {0}) (sent w b) → w' ≡ or_same w (sent w b)
        → length w' ≡ window_bytes → SendCall w b r w'
    send_entered r w' h l long =
        let all = front_all w size in
        record { told = rw all h; left = front_all w' long ∙ rw all l }
