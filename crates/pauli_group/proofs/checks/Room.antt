-- Whether the work area is large enough: what its test tells.
use Rattle.std.proofs.Common.{◌≡◌, ℕ, ◌<◌, ◌≤◌, ltb, Bool, true, false, ltb-false, le-ltb, lt-ltb}
use Rattle.pauli.specs.Told.{Told, answer, refused, refuse_if}
use Rattle.pauli.proofs.roll.Told.{refused_none, test_pass, test_refuses, test_passed}
use Rattle.pauli_group.specs.WorkArea.{work_words, enough}

-- what the test tells by itself
abbrev pub room_told : ℕ → Told ℕ
room_told size = enough size (answer 0)

module _ {A : Type 0} (size : ℕ) (next : Told A) where
  pub room_none : size < work_words → enough size next ≡ refused 9 0
  unfolding enough
  room_none h = test_refuses (ltb size work_words) 9 0 next (lt-ltb size work_words h)

  pub room_enough : work_words ≤ size → enough size next ≡ next
  unfolding enough
  room_enough h = test_pass (ltb size work_words) 9 0 next (le-ltb size work_words h)

  -- where the next answers, the area was large enough
  pub room_passed : (a : A) → enough size next ≡ answer a → (work_words ≤ size) × (next ≡ answer a)
  unfolding enough
  room_passed a e = let (large, told) = test_passed (ltb size work_words) 9 0 next a e in (ltb-false size work_words large, told)

  -- where the test refuses by itself, it refuses before the next
  pub room_refused : {m p : ℕ} → refused m p ≡ room_told size → enough size next ≡ refused m p
  unfolding enough refuse_if
  room_refused {m} {p} e = go (ltb size work_words) e
    where
      zero_told : Told ℕ
      zero_told = answer 0

      go : (t : Bool) → refused m p ≡ refuse_if t 9 0 zero_told → refuse_if t 9 0 next ≡ refused m p
      go true h = cc
      go false h = absurd (refused_none m p 0 h)
