-- Products act as their factors in turn, and a Pauli is known by what it does.
use Rattle.std.proofs.Common.{◌≡◌, ℕ, zero, suc, ◌+◌, ◌*◌, ◌%◌, ◌^◌, ◌<◌, sym, refl, ap, ◌∙◌, add-zero, mul-zero, arith}
use Rattle.binar.specs.Row.{◌⊕◌, bit, dot}
use Rattle.binar.proofs.row.Bits.{bit_lt, ext, xor_assoc, xor_comm, xor_zero_l, dot_xor_l, dot_xor_r, dot_zero_r}
use Rattle.pauli.specs.Pauli.{Pauli, Same, times, State, act}
use Rattle.pauli.proofs.condense.MoreBits.{dot_unit}

state_path : {s t : State} → s.phase ≡ t.phase → s.basis ≡ t.basis → s ≡ t
state_path a b = λ i. record { phase = a i; basis = b i }

phase_times : (w e f a b c : ℕ) → (w + (e + f + 2 * a) % 4 + 2 * ((b + c) % 2)) % 4 ≡ ((w + f + 2 * c) % 4 + e + 2 * ((b + a) % 2)) % 4
phase_times w e f a b c = first ∙ sym second
  where
    first : (w + (e + f + 2 * a) % 4 + 2 * ((b + c) % 2)) % 4 ≡ (w + e + f + 2 * a + 2 * b + 2 * c) % 4
    first = omega arith

    second : ((w + f + 2 * c) % 4 + e + 2 * ((b + a) % 2)) % 4 ≡ (w + e + f + 2 * a + 2 * b + 2 * c) % 4
    second = omega arith

pub act_times : (p q : Pauli) (s : State) → act (times p q) s ≡ act p (act q s)
unfolding act times
act_times p q s =
    state_path
    (rw (dot_xor_l, dot_xor_r) (phase_times _ _ _ _ _ _))
    (ap (s.basis ⊕◌) (xor_comm p.x q.x) ∙ sym (xor_assoc s.basis q.x p.x))

pub same_acts : (p q : Pauli) → Same p q → (s : State) → act p s ≡ act q s
unfolding act
same_acts p q h s = state_path (rw h.z (omega arith)) (ap (s.basis ⊕◌) h.x)

same_sign : (e f c d : ℕ) → c < 2 → d < 2 → e % 4 ≡ f % 4 → (e + 2 * c) % 4 ≡ (f + 2 * d) % 4 → c ≡ d
same_sign e f zero zero hc hd v h = refl
same_sign e f zero (suc zero) hc hd v h = absurd (omega arith)
same_sign e f (suc zero) zero hc hd v h = absurd (omega arith)
same_sign e f (suc zero) (suc zero) hc hd v h = refl
same_sign e f zero (suc (suc d)) hc hd v h = absurd (omega arith)
same_sign e f (suc zero) (suc (suc d)) hc hd v h = absurd (omega arith)
same_sign e f (suc (suc c)) d hc hd v h = absurd (omega arith)

-- ---- on the basis state of a set v
module _ (p q : Pauli) (h : (s : State) → s.phase < 4 → act p s ≡ act q s) where
  same_phase : (v : ℕ) → (p.e + 2 * dot p.z v) % 4 ≡ (q.e + 2 * dot q.z v) % 4
  unfolding act
  same_phase v = let e = ap (λ s. s.phase) (h (record { phase = 0; basis = v }) (omega arith)) in omega arith

  same_value : p.e % 4 ≡ q.e % 4
  same_value = simp (dot_zero_r, mul-zero, add-zero) at (same_phase 0)

  same_x : p.x ≡ q.x
  unfolding act
  same_x = sym (xor_zero_l p.x) ∙ ap (λ s. s.basis) (h (record { phase = 0; basis = 0 }) (omega arith)) ∙ xor_zero_l q.x

  same_z : p.z ≡ q.z
  same_z = ext p.z q.z λ k.
      let e : (p.e + 2 * bit p.z k) % 4 ≡ (q.e + 2 * bit q.z k) % 4 = simp dot_unit at (same_phase (2 ^ k)) in
      same_sign p.e q.e (bit p.z k) (bit q.z k) (bit_lt p.z k) (bit_lt q.z k) same_value e

  pub acts_same : Same p q
  acts_same = record { value = same_value; x = same_x; z = same_z }
