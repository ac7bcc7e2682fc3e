-- The modulus of a list: it divides 4 and the phases of all zero rows, and its power of i is in the group.
use mathlib.Core.Path.{◌≡◌, refl, sym}
use mathlib.Core.List.{List, [], ◌∷◌, map}
use Prim.Native.Nat.{ℕ, zero, suc, ◌*◌, ◌/◌, ◌%◌, ◌<◌, min}
use native.Mathlib.Omega.{arith}
use Rattle.binar.proofs.Lists.{all_map, all_over, all_under}
use Rattle.pauli.specs.Support.{All}
use Rattle.pauli.specs.Pauli.{Pauli, I, turned, indexed_product}
use Rattle.pauli_theory.specs.Group.{Generated}
use Rattle.pauli_theory.specs.Standard.{form_of, phase_of, if_zero, zero_rows, modulus_of, modulus}
use Rattle.pauli_theory.proofs.Agree.{Divisor, one, two, four, Agree, power_phase}
use Rattle.pauli_theory.proofs.Group.{generated_subgroup, generated_indexed}
use Rattle.pauli_theory.proofs.Powers.{Power, power_value, power_four, power_times}
use Rattle.pauli_theory.proofs.Pivots.{zero_rows_scalar}

-- m, or 2 if w is more than 0 and m is larger
unfoldable pub lowered : ℕ → ℕ → ℕ
lowered w m = if_zero w m (min m 2)

pub lowered_divisor : (w : ℕ) {m : ℕ} → Divisor m → Divisor (lowered w m)
unfolding lowered if_zero
lowered_divisor zero d = d
lowered_divisor (suc w) one = one
lowered_divisor (suc w) two = two
lowered_divisor (suc w) four = two

pub lowered_multiple : (w : ℕ) {m : ℕ} → Divisor m → (e : ℕ) → e % m ≡ 0 → e % lowered w m ≡ 0
unfolding lowered if_zero
lowered_multiple zero d e h = h
lowered_multiple (suc w) one e h = omega arith
lowered_multiple (suc w) two e h = omega arith
lowered_multiple (suc w) four e h = omega arith

-- the modulus m, lowered by a phase with the digits a (of 1) and b (of 2)
lower : ℕ → ℕ → ℕ → ℕ
lower a b m = if_zero a (lowered b m) 1

lower_divisor : (a b : ℕ) {m : ℕ} → Divisor m → Divisor (lower a b m)
unfolding lower if_zero
lower_divisor zero b d = lowered_divisor b d
lower_divisor (suc a) b d = one

-- it divides the phase, and what m divides
lower_phase : (a b e : ℕ) {m : ℕ} → Divisor m → e % 2 ≡ a → e / 2 % 2 ≡ b → e % lower a b m ≡ 0
unfolding lower lowered if_zero
lower_phase zero zero e one ha hb = omega arith
lower_phase zero zero e two ha hb = omega arith
lower_phase zero zero e four ha hb = omega arith
lower_phase zero (suc b) e one ha hb = omega arith
lower_phase zero (suc b) e two ha hb = omega arith
lower_phase zero (suc b) e four ha hb = omega arith
lower_phase (suc a) b e d ha hb = omega arith

lower_multiple : (a b e : ℕ) {m : ℕ} → Divisor m → e % m ≡ 0 → e % lower a b m ≡ 0
unfolding lower if_zero
lower_multiple zero b e d h = lowered_multiple b d e h
lower_multiple (suc a) b e d h = omega arith

modulus_of_divisor : (es : List ℕ) → Divisor (modulus_of es)
unfolding modulus_of lower lowered
modulus_of_divisor [] = four
modulus_of_divisor (e ∷ es) = lower_divisor (e % 2) (e / 2 % 2) (modulus_of_divisor es)

modulus_of_divides : (es : List ℕ) → All (λ e. e % modulus_of es ≡ 0) es
unfolding modulus_of lower lowered
modulus_of_divides [] = tt
modulus_of_divides (e ∷ es) =
    let d = modulus_of_divisor es in
    (lower_phase (e % 2) (e / 2 % 2) e d refl refl, all_map (λ f h. lower_multiple (e % 2) (e / 2 % 2) f d h) es (modulus_of_divides es))

module _ (gs : List Pauli) where
  pub lowered_power : (w : ℕ) {m : ℕ} → Divisor m → Power gs m → (0 < w → Power gs 2) → Power gs (lowered w m)
  unfolding lowered if_zero
  lowered_power zero d a b = a
  lowered_power (suc w) one a b = a
  lowered_power (suc w) two a b = a
  lowered_power (suc w) four a b = b (omega arith)

  lower_power : (a b e : ℕ) {m : ℕ} → Divisor m → e % 2 ≡ a → e / 2 % 2 ≡ b → Power gs e → Power gs m → Power gs (lower a b m)
  unfolding lower if_zero
  lower_power zero b e d ha hb k p = lowered_power b d p (λ l. power_value gs e 2 (omega arith) k)
  lower_power (suc a) zero e d ha hb k p = power_value gs e 1 (omega arith) k
  lower_power (suc a) (suc b) e d ha hb k p = power_value gs (3 * 3) 1 refl (power_times gs 3 3 (power_value gs e 3 (omega arith) k))

  modulus_of_power : (es : List ℕ) → All (Power gs) es → Power gs (modulus_of es)
  unfolding modulus_of lower lowered
  modulus_of_power [] h = power_four gs
  modulus_of_power (e ∷ es) h = lower_power (e % 2) (e / 2 % 2) e (modulus_of_divisor es) refl refl h.0 (modulus_of_power es h.1)

  pub modulus_divisor : Divisor (modulus gs)
  unfolding modulus
  modulus_divisor = modulus_of_divisor (map (phase_of gs) (zero_rows (form_of gs).rows))

  pub modulus_divides : All (λ q. (indexed_product q.t gs).e % modulus gs ≡ 0) (zero_rows (form_of gs).rows)
  unfolding modulus phase_of
  modulus_divides =
      let Z = zero_rows (form_of gs).rows in
      all_under (λ e. e % modulus gs ≡ 0) (phase_of gs) Z (modulus_of_divides (map (phase_of gs) Z))

  scalar_power : (p : Pauli) → Agree 1 p I → Generated gs p → Power gs p.e
  unfolding turned I
  scalar_power p a b = (generated_subgroup gs).agrees p (turned p.e I) (record { phase = sym (power_phase four p.e); x = a.x; z = a.z }) b

  pub modulus_power : Power gs (modulus gs)
  unfolding modulus phase_of
  modulus_power =
      let Z = zero_rows (form_of gs).rows in
      modulus_of_power (map (phase_of gs) Z)
      (all_over (Power gs) (phase_of gs) Z (all_map (λ q a. scalar_power (indexed_product q.t gs) a (generated_indexed gs q.t)) Z (zero_rows_scalar gs)))
