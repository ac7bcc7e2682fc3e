-- The powers of i in a group: they add, and with i^m the group has whatever agrees up to i^m with one of its elements.
use mathlib.Core.Path.{◌≡◌, refl, sym, ap, ◌∙◌, subst}
use mathlib.Core.List.{List}
use Prim.Native.Nat.{ℕ, zero, suc, ◌+◌, ◌*◌, ◌/◌, ◌%◌, ◌<◌}
use native.Mathlib.Omega.{arith}
use native.Mathlib.Nat.{mod-add-div}
use Rattle.pauli.specs.Pauli.{Pauli, I, normal, times, turned, anticommute, order_four}
use Rattle.pauli.proofs.signed.Algebra.{I-times, times_self, turned_times_l, turned_turned, turned_normal, turned_zero, order_four_lt, order_four_times}
use Rattle.pauli_theory.specs.Group.{Generated}
use Rattle.pauli_theory.specs.Membership.{exponent_left}
use Rattle.pauli_theory.proofs.Agree.{Divisor, four, Agree, agree_path, agree_join, agree_flip, agree_normal, power_phase, same_agree, left_same, left_agree}
use Rattle.pauli_theory.proofs.Group.{generated_subgroup}

module _ (gs : List Pauli) where
  -- i^k is in the group
  abbrev pub Power : ℕ → Type 0
  Power k = Generated gs (turned k I)

  same_in : {p q : Pauli} → p ≡ q → Generated gs p → Generated gs q
  same_in e a = subst (Generated gs) e a

  pub turned_in : (k : ℕ) (p : Pauli) → Power k → Generated gs p → Generated gs (turned k p)
  turned_in k p a b = same_in (turned_times_l k I p ∙ ap (turned k) (I-times p) ∙ turned_normal k p) ((generated_subgroup gs).products _ _ a b)

  pub power_zero : Power 0
  power_zero = (generated_subgroup gs).agrees I (turned 0 I) (agree_flip (agree_join (agree_path 4 (turned_zero I)) (agree_normal I four))) (generated_subgroup gs).unit

  -- exponents count by value
  pub power_value : (j k : ℕ) → j % 4 ≡ k % 4 → Power j → Power k
  unfolding turned
  power_value j k e = (generated_subgroup gs).agrees _ _ (record { phase = power_phase four j ∙ e ∙ sym (power_phase four k); x = refl; z = refl })

  pub power_four : Power 4
  power_four = power_value 0 4 refl power_zero

  pub power_times : (k n : ℕ) → Power k → Power (n * k)
  power_times k zero a = power_value 0 (0 * k) (omega arith) power_zero
  power_times k (suc n) a =
      same_in (turned_turned k (n * k) I ∙ ap (λ (j : ℕ). turned j I) next) (turned_in k (turned (n * k) I) a (power_times k n a))
    where
      next : k + n * k ≡ suc n * k
      next = omega arith

  pub powers : {m : ℕ} → Divisor m → Power m → (k : ℕ) → k % m ≡ 0 → Power k
  powers {m} d a k h = power_value (k / m * m) k (ap (λ (n : ℕ). n % 4) (whole (k / m) m (k % m) h ∙ mod-add-div k m)) (power_times m (k / m) a)
    where
      whole : (q n r : ℕ) → r ≡ 0 → q * n ≡ r + n * q
      whole q n r e = omega arith

  pub agree_in : {m : ℕ} → Divisor m → Power m → (p q : Pauli) → Agree m p q → Generated gs q → Generated gs p
  unfolding normal
  agree_in {m} d a p q h b =
      let n = normal q in
      let l : n.e < 4 = omega arith in
      let k = exponent_left p n in
      let c = agree_join h (agree_flip (agree_normal q d)) in
      (generated_subgroup gs).agrees (turned k n) p (same_agree four (left_same p n l c.x c.z))
      (turned_in k n (powers d a k (left_agree d l c)) ((generated_subgroup gs).agrees q n (agree_flip (agree_normal q four)) b))

  -- ---- -I from an element of order four, and from two that anticommute
  pub minus_by_square : (p : Pauli) → order_four p ≡ 1 → Generated gs p → Power 2
  minus_by_square p o a = same_in (times_self p ∙ ap (λ (k : ℕ). turned (2 * k) I) o) ((generated_subgroup gs).products p p a a)

  pub minus_by_pair : (p q : Pauli) → anticommute p q ≡ 1 → Generated gs p → Generated gs q → Power 2
  minus_by_pair p q e a b = go (order_four p) (order_four q) refl refl
    where
      go : (c d : ℕ) → order_four p ≡ c → order_four q ≡ d → Power 2
      go zero zero hc hd = minus_by_square (times p q) (order_four_times p q ∙ omega arith) ((generated_subgroup gs).products p q a b)
      go zero (suc d) hc hd = minus_by_square q (omega (arith, order_four_lt q)) b
      go (suc c) d hc hd = minus_by_square p (omega (arith, order_four_lt p)) a
