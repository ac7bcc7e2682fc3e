-- The algebra of signed products. Sets go by the laws of `◌⊕◌`; exponents are sums modulo 4.
use Rattle.std.proofs.Common.{◌≡◌, ℕ, ◌+◌, ◌*◌, ◌%◌, ◌<◌, sym, refl, ap, ap₂, arith}
use Rattle.binar.specs.Row.{◌⊕◌}
use Rattle.binar.proofs.row.Bits.{xor_assoc, xor_comm, xor_self, xor_zero_l, xor_zero_r, dot_lt, dot_comm, dot_xor_l, dot_xor_r, dot_zero_l, dot_zero_r}
use Rattle.pauli.specs.Pauli.{Pauli, I, phase, normal, Same, times, turned, anticommute, order_four}

pub pauli_path : {p q : Pauli} → p.e ≡ q.e → p.x ≡ q.x → p.z ≡ q.z → p ≡ q
pauli_path a b c = λ i. record { e = a i; x = b i; z = c i }

-- ---- products
left_exponent : (e f g a b c : ℕ) → ((e + f + 2 * a) % 4 + g + 2 * ((b + c) % 2)) % 4 ≡ (e + f + g + 2 * a + 2 * b + 2 * c) % 4
left_exponent e f g a b c = omega arith

right_exponent : (e f g a b c : ℕ) → (e + (f + g + 2 * c) % 4 + 2 * ((a + b) % 2)) % 4 ≡ (e + f + g + 2 * a + 2 * b + 2 * c) % 4
right_exponent e f g a b c = omega arith

pub times_assoc : (p q r : Pauli) → times (times p q) r ≡ times p (times q r)
unfolding times
times_assoc p q r = pauli_path (simp (dot_xor_l, dot_xor_r, left_exponent, right_exponent)) (xor_assoc p.x q.x r.x) (xor_assoc p.z q.z r.z)

pub I-times : (p : Pauli) → times I p ≡ normal p
unfolding times normal I
I-times p = pauli_path (omega (arith, dot_zero_l p.x)) (xor_zero_l p.x) (xor_zero_l p.z)

pub times-I : (p : Pauli) → times p I ≡ normal p
unfolding times normal I
times-I p = pauli_path (omega (arith, dot_zero_r p.z)) (xor_zero_r p.x) (xor_zero_r p.z)

pub times_lt : (p q : Pauli) → (times p q).e < 4
unfolding times
times_lt p q = omega arith

-- ---- values
pub normal_times : (p q : Pauli) → normal (times p q) ≡ times p q
unfolding times normal
normal_times p q = pauli_path (omega arith) refl refl

pub times_normal_l : (p q : Pauli) → times (normal p) q ≡ times p q
unfolding times normal
times_normal_l p q = pauli_path (omega arith) refl refl

pub times_normal_r : (p q : Pauli) → times p (normal q) ≡ times p q
unfolding times normal
times_normal_r p q = pauli_path (omega arith) refl refl

pub normal_lt : (p : Pauli) → p.e < 4 → normal p ≡ p
unfolding normal
normal_lt p h = pauli_path (omega arith) refl refl

pub same_normal : {p q : Pauli} → Same p q → normal p ≡ normal q
unfolding normal
same_normal s = pauli_path s.value s.x s.z

pub normal_same : (p q : Pauli) → normal p ≡ normal q → Same p q
unfolding normal
normal_same p q h = record { value = ap (λ r. r.e) h; x = ap (λ r. r.x) h; z = ap (λ r. r.z) h }

pub times_same : (p q r s : Pauli) → Same p r → Same q s → times p q ≡ times r s
unfolding times
times_same p q r s h k = pauli_path (rw (h.z, k.x) (omega arith)) (ap₂ ◌⊕◌ h.x k.x) (ap₂ ◌⊕◌ h.z k.z)

-- ---- powers of i
pub turned_is : (k : ℕ) (p : Pauli) → turned k p ≡ times (phase k) p
unfolding times turned phase
turned_is k p = pauli_path (omega (arith, dot_zero_l p.x)) (sym (xor_zero_l p.x)) (sym (xor_zero_l p.z))

pub turned_times_l : (k : ℕ) (p q : Pauli) → times (turned k p) q ≡ turned k (times p q)
unfolding times turned
turned_times_l k p q = pauli_path (omega arith) refl refl

pub turned_times_r : (k : ℕ) (p q : Pauli) → times p (turned k q) ≡ turned k (times p q)
unfolding times turned
turned_times_r k p q = pauli_path (omega arith) refl refl

pub turned_turned : (j k : ℕ) (p : Pauli) → turned j (turned k p) ≡ turned (j + k) p
unfolding turned
turned_turned j k p = pauli_path (omega arith) refl refl

pub turned_zero : (p : Pauli) → turned 0 p ≡ normal p
unfolding turned normal
turned_zero p = pauli_path (omega arith) refl refl

pub turned_four : (p : Pauli) → turned 4 p ≡ normal p
unfolding turned normal
turned_four p = pauli_path (omega arith) refl refl

pub turned_normal : (k : ℕ) (p : Pauli) → turned k (normal p) ≡ turned k p
unfolding turned normal
turned_normal k p = pauli_path (omega arith) refl refl

pub normal_turned : (k : ℕ) (p : Pauli) → normal (turned k p) ≡ turned k p
unfolding turned normal
normal_turned k p = pauli_path (omega arith) refl refl

-- ---- order and commutation
pub anticommute_lt : (p q : Pauli) → anticommute p q < 2
unfolding anticommute
anticommute_lt p q = omega arith

pub order_four_lt : (p : Pauli) → order_four p < 2
unfolding order_four
order_four_lt p = omega arith

pub times_swap : (p q : Pauli) → times p q ≡ turned (2 * anticommute p q) (times q p)
unfolding times turned anticommute
times_swap p q = pauli_path (omega (arith, dot_comm q.z p.x, dot_lt p.x q.z, dot_lt p.z q.x)) (xor_comm p.x q.x) (xor_comm p.z q.z)

pub times_self : (p : Pauli) → times p p ≡ turned (2 * order_four p) I
unfolding times turned order_four I
times_self p = pauli_path (omega (arith, dot_comm p.z p.x, dot_lt p.x p.z)) (xor_self p.x) (xor_self p.z)

-- remainders inside a sum, where the sum's remainder is taken
mod_first : (a b : ℕ) → (a % 2 + b) % 2 ≡ (a + b) % 2
mod_first a b = omega arith

mod_second : (a b : ℕ) → (a + b % 2) % 2 ≡ (a + b) % 2
mod_second a b = omega arith

mod_first_of_three : (a b c : ℕ) → (a % 2 + b + c) % 2 ≡ (a + b + c) % 2
mod_first_of_three a b c = omega arith

mod_second_of_three : (a b c : ℕ) → (a + b % 2 + c) % 2 ≡ (a + b + c) % 2
mod_second_of_three a b c = omega arith

mod_four : (a b : ℕ) → (a % 4 + b) % 2 ≡ (a + b) % 2
mod_four a b = omega arith

ruleset sums = (dot_xor_l, dot_xor_r, mod_first, mod_second, mod_first_of_three, mod_second_of_three, mod_four)

pub anticommute_comm : (p q : Pauli) → anticommute p q ≡ anticommute q p
unfolding anticommute
anticommute_comm p q = rw (dot_comm p.x q.z, dot_comm p.z q.x) (omega arith)

pub anticommute_times_l : (p q r : Pauli) → anticommute (times p q) r ≡ (anticommute p r + anticommute q r) % 2
unfolding anticommute times
anticommute_times_l p q r = simp sums (ap (λ (n : ℕ). n % 2) (omega arith))

pub anticommute_times_r : (p q r : Pauli) → anticommute p (times q r) ≡ (anticommute p q + anticommute p r) % 2
anticommute_times_r p q r = rw (anticommute_comm p (times q r), anticommute_comm p q, anticommute_comm p r) (anticommute_times_l q r p)

pub anticommute-I : (p : Pauli) → anticommute I p ≡ 0
unfolding anticommute I
anticommute-I p = omega (arith, dot_zero_l p.z, dot_zero_l p.x)

pub order_four_times : (p q : Pauli) → order_four (times p q) ≡ (order_four p + order_four q + anticommute p q) % 2
unfolding order_four times anticommute
order_four_times p q = simp sums (omega (arith, dot_comm q.x p.z))

pub order_four-I : order_four I ≡ 0
unfolding order_four I
order_four-I = omega (arith, dot_zero_l 0)
