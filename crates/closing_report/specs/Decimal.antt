-- Texts as lists of bytes, and decimal numbers in them.
use Rattle.std.specs.Prelude.{◌≡◌, cond, List, [], ◌∷◌, ◌++◌, ℕ, zero, suc, ◌+◌, ◌-◌, ◌*◌, ◌/◌, ◌%◌, ◌≤◌, ◌<◌, ltb, get_or}
use Prim.Native.Char.{code}
use Prim.Native.String.{String, [] as end, ◌∷◌ as ◌then◌}
use Rattle.pauli.specs.Support.{All}

-- the codes of a text's characters
unfoldable pub ascii : String → List ℕ
ascii end = []
ascii (c then s) = code c ∷ ascii s

-- the digits of n, the most significant first, where n has at most k: a number below 10 is its own digit; else the last digit is the
-- remainder by 10, and the others are those of the quotient
unfoldable pub digits_up_to : ℕ → ℕ → List ℕ
digits_up_to zero n = []
digits_up_to (suc k) n = cond (ltb n 10) ((48 + n) ∷ []) (digits_up_to k (n / 10) ++ ((48 + n % 10) ∷ []))

-- the decimal digits of n, in ASCII, where 0 is 48: there are at most n + 1
unfoldable pub digits : ℕ → List ℕ
digits n = digits_up_to (suc n) n

-- the number that digits write behind those that write v
unfoldable pub value_from : ℕ → List ℕ → ℕ
value_from v [] = v
value_from v (d ∷ ds) = value_from (10 * v + (d - 48)) ds

-- the digits of the number
pub record DecimalLaw (n : ℕ) : Type 0 where
  pub value : value_from 0 (digits n) ≡ n
  pub each : All (λ d. (48 ≤ d) × (d < 58)) (digits n)
  pub zero_alone : n ≡ 0 → digits n ≡ 48 ∷ []
  pub no_zero_first : 0 < n → 48 < get_or (digits n) 0 0
