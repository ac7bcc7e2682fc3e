-- Sets of numbers below n: their members, and the numbers 0 to n - 1 at the members' places.
use mathlib.Core.Path.{◌≡◌, sym, ap, ◌∙◌, subst}
use mathlib.Core.List.{Memᴰ as Mem}
use Prim.Native.Nat.{ℕ, ◌^◌, ◌<◌}
use native.Mathlib.Omega.{arith}
use native.Mathlib.Decide.{dec_lt}
use Rattle.binar.specs.Row.{bit}
use Rattle.binar.proofs.row.Bits.{bit_past}
use Rattle.pauli.specs.Support.{All}
use Rattle.pauli.proofs.support.Lists.{all_in, in_get_or}
use Rattle.pauli.specs.Pauli.{select}
use Rattle.pauli.specs.PauliTheorems.{On}
use Rattle.pauli.specs.Sets.{members}
use Rattle.pauli.proofs.write.Condensed.{select_members}
use Rattle.pauli.proofs.condense.Sets.{members_only}
use Rattle.pauli_theory.proofs.OverPlaces.{up_to, up_to_length, up_to_rises, up_to_at, condense_up_to}

module _ (n v : ℕ) (h : v < 2 ^ n) where
  pub bit_below : (i : ℕ) → bit v i ≡ 1 → i < n
  bit_below i e = elim (dec_lt i n) [ yes l ↦ l | no l ↦ absurd (omega (arith, bit_past n v i h (omega arith))) ]

  pub members_below : All (λ i. i < n) (members v)
  members_below = all_in (λ i. i < n) (members v) (λ i m. bit_below i (members_only v i m))

  on_up_to : On (up_to n) v
  on_up_to i e =
      let l = bit_below i e in
      subst (λ (j : ℕ). Mem j (up_to n)) (up_to_at n i l) (in_get_or (up_to n) i 0 (omega (arith, up_to_length n)))

  pub members_up_to : members v ≡ select v (up_to n)
  members_up_to = sym (select_members (up_to n) (up_to_rises n) v on_up_to) ∙ ap (λ (u : ℕ). select u (up_to n)) (condense_up_to n v h)
