-- The product of two Paulis that lie on no place or on one and the same: over that place they are Paulis on one qubit.
use Rattle.std.proofs.Common.{◌≡◌, ℕ, zero, suc, ◌+◌, ◌*◌, ◌/◌, ◌%◌, ◌<◌, ◌≤◌, List, [], ◌∷◌, length, not, ◌==◌, sym, refl, ap, ◌∙◌, ap₂, arith}
use lib.Bits.{bit_or}
use lib.Count.{ones}
use Rattle.std.proofs.Math.Pow.{pow_mono}
use Rattle.binar.specs.Row.{bit, weight, if_bit}
use Rattle.binar.proofs.row.Bits.{bit_lt}
use Rattle.pauli.specs.Support.{Rising}
use Rattle.pauli.specs.Condense.{condensed}
use Rattle.pauli.specs.Pauli.{Pauli, normal, times, anticommute, select, cons_if}
use Rattle.pauli.specs.PauliTheorems.{On, PauliOn}
use Rattle.pauli.specs.Sets.{set_of, members, condense, expand}
use Rattle.pauli.specs.OneQubit.{pauli_numbered, number_of_pauli, product_number}
use Rattle.pauli.proofs.condense.MoreBits.{bit_or_lem}
use Rattle.pauli.proofs.condense.Places.{condense_lt, condense_weight, expand_condense}
use Rattle.pauli.proofs.condense.Rows.{on_times}
use Rattle.pauli.proofs.condense.Sets.{set_members, members_rise, members_has, members_count}
use Rattle.pauli.proofs.signed.Algebra.{pauli_path, times_normal_l, times_normal_r, normal_times}
use Rattle.pauli.proofs.one_qubit.TableLaws.{number_lt, pauli_back, product_is, differ_is}
use Rattle.pauli.proofs.write.Condensed.{condensed_times, condensed_anticommute}

-- what is in a set is in its union with another
or_left : (a b q : ℕ) → bit a q ≡ 1 → bit (bit_or a b) q ≡ 1
or_left a b q e = bit_or_lem a b q ∙ omega (arith, e, bit_lt b q)

or_right : (a b q : ℕ) → bit b q ≡ 1 → bit (bit_or a b) q ≡ 1
or_right a b q e = bit_or_lem a b q ∙ omega (arith, e, bit_lt a q)

bit_weight : (v : ℕ) → v < 2 → weight v ≡ v
unfolding weight ones
bit_weight zero h = refl
bit_weight (suc zero) h = refl
bit_weight (suc (suc v)) h = absurd (omega arith)

-- with at most one qubit, a set of places has all or none
expand_one : (qs : List ℕ) (d : ℕ) → length qs ≤ 1 → d < 2 → expand qs d ≡ if_bit d (set_of qs) 0
unfolding expand if_bit select cons_if set_of
expand_one [] zero h k = refl
expand_one [] (suc d) h k = refl
expand_one (q ∷ []) zero h k = refl
expand_one (q ∷ []) (suc zero) h k = refl
expand_one (q ∷ []) (suc (suc d)) h k = absurd (omega arith)
expand_one (q ∷ r ∷ qs) d h k = absurd (omega arith)

-- the places of two Paulis
abbrev pub places : Pauli → Pauli → ℕ
places p q = bit_or (bit_or p.x p.z) (bit_or q.x q.z)

pub few_places : (p q : Pauli) (v n : ℕ) → v ≡ places p q → n ≡ weight v → n ≤ 1 → weight (places p q) ≤ 1
few_places p q v n e en h = rw (← e, ← en) h

-- the number as the code makes it, by the sizes of the sets
abbrev number : Pauli → ℕ
number r = 4 * (2 * weight r.x + weight r.z) + r.e % 4

module _ (p q : Pauli) (few : weight (places p q) ≤ 1) where
  abbrev qs : List ℕ
  qs = members (places p q)

  rises : Rising 0 qs
  rises = members_rise (places p q)

  short : length qs ≤ 1
  short = omega (arith, few, members_count (places p q))

  on_left : PauliOn qs p
  on_left =
      record {
        x = λ k e. members_has (places p q) k (or_left _ _ k (or_left p.x p.z k e));
        z = λ k e. members_has (places p q) k (or_left _ _ k (or_right p.x p.z k e));
      }

  on_right : PauliOn qs q
  on_right =
      record {
        x = λ k e. members_has (places p q) k (or_right _ _ k (or_left q.x q.z k e));
        z = λ k e. members_has (places p q) k (or_right _ _ k (or_right q.x q.z k e));
      }

  bit_there : (v : ℕ) → condense qs v < 2
  bit_there v = omega (arith, condense_lt qs v, pow_mono short)

  weight_there : (v : ℕ) → On qs v → weight v ≡ condense qs v
  weight_there v on = sym (condense_weight qs rises v on) ∙ bit_weight (condense qs v) (bit_there v)

  number_there : (r : Pauli) → PauliOn qs r → number r ≡ number_of_pauli (condensed qs r)
  unfolding number_of_pauli condensed
  number_there r on = rw (weight_there r.x on.x, weight_there r.z on.z) refl

  small : (r : Pauli) → PauliOn qs r → number r < 16
  unfolding condensed
  small r on = rw (number_there r on) (number_lt (condensed qs r) (bit_there r.x) (bit_there r.z))

  pub left_small : number p < 16
  left_small = small p on_left

  pub right_small : number q < 16
  right_small = small q on_right

  back : (r : Pauli) → PauliOn qs r → pauli_numbered (number r) ≡ normal (condensed qs r)
  unfolding condensed
  back r on = ap pauli_numbered (number_there r on) ∙ pauli_back (condensed qs r) (bit_there r.x) (bit_there r.z)

  product_there : pauli_numbered (product_number (number p) (number q)) ≡ condensed qs (times p q)
  product_there =
      product_is (number p) (number q) ∙ ap₂ times (back p on_left) (back q on_right)
      ∙ times_normal_l (condensed qs p) (normal (condensed qs q)) ∙ times_normal_r (condensed qs p) (condensed qs q)
      ∙ condensed_times qs rises p q on_left

  -- a set that is made of a bit and the place
  set_there : (v d : ℕ) → On qs v → d ≡ condense qs v → if_bit d (places p q) 0 ≡ v
  set_there v d on e =
      ap (λ (s : ℕ). if_bit d s 0) (sym (set_members (places p q))) ∙ sym (expand_one qs d short (rw e (bit_there v))) ∙ ap (expand qs) e
      ∙ expand_condense qs rises v on

  -- the Pauli with that number on the place is the product
  pub product_one : (n : ℕ) (r : Pauli) → n ≡ product_number (number p) (number q) → r.e ≡ n % 4 → r.x ≡ if_bit (n / 8 % 2) (places p q) 0
      → r.z ≡ if_bit (n / 4 % 2) (places p q) 0 → normal r ≡ times p q
  unfolding pauli_numbered condensed
  product_one n r en ee ex ez =
      let t = times p q in
      let on = on_times qs p q on_left on_right in
      let there : pauli_numbered n ≡ condensed qs t = ap pauli_numbered en ∙ product_there in
      ap normal (pauli_path (ee ∙ ap (λ (u : Pauli). u.e) there) (ex ∙ set_there t.x _ on.x (ap (λ (u : Pauli). u.x) there))
      (ez ∙ set_there t.z _ on.z (ap (λ (u : Pauli). u.z) there)))
      ∙ normal_times p q

  pub differ_one : not (product_number (number p) (number q) == product_number (number q) (number p)) ≡ (anticommute p q == 1)
  unfolding anticommute normal
  differ_one =
      differ_is (number p) (number q) left_small right_small
      ∙ ap (λ (n : ℕ). n == 1) (ap₂ anticommute (back p on_left) (back q on_right) ∙ condensed_anticommute qs rises p q on_left)
