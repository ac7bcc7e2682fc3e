-- Laws of the places of those of rising numbers that are in a support.
use Rattle.std.proofs.Common.{◌≡◌, refl, sym, ap, ◌∙◌, subst, List, [], ◌∷◌, length, get_or, ℕ, suc, ◌+◌, ◌^◌, ◌<◌, ◌≤◌, arith}
use mathlib.Core.List.Memᴰ.{head as here}
use mathlib.Core.List.Memᴰ.{tail as there}
use mathlib.Core.List.{Memᴰ as Mem}
use lib.Bits.{bit_or, or_zero_l, or_zero_r}
use Rattle.binar.proofs.Lists.{all_get}
use Rattle.pauli.specs.Bytes.{u32_at, u32s_in}
use Rattle.pauli.specs.Condense.{list_of, nothing}
use Rattle.pauli.specs.Known.{lower}
use Rattle.pauli.specs.Roll.{count_of}
use Rattle.pauli.specs.Sets.{set_of, condense}
use Rattle.pauli.specs.Support.{Rising}
use Rattle.pauli.specs.Told.{answer}
use Rattle.pauli.proofs.condense.CondenseLaws.{lower_at}
use Rattle.pauli.proofs.condense.MoreBits.{bit_unit_other}
use Rattle.pauli.proofs.condense.Places.{condense_or}
use Rattle.pauli.proofs.joined.JoinLaws.{accepted}
use Rattle.pauli.proofs.roll.Checks.{AllowedSets}
use Rattle.pauli.proofs.roll.RollLaws.{answer_parts}
use Rattle.pauli.proofs.support.Lists.{in_get_or}
use Rattle.pauli.proofs.support.SupportLaws.{by_order}
use Rattle.pauli.proofs.support.Walk.{lower_le, lower_stop, lower_go, numbers_from, numbers_start, numbers_next, numbers_end}
use Rattle.pauli_theory.proofs.Placed.{condense_none}
use Rattle.pauli_group.proofs.member.MemberLaws.{stands_nowhere}
use Rattle.pauli_group.proofs.moved.MoveLaws.{or_assoc}

-- ---- one number

-- a higher number stands no earlier
lower_rises : (qs : List ℕ) (q s : ℕ) → q ≤ s → lower q qs ≤ lower s qs
lower_rises [] q s h = omega (arith, lower_le [] q)
lower_rises (r ∷ rs) q s h =
    by_order q r (λ l. omega (arith, lower_stop q r rs (omega arith))) (λ e. omega (arith, lower_stop q r rs (omega arith)))
    (λ l. omega (arith, lower_go q r rs l, lower_go s r rs (omega arith), lower_rises rs q s h))

-- one that is not in the support has no place
condense_other : (qs : List ℕ) (q : ℕ) → ¬ Mem q qs → condense qs (2 ^ q) ≡ 0
unfolding condense
condense_other [] q out = refl
condense_other (r ∷ rs) q out = omega (arith, bit_unit_other q r (λ d. out (here (omega arith))), condense_other rs q (λ m. out (there m)))

-- ---- one after the other

-- the numbers ns are left; `set` has the places of those before that are in the support, and the next one's place is `from` or after it
pub record Restricting (ns qs : List ℕ) (whole set from : ℕ) : Type 0 where
  pub least : ℕ
  pub rise : Rising least ns
  pub walk : (s : ℕ) → least ≤ s → from ≤ lower s qs
  pub value : bit_or set (condense qs (set_of ns)) ≡ whole

module _ (qs : List ℕ) (rises : Rising 0 qs) (ls : List (List ℕ)) where
  pub within_start : Rising 0 (u32s_in ls) → (set : ℕ) → set ≡ 0 → Restricting (numbers_from ls 0) qs (condense qs (set_of (u32s_in ls))) set 0
  within_start h set e = record {
    least = 0;
    rise = rw numbers_start at h;
    walk = λ s l. omega arith;
    value = ap (λ (a : ℕ). bit_or a (condense qs (set_of (numbers_from ls 0)))) e ∙ or_zero_l _ ∙ rw (← numbers_start ls) refl;
  }

  module _ (whole set from k : ℕ) (p : Restricting (numbers_from ls k) qs whole set from) where
    pub within_end : length ls ≤ k → set ≡ whole
    unfolding set_of
    within_end h =
        sym (or_zero_r set) ∙ ap (bit_or set) (sym (ap (λ (ns : List ℕ). condense qs (set_of ns)) (numbers_end ls k h) ∙ condense_none qs)) ∙ p.value

    module _ (h : k < length ls) (q : ℕ) (e : q ≡ u32_at (get_or ls k []) 0) where
      opened : Restricting (q ∷ numbers_from ls (k + 1)) qs whole set from
      opened =
          subst (λ (ns : List ℕ). Restricting ns qs whole set from) (numbers_next ls k h ∙ ap (λ (r : ℕ). r ∷ numbers_from ls (k + 1)) (sym e)) p

      pub within_from : from ≤ lower q qs
      within_from = opened.walk q opened.rise.0

      module _ (i : ℕ) (a : i ≡ lower q qs) where
        next : (set' : ℕ) → set' ≡ bit_or set (condense qs (2 ^ q)) → Restricting (numbers_from ls (k + 1)) qs whole set' i
        unfolding set_of
        next set' b =
            let ns = numbers_from ls (k + 1) in
            record {
              least = suc q;
              rise = opened.rise.1;
              walk = λ s l. omega (arith, lower_rises qs q s (omega arith));
              value =
                  ap (λ (c : ℕ). bit_or c (condense qs (set_of ns))) b ∙ or_assoc set (condense qs (2 ^ q)) (condense qs (set_of ns))
                  ∙ ap (bit_or set) (sym (condense_or qs (2 ^ q) (set_of ns))) ∙ opened.value;
            }

        -- it stands there
        pub within_found : i < length qs → get_or qs i 0 ≡ q → (set' : ℕ) → set' ≡ bit_or set (2 ^ i) → Restricting (numbers_from ls (k + 1)) qs whole set' i
        within_found l stands set' b =
            let m : Mem q qs = rw (← stands) (in_get_or qs i 0 l) in
            next set' (b ∙ ap (bit_or set) (ap (2 ^◌) a ∙ sym (lower_at 0 qs rises q m).1))

        pub within_other : (i < length qs → get_or qs i 0 ≡ q → ⊥) → Restricting (numbers_from ls (k + 1)) qs whole set i
        within_other none = next set (sym (ap (bit_or set) (condense_other qs q (stands_nowhere qs rises q i a none)) ∙ or_zero_r set))

-- the sets of a Pauli of an accepted roll rise
pub sets_rise : (b : List ℕ) (n : ℕ) → count_of b ≡ answer n → (i : ℕ) → i < n
    → Rising 0 (get_or (list_of b) i nothing).xs × Rising 0 (get_or (list_of b) i nothing).zs
sets_rise b n c i h =
    let (r, size) = accepted b n c in
    let sets = all_get AllowedSets (list_of b) nothing (answer_parts b (list_of b) r).sets i (rw size h) in
    (sets.0.rise, sets.1.rise)
