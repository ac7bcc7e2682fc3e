-- Sets of qubits as numbers and as rising lists.
use Rattle.std.proofs.Common.{◌≡◌, ℕ, zero, suc, ◌+◌, ◌*◌, ◌/◌, ◌%◌, ◌^◌, ◌<◌, ◌≤◌, List, [], ◌∷◌, length, sym, ap, ◌∙◌, le_refl, pow-suc, arith, pow_pos}
use mathlib.Core.List.Memᴰ.{head as here}
use mathlib.Core.List.Memᴰ.{tail as there}
use mathlib.Core.List.{Memᴰ as Mem}
use native.Mathlib.Decide.{ℕ_discrete}
use lib.Arith.{half_le}
use lib.Bits.{or_shifted_r}
use lib.Count.{ones, ones_step}
use Rattle.binar.specs.Row.{bit, weight}
use Rattle.binar.proofs.row.Bits.{bit_lt, bit_of_zero, ones_zero}
use Rattle.pauli.specs.Support.{Rising}
use Rattle.pauli.specs.Pauli.{cons_if}
use Rattle.pauli.specs.Sets.{set_of, members_from, members}
use Rattle.pauli.proofs.support.SupportLaws.{rising_from, rising_ext}
use Rattle.pauli.proofs.condense.MoreBits.{bit_or_lem, bit_unit, bit_unit_other}

-- ---- the set of a list
pub set_has : (qs : List ℕ) (q : ℕ) → Mem q qs → bit (set_of qs) q ≡ 1
unfolding set_of
set_has [] q m = elim m [ ]
set_has (r ∷ qs) q (here e) = omega (arith, bit_or_lem (2 ^ r) (set_of qs) q, ap (bit (2 ^ r)) e ∙ bit_unit r, bit_lt (set_of qs) q)
set_has (r ∷ qs) q (there m) = omega (arith, bit_or_lem (2 ^ r) (set_of qs) q, set_has qs q m, bit_lt (2 ^ r) q)

pub set_only : (qs : List ℕ) (q : ℕ) → bit (set_of qs) q ≡ 1 → Mem q qs
unfolding set_of
set_only [] q h = absurd (omega (arith, bit_of_zero q))
set_only (r ∷ qs) q h =
    elim (ℕ_discrete q r) [ yes e ↦ here e | no n ↦ there (set_only qs q (omega (arith, bit_or_lem (2 ^ r) (set_of qs) q, bit_unit_other r q n))) ]

-- ---- the list of a set
pub cons_if_rises : (d least q : ℕ) (l : List ℕ) → least ≤ q → Rising (suc q) l → Rising least (cons_if d q l)
unfolding cons_if
cons_if_rises zero least q l k h = rising_from least (suc q) l (omega arith) h
cons_if_rises (suc d) least q l k h = (k, h)

pub length_cons_if : (d q : ℕ) (l : List ℕ) → d < 2 → length (cons_if d q l) ≡ d + length l
unfolding cons_if
length_cons_if zero q l h = omega arith
length_cons_if (suc d) q l h = omega arith

digits_from : (d w q : ℕ) → w * 2 ^ suc q + d * 2 ^ q ≡ (d + 2 * w) * 2 ^ q
digits_from d w q = rw pow-suc (gather (2 ^ q))
  where
    gather : (p : ℕ) → w * (p * 2) + d * p ≡ (d + 2 * w) * p
    gather p = omega arith

-- the digit d of weight 2^q, and the digits of w from weight 2^(q + 1) on
set_cons_if : (d q w : ℕ) (l : List ℕ) → d < 2 → set_of l ≡ w * 2 ^ suc q → set_of (cons_if d q l) ≡ (d + 2 * w) * 2 ^ q
unfolding cons_if set_of
set_cons_if zero q w l h e = e ∙ omega (arith, digits_from 0 w q)
set_cons_if (suc zero) q w l h e = rw e (or_shifted_r w (suc q) (2 ^ q) (omega (arith, pow_pos q)) ∙ omega (arith, digits_from 1 w q))
set_cons_if (suc (suc d)) q w l h e = absurd (omega arith)

set_members_from : (n q v : ℕ) → v ≤ n → set_of (members_from n q v) ≡ v * 2 ^ q
unfolding members_from set_of
set_members_from zero q zero h = omega arith
set_members_from zero q (suc v) h = absurd (omega arith)
set_members_from (suc n) q zero h = omega arith
set_members_from (suc n) q (suc v) h =
    set_cons_if (suc v % 2) q (suc v / 2) _ (omega arith) (set_members_from n (suc q) (suc v / 2) (half_le h)) ∙ ap (◌* 2 ^ q) whole
  where
    whole : suc v % 2 + 2 * (suc v / 2) ≡ suc v
    whole = omega arith

pub set_members : (v : ℕ) → set_of (members v) ≡ v
unfolding members
set_members v = set_members_from v 0 v (le_refl v) ∙ omega arith

members_from_rises : (n q v : ℕ) → Rising q (members_from n q v)
unfolding members_from
members_from_rises zero q v = tt
members_from_rises (suc n) q zero = tt
members_from_rises (suc n) q (suc v) = cons_if_rises (suc v % 2) q q _ (le_refl q) (members_from_rises n (suc q) (suc v / 2))

pub members_rise : (v : ℕ) → Rising 0 (members v)
unfolding members
members_rise v = members_from_rises v 0 v

pub members_has : (v q : ℕ) → bit v q ≡ 1 → Mem q (members v)
members_has v q h = set_only (members v) q (rw set_members h)

pub members_only : (v q : ℕ) → Mem q (members v) → bit v q ≡ 1
members_only v q m = rw set_members at (set_has (members v) q m)

pub members_set : (qs : List ℕ) → Rising 0 qs → members (set_of qs) ≡ qs
members_set qs h =
    rising_ext 0 0 (members (set_of qs)) qs (members_rise (set_of qs)) h
    (λ q m. set_only qs q (members_only (set_of qs) q m)) (λ q m. members_has (set_of qs) q (set_has qs q m))

members_above : (m p : ℕ) → members (m * 2 ^ p) ≡ members_from m p m
members_above m p =
    ap members (sym (set_members_from m p m (le_refl m))) ∙ members_set (members_from m p m) (rising_from 0 p _ (omega arith) (members_from_rises m p m))

-- the members of a number whose lowest digit is of weight 2^p
pub members_lowest : (m p : ℕ) → members ((1 + 2 * m) * 2 ^ p) ≡ p ∷ members (2 * m * 2 ^ p)
unfolding set_of cons_if
members_lowest m p =
    let more = members_from m (suc p) m in
    let all = set_cons_if 1 p m more (omega arith) (set_members_from m (suc p) m (le_refl m)) in
    let rest : 2 * m * 2 ^ p ≡ m * 2 ^ suc p = omega (arith, digits_from 0 m p) in
    ap members (sym all) ∙ members_set (p ∷ more) (omega arith, members_from_rises m (suc p) m) ∙ ap (p ∷◌) (sym (members_above m (suc p)) ∙ ap members (sym rest))

count_members_from : (n q v : ℕ) → v ≤ n → length (members_from n q v) ≡ ones v
unfolding members_from
count_members_from zero q zero h = sym ones_zero
count_members_from zero q (suc v) h = absurd (omega arith)
count_members_from (suc n) q zero h = sym ones_zero
count_members_from (suc n) q (suc v) h =
    length_cons_if (suc v % 2) q _ (omega arith) ∙ ap (suc v % 2 +◌) (count_members_from n (suc q) (suc v / 2) (half_le h)) ∙ sym (ones_step (suc v))

pub members_count : (v : ℕ) → length (members v) ≡ weight v
unfolding members weight
members_count v = count_members_from v 0 v (le_refl v)

-- a rising list has as many elements as its set has ones
pub set_weight : (qs : List ℕ) → Rising 0 qs → weight (set_of qs) ≡ length qs
set_weight qs h = sym (members_count (set_of qs)) ∙ ap length (members_set qs h)
