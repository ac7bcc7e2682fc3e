-- Laws of sets of places made from rising numbers.
use Rattle.std.proofs.Common.{◌≡◌, ℕ, suc, ◌+◌, ◌-◌, ◌*◌, ◌%◌, ◌^◌, ◌<◌, ◌≤◌, List, [], ◌∷◌, length, get_or, sym, refl, ap, ◌∙◌, subst, ap₂, add-zero, pow-suc, arith, pow-add}
use mathlib.Core.List.Memᴰ.{head as here}
use mathlib.Core.List.Memᴰ.{tail as there}
use mathlib.Core.List.{Memᴰ as Mem}
use lib.Bits.{bit_or, or_block, or_zero_l, or_zero_r}
use lib.Pow.{pow-lt}
use Rattle.binar.specs.Row.{bit}
use Rattle.binar.proofs.row.Bits.{bit_of_zero, ext}
use Rattle.binar.proofs.row.Scan.{one_shifted}
use Rattle.pauli.specs.declared.places.Places.{Places}
use Rattle.pauli.specs.Bytes.{u32_at, u32s_in}
use Rattle.pauli.specs.Support.{All, Rising}
use Rattle.pauli.specs.Condense.{Covered}
use Rattle.pauli.specs.Known.{lower}
use Rattle.pauli.specs.Sets.{set_of, condense}
use Rattle.pauli.specs.PlaceSet.{set_in}
use Rattle.pauli.proofs.places.Halves.{Words}
use Rattle.pauli.proofs.condense.MoreBits.{bit_or_lem, bit_unit, bit_unit_other}
use Rattle.pauli.proofs.condense.Places.{condense_or}
use Rattle.pauli.proofs.support.SupportLaws.{rising_least, insert_known}
use Rattle.pauli.proofs.support.Walk.{lower_stop, lower_go, lower_next, numbers_from, numbers_next, numbers_end}

-- ---- one place more

module _ (s : Places) (f : Words s) (i : ℕ) where
  pub with_low : i < 64 → s.high * 2 ^ 64 + bit_or s.low (1 * 2 ^ i % 2 ^ 64) ≡ bit_or (set_in s) (2 ^ i)
  unfolding set_in
  with_low h =
      let z : 0 * 2 ^ 64 + 2 ^ i ≡ 2 ^ i = omega arith in
      ap₂ (λ (a : ℕ) (b : ℕ). a * 2 ^ 64 + bit_or s.low b) (sym (or_zero_r s.high)) (one_shifted i h)
      ∙ sym (or_block 64 s.high 0 s.low (2 ^ i) f.low (pow-lt h)) ∙ ap (bit_or (s.high * 2 ^ 64 + s.low)) z

  pub with_high : 64 ≤ i → i < 128 → bit_or s.high (1 * 2 ^ (i - 64) % 2 ^ 64) * 2 ^ 64 + s.low ≡ bit_or (set_in s) (2 ^ i)
  unfolding set_in
  with_high h k =
      let e : (i - 64) + 64 ≡ i = omega arith in
      let z : 2 ^ (i - 64) * 2 ^ 64 + 0 ≡ 2 ^ i = add-zero (2 ^ (i - 64) * 2 ^ 64) ∙ sym (pow-add 2 (i - 64) 64) ∙ ap (2 ^◌) e in
      ap₂ (λ (a : ℕ) (b : ℕ). bit_or s.high a * 2 ^ 64 + b) (one_shifted (i - 64) (omega arith)) (sym (or_zero_r s.low))
      ∙ sym (or_block 64 s.high (2 ^ (i - 64)) s.low 0 f.low (omega arith)) ∙ ap (bit_or (s.high * 2 ^ 64 + s.low)) z

-- ---- the place of a qubit that is in a rising list

condense_zero : (qs : List ℕ) (v least : ℕ) → Rising least qs → ((q : ℕ) → least ≤ q → bit v q ≡ 0) → condense qs v ≡ 0
unfolding condense
condense_zero [] v least h z = refl
condense_zero (q ∷ qs) v least h z = omega (arith, z q h.0, condense_zero qs v (suc q) h.1 (λ r l. z r (omega (arith, h.0))))

-- a qubit that is in the list stands at its place
pub lower_at : (least : ℕ) (qs : List ℕ) → Rising least qs → (q : ℕ) → Mem q qs → (lower q qs < length qs) × (condense qs (2 ^ q) ≡ 2 ^ lower q qs)
unfolding condense
lower_at least [] h q m = elim m [ ]
lower_at least (r ∷ rs) h q (here e) =
    let stop = lower_stop q r rs (omega arith) in
    let rest = condense_zero rs (2 ^ q) (suc r) h.1 (λ k l. bit_unit_other q k (λ d. omega arith)) in
    let one : bit (2 ^ q) r ≡ 1 = ap (bit (2 ^ q)) (sym e) ∙ bit_unit q in
    (rw stop (omega arith), rw stop (omega (arith, rest, one)))
lower_at least (r ∷ rs) h q (there m) =
    let past : suc r ≤ q = rising_least (suc r) rs h.1 m in
    let go = lower_go q r rs past in
    let more = lower_at (suc r) rs h.1 q m in
    (rw go (omega (arith, more.0)), rw go (omega (arith, more.1, bit_unit_other q r (λ d. omega arith), pow-suc 2 (lower q rs))))

-- ---- numbers placed one by one

or_assoc : (a b c : ℕ) → bit_or (bit_or a b) c ≡ bit_or a (bit_or b c)
or_assoc a b c = ext (bit_or (bit_or a b) c) (bit_or a (bit_or b c)) λ k. simp bit_or_lem (omega arith)

-- the numbers ns are left to place; the places so far are `set`, and the next is at `from` or after it
pub record Placing (ns qs : List ℕ) (whole set from : ℕ) : Type 0 where
  pub least : ℕ
  pub rise : Rising least ns
  pub support : Rising 0 qs
  pub covers : All (λ q. Mem q qs) ns
  pub walk : (s : ℕ) → least ≤ s → from ≤ lower s qs
  pub value : bit_or set (condense qs (set_of ns)) ≡ whole

module _ {ns qs : List ℕ} {whole set from q : ℕ} (p : Placing (q ∷ ns) qs whole set from) where
  pub placing_from : from ≤ lower q qs
  placing_from = p.walk q p.rise.0

  pub placing_in : lower q qs < length qs
  placing_in = (lower_at 0 qs p.support q p.covers.0).0

  pub placing_next : (i s : ℕ) → i ≡ lower q qs → s ≡ bit_or set (2 ^ i) → Placing ns qs whole s (i + 1)
  unfolding set_of
  placing_next i s e d = record {
    least = suc q;
    rise = p.rise.1;
    support = p.support;
    covers = p.covers.1;
    walk = λ t l. omega (arith, e, rw (insert_known 0 q qs p.support p.covers.0) at (lower_next q t qs l));
    value =
        ap (λ (a : ℕ). bit_or a (condense qs (set_of ns))) (d ∙ ap (λ (k : ℕ). bit_or set (2 ^ k)) e) ∙ or_assoc set (2 ^ lower q qs) (condense qs (set_of ns))
        ∙ ap (bit_or set) (ap (λ (a : ℕ). bit_or a (condense qs (set_of ns))) (sym (lower_at 0 qs p.support q p.covers.0).1) ∙ sym (condense_or qs (2 ^ q) (set_of ns)))
        ∙ p.value;
  }

pub placing_end : {qs : List ℕ} {whole set from : ℕ} → Placing [] qs whole set from → set ≡ whole
unfolding set_of
placing_end {qs} {set} p = sym (ap (bit_or set) (condense_zero qs 0 0 p.support (λ q l. bit_of_zero q)) ∙ or_zero_r set) ∙ p.value

-- ---- the same for numbers in bytes, by a counter k

pub bytes_start : (ls : List (List ℕ)) (qs : List ℕ) (set : ℕ) → Covered (u32s_in ls) qs → set ≡ 0 → Placing (numbers_from ls 0) qs (condense qs (set_of (u32s_in ls))) set 0
unfolding numbers_from
bytes_start ls qs set f e = record {
  least = 0;
  rise = f.rise;
  support = f.support;
  covers = f.in_support;
  walk = λ s l. omega arith;
  value = ap (λ (a : ℕ). bit_or a (condense qs (set_of (u32s_in ls)))) e ∙ or_zero_l _;
}

module _ (ls : List (List ℕ)) (qs : List ℕ) (whole set from k : ℕ) (p : Placing (numbers_from ls k) qs whole set from) where
  pub bytes_end : length ls ≤ k → set ≡ whole
  bytes_end h = placing_end (subst (λ (ns : List ℕ). Placing ns qs whole set from) (numbers_end ls k h) p)

  module _ (h : k < length ls) (q : ℕ) (e : q ≡ u32_at (get_or ls k []) 0) where
    opened : Placing (q ∷ numbers_from ls (k + 1)) qs whole set from
    opened = subst (λ (ns : List ℕ). Placing ns qs whole set from) (numbers_next ls k h ∙ ap (λ (r : ℕ). r ∷ numbers_from ls (k + 1)) (sym e)) p

    pub bytes_from : from ≤ lower q qs
    bytes_from = placing_from opened

    pub bytes_in : lower q qs < length qs
    bytes_in = placing_in opened

    pub bytes_next : (i s : ℕ) → i ≡ lower q qs → s ≡ bit_or set (2 ^ i) → Placing (numbers_from ls (k + 1)) qs whole s (i + 1)
    bytes_next = placing_next opened
