-- Laws of the stacked Paulis: those of a roll with X and Z exchanged, and X or Z at a place.
use Rattle.std.proofs.Common.{◌≡◌, refl, sym, ap, ◌∙◌, subst, Bool, true, false, List, [], ◌∷◌, ◌++◌, map, length, get_or, ℕ, ◌+◌, ◌*◌, ◌^◌, ◌≤◌, ◌<◌, bit_or, arith}
use mathlib.Core.List.{map-append}
use lib.ListN.{length-map}
use lib.Seq.{sets}
use Rattle.binar.specs.Kernel.{without}
use Rattle.binar.proofs.Without.{is_among}
use Rattle.pauli.specs.declared.places.Places.{Places}
use Rattle.pauli.specs.declared.signed.Pauli.{Pauli as Held}
use Rattle.pauli.specs.Condense.{condensed}
use Rattle.pauli.specs.Known.{place_of}
use Rattle.pauli.specs.Pauli.{Pauli, normal}
use Rattle.pauli.specs.PlaceSet.{set_in}
use Rattle.pauli.specs.Roll.{Sparse, most_paulis, count_of}
use Rattle.pauli.specs.Sets.{pauli_of}
use Rattle.pauli.specs.Signed.{held, pauli_words, list_in}
use Rattle.pauli.specs.Support.{Rising}
use Rattle.pauli.specs.Told.{answer}
use Rattle.pauli.proofs.joined.JoinLaws.{accepted_few}
use Rattle.pauli.proofs.signed.Algebra.{pauli_path}
use Rattle.pauli.proofs.condense.Places.{place_of_qubit}
use Rattle.pauli_theory.specs.Centralizer.{unnamed}
use Rattle.pauli_group.specs.Inner.Area.{Outside}
use Rattle.centralizer.specs.Stacked.{stacked_at, exchanged_over, unit_at}
use Rattle.centralizer.proofs.named.NamedLaws.{kept, kept_few, kept_all, kept_not, kept_next, kept_more}
use Rattle.centralizer.proofs.stacked.Behind.{Behind, behind_none, behind_more}

-- ---- X and Z exchanged

pub paulis_few : (b : List ℕ) (n : ℕ) → count_of b ≡ answer n → n ≤ 128
unfolding most_paulis
paulis_few = accepted_few

pub exchanged_is : (qs : List ℕ) (p : Sparse) (q : Held) → held q ≡ condensed qs (pauli_of p)
    → normal (held (record { exponent = 0; x = q.z; z = q.x })) ≡ exchanged_over qs p
unfolding held normal condensed exchanged_over
exchanged_is qs p q e = pauli_path refl (ap (λ (r : Pauli). r.z) e) (ap (λ (r : Pauli). r.x) e)

-- ---- X or Z at a place

module _ (none set : Places) (i : ℕ) (z : set_in none ≡ 0) (e : set_in set ≡ bit_or (set_in none) (2 ^ i)) where
  place : set_in set ≡ 2 ^ i
  place = e ∙ ap (λ (v : ℕ). bit_or v (2 ^ i)) z

  pub unit_x : (is_x : Bool) → is_x ≡ true → held (record { exponent = 0; x = set; z = none }) ≡ unit_at is_x i
  unfolding held unit_at
  unit_x is_x t = rw t (pauli_path refl place z)

  pub unit_z : (is_x : Bool) → is_x ≡ false → held (record { exponent = 0; x = none; z = set }) ≡ unit_at is_x i
  unfolding held unit_at
  unit_z is_x t = rw t (pauli_path refl z place)

unit_normal : (is_x : Bool) (i : ℕ) → normal (unit_at is_x i) ≡ unit_at is_x i
unfolding normal unit_at
unit_normal true i = refl
unit_normal false i = refl

pub unit_stored : (is_x : Bool) (i : ℕ) (p : Held) → held p ≡ unit_at is_x i → normal (held p) ≡ unit_at is_x i
unit_stored is_x i p e = ap normal e ∙ unit_normal is_x i

-- ---- X, or else Z, at each place that is not named

-- of the first i numbers of own those that are not named are met: each one's place is put behind the first Paulis
pub record UnitsUpTo (is_x : Bool) (named own : List ℕ) (first : ℕ) (entry : List ℕ) (i count : ℕ) (w : List ℕ) : Type 0 where
  pub below : count ≤ first + i
  pub many : count ≡ first + length (kept named own i)
  pub put : Behind (stacked_at + 5 * first) (map (unit_at is_x) (map (place_of own) (kept named own i))) entry w

module _ (is_x : Bool) (named own : List ℕ) (first : ℕ) (entry : List ℕ) where
  abbrev units : List ℕ → List Pauli
  units qs = map (unit_at is_x) (map (place_of own) qs)

  units_many : (qs : List ℕ) → length (units qs) ≡ length qs
  units_many qs = length-map (map (place_of own) qs) (unit_at is_x) ∙ length-map qs (place_of own)

  pub units_none : UnitsUpTo is_x named own first entry 0 first entry
  unfolding without
  units_none = record { below = omega arith; many = omega arith; put = behind_none (stacked_at + 5 * first) entry }

  module _ (i count : ℕ) (w : List ℕ) (s : UnitsUpTo is_x named own first entry i count w) where
    pub units_all : length own ≤ i
        → let places = unnamed named own in
        (count ≡ first + length places)
        × (list_in w (stacked_at + 5 * first) (length places) ≡ map (unit_at is_x) places)
        × Outside (stacked_at + 5 * first) (5 * length places) entry w
    unfolding unnamed
    units_all h =
        let places = map (place_of own) (without named own) in
        let all = kept_all named own i h in
        let put : Behind (stacked_at + 5 * first) (units (without named own)) entry w =
        subst (λ (qs : List ℕ). Behind (stacked_at + 5 * first) (units qs) entry w) all s.put in
        let n = length-map places (unit_at is_x) in
        let many : length (kept named own i) ≡ length places = ap length all ∙ sym (length-map (without named own) (place_of own)) in
        (s.many ∙ ap (first +◌) many, rw n at put.list, rw n at put.rest)

    module _ (h : i < length own) where
      pub units_skip : is_among named (get_or own i 0) ≡ true → UnitsUpTo is_x named own first entry (i + 1) count w
      units_skip t = record {
        below = let b = s.below in omega arith;
        many = s.many ∙ ap (λ (qs : List ℕ). first + length qs) (sym (kept_not named own i h t));
        put = subst (λ (qs : List ℕ). Behind (stacked_at + 5 * first) (units qs) entry w) (sym (kept_not named own i h t)) s.put;
      }

      module _ (rises : Rising 0 own) (t : is_among named (get_or own i 0) ≡ false) where
        next : units (kept named own (i + 1)) ≡ units (kept named own i) ++ unit_at is_x i ∷ []
        next =
            ap units (kept_next named own i h t)
            ∙ ap (map (unit_at is_x)) (map-append (place_of own) (kept named own i) (get_or own i 0 ∷ []))
            ∙ map-append (unit_at is_x) (map (place_of own) (kept named own i)) (place_of own (get_or own i 0) ∷ [])
            ∙ ap (λ (j : ℕ). units (kept named own i) ++ unit_at is_x j ∷ []) (place_of_qubit 0 own rises i h)

        pub units_more : stacked_at + 5 * (first + length own) ≤ length entry → (p : Held) → held p ≡ unit_at is_x i
            → (u : List ℕ) → u ≡ sets w (stacked_at + 5 * count) (pauli_words p) → UnitsUpTo is_x named own first entry (i + 1) (count + 1) u
        units_more room p e u g =
            let n = units_many (kept named own i) in
            let few = kept_few named own i in
            record {
              below = let b = s.below in omega arith;
              many = omega (arith, s.many, kept_more named own i h t);
              put =
                  subst (λ (ps : List Pauli). Behind (stacked_at + 5 * first) ps entry u) (sym next)
                  (behind_more s.put (omega arith) (unit_at is_x i) p (unit_stored is_x i p e) (stacked_at + 5 * count) (omega (arith, s.many)) u g);
            }
