-- Laws of the result: X and Z on each named qubit that is not among the list's own.
use Rattle.std.proofs.Common.{◌≡◌, refl, sym, ap, ap₂, ◌∙◌, subst, true, false, List, [], ◌∷◌, ◌++◌, append_assoc, map, length, length-append, get_or, ℕ, ◌+◌, ◌*◌, ◌^◌, ◌≤◌, ◌<◌, arith}
use mathlib.Core.List.{map-append}
use lib.ListN.{length-map}
use lib.Seq.{sets}
use Rattle.binar.specs.Kernel.{without}
use Rattle.binar.proofs.Without.{is_among}
use Rattle.pauli.specs.declared.signed.Pauli.{Pauli as Held}
use Rattle.pauli.specs.Condense.{condensed}
use Rattle.pauli.specs.Pauli.{Pauli}
use Rattle.pauli.specs.Signed.{held, pauli_words, list_in}
use Rattle.pauli.specs.Sets.{condense}
use Rattle.pauli.specs.Support.{Rising}
use Rattle.pauli.proofs.support.Lists.{in_get_or}
use Rattle.pauli.proofs.condense.Places.{place_of_qubit}
use Rattle.pauli.proofs.signed.Algebra.{pauli_path}
use Rattle.pauli_theory.specs.Centralizer.{x_on, z_on, x_and_z}
use Rattle.pauli_theory.proofs.ModuloPlaces.{condense_unit}
use Rattle.pauli_theory.proofs.Named.{x_and_z_length}
use Rattle.pauli_theory.proofs.Placed.{condense_none}
use Rattle.pauli_group.specs.Inner.Area.{Outside}
use Rattle.centralizer.specs.Stacked.{result_at, unit_at}
use Rattle.centralizer.proofs.named.NamedLaws.{kept, kept_few, kept_all, kept_not, kept_next, kept_more}
use Rattle.centralizer.proofs.stacked.Behind.{Behind, behind_none, behind_more}
use Rattle.centralizer.proofs.stacked.StackedLaws.{unit_stored}

x_and_z_last : (qs : List ℕ) (q : ℕ) → x_and_z (qs ++ q ∷ []) ≡ x_and_z qs ++ x_on q ∷ z_on q ∷ []
unfolding x_and_z
x_and_z_last [] q = refl
x_and_z_last (r ∷ rs) q = ap (λ (ps : List Pauli). x_on r ∷ z_on r ∷ ps) (x_and_z_last rs q)

-- over the places of the named qubits they are X and Z at the places
module _ (named : List ℕ) (rises : Rising 0 named) (i : ℕ) (h : i < length named) where
  abbrev q : ℕ
  q = get_or named i 0

  place : condense named (2 ^ q) ≡ 2 ^ i
  place = condense_unit named rises q (in_get_or named i 0 h) ∙ ap (2 ^◌) (place_of_qubit 0 named rises i h)

  x_place : condensed named (x_on q) ≡ unit_at true i
  unfolding condensed x_on unit_at
  x_place = pauli_path refl place (condense_none named)

  z_place : condensed named (z_on q) ≡ unit_at false i
  unfolding condensed z_on unit_at
  z_place = pauli_path refl (condense_none named) place

-- of the first i named numbers those that are not among own are met: X and Z on each one is put behind the first Paulis
pub record FurtherUpTo (own named : List ℕ) (first : ℕ) (entry : List ℕ) (i count : ℕ) (w : List ℕ) : Type 0 where
  pub below : count ≤ first + 2 * i
  pub many : count ≡ first + 2 * length (kept own named i)
  pub put : Behind (result_at + 5 * first) (map (condensed named) (x_and_z (kept own named i))) entry w

module _ (own named : List ℕ) (first : ℕ) (entry : List ℕ) where
  abbrev both : List ℕ → List Pauli
  both qs = map (condensed named) (x_and_z qs)

  both_many : (qs : List ℕ) → length (both qs) ≡ 2 * length qs
  both_many qs = length-map (x_and_z qs) (condensed named) ∙ x_and_z_length qs

  pub further_none : FurtherUpTo own named first entry 0 first entry
  unfolding without x_and_z
  further_none = record { below = omega arith; many = omega arith; put = behind_none (result_at + 5 * first) entry }

  module _ (i count : ℕ) (w : List ℕ) (s : FurtherUpTo own named first entry i count w) where
    pub further_all : length named ≤ i
        → let qs = without own named in
        (count ≡ first + 2 * length qs)
        × (list_in w (result_at + 5 * first) (2 * length qs) ≡ map (condensed named) (x_and_z qs))
        × Outside (result_at + 5 * first) (10 * length qs) entry w
    further_all h =
        let qs = without own named in
        let all = kept_all own named i h in
        let put : Behind (result_at + 5 * first) (both qs) entry w =
        subst (λ (rs : List ℕ). Behind (result_at + 5 * first) (both rs) entry w) all s.put in
        let n = both_many qs in
        let ten : 5 * length (both qs) ≡ 10 * length qs = omega (arith, n) in
        (s.many ∙ ap (λ (rs : List ℕ). first + 2 * length rs) all, rw n at put.list, rw ten at put.rest)

    module _ (h : i < length named) where
      pub further_skip : is_among own (get_or named i 0) ≡ true → FurtherUpTo own named first entry (i + 1) count w
      further_skip t = record {
        below = let b = s.below in omega arith;
        many = s.many ∙ ap (λ (qs : List ℕ). first + 2 * length qs) (sym (kept_not own named i h t));
        put = subst (λ (qs : List ℕ). Behind (result_at + 5 * first) (both qs) entry w) (sym (kept_not own named i h t)) s.put;
      }

      module _ (rises : Rising 0 named) (t : is_among own (get_or named i 0) ≡ false) where
        next : both (kept own named (i + 1)) ≡ (both (kept own named i) ++ unit_at true i ∷ []) ++ unit_at false i ∷ []
        next =
            let qs = kept own named i in
            let q = get_or named i 0 in
            ap both (kept_next own named i h t) ∙ ap (map (condensed named)) (x_and_z_last qs q)
            ∙ map-append (condensed named) (x_and_z qs) (x_on q ∷ z_on q ∷ [])
            ∙ ap₂ (λ (a b : Pauli). both qs ++ a ∷ b ∷ []) (x_place named rises i h) (z_place named rises i h)
            ∙ sym (append_assoc (both qs) (unit_at true i ∷ []) (unit_at false i ∷ []))

        pub further_more : result_at + 5 * (first + 2 * length named) ≤ length entry
            → (p : Held) → held p ≡ unit_at true i → (u : List ℕ) → u ≡ sets w (result_at + 5 * count) (pauli_words p)
            → (q : Held) → held q ≡ unit_at false i → (v : List ℕ) → v ≡ sets u (result_at + 5 * count + 5) (pauli_words q)
            → FurtherUpTo own named first entry (i + 1) (count + 2) v
        further_more room p e u g q f v k =
            let ps = both (kept own named i) in
            let n = both_many (kept own named i) in
            let few = kept_few own named i in
            let one = length-append ps (unit_at true i ∷ []) in
            let at = result_at + 5 * count in
            let x = behind_more s.put (omega arith) (unit_at true i) p (unit_stored true i p e) at (omega (arith, s.many)) u g in
            record {
              below = let b = s.below in omega arith;
              many = omega (arith, s.many, kept_more own named i h t);
              put =
                  subst (λ (rs : List Pauli). Behind (result_at + 5 * first) rs entry v) (sym next)
                  (behind_more x (omega (arith, one)) (unit_at false i) q (unit_stored false i q f) (at + 5) (omega (arith, s.many, one)) v k);
            }
