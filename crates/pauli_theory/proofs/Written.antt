-- The support of a roll's Paulis is that of their list; and Paulis over the places of a support are written as the Paulis.
use mathlib.Core.Path.{◌≡◌, sym, ap, ◌∙◌}
use mathlib.Core.Logic.{⊎_elim}
use mathlib.Core.List.Memᴰ
use mathlib.Core.List.Memᴰ.{append_cases as in-append}
use mathlib.Core.List.{List, map, map-map, Memᴰ as Mem}
use Prim.Native.Nat.{ℕ}
use Rattle.binar.proofs.Lists.{all_map, all_over, map_same}
use Rattle.pauli.specs.Roll.{Sparse, support, encode, write, by_value}
use Rattle.pauli.specs.Support.{All, Rising}
use Rattle.pauli.specs.Pauli.{Pauli, normal}
use Rattle.pauli.specs.Sets.{set_of, pauli_of, sparse_of}
use Rattle.pauli.specs.PauliTheorems.{PauliOn}
use Rattle.pauli.specs.Condense.{condensed}
use Rattle.pauli.specs.Writing.{sparse_over, roll_over}
use Rattle.pauli.proofs.support.Lists.{all_in, all_mem}
use Rattle.pauli.proofs.support.SupportLaws.{rising_ext}
use Rattle.pauli.proofs.roll.ListSupport.{in_support}
use Rattle.pauli.proofs.condense.Sets.{set_has, set_only, members_set, members_only}
use Rattle.pauli.proofs.condense.PauliTheorems.{support_law}
use Rattle.pauli.proofs.write.Condensed.{sparse_over_lem}
use Rattle.pauli_theory.specs.Standard.{used_by, support_of, standard}
use Rattle.pauli_theory.proofs.Rows.{support_rises, support_on, used_least}
use Rattle.pauli_theory.proofs.StandardLaw.{standard_law}
use Rattle.pauli_theory.proofs.OverPlaces.{placed, places_standard}

-- ---- the support of a roll's Paulis
module _ (ps : List Sparse) where
  on_support : All (PauliOn (support ps)) (map pauli_of ps)
  on_support = all_over (PauliOn (support ps)) pauli_of ps (all_in (λ p. PauliOn (support ps) (pauli_of p)) ps (support_law ps).covers)

  used_in : (q : ℕ) → Mem q (support_of (map pauli_of ps)) → Mem q (support ps)
  unfolding support_of
  used_in q m =
      let u = set_of (support ps) in
      set_only (support ps) q
      (used_least u (map pauli_of ps) (rw (members_set (support ps) (support_law ps).rises) on_support) q
      (members_only (used_by (map pauli_of ps)) q m))

  in_used : (q : ℕ) → Mem q (support ps) → Mem q (support_of (map pauli_of ps))
  unfolding pauli_of
  in_used q m =
      let (p, i, k) = in_support ps q m in
      let gs = map pauli_of ps in
      let on = all_mem (PauliOn (support_of gs)) gs (support_on gs) (pauli_of p) (Memᴰ.map pauli_of i) in
      ⊎_elim (λ j. on.x q (set_has p.xs q j)) (λ j. on.z q (set_has p.zs q j)) (in-append p.xs k)

  pub support_of_lem : support ps ≡ support_of (map pauli_of ps)
  support_of_lem =
      let qs = support_of (map pauli_of ps) in
      rising_ext 0 0 (support ps) qs (support_law ps).rises (support_rises (map pauli_of ps)) in_used used_in

  -- a roll's Paulis over the places of its support
  pub placed_roll : map (λ p. normal (condensed (support ps) (pauli_of p))) ps ≡ placed (map pauli_of ps)
  placed_roll =
      let gs = map pauli_of ps in
      sym (map-map (λ p. normal (condensed (support ps) p)) pauli_of ps)
      ∙ ap (λ (qs : List ℕ). map (λ p. normal (condensed qs p)) gs) support_of_lem

-- ---- Paulis over places, written
module _ (qs : List ℕ) (h : Rising 0 qs) where
  pub written_over : (ps : List Pauli) → All (PauliOn qs) ps → roll_over qs (map (condensed qs) ps) ≡ write (map sparse_of ps)
  unfolding roll_over write
  written_over ps on =
      ap encode
      (map-map (sparse_over qs) (condensed qs) ps
      ∙ map_same (λ p. sparse_over qs (condensed qs p)) (λ p. by_value (sparse_of p)) ps (all_map (sparse_over_lem qs h) ps on)
      ∙ sym (map-map by_value sparse_of ps))

-- the standard generators of a list, written from places
pub written_standard : (gs : List Pauli) → roll_over (support_of gs) (standard (placed gs)) ≡ write (map sparse_of (standard gs))
written_standard gs =
    ap (roll_over (support_of gs)) (places_standard gs) ∙ written_over (support_of gs) (support_rises gs) (standard gs) (standard_law gs).on_support
