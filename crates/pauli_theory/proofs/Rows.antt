-- The qubits that a list uses, and rows over them: rows of products are sums of rows, and equal rows mean equal sets.
use mathlib.Core.Path.{◌≡◌, sym, ap, ◌∙◌, subst}
use mathlib.Core.Logic.{⊎_elim}
use mathlib.Core.List.{List, [], ◌∷◌, map}
use Prim.Native.Nat.{ℕ, ◌*◌, ◌^◌, ◌<◌, max}
use native.Mathlib.Omega.{arith}
use lib.Bits.{bit_or}
use lib.ListN.{length}
use Rattle.binar.specs.Row.{bit, row_sum}
use Rattle.binar.specs.Space.{RowSpace}
use Rattle.binar.proofs.row.Bits.{xor_self, bit_lt, bit_of_zero}
use Rattle.binar.proofs.Lists.{all_of, all_map, all_over, all_under}
use Rattle.binar.proofs.echelon.Span.{space_subspace, space_rows, space_in}
use Rattle.pauli.specs.Support.{All, Rising}
use Rattle.pauli.specs.Pauli.{Pauli, I, normal, indexed_product}
use Rattle.pauli.specs.Sets.{members, row_of, pauli_of_row}
use Rattle.pauli.specs.PauliTheorems.{On, PauliOn}
use Rattle.pauli.proofs.signed.Algebra.{I-times}
use Rattle.pauli.proofs.signed.Products.{indexed_additive}
use Rattle.pauli.proofs.condense.MoreBits.{bit_or_lem, in_or, ext_ones}
use Rattle.pauli.proofs.condense.Sets.{members_rise, members_has, members_only}
use Rattle.pauli.proofs.condense.Rows.{row_lt, row_times, on-I, on_times, row_back}
use Rattle.pauli_theory.specs.Group.{Generated, Inside}
use Rattle.pauli_theory.specs.Standard.{used_by, support_of}
use Rattle.pauli_theory.proofs.Agree.{four, Agree, agree_sets, Subgroup, indexed_in}
use Rattle.pauli_theory.proofs.Group.{generated_in, all_inside}

-- ---- rows over any qubits
module _ (qs : List ℕ) where
  pub row_agree : {m : ℕ} {p q : Pauli} → Agree m p q → row_of qs p ≡ row_of qs q
  unfolding row_of
  row_agree a = rw (a.x, a.z)

  pub row-I : row_of qs I ≡ 0
  unfolding normal I
  row-I = ap (row_of qs) (sym (I-times I)) ∙ row_times qs I I ∙ xor_self (row_of qs I)

  pub row_indexed : (s : ℕ) (gs : List Pauli) → row_of qs (indexed_product s gs) ≡ row_sum s (map (row_of qs) gs)
  row_indexed s gs = indexed_additive (row_of qs) (row_times qs) row-I s gs

  pub rows_narrow : (gs : List Pauli) → All (λ v. v < 2 ^ (2 * length qs)) (map (row_of qs) gs)
  rows_narrow gs = all_over (λ v. v < 2 ^ (2 * length qs)) (row_of qs) gs (all_of (row_lt qs) gs)

  -- the Paulis on these qubits, and those with a row in the row space of a list
  pub on_subgroup : (m : ℕ) → Subgroup m (PauliOn qs)
  on_subgroup m = record {
    agrees = λ p q a h. record { x = subst (On qs) a.x h.x; z = subst (On qs) a.z h.z };
    unit = on-I qs;
    products = on_times qs;
  }

  pub space_subgroup : (m : ℕ) (A : List ℕ) → Subgroup m (λ p. RowSpace A (row_of qs p))
  space_subgroup m A = record {
    agrees = λ p q a h. subst (RowSpace A) (row_agree a) h;
    unit = subst (RowSpace A) (sym row-I) (space_subspace A).origin;
    products = λ p q h k. subst (RowSpace A) (sym (row_times qs p q)) ((space_subspace A).sum _ _ h k);
  }

  pub generated_row : (gs : List Pauli) (p : Pauli) → Generated gs p → RowSpace (map (row_of qs) gs) (row_of qs p)
  generated_row gs =
      let A = map (row_of qs) gs in
      generated_in (space_subgroup 4 A) four gs (all_under (RowSpace A) (row_of qs) gs (space_rows A))

  pub inside_rows : (gs hs : List Pauli) → Inside gs hs → (v : ℕ) → RowSpace (map (row_of qs) gs) v → RowSpace (map (row_of qs) hs) v
  inside_rows gs hs f =
      let B = map (row_of qs) hs in
      space_in (space_subspace B) (all_over (RowSpace B) (row_of qs) gs (all_map (generated_row hs) gs (all_inside gs hs f)))

  -- of Paulis on rising qubits, equal rows mean equal sets
  pub row_sets : Rising 0 qs → {p q : Pauli} → PauliOn qs p → PauliOn qs q → row_of qs p ≡ row_of qs q → Agree 1 p q
  row_sets h {p} {q} on on' e =
      let b : ◌≡◌ {A = Pauli} (record { e = 0; x = p.x; z = p.z }) (record { e = 0; x = q.x; z = q.z }) =
      sym (row_back qs h 0 p on) ∙ ap (pauli_of_row qs 0) e ∙ row_back qs h 0 q on' in
      agree_sets (ap (λ r. r.x) b) (ap (λ r. r.z) b)

  -- a Pauli with the sets of a product has a row in the list's row space
  pub sets_span : {p : Pauli} (gs : List Pauli) (s : ℕ) → Agree 1 p (indexed_product s gs) → RowSpace (map (row_of qs) gs) (row_of qs p)
  sets_span gs s a = record { subset = s; sums = sym (row_indexed s gs) ∙ sym (row_agree a) }

  -- and on rising qubits the other way round
  pub span_sets : Rising 0 qs → {p : Pauli} (gs : List Pauli) (w : RowSpace (map (row_of qs) gs) (row_of qs p)) → PauliOn qs p
      → PauliOn qs (indexed_product w.subset gs) → Agree 1 p (indexed_product w.subset gs)
  span_sets h gs w on on' = row_sets h on on' (sym (row_indexed w.subset gs ∙ w.sums))

-- ---- the support of a list
pub support_rises : (gs : List Pauli) → Rising 0 (support_of gs)
unfolding support_of
support_rises gs = members_rise (used_by gs)

used_within : (u : ℕ) (gs : List Pauli) → ((q : ℕ) → bit (used_by gs) q ≡ 1 → bit u q ≡ 1) → All (PauliOn (members u)) gs
unfolding used_by
used_within u [] h = tt
used_within u (g ∷ gs) h = (
  record {
    x = λ q e. members_has u q (h q (omega (arith, both q, bit_or_lem g.x g.z q, bit_lt g.z q, bit_lt (used_by gs) q)));
    z = λ q e. members_has u q (h q (omega (arith, both q, bit_or_lem g.x g.z q, bit_lt g.x q, bit_lt (used_by gs) q)));
  },
  used_within u gs (λ q e. h q (omega (arith, both q, bit_lt (bit_or g.x g.z) q))),
)
  where
    both : (q : ℕ) → bit (bit_or (bit_or g.x g.z) (used_by gs)) q ≡ max (bit (bit_or g.x g.z) q) (bit (used_by gs) q)
    both q = bit_or_lem (bit_or g.x g.z) (used_by gs) q

pub used_least : (u : ℕ) (gs : List Pauli) → All (PauliOn (members u)) gs → (q : ℕ) → bit (used_by gs) q ≡ 1 → bit u q ≡ 1
unfolding used_by
used_least u [] h q e = absurd (omega (arith, bit_of_zero q))
used_least u (g ∷ gs) h q e =
    ⊎_elim (λ k. ⊎_elim (λ a. members_only u q (h.0.x q a)) (λ b. members_only u q (h.0.z q b)) (in_or g.x g.z q k)) (used_least u gs h.1 q)
    (in_or (bit_or g.x g.z) (used_by gs) q e)

pub support_on : (gs : List Pauli) → All (PauliOn (support_of gs)) gs
unfolding support_of
support_on gs = used_within (used_by gs) gs (λ q e. e)

pub indexed_on : (gs : List Pauli) (s : ℕ) → PauliOn (support_of gs) (indexed_product s gs)
indexed_on gs s = indexed_in (on_subgroup (support_of gs) 4) gs (support_on gs) s

pub generated_on : (gs : List Pauli) (p : Pauli) → Generated gs p → PauliOn (support_of gs) p
generated_on gs = generated_in (on_subgroup (support_of gs) 4) four gs (support_on gs)

-- two groups, each inside the other, use the same qubits
pub support_same : (gs hs : List Pauli) → Inside gs hs → Inside hs gs → support_of gs ≡ support_of hs
unfolding support_of Inside
support_same gs hs f g = ap members (ext_ones (used_by gs) (used_by hs) (used_in gs hs f) (used_in hs gs g))
  where
    used_in : (ps qs : List Pauli) → Inside ps qs → (q : ℕ) → bit (used_by ps) q ≡ 1 → bit (used_by qs) q ≡ 1
    used_in ps qs h = used_least (used_by qs) ps (all_map (generated_on qs) ps (all_inside ps qs h))
