-- The elements of a group: each is, up to a power of i^grade, the product of a set of generators, and of a set of the basis. So two
-- with the same sets of qubits agree up to a power of i^grade.
use mathlib.Core.Path.{◌≡◌, refl, sym, ap, ap₂, ◌∙◌}
use mathlib.Core.List.{List, map, map-map}
use Prim.Native.Nat.{ℕ, ◌%◌, ◌^◌, ◌<◌}
use native.Mathlib.Nat.{mod-lt}
use lib.ListN.{length, get_or, length-map}
use lib.Pow.{pow_pos, pow-lt}
use Rattle.binar.specs.Row.{◌⊕◌, row_sum}
use Rattle.binar.specs.Space.{Independent}
use Rattle.binar.proofs.row.Bits.{xor_self, xor_cancel, xor_lt}
use Rattle.binar.proofs.Lists.{all_of, all_by, map_same}
use Rattle.binar.proofs.echelon.Span.{row_sum_xor, row_sum_mod}
use Rattle.pauli.specs.Support.{All}
use Rattle.pauli.specs.Pauli.{Pauli, I, indexed_product}
use Rattle.pauli.specs.Sets.{row_of}
use Rattle.pauli.proofs.signed.Algebra.{times-I}
use Rattle.pauli_theory.specs.Group.{Generated}
use Rattle.pauli_theory.specs.Standard.{support_of, rank, exponent_mod}
use Rattle.pauli_theory.proofs.Agree.{Agree, agree_path, agree_flip, agree_join, agree_normal, agree_times, agree_exponent_mod, Subgroup, indexed_in}
use Rattle.pauli_theory.proofs.Group.{generated_in, generated_subgroup}
use Rattle.pauli_theory.proofs.Products.{indexed_zero, indexed_unit, indexed_times}
use Rattle.pauli_theory.proofs.Rows.{row_agree, row_indexed, row_sets, generated_row, support_rises, generated_on}
use Rattle.pauli_theory.proofs.Pivots.{pivot_products, pivots_count, pivots_free, pivots_span}
use Rattle.pauli_theory.proofs.Grade.{grade, grade_divisor, grade_covers, grade_power, kernel, pivots_in}

-- p is a product of a set of the Paulis hs, up to a power of i^m
pub record OfSet (m : ℕ) (hs : List Pauli) (p : Pauli) : Type 0 where
  pub set : ℕ
  pub within : set < 2 ^ length hs
  pub agrees : Agree m (indexed_product set hs) p

-- ---- sets of generators
module _ (gs : List Pauli) where
  sets_subgroup : Subgroup (grade gs) (OfSet (grade gs) gs)
  sets_subgroup = let d = grade_divisor gs in record {
    agrees = λ p q a h. record { set = h.set; within = h.within; agrees = agree_join h.agrees a };
    unit = record { set = 0; within = pow_pos (length gs); agrees = agree_path (grade gs) (indexed_zero gs) };
    products = λ p q h k. record {
      set = h.set ⊕ k.set;
      within = xor_lt (length gs) h.set k.set h.within k.within;
      agrees = agree_join (agree_flip (indexed_times d gs (grade_covers gs) h.set k.set)) (agree_times d h.agrees k.agrees);
    };
  }

  generators_of_sets : All (OfSet (grade gs) gs) gs
  generators_of_sets = all_by (OfSet (grade gs) gs) gs I λ i l. record {
    set = 2 ^ i;
    within = pow-lt l;
    agrees = agree_join (agree_path (grade gs) (indexed_unit i gs)) (agree_normal (get_or gs i I) (grade_divisor gs));
  }

  pub of_generators : (p : Pauli) → Generated gs p → OfSet (grade gs) gs p
  of_generators = generated_in sets_subgroup (grade_divisor gs) gs generators_of_sets

  -- sets whose products have the same row
  sets_agree : (s t : ℕ) → s < 2 ^ length gs → t < 2 ^ length gs → row_of (support_of gs) (indexed_product s gs) ≡ row_of (support_of gs) (indexed_product t gs)
      → Agree (grade gs) (indexed_product s gs) (indexed_product t gs)
  sets_agree s t ls lt e =
      let qs = support_of gs in
      let d = grade_divisor gs in
      let p = indexed_product s gs in
      let cancel : row_sum (s ⊕ t) (map (row_of qs) gs) ≡ 0 =
      row_sum_xor (map (row_of qs) gs) s t ∙ ap₂ ◌⊕◌ (sym (row_indexed qs s gs) ∙ e) (sym (row_indexed qs t gs)) ∙ xor_self (row_of qs (indexed_product t gs)) in
      agree_flip (agree_join (agree_path (grade gs) (ap (λ (u : ℕ). indexed_product u gs) (sym (xor_cancel s t))))
      (agree_join (agree_flip (indexed_times d gs (grade_covers gs) s (s ⊕ t)))
      (agree_join (agree_times d (agree_path (grade gs) refl) (kernel gs (s ⊕ t) (xor_lt (length gs) s t ls lt) cancel))
      (agree_join (agree_path (grade gs) (times-I p)) (agree_normal p d)))))

  pub same_sets : (p q : Pauli) → Generated gs p → Generated gs q → Agree 1 p q → Agree (grade gs) p q
  same_sets p q a b h =
      let qs = support_of gs in
      let f = of_generators p a in
      let g = of_generators q b in
      agree_join (agree_flip f.agrees)
      (agree_join (sets_agree f.set g.set f.within g.within (row_agree qs f.agrees ∙ row_agree qs h ∙ sym (row_agree qs g.agrees))) g.agrees)

-- ---- the basis: the products beside the pivot rows, their exponents below the grade
unfoldable pub basis : List Pauli → List Pauli
basis gs = map (exponent_mod (grade gs)) (pivot_products gs)

module _ (gs : List Pauli) where
  pub basis_count : length (basis gs) ≡ rank gs
  unfolding basis
  basis_count = length-map (pivot_products gs) (exponent_mod (grade gs)) ∙ pivots_count gs

  pub basis_in : All (Generated gs) (basis gs)
  unfolding basis
  basis_in = pivots_in gs (grade_divisor gs) (grade_power gs)

  pub basis_products_in : (s : ℕ) → Generated gs (indexed_product s (basis gs))
  basis_products_in = indexed_in (generated_subgroup gs) (basis gs) basis_in

  pub basis_rows : map (row_of (support_of gs)) (basis gs) ≡ map (row_of (support_of gs)) (pivot_products gs)
  unfolding basis
  basis_rows =
      let qs = support_of gs in
      map-map (row_of qs) (exponent_mod (grade gs)) (pivot_products gs)
      ∙ map_same (λ p. row_of qs (exponent_mod (grade gs) p)) (row_of qs) (pivot_products gs)
      (all_of (λ p. row_agree qs (agree_exponent_mod p (grade_divisor gs))) (pivot_products gs))

  pub basis_free : Independent (map (row_of (support_of gs)) (basis gs))
  basis_free = rw basis_rows (pivots_free gs)

  pub of_basis : (p : Pauli) → Generated gs p → OfSet (grade gs) (basis gs) p
  of_basis p a =
      let qs = support_of gs in
      let B = map (row_of qs) (basis gs) in
      let w = pivots_span gs (row_of qs p) (generated_row qs gs p a) in
      let s : ℕ = w.subset % 2 ^ length (basis gs) in
      let q = indexed_product s (basis gs) in
      let e : row_of qs q ≡ row_of qs p =
      row_indexed qs s (basis gs) ∙ ap (λ (n : ℕ). row_sum (w.subset % 2 ^ n) B) (sym (length-map (basis gs) (row_of qs))) ∙ row_sum_mod w.subset B
      ∙ ap (row_sum w.subset) basis_rows ∙ w.sums in
      record {
        set = s;
        within = mod-lt w.subset (pow_pos (length (basis gs)));
        agrees = same_sets gs q p (basis_products_in s) a (row_sets qs (support_rises gs) (generated_on gs q (basis_products_in s)) (generated_on gs p a) e);
      }
