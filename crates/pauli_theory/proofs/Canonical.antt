-- Two lists have the same standard generators exactly when they generate the same group.
use mathlib.Core.Path.{◌≡◌, refl, sym, ap₂, ◌∙◌}
use mathlib.Core.List.{List, [], ◌∷◌, map}
use Prim.Native.Nat.{ℕ, ◌*◌, ◌%◌, ◌≤◌, ◌<◌}
use native.Mathlib.Nat.{mod-eq_of_lt}
use native.Mathlib.Decide.{dec_lt}
use native.Mathlib.Omega.{arith}
use lib.ListN.{length, take}
use Rattle.binar.specs.Echelon.{echelon, R, rank as echelon_rank}
use Rattle.binar.specs.Space.{RowSpace, SameSpace}
use Rattle.binar.proofs.Lists.{all_map, all_zip, all_over}
use Rattle.binar.proofs.echelon.Span.{same_space}
use Rattle.binar.proofs.matrix_form.Theorems.{unique_law}
use Rattle.pauli.specs.Support.{All}
use Rattle.pauli.specs.Pauli.{Pauli}
use Rattle.pauli.specs.Sets.{row_of}
use Rattle.pauli.proofs.signed.Algebra.{pauli_path}
use Rattle.pauli_theory.specs.Group.{Generated, Inside}
use Rattle.pauli_theory.specs.Standard.{support_of, form_of, standard}
use Rattle.pauli_theory.specs.Theorems.{CanonicalLaw}
use Rattle.pauli_theory.proofs.Agree.{divisor_positive}
use Rattle.pauli_theory.proofs.Group.{all_inside, inside_join}
use Rattle.pauli_theory.proofs.Form.{pivot_rows_lem}
use Rattle.pauli_theory.proofs.Spaces.{columns_narrow}
use Rattle.pauli_theory.proofs.Rows.{row_sets, rows_narrow, generated_row, support_rises, generated_on, support_same}
use Rattle.pauli_theory.proofs.Pivots.{pivot_rows_of_lem}
use Rattle.pauli_theory.proofs.Grade.{grade, grade_divisor, grade_power}
use Rattle.pauli_theory.proofs.Elements.{same_sets, basis, basis_in, basis_rows}
use Rattle.pauli_theory.proofs.Standard.{completed, standard_is, standard_inside, inside_standard}
use Rattle.pauli_theory.proofs.StandardLaw.{basis_low}
use Rattle.pauli_theory.proofs.Phases.{power_divided}

-- ---- the grade
multiple_le : (m n : ℕ) → 0 < m → m % n ≡ 0 → n ≤ m
multiple_le m n l h = elim (dec_lt m n) [ yes k ↦ absurd (omega (arith, mod-eq_of_lt k)) | no k ↦ omega arith ]

-- a larger group has more powers of i, so a grade that divides the smaller one's
pub grade_le : (gs hs : List Pauli) → Inside gs hs → grade hs ≤ grade gs
unfolding Inside
grade_le gs hs f = multiple_le (grade gs) (grade hs) (divisor_positive (grade_divisor gs)) (power_divided hs (grade gs) (f _ (grade_power gs)))

-- ---- the rows of the basis
spaces_same : (qs : List ℕ) (gs hs : List Pauli) → Inside gs hs → Inside hs gs → SameSpace (map (row_of qs) gs) (map (row_of qs) hs)
spaces_same qs gs hs f g = same_space (rows_in gs hs f) (rows_in hs gs g)
  where
    rows_in : (ps ks : List Pauli) → Inside ps ks → All (RowSpace (map (row_of qs) ks)) (map (row_of qs) ps)
    rows_in ps ks h = all_over (RowSpace (map (row_of qs) ks)) (row_of qs) ps (all_map (generated_row qs ks) ps (all_inside ps ks h))

-- the nonzero rows of R, for a list ps over the places of qs
pivot_rows : List ℕ → List Pauli → List ℕ
pivot_rows qs ps = let f = echelon (2 * length qs) (map (row_of qs) ps) in take (echelon_rank f) (R f)

basis_rows_are : (gs : List Pauli) → map (row_of (support_of gs)) (basis gs) ≡ pivot_rows (support_of gs) gs
unfolding pivot_rows form_of
basis_rows_are gs = basis_rows gs ∙ pivot_rows_of_lem gs ∙ pivot_rows_lem (2 * length (support_of gs)) (map (row_of (support_of gs)) gs)

pivot_rows_same : (qs : List ℕ) (gs hs : List Pauli) → Inside gs hs → Inside hs gs → pivot_rows qs gs ≡ pivot_rows qs hs
unfolding pivot_rows
pivot_rows_same qs gs hs f g =
    let c = 2 * length qs in
    let A = map (row_of qs) gs in
    let B = map (row_of qs) hs in
    ((unique_law c).echelons A B (rw (columns_narrow c A (rows_narrow qs gs), columns_narrow c B (rows_narrow qs hs)) (spaces_same qs gs hs f g))).1

-- ---- the basis
-- an element whose exponent is below the grade
record Representative (gs : List Pauli) (p : Pauli) : Type 0 where
  in_group : Generated gs p
  low : p.e < grade gs

module _ (gs : List Pauli) where
  -- its row determines it
  representative_same : (p q : Pauli) → Representative gs p → Representative gs q → row_of (support_of gs) p ≡ row_of (support_of gs) q → p ≡ q
  representative_same p q a b e =
      let s = row_sets (support_of gs) (support_rises gs) (generated_on gs p a.in_group) (generated_on gs q b.in_group) e in
      let h = same_sets gs p q a.in_group b.in_group s in
      pauli_path (sym (mod-eq_of_lt a.low) ∙ h.phase ∙ mod-eq_of_lt b.low) h.x h.z

  representatives_same : (ps qs : List Pauli) → All (Representative gs) ps → All (Representative gs) qs → map (row_of (support_of gs)) ps ≡ map (row_of (support_of gs)) qs → ps ≡ qs
  representatives_same [] [] a b e = refl
  representatives_same [] (q ∷ qs) a b e = let z : ◌≡◌ {A = ℕ} 0 1 = cc in absurd (omega arith)
  representatives_same (p ∷ ps) [] a b e = let z : ◌≡◌ {A = ℕ} 0 1 = cc in absurd (omega arith)
  representatives_same (p ∷ ps) (q ∷ qs) a b e = ap₂ ◌∷◌ (representative_same p q a.0 b.0 cc) (representatives_same ps qs a.1 b.1 cc)

module _ (gs hs : List Pauli) (f : Inside gs hs) (g : Inside hs gs) where
  pub grade_same : grade gs ≡ grade hs
  grade_same = omega (arith, grade_le gs hs f, grade_le hs gs g)

  basis_same : basis gs ≡ basis hs
  unfolding Inside
  basis_same =
      representatives_same gs (basis gs) (basis hs)
      (all_zip (λ p a l. record { in_group = a; low = l }) (basis gs) (basis_in gs) (basis_low gs))
      (all_zip (λ p a l. record { in_group = g p a; low = rw grade_same l }) (basis hs) (basis_in hs) (basis_low hs))
      (basis_rows_are gs ∙ pivot_rows_same (support_of gs) gs hs f g
      ∙ rw (support_same gs hs f g) (sym (basis_rows_are hs)))

  standard_same : standard gs ≡ standard hs
  standard_same = standard_is gs ∙ ap₂ completed grade_same basis_same ∙ sym (standard_is hs)

inside_by_standard : (gs hs : List Pauli) → standard gs ≡ standard hs → Inside gs hs
inside_by_standard gs hs e = inside_join gs (standard gs) hs (inside_standard gs) (rw e (standard_inside hs))

pub canonical_law : (gs hs : List Pauli) → CanonicalLaw gs hs
canonical_law gs hs = record {
  same_standard = λ s. standard_same gs hs s.there s.back;
  same_group = λ e. record { there = inside_by_standard gs hs e; back = inside_by_standard hs gs (sym e) };
}
