-- The support of a list: it rises, and has exactly the numbers of the Paulis' sets.
use Rattle.std.proofs.Common.{◌≡◌, ℕ, ◌≤◌, List, [], ◌∷◌, ◌++◌, map, length, refl, ap, ⊎_elim, append_assoc}
use mathlib.Core.List.Memᴰ
use mathlib.Core.List.Memᴰ.{append_cases as in-append}
use mathlib.Core.List.Memᴰ.{head as here}
use mathlib.Core.List.Memᴰ.{not-nil as not-in-nil}
use mathlib.Core.List.Memᴰ.{tail as there}
use mathlib.Core.List.{Memᴰ as Mem}
use Rattle.pauli.specs.Roll.{Sparse, numbers, support, by_value}
use Rattle.pauli.specs.Support.{Rising}
use Rattle.pauli.proofs.support.SupportLaws.{Inside, rising_length, insert_all_rises, insert_all_has, in_insert_all}

pub numbers_append : (ps qs : List Sparse) → numbers (ps ++ qs) ≡ numbers ps ++ numbers qs
unfolding numbers
numbers_append [] qs = refl
numbers_append (p ∷ ps) qs = rw (numbers_append ps qs) (simp append_assoc)

-- a number is one of the Paulis' exactly when it is in a set of one of them
pub sets_in_numbers : (p : Sparse) (ps : List Sparse) → Mem p ps → Inside (p.xs ++ p.zs) (numbers ps)
unfolding numbers
sets_in_numbers p [] m q i = elim m [ ]
sets_in_numbers p (r ∷ ps) (here e) q i = Memᴰ.append_left (numbers ps) (rw e at i)
sets_in_numbers p (r ∷ ps) (there m) q i = Memᴰ.append_right (r.xs ++ r.zs) (sets_in_numbers p ps m q i)

pub in_numbers : (ps : List Sparse) (q : ℕ) → Mem q (numbers ps) → (p : Sparse) × Mem p ps × Mem q (p.xs ++ p.zs)
unfolding numbers
in_numbers [] q i = absurd (not-in-nil i)
in_numbers (p ∷ ps) q i =
    ⊎_elim (λ j. (p, here refl, j)) (λ j. let (r, m, k) = in_numbers ps q j in (r, there m, k)) (in-append (p.xs ++ p.zs) i)

pub support_rises : (ps : List Sparse) → Rising 0 (support ps)
unfolding support
support_rises ps = insert_all_rises (numbers ps) [] tt

pub support_has : (ps : List Sparse) → Inside (numbers ps) (support ps)
unfolding support
support_has ps = insert_all_has (numbers ps) []

pub support_only : (ps : List Sparse) → Inside (support ps) (numbers ps)
unfolding support
support_only ps q i = ⊎_elim (λ j. j) (λ j. absurd (not-in-nil j)) (in_insert_all (numbers ps) [] q i)

-- q is in the support exactly when it is in a set of one of the Paulis
pub sets_in_support : (p : Sparse) (ps : List Sparse) → Mem p ps → Inside (p.xs ++ p.zs) (support ps)
sets_in_support p ps m q i = support_has ps q (sets_in_numbers p ps m q i)

pub in_support : (ps : List Sparse) (q : ℕ) → Mem q (support ps) → (p : Sparse) × Mem p ps × Mem q (p.xs ++ p.zs)
in_support ps q i = in_numbers ps q (support_only ps q i)

-- a rising list of numbers of the Paulis is no longer than the support
pub rising_in_support : (least : ℕ) (l : List ℕ) (ps : List Sparse) → Rising least l → Inside l (numbers ps) → length l ≤ length (support ps)
rising_in_support least l ps h w = rising_length 0 least (support ps) l (support_rises ps) h (λ q i. support_has ps q (w q i))

pub support_length : (ps qs : List Sparse) → Inside (numbers ps) (numbers qs) → length (support ps) ≤ length (support qs)
support_length ps qs w = rising_in_support 0 (support ps) qs (support_rises ps) (λ q i. w q (support_only ps q i))

pub numbers_by_value : (ps : List Sparse) → numbers (map by_value ps) ≡ numbers ps
unfolding numbers by_value
numbers_by_value [] = refl
numbers_by_value (p ∷ ps) = ap (λ l. p.xs ++ p.zs ++ l) (numbers_by_value ps)

-- the support does not depend on the exponents
pub support_by_value : (ps : List Sparse) → support (map by_value ps) ≡ support ps
unfolding support
support_by_value ps = rw numbers_by_value
