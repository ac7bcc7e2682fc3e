-- The list's qubits that are not named, the named qubits that it does not use, and how many qubits there are in all.
use Rattle.std.proofs.Common.{◌≡◌, refl, sym, ap, ◌∙◌, subst, ⊎_elim, List, [], ◌∷◌, length, ℕ, zero, suc, ◌+◌, ◌*◌, ◌^◌, arith}
use mathlib.Core.List.Memᴰ.{head as here}
use mathlib.Core.List.Memᴰ.{tail as there}
use mathlib.Core.List.Memᴰ.{cases_cons as in_cons}
use mathlib.Core.List.{Memᴰ as Mem}
use native.Mathlib.Decide.{ℕ_discrete}
use Rattle.binar.specs.Row.{◌⊕◌, bit}
use Rattle.binar.specs.Kernel.{without}
use Rattle.binar.proofs.row.Bits.{bit_lt, bit_xor, no_bits, xors}
use Rattle.binar.proofs.row.Units.{bit_unit, bit_unit_other}
use Rattle.binar.proofs.Lists.{all_map, all_over, all_under}
use Rattle.binar.proofs.echelon.Span.{Subspace}
use Rattle.binar.proofs.Without.{Apart, without_cases, without_all, without_cover}
use Rattle.pauli.specs.Support.{All, Rising, insert, insert_all}
use Rattle.pauli.specs.Known.{place_of}
use Rattle.pauli.specs.Pauli.{Pauli}
use Rattle.pauli.specs.PauliTheorems.{On}
use Rattle.pauli.proofs.support.Lists.{all_in, all_mem, in_get_or}
use Rattle.pauli.proofs.support.SupportLaws.{rising_least, insert_rises, insert_keeps, in_insert, insert_known, insert_new}
use Rattle.pauli_theory.specs.Centralizer.{unnamed, x_on, z_on, x_and_z}

-- ---- a member of a list, or none
pub apart_not : (qs : List ℕ) (q : ℕ) → Apart qs q → Mem q qs → ⊥
apart_not qs q a m = all_mem (λ r. q ≡ r → ⊥) qs a q m refl

pub member_or : (qs : List ℕ) (q : ℕ) {X : Type 0} → (Mem q qs → X) → (Apart qs q → X) → X
member_or [] q f g = g tt
member_or (r ∷ qs) q f g = elim (ℕ_discrete q r) [ yes e ↦ f (here e) | no d ↦ member_or qs q (λ m. f (there m)) (λ a. g (d, a)) ]

-- a set on qs has no one at a qubit that is none of them
pub off : (qs : List ℕ) (v q : ℕ) → On qs v → Apart qs q → bit v q ≡ 0
off qs v q on a = go (bit v q) refl
  where
    go : (d : ℕ) → bit v q ≡ d → bit v q ≡ 0
    go zero e = e
    go (suc d) e = absurd (apart_not qs q a (on q (omega (arith, bit_lt v q))))

-- ---- a list without those that are excluded
module _ (excluded : List ℕ) where
  -- what holds of the members that are not excluded
  pub without_each : (Q : ℕ → Type 0) (qs : List ℕ) → ((q : ℕ) → Mem q qs → Apart excluded q → Q q) → All Q (without excluded qs)
  without_each Q qs h = without_all excluded Q qs (all_in (λ q. Apart excluded q → Q q) qs h)

  pub without_at : (Q : ℕ → Type 0) (qs : List ℕ) → All Q (without excluded qs) → (q : ℕ) → Mem q qs → Apart excluded q → Q q
  without_at Q qs h =
      let P : ℕ → Type 0 = λ q. Apart excluded q → Q q in
      all_mem P qs
      (without_cover excluded P qs (all_in P excluded λ q m a. absurd (apart_not excluded q a m)) (all_map (λ q k a. k) (without excluded qs) h))

  pub without_has : (qs : List ℕ) (q : ℕ) → Mem q qs → Apart excluded q → Mem q (without excluded qs)
  without_has qs q m a =
      let kept = without excluded qs in
      without_at (λ r. Mem r kept) qs (all_in (λ r. Mem r kept) kept λ r k. k) q m a

-- ---- the places of the qubits that are not named
module _ (named qs : List ℕ) (Q : ℕ → Type 0) where
  pub unnamed_each : ((q : ℕ) → Mem q qs → Apart named q → Q (place_of qs q)) → All Q (unnamed named qs)
  unfolding unnamed
  unnamed_each h = all_over Q (place_of qs) (without named qs) (without_each named (λ q. Q (place_of qs q)) qs h)

  pub unnamed_at : All Q (unnamed named qs) → (q : ℕ) → Mem q qs → Apart named q → Q (place_of qs q)
  unfolding unnamed
  unnamed_at h = without_at named (λ q. Q (place_of qs q)) qs (all_under Q (place_of qs) (without named qs) h)

-- ---- X and Z on each qubit
pub x_and_z_length : (qs : List ℕ) → length (x_and_z qs) ≡ 2 * length qs
unfolding x_and_z
x_and_z_length [] = refl
x_and_z_length (q ∷ qs) = omega (arith, x_and_z_length qs)

pub x_and_z_all : (Q : Pauli → Type 0) (qs : List ℕ) → All (λ q. Q (x_on q) × Q (z_on q)) qs → All Q (x_and_z qs)
unfolding x_and_z
x_and_z_all Q [] h = tt
x_and_z_all Q (q ∷ qs) h = (h.0.0, (h.0.1, x_and_z_all Q qs h.1))

pub x_and_z_each : (Q : Pauli → Type 0) (qs : List ℕ) → All Q (x_and_z qs) → All (λ q. Q (x_on q) × Q (z_on q)) qs
unfolding x_and_z
x_and_z_each Q [] h = tt
x_and_z_each Q (q ∷ qs) h = ((h.0, h.1.0), x_and_z_each Q qs h.1.1)

-- ---- a subspace that has the sets of one member has all sets of such members
pub sets_in : {P : ℕ → Type 0} → Subspace P → (qs : List ℕ) → All (λ q. P (2 ^ q)) qs → (v : ℕ) → On qs v → P v
sets_in {P} S [] h v on = subst P (sym (no_bits v λ q. off [] v q on tt)) S.origin
sets_in {P} S (q ∷ qs) h v on = go (bit v q) refl (sets_in S qs h.1)
  where
    -- a set with no other members, and without q
    rest : (w : ℕ) → bit w q ≡ 0 → ((r : ℕ) → (r ≡ q → ⊥) → bit w r ≡ bit v r) → On qs w
    rest w z f r e =
        let n : r ≡ q → ⊥ = λ d. omega (arith, ap (bit w) d) in
        ⊎_elim (λ d. absurd (n d)) (λ m. m) (in_cons (on r (sym (f r n) ∙ e)))

    go : (d : ℕ) → bit v q ≡ d → ((w : ℕ) → On qs w → P w) → P v
    go zero e more = more v (rest v e (λ r n. refl))
    go (suc d) e more =
        let w = v ⊕ 2 ^ q in
        let less : On qs w = rest w (bit_xor v (2 ^ q) q ∙ omega (arith, bit_unit q, bit_lt v q))
        (λ r n. bit_xor v (2 ^ q) r ∙ omega (arith, bit_unit_other q r n, bit_lt v r)) in
        subst P (simp xors) (S.sum w (2 ^ q) (more w less) h.0)

-- ---- how many qubits there are in all
-- lists that have the same of the numbers xs exclude the same of them
without_same : (a b xs : List ℕ) → All (λ x. (Mem x a → Mem x b) × (Mem x b → Mem x a)) xs → without a xs ≡ without b xs
unfolding without
without_same a b [] h = refl
without_same a b (x ∷ xs) h =
    let more = without_same a b xs h.1 in
    without_cases a (λ l. l ≡ without b (x ∷ xs)) x xs
    (λ i l e. without_cases b (λ m. without a xs ≡ m) x xs (λ j k d. more) (λ n. absurd (apart_not b x n (h.0.0 (subst (λ t. Mem t a) e (in_get_or a i 0 l))))))
    (λ n. without_cases b (λ m. x ∷ without a xs ≡ m) x xs (λ j k d. absurd (apart_not a x n (h.0.1 (subst (λ t. Mem t b) d (in_get_or b j 0 k))))) (λ o. ap (x ∷◌) more))

without_insert : (q : ℕ) (known qs : List ℕ) → Rising (suc q) qs → without (insert q known) qs ≡ without known qs
without_insert q known qs h =
    without_same (insert q known) known qs
    (all_in _ qs λ r m. (λ k. ⊎_elim (λ d. absurd (omega (arith, rising_least (suc q) qs h m))) (λ o. o) (in_insert q known k), insert_keeps q known r))

pub joined_length : (least : ℕ) (qs known : List ℕ) → Rising least qs → Rising 0 known → length (insert_all qs known) ≡ length known + length (without known qs)
unfolding insert_all without
joined_length least [] known h k = omega arith
joined_length least (q ∷ qs) known h k =
    without_cases known (λ l. length (insert_all qs (insert q known)) ≡ length known + length l) q qs
    (λ i l e. let m : Mem q known = subst (λ t. Mem t known) e (in_get_or known i 0 l) in
    ap (λ l. length (insert_all qs l)) (insert_known 0 q known k m) ∙ joined_length (suc q) qs known h.1 k)
    (λ n. omega (
      arith,
      joined_length (suc q) qs (insert q known) h.1 (insert_rises 0 q known (omega arith) k),
      insert_new q known (apart_not known q n),
      ap length (without_insert q known qs h.1),
    ))
