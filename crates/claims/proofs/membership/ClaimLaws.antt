-- Laws of a claim of membership: its index set, and the comparison with the element.
use Rattle.std.proofs.Common.{◌≡◌, refl, sym, ap, ◌∙◌, subst, Bool, true, false, ◌&&◌, ◌==◌, eqb, eq-eqb, ne_eqb, eqb-true, List, length, get_or, drop, drop_of_length-le, ℕ, ◌+◌, ◌*◌, ◌%◌, ◌^◌, ◌<◌, ◌≤◌, arith}
use native.Mathlib.Decide.{ℕ_discrete}
use lib.Bits.{bit_or, or_zero_r}
use Rattle.pauli.specs.Condense.{condensed}
use Rattle.pauli.specs.Pauli.{Pauli, normal, turned, indexed_product}
use Rattle.pauli.specs.PauliTheorems.{On, PauliOn}
use Rattle.pauli.specs.Sets.{set_of, condense, expand}
use Rattle.pauli.specs.Roll.{Sparse}
use Rattle.pauli.specs.Signed.{held, list_in}
use Rattle.pauli.specs.Support.{Rising}
use Rattle.pauli.specs.declared.signed.Pauli.{Pauli as Held}
use Rattle.pauli.proofs.condense.Places.{expand_condense}
use Rattle.pauli.proofs.support.Lists.{drop_one}
use Rattle.pauli_theory.specs.Claims.{claimed, same_value, member_accepted}
use Rattle.pauli_theory.specs.Group.{Promise}
use Rattle.pauli_theory.specs.Standard.{support_of, phase_step}
use Rattle.pauli_theory.proofs.Placed.{condensed_indexed}
use Rattle.pauli_theory.proofs.Rows.{support_rises, support_on, indexed_on}
use Rattle.pauli_group.specs.Calls.{paulis}
use Rattle.pauli_group.specs.Inner.Area.{list_at}
use Rattle.pauli_group.specs.Inner.Groups.{Grouped, over_support}
use Rattle.pauli_group.proofs.group.GroupedLaws.{list_length}
use Rattle.pauli_group.proofs.source.SourceLaws.{Counted}
use Rattle.pauli_group.proofs.moved.MoveLaws.{or_assoc}

-- ---- the indexes from number i on are to be put into the set
module _ (is : List ℕ) (i set : ℕ) (left : bit_or set (set_of (drop i is)) ≡ set_of is) where
  pub all_put : length is ≤ i → set ≡ set_of is
  unfolding set_of
  all_put h = sym (or_zero_r set) ∙ ap (λ (l : List ℕ). bit_or set (set_of l)) (sym (drop_of_length-le is h)) ∙ left

  pub next_put : i < length is → (set' : ℕ) → set' ≡ bit_or set (2 ^ get_or is i 0) → bit_or set' (set_of (drop (i + 1) is)) ≡ set_of is
  unfolding set_of
  next_put h set' e =
      ap (λ (a : ℕ). bit_or a (set_of (drop (i + 1) is))) e ∙ or_assoc set (2 ^ get_or is i 0) (set_of (drop (i + 1) is))
      ∙ ap (λ (l : List ℕ). bit_or set (set_of l)) (drop_one is i 0 h) ∙ left

-- ---- equality by another one

same_test : (a b c d : ℕ) → (a ≡ b → c ≡ d) → (c ≡ d → a ≡ b) → eqb a b ≡ eqb c d
same_test a b c d there back =
    elim (ℕ_discrete a b) [
      | yes e ↦ eq-eqb a b e ∙ sym (eq-eqb c d (there e))
      | no n ↦ ne_eqb a b n ∙ sym (ne_eqb c d (λ e. n (back e)))
    ]

-- of two sets of two words each, the low ones a and c
module _ (a b c d : ℕ) (small : a < 2 ^ 64) (low : c < 2 ^ 64) where
  pub words_same : a ≡ c → eqb b d ≡ eqb (b * 2 ^ 64 + a) (d * 2 ^ 64 + c)
  words_same e = same_test b d _ _ (λ f. omega arith) (λ f. omega arith)

  pub words_other : (a ≡ c → ⊥) → eqb a c ≡ eqb (b * 2 ^ 64 + a) (d * 2 ^ 64 + c)
  words_other n = same_test a c _ _ (λ e. absurd (n e)) (λ f. omega arith)

-- of two sets on the qubits of a support, over its places
condense_test : (qs : List ℕ) → Rising 0 qs → (a b : ℕ) → On qs a → On qs b → eqb (condense qs a) (condense qs b) ≡ eqb a b
condense_test qs h a b on other =
    same_test _ _ a b (λ e. sym (expand_condense qs h a on) ∙ ap (expand qs) e ∙ expand_condense qs h b other) (λ e. ap (condense qs) e)

-- ---- i^k times q against p: the sum of the exponents is a byte
module _ (k sum : ℕ) (q p : Pauli) (e : sum ≡ (q.e + k) % 256) where
  value : (turned k q).e % 4 ≡ sum % 4
  unfolding turned
  value = omega arith

  pub turned_value : (sum % 4 ≡ p.e % 4 → ⊥) → false ≡ same_value (turned k q) p
  unfolding same_value
  turned_value n = sym (rw (ne_eqb ((turned k q).e % 4) (p.e % 4) (λ f. n (sym value ∙ f))))

  module _ (s : sum % 4 ≡ p.e % 4) where
    same : same_value (turned k q) p ≡ (q.x == p.x) && (q.z == p.z)
    unfolding same_value turned
    same = rw (eq-eqb ((turned k q).e % 4) (p.e % 4) (value ∙ s))

    pub turned_x : (q.x == p.x) ≡ false → false ≡ same_value (turned k q) p
    turned_x f = sym (same ∙ rw f)

    pub turned_z : (q.x == p.x) ≡ true → (q.z == p.z) ≡ same_value (turned k q) p
    turned_z f = sym (same ∙ rw f)

-- ---- the same over the places of a support, where q has its qubits
module _ (qs : List ℕ) (h : Rising 0 qs) (k : ℕ) (q p : Pauli) (on : PauliOn qs q) where
  pub same_off : (PauliOn qs p → ⊥) → false ≡ same_value (turned k q) p
  unfolding same_value turned
  same_off off = sym (ap (((k + q.e) % 4 % 4 == p.e % 4) &&◌) (sets (q.x == p.x) refl (q.z == p.z) refl) ∙ and_false ((k + q.e) % 4 % 4 == p.e % 4))
    where
      and_false : (a : Bool) → (a && false) ≡ false
      and_false true = refl
      and_false false = refl

      sets : (s : Bool) → (q.x == p.x) ≡ s → (t : Bool) → (q.z == p.z) ≡ t → ((q.x == p.x) && (q.z == p.z)) ≡ false
      sets true a true b = absurd (off (record { x = subst (On qs) (eqb-true q.x p.x a) on.x; z = subst (On qs) (eqb-true q.z p.z b) on.z }))
      sets true a false b = rw (a, b)
      sets false a t b = rw a

  pub same_on : PauliOn qs p → (q' : Pauli) → normal q' ≡ condensed qs q → same_value (turned k q') (condensed qs p) ≡ same_value (turned k q) p
  unfolding same_value turned normal condensed
  same_on other q' e =
      let value : q'.e % 4 ≡ q.e = ap (λ (r : Pauli). r.e) e in
      let x : q'.x ≡ condense qs q.x = ap (λ (r : Pauli). r.x) e in
      let z : q'.z ≡ condense qs q.z = ap (λ (r : Pauli). r.z) e in
      let sum : (k + q'.e) % 4 % 4 ≡ (k + q.e) % 4 % 4 = omega (arith, value) in
      rw (sum, x, z, condense_test qs h q.x p.x on.x other.x, condense_test qs h q.z p.z on.z other.z)

-- ---- by the group of a list in the area: what is told of the product over places is so of the product
module _ (ps : List Sparse) (n : ℕ) (e : Counted ps n) {known x : List ℕ} {places r total : ℕ} (G : Grouped (paulis ps) known x places r total) where
  abbrev gs : List Pauli
  gs = paulis ps

  placed : (set : ℕ) → indexed_product set (list_in x list_at n) ≡ condensed known (indexed_product set gs)
  unfolding over_support
  placed set =
      ap (λ (m : ℕ). indexed_product set (list_in x list_at m)) (sym (list_length ps n e)) ∙ ap (indexed_product set) G.list
      ∙ condensed_indexed (support_of gs) (support_rises gs) set gs (support_on gs)
      ∙ ap (λ (qs : List ℕ). condensed qs (indexed_product set gs)) (sym G.support)

  pub group_same : (set : ℕ) (h : Held) → normal (held h) ≡ indexed_product set (list_in x list_at n) → (k : ℕ) (p : Pauli) (same : Bool)
      → ((q : Pauli) → PauliOn known q → normal (held h) ≡ condensed known q → same ≡ same_value (turned k q) p)
      → same ≡ same_value (turned k (indexed_product set gs)) p
  group_same set h v k p same told = told (indexed_product set gs) (rw G.support (indexed_on gs set)) (v ∙ placed set)

-- ---- the two tests together
module _ (promise : Promise) (gs : List Pauli) (p : Pauli) (is : List ℕ) (k step : ℕ) (e : step ≡ phase_step promise gs) (same : Bool)
    (s : same ≡ same_value (turned k (indexed_product (set_of is) gs)) p) where
  pub accepted_same : same ≡ true → (k % step == 0) ≡ member_accepted promise gs p (record { indexes = is; exponent = k })
  unfolding member_accepted claimed
  accepted_same t = rw (e, ← s, t)

  pub accepted_other : same ≡ false → same ≡ member_accepted promise gs p (record { indexes = is; exponent = k })
  unfolding member_accepted claimed
  accepted_other f = rw (← s, f)
