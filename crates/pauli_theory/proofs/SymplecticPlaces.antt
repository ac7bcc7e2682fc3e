-- Symplectic pairing of lists that are alike: it looks only at commutation and multiplies; so it goes by values, and over the
-- places of a support it gives the Paulis of the list over places.
use mathlib.Core.Path.{◌≡◌, refl, sym, ap, ap₂, ◌∙◌}
use mathlib.Core.List.{List, [], ◌∷◌, ◌++◌, map, map-map}
use mathlib.Core.Option.{Option, some, none}
use Prim.Native.Nat.{ℕ, zero, suc, ◌-◌, ◌^◌, ◌<◌}
use native.Mathlib.Nat.{mod-mod}
use native.Mathlib.Omega.{arith}
use lib.ListN.{length, get_or, set, take, drop}
use Rattle.binar.specs.Row.{if_bit}
use Rattle.binar.proofs.Lists.{all_of, all_over, map_same}
use Rattle.pauli.specs.Roll.{Sparse, encode, write}
use Rattle.pauli.specs.Support.{All, Rising}
use Rattle.pauli.specs.Pauli.{Pauli, I, normal, Same, times, anticommute, select}
use Rattle.pauli.specs.PauliTheorems.{PauliOn}
use Rattle.pauli.specs.Condense.{condensed}
use Rattle.pauli.specs.Writing.{sparse_over, roll_over, OnPlaces}
use Rattle.pauli.specs.Sets.{sparse_of}
use Rattle.pauli.proofs.signed.Algebra.{pauli_path, normal_same, times_same}
use Rattle.pauli.proofs.condense.Places.{condense_lt}
use Rattle.pauli.proofs.condense.Rows.{on-I, on_times}
use Rattle.pauli.proofs.write.Condensed.{condensed_times, condensed_anticommute}
use Rattle.pauli_theory.specs.Standard.{support_of}
use Rattle.pauli_theory.specs.Symplectic.{position, swap_remove, times_if, cleared, on_position, paired_from, symplectic_form}
use Rattle.pauli_theory.proofs.Rows.{support_rises, support_on}
use Rattle.pauli_theory.proofs.Symplectic.{symplectic_law}
use Rattle.pauli_theory.proofs.Placed.{condensed-I}
use Rattle.pauli_theory.proofs.OverPlaces.{placed}
use Rattle.pauli_theory.proofs.Written.{written_over}

-- ---- two lists of one length whose elements are in a relation, index by index
pub data Each (R : Pauli → Pauli → Type 0) : List Pauli → List Pauli → Type 0 where
  end : Each R [] []
  next : {p q : Pauli} {ps qs : List Pauli} → R p q → Each R ps qs → Each R (p ∷ ps) (q ∷ qs)

-- ---- a relation that commutation and products keep
pub record Kept (R : Pauli → Pauli → Type 0) : Type 0 where
  pub identity : R I I
  pub commutation : (p p' q q' : Pauli) → R p p' → R q q' → anticommute p q ≡ anticommute p' q'
  pub products : (p p' q q' : Pauli) → R p p' → R q q' → R (times p q) (times p' q')

module _ (R : Pauli → Pauli → Type 0) where
  each_length : {ps qs : List Pauli} → Each R ps qs → length ps ≡ length qs
  each_length end = refl
  each_length (next r h) = ap suc (each_length h)

  each_take : (n : ℕ) {ps qs : List Pauli} → Each R ps qs → Each R (take n ps) (take n qs)
  each_take zero h = end
  each_take (suc n) end = end
  each_take (suc n) (next r h) = next r (each_take n h)

  each_drop : (n : ℕ) {ps qs : List Pauli} → Each R ps qs → Each R (drop n ps) (drop n qs)
  each_drop zero h = h
  each_drop (suc n) end = end
  each_drop (suc n) (next r h) = each_drop n h

  each_get_or : {d : Pauli} {ps qs : List Pauli} → R d d → Each R ps qs → (i : ℕ) → R (get_or ps i d) (get_or qs i d)
  each_get_or a end i = a
  each_get_or a (next r h) zero = r
  each_get_or a (next r h) (suc i) = each_get_or a h i

  each_set : {a b : Pauli} {ps qs : List Pauli} → R a b → Each R ps qs → (i : ℕ) → Each R (set ps i a) (set qs i b)
  each_set s end i = end
  each_set s (next r h) zero = next s h
  each_set s (next r h) (suc i) = next r (each_set s h i)

  each_join : {ps qs rs ss : List Pauli} → Each R ps qs → Each R rs ss → Each R (ps ++ rs) (qs ++ ss)
  each_join end k = k
  each_join (next r h) k = next r (each_join h k)

  each_over : {f g : Pauli → Pauli} → ((p q : Pauli) → R p q → R (f p) (g q)) → {ps qs : List Pauli} → Each R ps qs
      → Each R (map f ps) (map g qs)
  each_over k end = end
  each_over k (next {p} {q} r h) = next (k p q r) (each_over k h)

  module _ (K : Kept R) where
    position_each : {x x' : Pauli} → R x x' → (i : ℕ) {gs gs' : List Pauli} → Each R gs gs' → position x i gs ≡ position x' i gs'
    unfolding position
    position_each r i end = refl
    position_each {x} {x'} r i (next {p} {q} s h) =
        ap₂ (λ (d : ℕ) (o : Option ℕ). if_bit d (some i) o) (K.commutation x x' p q r s) (position_each r (suc i) h)

    removed_each : (k : ℕ) {gs gs' : List Pauli} → Each R gs gs' → Each R (swap_remove k gs) (swap_remove k gs')
    unfolding swap_remove
    removed_each k {gs} h =
        rw (← each_length h) (each_take (length gs - 1) (each_set (each_get_or K.identity h (length gs - 1)) h k))

    if_bit_each : (d : ℕ) {a a' b b' : Pauli} → R a a' → R b b' → R (if_bit d a b) (if_bit d a' b')
    unfolding if_bit
    if_bit_each zero r s = s
    if_bit_each (suc d) r s = r

    times_if_each : {p p' q q' : Pauli} → R p p' → R q q' → (g g' : Pauli) → R g g' → R (times_if p q g) (times_if p' q' g')
    unfolding times_if
    times_if_each {p} {p'} {q} {q'} r s g g' t =
        rw (← K.commutation g g' p p' t r) (if_bit_each (anticommute g p) (K.products g g' q q' t s) t)

    cleared_each : (k : ℕ) {x x' z z' : Pauli} → R x x' → R z z' → {gs gs' : List Pauli} → Each R gs gs'
        → Each R (cleared k x z gs) (cleared k x' z' gs')
    unfolding cleared
    cleared_each k {x} {x'} {z} {z'} r s h =
        each_join (each_over (times_if_each s r) (each_take k h))
        (each_over (λ g g' t. times_if_each s r (times_if x z g) (times_if x' z' g') (times_if_each r s g g' t)) (each_drop k h))

    on_position_each : (o : Option ℕ) {a a' : List Pauli} {f f' : ℕ → List Pauli} → Each R a a' → ((k : ℕ) → Each R (f k) (f' k))
        → Each R (on_position o a f) (on_position o a' f')
    unfolding on_position
    on_position_each none h k = h
    on_position_each (some i) h k = k i

    -- the pairing of lists in the relation is in the relation
    pub paired_each : (n : ℕ) {gs gs' c c' d d' : List Pauli} → Each R gs gs' → Each R c c' → Each R d d'
        → Each R (paired_from n gs c d) (paired_from n gs' c' d')
    unfolding paired_from
    paired_each zero h u v = each_join u v
    paired_each (suc n) end u v = each_join u v
    paired_each (suc n) (next {p} {q} {ps} {qs} t h) u v =
        let m = length ps in
        let rest = take m (p ∷ ps) in
        let rest' = take m (q ∷ qs) in
        let r : R (get_or (p ∷ ps) m I) (get_or (q ∷ qs) m I) = each_get_or K.identity (next t h) m in
        let hr : Each R rest rest' = each_take m (next t h) in
        rw (← each_length h, ← position_each r 0 hr)
        (on_position_each (position (get_or (p ∷ ps) m I) 0 rest) (paired_each n hr u (each_join v (next r end)))
        (λ k.
        let s : R (get_or rest k I) (get_or rest' k I) = each_get_or K.identity hr k in
        paired_each n (cleared_each k r s (removed_each k hr)) (each_join u (next r (next s end))) v))

    pub symplectic_each : {gs gs' : List Pauli} → Each R gs gs' → Each R (symplectic_form gs) (symplectic_form gs')
    unfolding symplectic_form
    symplectic_each {gs} h = rw (← each_length h) (paired_each (length gs) h end end)

-- equal maps, index by index
module _ (f g : Pauli → Pauli) where
  maps_each : (ps qs : List Pauli) → map f ps ≡ map g qs → Each (λ p q. f p ≡ g q) ps qs
  maps_each [] [] e = end
  maps_each [] (q ∷ qs) e = absurd (omega (arith, ap length e))
  maps_each (p ∷ ps) [] e = absurd (omega (arith, ap length e))
  maps_each (p ∷ ps) (q ∷ qs) e = next {p = p} {q = q} (cc) (maps_each ps qs (cc))

  each_maps : {ps qs : List Pauli} → Each (λ p q. f p ≡ g q) ps qs → map f ps ≡ map g qs
  each_maps end = refl
  each_maps (next r h) = ap₂ ◌∷◌ r (each_maps h)

-- ---- by value
abbrev Alike : Pauli → Pauli → Type 0
Alike p q = normal p ≡ normal q

anticommute_same : (p p' q q' : Pauli) → Same p p' → Same q q' → anticommute p q ≡ anticommute p' q'
unfolding anticommute
anticommute_same p p' q q' h k = rw (h.x, h.z, k.x, k.z) refl

alike_kept : Kept Alike
alike_kept =
    record {
      identity = refl;
      commutation = λ p p' q q' r s. anticommute_same p p' q q' (normal_same p p' r) (normal_same q q' s);
      products = λ p p' q q' r s. ap normal (times_same p q p' q' (normal_same p p' r) (normal_same q q' s));
    }

pub paired_alike : (n : ℕ) (gs gs' c c' d d' : List Pauli) → map normal gs ≡ map normal gs' → map normal c ≡ map normal c'
    → map normal d ≡ map normal d' → map normal (paired_from n gs c d) ≡ map normal (paired_from n gs' c' d')
paired_alike n gs gs' c c' d d' h u v =
    each_maps normal normal
    (paired_each Alike alike_kept n (maps_each normal normal gs gs' h) (maps_each normal normal c c' u) (maps_each normal normal d d' v))

pub symplectic_alike : (gs gs' : List Pauli) → map normal gs ≡ map normal gs'
    → map normal (symplectic_form gs) ≡ map normal (symplectic_form gs')
symplectic_alike gs gs' h = each_maps normal normal (symplectic_each Alike alike_kept (maps_each normal normal gs gs' h))

-- ---- over places
module _ (qs : List ℕ) (rises : Rising 0 qs) where
  -- q is the Pauli p on qs, over their places
  abbrev Over : Pauli → Pauli → Type 0
  Over p q = PauliOn qs p × (q ≡ condensed qs p)

  over_kept : Kept Over
  over_kept =
      record {
        identity = (on-I qs, sym (condensed-I qs));
        commutation = λ p p' q q' r s. sym (ap₂ anticommute r.1 s.1 ∙ condensed_anticommute qs rises p q r.0);
        products = λ p p' q q' r s. (
          on_times qs p q r.0 s.0,
          ap₂ times r.1 s.1 ∙ condensed_times qs rises p q r.0,
        );
      }

  each_condensed : (ps : List Pauli) → All (PauliOn qs) ps → Each Over ps (map (condensed qs) ps)
  each_condensed [] on = end
  each_condensed (p ∷ ps) on = next (on.0, refl) (each_condensed ps on.1)

  condensed_each : {ps rs : List Pauli} → Each Over ps rs → rs ≡ map (condensed qs) ps
  condensed_each end = refl
  condensed_each (next r h) = ap₂ ◌∷◌ r.1 (condensed_each h)

  pub condensed_symplectic : (gs : List Pauli) → All (PauliOn qs) gs
      → symplectic_form (map (condensed qs) gs) ≡ map (condensed qs) (symplectic_form gs)
  condensed_symplectic gs on = condensed_each (symplectic_each Over over_kept (each_condensed gs on))

-- ---- exponents by value
normal_normal : (p : Pauli) → normal (normal p) ≡ normal p
unfolding normal
normal_normal p = pauli_path (mod-mod p.e 4) refl refl

sparse_normal : (qs : List ℕ) (p : Pauli) → sparse_over qs (normal p) ≡ sparse_over qs p
unfolding sparse_over normal
sparse_normal qs p =
    let over : ℕ → Sparse = λ e. record { e = e; xs = select p.x qs; zs = select p.z qs } in
    ap over (mod-mod p.e 4)

-- a roll holds exponents by value
pub written_normal : (qs : List ℕ) (ps : List Pauli) → roll_over qs (map normal ps) ≡ roll_over qs ps
unfolding roll_over
written_normal qs ps =
    ap encode
    (map-map (sparse_over qs) normal ps ∙ map_same (λ p. sparse_over qs (normal p)) (sparse_over qs) ps (all_of (sparse_normal qs) ps))

-- so Paulis over places are written with their values
pub written_values : (qs : List ℕ) → Rising 0 qs → (ps : List Pauli) → All (PauliOn qs) ps
    → roll_over qs (map (λ p. normal (condensed qs p)) ps) ≡ write (map sparse_of ps)
written_values qs rises ps on =
    ap (roll_over qs) (sym (map-map normal (condensed qs) ps)) ∙ written_normal qs (map (condensed qs) ps) ∙ written_over qs rises ps on

pub written_placed : (gs : List Pauli) → roll_over (support_of gs) (placed gs) ≡ write (map sparse_of gs)
written_placed gs = written_values (support_of gs) (support_rises gs) gs (support_on gs)

-- ---- the pairing of a list over places
module _ (gs : List Pauli) where
  placed_value : map normal (placed gs) ≡ map normal (map (condensed (support_of gs)) gs)
  placed_value =
      let qs = support_of gs in
      map-map normal (λ p. normal (condensed qs p)) gs
      ∙ map_same (λ p. normal (normal (condensed qs p))) (λ p. normal (condensed qs p)) gs (all_of (λ p. normal_normal (condensed qs p)) gs)
      ∙ sym (map-map normal (condensed qs) gs)

  pub places_symplectic : map normal (symplectic_form (placed gs)) ≡ map (λ p. normal (condensed (support_of gs) p)) (symplectic_form gs)
  places_symplectic =
      let qs = support_of gs in
      symplectic_alike (placed gs) (map (condensed qs) gs) placed_value
      ∙ ap (map normal) (condensed_symplectic qs (support_rises gs) gs (support_on gs)) ∙ map-map normal (condensed qs) (symplectic_form gs)

  pub symplectic_places_on : OnPlaces (length (support_of gs)) (map normal (symplectic_form (placed gs)))
  unfolding OnPlaces normal condensed
  symplectic_places_on =
      let qs = support_of gs in
      rw places_symplectic
      (all_over (λ p. (p.x < 2 ^ length qs) × (p.z < 2 ^ length qs)) (λ p. normal (condensed qs p)) (symplectic_form gs)
      (all_of (λ p. (condense_lt qs p.x, condense_lt qs p.z)) (symplectic_form gs)))

  pub written_symplectic : roll_over (support_of gs) (map normal (symplectic_form (placed gs))) ≡ write (map sparse_of (symplectic_form gs))
  written_symplectic =
      let qs = support_of gs in
      ap (roll_over qs) places_symplectic ∙ written_values qs (support_rises gs) (symplectic_form gs) (symplectic_law gs).on_support
