-- Laws of the phases of the Paulis of a list in words: their modulus, phases mod m, and the power of i that is appended.
use Rattle.std.proofs.Common.{◌≡◌, ℕ, zero, suc, ◌+◌, ◌*◌, ◌/◌, ◌%◌, ◌<◌, ◌≤◌, min, List, [], ◌∷◌, ◌++◌, map, length, get_or, drop, set, sym, refl, ap, ◌∙◌, subst, ap₂, append-nil, arith, length-append, get_or-set_same}
use mathlib.Core.List.{map-append}
use lib.Seq.{sets}
use Rattle.std.proofs.lemmas.List.{at_drop_more, at_drop_all}
use Rattle.pauli.specs.declared.signed.Pauli.{Pauli as Held}
use Rattle.pauli.specs.Pauli.{Pauli, normal, phase}
use Rattle.pauli.specs.Signed.{held, pauli_in, pauli_words, list_in, paulis_in}
use Rattle.pauli.specs.PlaceSet.{set_in}
use Rattle.pauli.proofs.signed.Algebra.{pauli_path}
use Rattle.pauli.proofs.signed.SignedLaws.{zero_bit}
use Rattle.pauli.proofs.write.Writers.{length_list}
use Rattle.pauli_theory.specs.Standard.{if_zero, modulus_of, exponent_mod, appended}
use Rattle.pauli_theory.proofs.IfZero.{if_zero_zero, if_zero_more}
use Rattle.pauli_group.specs.Inner.Area.{Outside}
use Rattle.pauli_group.proofs.list.ListLaws.{list_append, list_one, list_snoc, outside_refl, outside_join, outside_wider, list_kept, pauli_kept_after, set_outside, store_outside, store_pauli}

-- ---- the modulus

abbrev pub modulus_in : List Pauli → ℕ
modulus_in ps = modulus_of (map (λ (p : Pauli). p.e) ps)

pub modulus_le : (es : List ℕ) → modulus_of es ≤ 4
unfolding modulus_of if_zero
modulus_le [] = omega arith
modulus_le (e ∷ es) = go (e % 2) (e / 2 % 2) (modulus_of es) (modulus_le es)
  where
    go : (a b m : ℕ) → m ≤ 4 → if_zero a (if_zero b m (min m 2)) 1 ≤ 4
    go zero zero m h = h
    go zero (suc b) m h = omega arith
    go (suc a) b m h = omega arith

pub modulus_more : (es : List ℕ) → 0 < modulus_of es
unfolding modulus_of if_zero
modulus_more [] = omega arith
modulus_more (e ∷ es) = go (e % 2) (e / 2 % 2) (modulus_of es) (modulus_more es)
  where
    go : (a b m : ℕ) → 0 < m → 0 < if_zero a (if_zero b m (min m 2)) 1
    go zero zero m h = h
    go zero (suc b) m h = omega arith
    go (suc a) b m h = omega arith

-- the modulus is m or that of the Paulis from number i on, whichever is less
pub record Lowered (ls : List (List ℕ)) (m i : ℕ) : Type 0 where
  pub low : 2 ≤ m
  pub high : m ≤ 4
  pub same : modulus_in (paulis_in ls) ≡ min m (modulus_in (paulis_in (drop i ls)))

pub lowered_start : (ls : List (List ℕ)) → Lowered ls 4 0
lowered_start ls = record {
  low = omega arith;
  high = omega arith;
  same = omega (arith, modulus_le (map (λ (p : Pauli). p.e) (paulis_in ls)));
}

module _ {ls : List (List ℕ)} {m i : ℕ} (l : Lowered ls m i) where
  pub lowered_end : length ls ≤ i → m ≡ modulus_in (paulis_in ls)
  unfolding modulus_of paulis_in
  lowered_end h = sym (l.same ∙ ap (λ (k : ℕ). min m k) (at_drop_all (λ (xs : List (List ℕ)). modulus_in (paulis_in xs)) ls i h) ∙ omega (arith, l.high))

  module _ (h : i < length ls) where
    abbrev e : ℕ
    e = get_or (get_or ls i []) 0 0

    abbrev rest : ℕ
    rest = modulus_in (paulis_in (drop (i + 1) ls))

    next : modulus_in (paulis_in ls) ≡ min m (if_zero (e % 2) (if_zero (e / 2 % 2) rest (min rest 2)) 1)
    unfolding modulus_of pauli_in paulis_in
    next = l.same ∙ ap (min m) (at_drop_more (λ (xs : List (List ℕ)). modulus_in (paulis_in xs)) ls i [] h)

    pub lowered_odd : e % 2 ≡ 1 → 1 ≡ modulus_in (paulis_in ls)
    lowered_odd o = sym (next ∙ ap (min m) (if_zero_more (e % 2) (if_zero (e / 2 % 2) rest (min rest 2)) 1 (omega arith)) ∙ omega (arith, l.low))

    module _ (even : e % 2 ≡ 1 → ⊥) where
      next_even : modulus_in (paulis_in ls) ≡ min m (if_zero (e / 2 % 2) rest (min rest 2))
      next_even = next ∙ ap (min m) (if_zero_zero (if_zero (e / 2 % 2) rest (min rest 2)) 1 (zero_bit (e % 2) (omega arith) even))

      pub lowered_two : e / 2 % 2 ≡ 1 → (k : ℕ) → k ≡ 2 → Lowered ls k (i + 1)
      lowered_two o k d = record {
        low = omega arith;
        high = omega arith;
        same = next_even ∙ ap (min m) (if_zero_more (e / 2 % 2) rest (min rest 2) (omega arith)) ∙ omega (arith, l.low);
      }

      pub lowered_not : (e / 2 % 2 ≡ 1 → ⊥) → (k : ℕ) → k ≡ m → Lowered ls k (i + 1)
      lowered_not o k d = record {
        low = omega (arith, l.low);
        high = omega (arith, l.high);
        same = next_even ∙ ap₂ min (sym d) (if_zero_zero rest (min rest 2) (zero_bit (e / 2 % 2) (omega arith) o));
      }

-- ---- phases mod m

pub pauli_mod : (w : List ℕ) (at m : ℕ) → at < length w → pauli_in (set w at (get_or w at 0 % m)) at ≡ exponent_mod m (pauli_in w at)
unfolding pauli_in exponent_mod
pauli_mod w at m h =
    let e = get_or w at 0 % m in
    let o = set_outside w at e in
    pauli_path (get_or-set_same w at e 0 h)
    (rw (o.after (at + 2) (omega arith), o.after (at + 1) (omega arith)))
    (rw (o.after (at + 4) (omega arith), o.after (at + 3) (omega arith)))

-- the first i Paulis from word base on have their phases mod m
pub record Taken (old : List ℕ) (base m : ℕ) (w : List ℕ) (i : ℕ) : Type 0 where
  pub list : list_in w base i ≡ map (exponent_mod m) (list_in old base i)
  pub rest : Outside base (5 * i) old w

pub taken_start : (old : List ℕ) (base m : ℕ) → Taken old base m old 0
unfolding list_in
taken_start old base m = record { list = refl; rest = outside_refl base (5 * 0) old }

module _ {old : List ℕ} {base m : ℕ} {w : List ℕ} {i : ℕ} (t : Taken old base m w i) where
  pub taken_step : (n : ℕ) → i < n → base + 5 * n ≤ length old → Taken old base m (set w (base + 5 * i) (get_or w (base + 5 * i) 0 % m)) (i + 1)
  taken_step n h room =
      let at = base + 5 * i in
      let u = set w at (get_or w at 0 % m) in
      let o : Outside at 1 w u = set_outside w at (get_or w at 0 % m) in
      record {
        list =
            list_snoc u base i
            ∙ ap₂ (λ (ps : List Pauli) (p : Pauli). ps ++ (p ∷ [])) (list_kept o base i (omega arith) ∙ t.list)
            (pauli_mod w at m (omega (arith, t.rest.size)) ∙ ap (exponent_mod m) (pauli_kept_after t.rest at (omega arith)))
            ∙ sym (ap (map (exponent_mod m)) (list_snoc old base i) ∙ map-append (exponent_mod m) (list_in old base i) (pauli_in old at ∷ []));
        rest =
            outside_join (outside_wider base (5 * (i + 1)) t.rest (omega arith) (omega arith))
            (outside_wider base (5 * (i + 1)) o (omega arith) (omega arith));
      }

-- ---- the power of i that is appended

pub phase_stored : (w : List ℕ) (at : ℕ) (p : Held) → at + 5 ≤ length w → p.exponent < 4 → set_in p.x ≡ 0 → set_in p.z ≡ 0
    → (u : List ℕ) → u ≡ sets w at (pauli_words p) → (list_in u at 1 ≡ phase p.exponent ∷ []) × Outside at 5 w u
unfolding phase normal held
phase_stored w at p room h x z u e = (
  list_one u at
      ∙ ap (λ (q : Pauli). q ∷ []) (ap (λ (l : List ℕ). pauli_in l at) e ∙ store_pauli w at p room ∙ pauli_path (omega arith) x z),
  subst (Outside at 5 w) (sym e) (store_outside w at p),
)

module _ (m : ℕ) (ps : List Pauli) where
  pub appended_zero : m ≡ 0 → appended m ps ≡ []
  unfolding appended
  appended_zero e = rw e

  pub appended_power : (m ≡ 0 → ⊥) → m < 3 → appended m ps ≡ phase m ∷ []
  unfolding appended
  appended_power n h = go m n h
    where
      go : (k : ℕ) → (k ≡ 0 → ⊥) → k < 3 → appended k ps ≡ phase k ∷ []
      go zero n h = absurd (n refl)
      go (suc zero) n h = refl
      go (suc (suc zero)) n h = refl
      go (suc (suc (suc k))) n h = absurd (omega arith)

  pub appended_four : 3 ≤ m → appended m ps ≡ appended 4 ps
  unfolding appended
  appended_four h = go m ps h
    where
      go : (k : ℕ) (qs : List Pauli) → 3 ≤ k → appended k qs ≡ appended 4 qs
      go zero qs h = absurd (omega arith)
      go (suc zero) qs h = absurd (omega arith)
      go (suc (suc zero)) qs h = absurd (omega arith)
      go (suc (suc (suc k))) [] h = refl
      go (suc (suc (suc k))) (q ∷ qs) h = refl

module _ (w : List ℕ) (base n m : ℕ) where
  abbrev ps : List Pauli
  ps = list_in w base n

  pub appended_identity : 3 ≤ m → n ≡ 0 → appended m ps ≡ phase 0 ∷ []
  unfolding appended list_in
  appended_identity h z = appended_four m ps h ∙ ap (λ (k : ℕ). appended 4 (list_in w base k)) z

  pub appended_nothing : 3 ≤ m → (n ≡ 0 → ⊥) → appended m ps ≡ []
  unfolding appended list_in
  appended_nothing h z = appended_four m ps h ∙ go n z
    where
      go : (k : ℕ) → (k ≡ 0 → ⊥) → appended 4 (list_in w base k) ≡ []
      go zero z = absurd (z refl)
      go (suc k) z = refl

  -- the list that the code is to leave
  abbrev whole : List Pauli
  whole = ps ++ appended m ps

  pub nothing_behind : appended m ps ≡ [] → (n ≡ length whole) × ((list_in w base n ≡ whole) × Outside (base + 5 * n) 5 w w)
  nothing_behind e =
      let all : whole ≡ ps = ap (ps ++◌) e ∙ append-nil ps in
      (sym (ap length all ∙ length_list w base n), (sym all, outside_refl (base + 5 * n) 5 w))

  pub power_behind : (q : Pauli) → appended m ps ≡ q ∷ [] → (at r : ℕ) → at ≡ base + 5 * n → r ≡ n + 1
      → (u : List ℕ) → list_in u at 1 ≡ q ∷ [] → Outside at 5 w u
      → (r ≡ length whole) × ((list_in u base r ≡ whole) × Outside (base + 5 * n) 5 w u)
  power_behind q e at r a b u l o =
      let k : Outside (base + 5 * n) 5 w u = subst (λ (j : ℕ). Outside j 5 w u) a o in
      let size : length (ps ++ (q ∷ [])) ≡ n + 1 = length-append ps (q ∷ []) ∙ ap (◌+ 1) (length_list w base n) in
      let last : list_in u (base + 5 * n) 1 ≡ appended m ps = ap (λ (j : ℕ). list_in u j 1) (sym a) ∙ l ∙ sym e in (
        b ∙ sym (ap (λ (qs : List Pauli). length (ps ++ qs)) e ∙ size),
        (
          ap (list_in u base) b ∙ list_append u base n 1 ∙ ap₂ ◌++◌ (list_kept k base n (omega arith)) last,
          k,
        ),
      )
