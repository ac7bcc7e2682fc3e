-- Laws of the elements that the common part is made of: exponents noted, products, and which of them are kept.
use Rattle.std.proofs.Common.{◌≡◌, Option as CodeOption, Some, None, ℕ, zero, suc, ◌+◌, ◌*◌, ◌/◌, ◌%◌, ◌<◌, ◌≤◌, List, [], ◌∷◌, ◌++◌, map, length, get_or, sym, refl, ap, ◌∙◌, ap₂, append-nil, mod-eq_of_lt, add-one, arith}
use mathlib.Core.List.{map-append}
use mathlib.Core.Option.{Option, some, none}
use lib.Seq.{sets}
use Rattle.binar.specs.Row.{dot}
use Rattle.pauli.specs.declared.signed.Pauli.{Pauli as Held}
use Rattle.pauli.specs.Pauli.{Pauli, normal, times}
use Rattle.pauli.specs.Signed.{held, pauli_in, pauli_words, list_in, stored, times_stored}
use Rattle.pauli.proofs.signed.Algebra.{pauli_path}
use Rattle.pauli_theory.specs.Common.{with_exponent, cons_some}
use Rattle.pauli_theory.specs.Inner.CommonPlaces.{shared_exponent, with_some}
use Rattle.pauli_theory.specs.WholeCommon.{or_else, if_none, paired, kept_from, first_from}
use Rattle.pauli_theory.specs.Inner.WholePlaces.{noted_both, shared_pauli, times_noted}
use Rattle.pauli_theory.proofs.WholePlaces.{kept_append, first_append}
use Rattle.pauli_group.specs.Inner.Area.{list_at, further_at, Outside}
use Rattle.pauli_group.specs.Inner.Whole.{noted_in, first_told, pauli_told, noted_list}
use Rattle.pauli_group.specs.declared.noted.Noted.{Noted}
use Rattle.pauli_group.proofs.list.ListLaws.{list_snoc, pauli_kept_after, outside_refl, list_store, store_further}

-- ---- an element

-- two exponents noted in one
parts : (u v : ℕ) → u < 4 → v < 4 → ((u * 4 + v) / 4 % 4 ≡ u) × ((u * 4 + v) % 4 ≡ v)
parts u v lu lv = (omega arith, omega arith)

high_part : (u v : ℕ) → v < 4 → (u * 4 + v) / 4 ≡ u
high_part u v l = omega arith

low_sum : (a b c d k : ℕ) → (a * 4 + b + (c * 4 + d) + k) % 4 ≡ (b + d + k) % 4
low_sum a b c d k = omega arith

byte_value : (n : ℕ) → n % 256 % 4 ≡ n % 4
byte_value n = omega arith

-- it is read from the area
pub noted_read : (x : List ℕ) (at : ℕ) (p : Held) (u v : ℕ) → held p ≡ stored (pauli_in x at) → noted_both u v (held p) ≡ noted_both u v (pauli_in x at)
unfolding noted_both with_exponent stored
noted_read x at p u v e = ap (noted_both u v) e

-- the elements, by what their exponents are of
pub noted_all : (f g : Pauli → ℕ) (us vs x : List ℕ) (m : ℕ) → ((i : ℕ) → i < m → get_or us i 0 ≡ f (pauli_in x (further_at + 5 * i)))
    → ((i : ℕ) → i < m → get_or vs i 0 ≡ g (pauli_in x (further_at + 5 * i))) → noted_list us vs x m ≡ map (λ p. noted_both (f p) (g p) p) (list_in x further_at m)
unfolding noted_list list_in
noted_all f g us vs x zero a b = refl
noted_all f g us vs x (suc m) a b =
    let both : Pauli → Pauli = λ p. noted_both (f p) (g p) p in
    let p = pauli_in x (further_at + 5 * m) in
    ap₂ (λ (ps : List Pauli) (q : Pauli). ps ++ q ∷ []) (noted_all f g us vs x m (λ i h. a i (omega arith)) (λ i h. b i (omega arith)))
    (ap₂ (λ (u v : ℕ). noted_both u v p) (a m (omega arith)) (b m (omega arith)))
    ∙ sym (map-append both (list_in x further_at m) (p ∷ [])) ∙ ap (map both) (sym (list_snoc x further_at m) ∙ ap (list_in x further_at) (add-one m))

-- the product of two
module _ (p q : Noted) (l r : Held)
    (el : held l ≡ times_stored (with_exponent p.left (held p.pauli)) (with_exponent q.left (held q.pauli)))
    (er : held r ≡ times_stored (with_exponent p.right (held p.pauli)) (with_exponent q.right (held q.pauli))) where
  abbrev k : ℕ
  k = 2 * dot (held p.pauli).z (held q.pauli).x

  left_is : l.exponent % 4 ≡ ((p.left * 4 + p.right) / 4 + (q.left * 4 + q.right) / 4 + k) % 4
  unfolding held times_stored with_exponent
  left_is =
      ap (λ (t : Pauli). t.e % 4) el ∙ byte_value (p.left + q.left + k)
      ∙ ap₂ (λ (a b : ℕ). (a + b + k) % 4) (sym (high_part p.left p.right p.low.1)) (sym (high_part q.left q.right q.low.1))

  right_is : r.exponent % 4 ≡ (p.left * 4 + p.right + (q.left * 4 + q.right) + k) % 4
  unfolding held times_stored with_exponent
  right_is = ap (λ (t : Pauli). t.e % 4) er ∙ byte_value (p.right + q.right + k) ∙ sym (low_sum p.left p.right q.left q.right k)

  pub product_is : noted_both (l.exponent % 4) (r.exponent % 4) (held r) ≡ times_noted (noted_in p) (noted_in q)
  unfolding noted_in noted_both times_noted with_exponent times times_stored
  product_is = pauli_path (ap₂ (λ (a b : ℕ). a * 4 + b) left_is right_is) (ap (λ (t : Pauli). t.x) er) (ap (λ (t : Pauli). t.z) er)

-- its shared exponent
module _ (a b : ℕ) (n : Noted) where
  shared_is : shared_pauli a b (noted_in n) ≡ with_some (shared_exponent a b n.left n.right) (noted_in n)
  unfolding shared_pauli noted_in noted_both with_exponent
  shared_is =
      let s = parts n.left n.right n.low.0 n.low.1 in
      ap₂ (λ (u v : ℕ). with_some (shared_exponent a b u v) (noted_in n)) s.0 s.1

  pub shared_none : none ≡ shared_exponent a b n.left n.right → pauli_told None ≡ shared_pauli a b (noted_in n)
  unfolding pauli_told with_some
  shared_none told = sym (shared_is ∙ ap (λ o. with_some o (noted_in n)) (sym told))

  pub shared_some : (e : ℕ) → some e ≡ shared_exponent a b n.left n.right → e < 4 → (r : Held) → held r ≡ with_exponent e (held n.pauli)
      → pauli_told (Some r) ≡ shared_pauli a b (noted_in n)
  unfolding pauli_told with_some noted_in noted_both with_exponent normal
  shared_some e told l r made =
      ap some (ap normal made ∙ pauli_path (mod-eq_of_lt l) refl refl) ∙ sym (shared_is ∙ ap (λ o. with_some o (noted_in n)) (sym told))

-- ---- what is kept, and the first that has none

module _ (a b : ℕ) (m : Noted) where
  abbrev F : Pauli → Option Pauli
  F = shared_pauli a b

  abbrev M : Pauli → Pauli → Pauli
  M = times_noted

  abbrev p : Pauli
  p = noted_in m

  pub kept_own : (o : CodeOption Held) (q : Held) → o ≡ Some q → pauli_told o ≡ F p → (r : Option Pauli) → pauli_told (Some q) ≡ or_else (F p) r
  unfolding pauli_told or_else
  kept_own o q e told r = rw (← told, e)

  module _ (o : CodeOption Held) (e : o ≡ None) (told : pauli_told o ≡ F p) where
    pub kept_nothing : (d : CodeOption Noted) → d ≡ None → pauli_told None ≡ or_else (F p) (paired F M (first_told d) p)
    unfolding pauli_told or_else paired first_told
    kept_nothing d ed = rw (← told, e, ed)

    pub kept_paired : (d : CodeOption Noted) (n : Noted) → d ≡ Some n → (r : CodeOption Held) (x : Pauli) → pauli_told r ≡ F x → x ≡ M p (noted_in n)
        → pauli_told r ≡ or_else (F p) (paired F M (first_told d) p)
    unfolding pauli_told or_else paired first_told
    kept_paired d n ed r x t m = rw (← told, e, ed) (t ∙ ap F m)

    pub first_dropped : (d : CodeOption Noted) → d ≡ None → first_told (Some m) ≡ or_else (first_told d) (if_none (F p) p)
    unfolding pauli_told or_else if_none first_told
    first_dropped d ed = rw (← told, e, ed)

  pub first_kept : (o : CodeOption Held) (q : Held) → o ≡ Some q → pauli_told o ≡ F p → (d : CodeOption Noted) → d ≡ None
      → first_told None ≡ or_else (first_told d) (if_none (F p) p)
  unfolding pauli_told or_else if_none first_told
  first_kept o q e told d ed = rw (← told, e, ed)

pub first_same : (d : CodeOption Noted) (n : Noted) → d ≡ Some n → (o : Option Pauli) → first_told (Some n) ≡ or_else (first_told d) o
unfolding or_else first_told
first_same d n e o = rw e

-- ---- of the m Paulis of the further list the first i were looked at, and what is kept of them stands in the area w

pub record KeptWhole (F : Pauli → Option Pauli) (us vs : List ℕ) (m : ℕ) (x : List ℕ) (i kept : ℕ) (dropped : CodeOption Noted) (w : List ℕ) : Type 0 where
  pub low : kept ≤ i
  pub within : i ≤ m
  pub list : list_in w list_at kept ≡ kept_from F times_noted none (noted_list us vs x i)
  pub first : first_told dropped ≡ first_from F none (noted_list us vs x i)
  pub rest : Outside list_at (5 * kept) x w

module _ (F : Pauli → Option Pauli) (us vs : List ℕ) (m : ℕ) (x : List ℕ) where
  pub whole_none : KeptWhole F us vs m x 0 0 None x
  unfolding list_in kept_from first_from noted_list first_told
  whole_none = record { low = omega arith; within = omega arith; list = refl; first = refl; rest = outside_refl list_at 0 x }

  module _ (i kept : ℕ) (dropped : CodeOption Noted) (w : List ℕ) (K : KeptWhole F us vs m x i kept dropped w) (h : i < m) (few : m ≤ 128) where
    -- Pauli i is as it was
    pub still : (p : Held) → held p ≡ stored (pauli_in w (further_at + 5 * i)) → held p ≡ stored (pauli_in x (further_at + 5 * i))
    still p e = e ∙ ap stored (pauli_kept_after K.rest (further_at + 5 * i) (let l = K.low in omega arith))

    module _ (n : Pauli) (is : n ≡ noted_both (get_or us i 0) (get_or vs i 0) (pauli_in x (further_at + 5 * i)))
        (next : CodeOption Noted) (after : first_told next ≡ or_else (first_told dropped) (if_none (F n) n))
        (o : CodeOption Held) (told : pauli_told o ≡ or_else (F n) (paired F times_noted (first_told dropped) n)) where
      abbrev seen : List Pauli
      seen = noted_list us vs x i

      one_more : noted_list us vs x (i + 1) ≡ seen ++ n ∷ []
      unfolding noted_list
      one_more = ap (noted_list us vs x) (add-one i) ∙ ap (λ p. seen ++ p ∷ []) (sym is)

      first_next : first_told next ≡ first_from F none (noted_list us vs x (i + 1))
      unfolding first_from
      first_next =
          after ∙ ap (λ d. or_else d (if_none (F n) n)) K.first ∙ sym (first_append F none seen (n ∷ []))
          ∙ sym (ap (first_from F none) one_more)

      kept_next : kept_from F times_noted none (noted_list us vs x (i + 1)) ≡ kept_from F times_noted none seen ++ cons_some (pauli_told o) []
      unfolding kept_from
      kept_next =
          ap (kept_from F times_noted none) one_more ∙ kept_append F times_noted none seen (n ∷ [])
          ∙ ap (λ d. kept_from F times_noted none seen ++ cons_some (or_else (F n) (paired F times_noted d n)) []) (sym K.first)
          ∙ ap (λ d. kept_from F times_noted none seen ++ cons_some d []) (sym told)

      pub whole_dropped : o ≡ None → KeptWhole F us vs m x (i + 1) kept next w
      unfolding pauli_told cons_some
      whole_dropped e = record {
        low = let l = K.low in omega arith;
        within = omega arith;
        list = K.list ∙ sym (kept_next ∙ rw e (append-nil (kept_from F times_noted none seen)));
        first = first_next;
        rest = K.rest;
      }

      pub whole_kept : (q : Held) → o ≡ Some q → length x ≡ 4096 → (u : List ℕ) → u ≡ sets w (list_at + 5 * kept) (pauli_words q)
          → KeptWhole F us vs m x (i + 1) (kept + 1) next u
      unfolding pauli_told cons_some
      whole_kept q e size u g = record {
        low = let l = K.low in omega arith;
        within = omega arith;
        list =
            ap (λ (l : List ℕ). list_in l list_at (kept + 1)) g
            ∙ list_store w list_at kept q (let l = K.low in omega (arith, K.rest.size))
            ∙ ap (λ (ps : List Pauli). ps ++ normal (held q) ∷ []) K.list ∙ sym (kept_next ∙ rw e refl);
        first = first_next;
        rest = store_further x w list_at kept q K.rest u g;
      }
