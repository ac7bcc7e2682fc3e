-- Laws of symplectic pairing in the work area.
use Rattle.std.proofs.Common.{◌≡◌, ◌==◌, Bool, true, false, Option as CodeOption, Some, None, IfSome, MatchOption, eqb-true, zero-add, ℕ, zero, suc, ◌+◌, ◌-◌, ◌*◌, ◌<◌, ◌≤◌, List, [], ◌∷◌, ◌++◌, map, length, get_or, take, drop, set, sym, refl, ap, ◌∙◌, subst, ap₂, append_assoc, arith, length-append, length-set, length-take, take_at}
use mathlib.Core.List.{map-append}
use mathlib.Core.Option.{Option, some, none}
use borrow.Author.Tests.{eqb-false}
use Rattle.std.specs.List.{HoldsAt, AllWithin}
use native.Mathlib.Nat.{mod-mod}
use lib.Seq.{sets, get_or_at}
use Rattle.binar.specs.Row.{if_bit}
use Rattle.binar.proofs.Lists.{map_drop, map_set}
use Rattle.pauli.specs.declared.signed.Pauli.{Pauli as Held}
use Rattle.pauli.specs.Pauli.{Pauli, I, normal, times, anticommute}
use Rattle.pauli.specs.Signed.{held, pauli_in, pauli_words, list_in, paulis_in, times_stored}
use Rattle.pauli.specs.Condense.{list_of}
use Rattle.pauli.specs.Known.{Gathered}
use Rattle.pauli.specs.Roll.{support, count_of}
use Rattle.pauli.specs.Told.{answer}
use Rattle.pauli.specs.Writing.{OnPlaces, roll_over}
use Rattle.pauli.proofs.signed.Algebra.{anticommute_lt, pauli_path, times_normal_l, times_normal_r}
use Rattle.pauli.proofs.signed.SignedLaws.{zero_bit, if_times_value}
use Rattle.pauli.proofs.write.Writers.{length_list}
use Rattle.pauli_theory.specs.Symplectic.{position, swap_remove, times_if, cleared, on_position, paired_from, symplectic_form}
use Rattle.pauli_theory.proofs.Form.{map_take}
use Rattle.pauli_theory.proofs.Symplectic.{cleared_length, removed_length}
use Rattle.pauli_group.specs.Inner.Area.{Outside, list_at, standard_at, further_at}
use Rattle.pauli_theory.proofs.OverPlaces.{placed}
use Rattle.pauli_theory.proofs.SymplecticPlaces.{paired_alike, written_symplectic, symplectic_places_on}
use Rattle.pauli_theory.proofs.Written.{support_of_lem}
use Rattle.pauli_group.specs.Inner.Groups.{over_support}
use Rattle.pauli_group.specs.Calls.{paulis, symplectic_bytes}
use Rattle.pauli_group.specs.Inner.Lists.{found, over_places, Tested}
use Rattle.pauli_group.specs.Inner.Pairs.{times_if_stored, paired_in, Plain, PairedTo}
use Rattle.pauli_group.specs.declared.symplectic.Pairing.{Pairing}
use Rattle.pauli.proofs.joined.JoinLaws.{own_few}
use Rattle.pauli_group.proofs.group.GroupLaws.{known_is, listed, size_same}
use Rattle.pauli_group.proofs.list.ListLaws.{pauli_kept, list_kept, list_kept_after, list_store, list_snoc, list_append, list_at_lem, store_outside, store_pauli, outside_join, outside_wider}

-- ---- values

pub normal_twice : (p : Pauli) → normal (normal p) ≡ normal p
unfolding normal
normal_twice p = pauli_path (mod-mod p.e 4) refl refl

pub map_twice : (ps : List Pauli) → map normal (map normal ps) ≡ map normal ps
map_twice [] = refl
map_twice (p ∷ ps) = ap₂ (λ (q : Pauli) (qs : List Pauli). q ∷ qs) (normal_twice p) (map_twice ps)

-- ---- a product where the two anticommute

module _ (p q g : Pauli) where
  pub times_hit : anticommute g p ≡ 1 → (r : Pauli) → r ≡ times_stored g q → r ≡ times_if_stored p q g
  unfolding times_if_stored if_bit
  times_hit h r e = rw h e

  pub times_miss : anticommute g p ≡ 0 → g ≡ times_if_stored p q g
  unfolding times_if_stored if_bit
  times_miss h = rw h

  -- by value it is what is defined
  if_value : {r : Pauli} → r ≡ times_if_stored p q g → normal r ≡ normal (times_if p q g)
  unfolding times_if_stored times_if
  if_value e = ap normal e ∙ if_times_value (anticommute g p) g q

  if_normal : normal (times_if p q g) ≡ normal (times_if (normal p) (normal q) (normal g))
  unfolding times_if if_bit anticommute normal
  if_normal = go (anticommute g p)
    where
      go : (d : ℕ) → normal (if_bit d (times g q) g) ≡ normal (if_bit d (times (normal g) (normal q)) (normal g))
      go zero = sym (normal_twice g)
      go (suc d) = ap normal (sym (times_normal_l g (normal q) ∙ times_normal_r g q))

-- ---- the first that anticommutes

sets_value : (x p q : Pauli) → normal p ≡ normal q → anticommute x p ≡ anticommute x q
unfolding anticommute normal
sets_value x p q h = ap (λ (r : Pauli). anticommute x r) h

-- the test by x tells r of the Pauli of five words
abbrev pub Answered : Pauli → Bool → List ℕ → Type 0
Answered x r words = Tested (λ p t. t ≡ (anticommute x (held p) == 1)) words r

module _ (x : Pauli) where
  hit : (l : List ℕ) → Answered x true l → anticommute x (pauli_in l 0) ≡ 1
  hit l a = sets_value x _ _ (sym a.read) ∙ eqb-true _ 1 (sym a.told)

  miss : (l : List ℕ) → Answered x false l → anticommute x (pauli_in l 0) ≡ 0
  miss l a = sets_value x _ _ (sym a.read) ∙ zero_bit _ (anticommute_lt x (held a.pauli)) (eqb-false _ 1 (sym a.told))

  position_none : (i : ℕ) (ls : List (List ℕ)) → AllWithin (Answered x false) ls 0 (length ls) → none ≡ position x i (paulis_in ls)
  unfolding position if_bit paulis_in
  position_none i [] f = refl
  position_none i (l ∷ ls) f =
      rw (miss l (f 0 l (omega arith) (omega arith))) (position_none (suc i) ls (λ k d b e. f (suc k) d (omega arith) (omega arith)))

  position_some : (i : ℕ) (ls : List (List ℕ)) (k : ℕ) → k < length ls → HoldsAt (Answered x true) ls k → AllWithin (Answered x false) ls 0 k
      → some (i + k) ≡ position x i (paulis_in ls)
  unfolding position if_bit paulis_in
  position_some i [] k h a f = absurd (omega arith)
  position_some i (l ∷ ls) zero h a f = let e : i + 0 ≡ i = omega arith in rw (hit l (a l), e)
  position_some i (l ∷ ls) (suc k) h a f =
      let e : i + suc k ≡ suc i + k = omega arith in
      rw (miss l (f 0 l (omega arith) (omega arith)), e)
      (position_some (suc i) ls k (omega arith) a (λ j d b g. f (suc j) d (omega arith) (omega arith)))

  -- what a search of the words by the test finds
  pub position_found : (ls : List (List ℕ)) (r : CodeOption ℕ)
      → MatchOption r (AllWithin (Answered x false) ls 0 (length ls)) (λ k. (k < length ls) × HoldsAt (Answered x true) ls k × AllWithin (Answered x false) ls 0 k)
      → (found r ≡ position x 0 (paulis_in ls)) × IfSome r (λ k. k < length ls)
  position_found ls None f = (position_none 0 ls f, tt)
  position_found ls (Some k) (h, a, f) = (ap some (sym (zero-add k)) ∙ position_some 0 ls k h a f, h)

-- ---- what is cleared, Pauli by Pauli

map_at {ℓ} : {A : Type ℓ} (f : A → Pauli) (gs : List A) (i : ℕ) (d : A) → i < length gs → get_or (map f gs) i I ≡ f (get_or gs i d)
map_at f [] i d h = absurd (omega arith)
map_at f (g ∷ gs) zero d h = refl
map_at f (g ∷ gs) (suc i) d h = map_at f gs i d (omega arith)

module _ (x z : Pauli) where
  cleared_before : (k i : ℕ) (gs : List Pauli) → i < length gs → i < k → get_or (cleared k x z gs) i I ≡ times_if z x (get_or gs i I)
  unfolding cleared
  cleared_before zero i gs h l = absurd (omega arith)
  cleared_before (suc k) i [] h l = absurd (omega arith)
  cleared_before (suc k) zero (g ∷ gs) h l = refl
  cleared_before (suc k) (suc i) (g ∷ gs) h l = cleared_before k i gs (omega arith) (omega arith)

  cleared_from : (k i : ℕ) (gs : List Pauli) → i < length gs → k ≤ i → get_or (cleared k x z gs) i I ≡ times_if z x (times_if x z (get_or gs i I))
  unfolding cleared
  cleared_from zero i gs h l = map_at (λ g. times_if z x (times_if x z g)) gs i I h
  cleared_from (suc k) i [] h l = absurd (omega arith)
  cleared_from (suc k) zero (g ∷ gs) h l = absurd (omega arith)
  cleared_from (suc k) (suc i) (g ∷ gs) h l = cleared_from k i gs (omega arith) (omega arith)

times_by_value : (p q g h : Pauli) → normal g ≡ normal h → normal (times_if p q g) ≡ normal (times_if p q h)
times_by_value p q g h e =
    if_normal p q g ∙ ap (λ (r : Pauli). normal (times_if (normal p) (normal q) r)) e ∙ sym (if_normal p q h)

module _ (k n i : ℕ) (x z : Pauli) (gs : List Pauli) (count : length gs ≡ n) (h : i < n) (a g r : Pauli)
    (l : normal a ≡ normal (get_or gs i I)) (e : r ≡ times_if_stored z x g) where
  pub clear_after : k ≤ i → g ≡ times_if_stored x z a → normal r ≡ normal (get_or (cleared k x z gs) i I)
  clear_after b f =
      if_value z x g e ∙ times_by_value z x _ _ (if_value x z a f ∙ times_by_value x z _ _ l) ∙ ap normal (sym (cleared_from x z k i gs (omega arith) b))

  pub clear_before : i < k → g ≡ a → normal r ≡ normal (get_or (cleared k x z gs) i I)
  clear_before b f =
      if_value z x g e ∙ times_by_value z x _ _ (ap normal f ∙ l) ∙ ap normal (sym (cleared_before x z k i gs (omega arith) b))

-- ---- lists of the same values

abbrev Values : List Pauli → List Pauli → Type 0
Values gs hs = map normal gs ≡ map normal hs

position_value : (x : Pauli) (i : ℕ) (gs : List Pauli) → position (normal x) i (map normal gs) ≡ position x i gs
unfolding position anticommute normal
position_value x i [] = refl
position_value x i (g ∷ gs) = ap (if_bit (anticommute x g) (some i)) (position_value x (suc i) gs)

positions : (x y : Pauli) (gs hs : List Pauli) → normal x ≡ normal y → Values gs hs → position x 0 gs ≡ position y 0 hs
positions x y gs hs e h =
    sym (position_value x 0 gs) ∙ ap₂ (λ (p : Pauli) (ps : List Pauli). position p 0 ps) e h ∙ position_value y 0 hs

take_values : (n : ℕ) (gs hs : List Pauli) → Values gs hs → Values (take n gs) (take n hs)
take_values n gs hs h = map_take normal n gs ∙ ap (λ (ps : List Pauli). take n ps) h ∙ sym (map_take normal n hs)

set_values : (k : ℕ) (x y : Pauli) (gs hs : List Pauli) → normal x ≡ normal y → Values gs hs → Values (set gs k x) (set hs k y)
set_values k x y gs hs e h =
    sym (map_set normal gs k x) ∙ ap₂ (λ (ps : List Pauli) (p : Pauli). set ps k p) h e ∙ map_set normal hs k y

join_values : (gs hs ps qs : List Pauli) → Values gs hs → Values ps qs → Values (gs ++ ps) (hs ++ qs)
join_values gs hs ps qs h e =
    map-append normal gs ps ∙ ap₂ (λ (ps qs : List Pauli). ps ++ qs) h e ∙ sym (map-append normal hs qs)

-- a function on values, Pauli by Pauli
map_value : (f g : Pauli → Pauli) → ((p : Pauli) → normal (f p) ≡ normal (g (normal p))) → (gs : List Pauli)
    → map normal (map f gs) ≡ map normal (map g (map normal gs))
map_value f g h [] = refl
map_value f g h (p ∷ gs) = ap₂ (λ (q : Pauli) (qs : List Pauli). q ∷ qs) (h p) (map_value f g h gs)

cleared_value : (k : ℕ) (x z : Pauli) (gs : List Pauli)
    → map normal (cleared k x z gs) ≡ map normal (cleared k (normal x) (normal z) (map normal gs))
unfolding cleared
cleared_value k x z gs =
    let f : Pauli → Pauli = times_if z x in
    let f' : Pauli → Pauli = times_if (normal z) (normal x) in
    let g : Pauli → Pauli = λ p. times_if z x (times_if x z p) in
    let g' : Pauli → Pauli = λ p. times_if (normal z) (normal x) (times_if (normal x) (normal z) p) in
    map-append normal (map f (take k gs)) (map g (drop k gs))
    ∙ ap₂ (λ (ps qs : List Pauli). ps ++ qs)
    (map_value f f' (λ p. if_normal z x p) (take k gs) ∙ ap (λ (ps : List Pauli). map normal (map f' ps)) (map_take normal k gs))
    (map_value g g'
    (λ p. if_normal z x (times_if x z p) ∙ ap (λ (q : Pauli). normal (times_if (normal z) (normal x) q)) (if_normal x z p)
    ∙ times_by_value (normal z) (normal x) _ _ (normal_twice _))
    (drop k gs) ∙ ap (λ (ps : List Pauli). map normal (map g' ps)) (sym (map_drop normal k gs)))
    ∙ sym (map-append normal (map f' (take k (map normal gs))) (map g' (drop k (map normal gs))))

cleared_values : (k : ℕ) (x y z w : Pauli) (gs hs : List Pauli) → normal x ≡ normal y → normal z ≡ normal w → Values gs hs
    → Values (cleared k x z gs) (cleared k y w hs)
cleared_values k x y z w gs hs e f h =
    cleared_value k x z gs
    ∙ ap (λ (p : Pauli). map normal (cleared k p (normal z) (map normal gs))) e
    ∙ ap₂ (λ (p : Pauli) (ps : List Pauli). map normal (cleared k (normal y) p ps)) f h
    ∙ sym (cleared_value k y w hs)

-- one step of the pairing
paired_step : (m : ℕ) (rest : List Pauli) (x : Pauli) (c d : List Pauli)
    → paired_from (suc m) (rest ++ x ∷ []) c d
    ≡ on_position (position x 0 rest) (paired_from m rest c (d ++ x ∷ []))
    (λ k. let z = get_or rest k I in paired_from m (cleared k x z (swap_remove k rest)) (c ++ x ∷ z ∷ []) d)
unfolding paired_from
paired_step m [] x c d = refl
paired_step m (g ∷ gs) x c d =
    let e : length (g ∷ gs) ≡ length (gs ++ x ∷ []) = omega (arith, length-append gs (x ∷ [])) in
    ap₂ (λ (y : Pauli) (r : List Pauli). on_position (position y 0 r) (paired_from m r c (d ++ y ∷ []))
    (λ k. let z = get_or r k I in paired_from m (cleared k y z (swap_remove k r)) (c ++ y ∷ z ∷ []) d))
    (get_or_at (g ∷ gs) x [] I (length (gs ++ x ∷ [])) e) (take_at (g ∷ gs) (x ∷ []) (length (gs ++ x ∷ [])) e)

step_none : (m : ℕ) (rest : List Pauli) (x : Pauli) (c d : List Pauli) → position x 0 rest ≡ none
    → paired_from (suc m) (rest ++ x ∷ []) c d ≡ paired_from m rest c (d ++ x ∷ [])
unfolding on_position
step_none m rest x c d h = rw (paired_step m rest x c d, h)

step_some : (m k : ℕ) (rest : List Pauli) (x : Pauli) (c d : List Pauli) → position x 0 rest ≡ some k
    → paired_from (suc m) (rest ++ x ∷ []) c d
    ≡ paired_from m (cleared k x (get_or rest k I) (swap_remove k rest)) (c ++ x ∷ get_or rest k I ∷ []) d
unfolding on_position
step_some m k rest x c d h = rw (paired_step m rest x c d, h)

-- ---- a Pauli stored in a list

pub list_set : (l : List ℕ) (base n k : ℕ) (p : Held) → k < n → base + 5 * n ≤ length l
    → list_in (sets l (base + 5 * k) (pauli_words p)) base n ≡ set (list_in l base n) k (normal (held p))
unfolding list_in
list_set l base zero k p h r = absurd (omega arith)
list_set l base (suc n) zero p h r =
    let e : base ≡ base + 5 * 0 = omega arith in
    subst (λ (i : ℕ). list_in (sets l i (pauli_words p)) base (suc n) ≡ set (list_in l base (suc n)) 0 (normal (held p))) e
    (ap₂ (λ (q : Pauli) (qs : List Pauli). q ∷ qs) (store_pauli l base p (omega arith))
    (list_kept_after (store_outside l base p) (base + 5) n (omega arith)))
list_set l base (suc n) (suc k) p h r =
    let e : base + 5 + 5 * k ≡ base + 5 * suc k = omega arith in
    subst (λ (i : ℕ). list_in (sets l i (pauli_words p)) base (suc n) ≡ set (list_in l base (suc n)) (suc k) (normal (held p))) e
    (ap₂ (λ (q : Pauli) (qs : List Pauli). q ∷ qs) (pauli_kept (store_outside l (base + 5 + 5 * k) p) base (omega arith))
    (list_set l (base + 5) n k p (omega arith) (omega arith)))

-- all but the last
list_front : (l : List ℕ) (base n : ℕ) → list_in l base n ≡ take n (list_in l base (n + 1))
list_front l base n = sym (ap (take n) (list_snoc l base n) ∙ take_at (list_in l base n) _ n (length_list l base n))

-- ---- as many turns as there are Paulis are enough

on_position_same : (o : Option ℕ) (a b : List Pauli) (f g : ℕ → List Pauli) → a ≡ b → ((k : ℕ) → f k ≡ g k)
    → on_position o a f ≡ on_position o b g
unfolding on_position
on_position_same none a b f g h e = h
on_position_same (some k) a b f g h e = e k

removed_le : (k : ℕ) (gs : List Pauli) → length (swap_remove k gs) ≤ length gs
unfolding swap_remove
removed_le k gs =
    let a = get_or gs (length gs - 1) I in omega (arith, length-take (length gs - 1) (set gs k a), length-set gs k a)

paired_fuel : (n : ℕ) (gs c d : List Pauli) → length gs ≤ n → paired_from (suc n) gs c d ≡ paired_from n gs c d
unfolding paired_from
paired_fuel zero [] c d h = refl
paired_fuel zero (g ∷ gs) c d h = absurd (omega arith)
paired_fuel (suc n) [] c d h = refl
paired_fuel (suc n) (g ∷ gs) c d h =
    let x = get_or (g ∷ gs) (length gs) I in
    let rest = take (length gs) (g ∷ gs) in
    let b : length rest ≤ n = omega (arith, length-take (length gs) (g ∷ gs)) in
    on_position_same (position x 0 rest) _ _ _ _ (paired_fuel n rest c (d ++ x ∷ []) b)
    (λ k. let z = get_or rest k I in
    paired_fuel n (cleared k x z (swap_remove k rest)) (c ++ x ∷ z ∷ []) d
    (omega (arith, cleared_length k x z (swap_remove k rest), removed_le k rest)))

-- ---- one step in the work area

-- the Paulis before the last one, and the last one
module _ (l : List ℕ) (p : Pairing) (size : length l ≡ 4096) (some_left : 0 < p.left)
    (room : p.left + p.conjugate + p.commuting ≤ 128) (m : ℕ) (left : m ≡ p.left - 1) where
  abbrev rest : List Pauli
  rest = list_in l list_at m

  abbrev last : Pauli
  last = pauli_in l (list_at + 5 * m)

  abbrev conjugates : List Pauli
  conjugates = list_in l standard_at p.conjugate

  abbrev others : List Pauli
  others = list_in l further_at p.commuting

  begun : paired_in l p ≡ map normal (paired_from (suc m) (rest ++ last ∷ []) conjugates others)
  unfolding paired_in
  begun =
      let e : p.left ≡ suc m = omega arith in
      let f : p.left ≡ m + 1 = omega arith in
      ap₂ (λ (n : ℕ) (gs : List Pauli). map normal (paired_from n gs conjugates others)) e
      (ap (list_in l list_at) f ∙ list_snoc l list_at m)

  module _ (x : Held) (loaded : normal (held x) ≡ normal last) where
    place : position last 0 rest ≡ position (held x) 0 rest
    place = positions last (held x) rest rest (sym loaded) refl

    pub stored_alone : none ≡ position (held x) 0 rest → (u : List ℕ) → u ≡ sets l (further_at + 5 * p.commuting) (pauli_words x)
        → PairedTo l p u (record { left = m; conjugate = p.conjugate; commuting = p.commuting + 1 })
    unfolding paired_in Plain
    stored_alone h u g =
        let o : Outside (further_at + 5 * p.commuting) 5 l u =
        subst (Outside (further_at + 5 * p.commuting) 5 l) (sym g) (store_outside l (further_at + 5 * p.commuting) x) in
        let a : list_in u list_at m ≡ rest = list_kept o list_at m (omega arith) in
        let b : list_in u standard_at p.conjugate ≡ conjugates = list_kept o standard_at p.conjugate (omega arith) in
        let e : list_in u further_at (p.commuting + 1) ≡ others ++ normal (held x) ∷ [] =
        ap (λ (w : List ℕ). list_in w further_at (p.commuting + 1)) g ∙ list_store l further_at p.commuting x (omega arith) in
        record {
          same =
              paired_alike m _ rest _ conjugates _ (others ++ last ∷ []) (ap (map normal) a) (ap (map normal) b)
              (ap (map normal) e
              ∙ join_values others others (normal (held x) ∷ []) (last ∷ []) refl
              (ap (λ (q : Pauli). q ∷ []) (normal_twice (held x) ∙ loaded)))
              ∙ sym (begun
              ∙ ap (map normal)
              (step_none m rest last conjugates others (place ∙ sym h)));
          less = omega arith;
          count = omega arith;
          plain = λ t. ap (map normal) b ∙ t ∙ sym b;
        }

    module _ (k : ℕ) (found : some k ≡ position (held x) 0 rest) (h : k < m) (z y : Held) (loaded-z : normal (held z) ≡ normal (pauli_in l (list_at + 5 * k)))
        (loaded-y : normal (held y) ≡ normal (pauli_in l (list_at + 5 * (m - 1))))
        (v : List ℕ) (v-is : v ≡ sets l (list_at + 5 * k) (pauli_words y))
        (w : List ℕ) (w_list : list_in w list_at (m - 1) ≡ map normal (cleared k (held x) (held z) (list_in v list_at (m - 1))))
        (w-rest : Outside list_at (5 * (m - 1)) v w)
        (t : List ℕ) (t-is : t ≡ sets w (standard_at + 5 * p.conjugate) (pauli_words x))
        (u : List ℕ) (u-is : u ≡ sets t (standard_at + 5 * (p.conjugate + 1)) (pauli_words z)) where
      v_outside : Outside list_at (5 * m) l v
      v_outside =
          subst (Outside list_at (5 * m) l) (sym v-is)
          (outside_wider list_at (5 * m) (store_outside l (list_at + 5 * k) y) (omega arith) (omega arith))

      -- the area before the two stores
      w_outside : Outside list_at (5 * m) l w
      w_outside = outside_join v_outside (outside_wider list_at (5 * m) w-rest (omega arith) (omega arith))

      u_outside : Outside (standard_at + 5 * p.conjugate) 10 w u
      u_outside =
          outside_join
          (subst (Outside (standard_at + 5 * p.conjugate) 10 w) (sym t-is)
          (outside_wider (standard_at + 5 * p.conjugate) 10 (store_outside w (standard_at + 5 * p.conjugate) x) (omega arith) (omega arith)))
          (subst (Outside (standard_at + 5 * p.conjugate) 10 t) (sym u-is)
          (outside_wider (standard_at + 5 * p.conjugate) 10 (store_outside t (standard_at + 5 * (p.conjugate + 1)) z) (omega arith) (omega arith)))

      t_size : length t ≡ 4096
      t_size = ap length t-is ∙ (store_outside w (standard_at + 5 * p.conjugate) x).size ∙ w_outside.size ∙ size

      removed : Values (list_in v list_at (m - 1)) (swap_remove k rest)
      unfolding swap_remove
      removed =
          let n : length rest ≡ m = length_list l list_at m in
          let e : m - 1 + 1 ≡ m = omega arith in
          let r : length rest - 1 ≡ m - 1 = omega arith in
          ap (map normal)
          (list_front v list_at (m - 1) ∙ ap (λ (j : ℕ). take (m - 1) (list_in v list_at j)) e
          ∙ ap (λ (a : List ℕ). take (m - 1) (list_in a list_at m)) v-is
          ∙ ap (take (m - 1)) (list_set l list_at m k y h (omega arith)))
          ∙ take_values (m - 1) _ _
          (set_values k _ _ rest rest
          (normal_twice (held y) ∙ loaded-y ∙ ap normal (sym (list_at_lem l list_at m (m - 1) I (omega arith)))) refl)
          ∙ sym (ap (λ (j : ℕ). map normal (take j (set rest k (get_or rest j I)))) r)

      z_value : normal (held z) ≡ normal (get_or rest k I)
      z_value = loaded-z ∙ ap normal (sym (list_at_lem l list_at m k I h))

      list_now : Values (list_in u list_at (m - 1)) (cleared k last (get_or rest k I) (swap_remove k rest))
      list_now =
          ap (map normal) (list_kept u_outside list_at (m - 1) (omega arith) ∙ w_list)
          ∙ map_twice (cleared k (held x) (held z) (list_in v list_at (m - 1)))
          ∙ cleared_values k (held x) last (held z) (get_or rest k I) _ _ loaded z_value removed

      conjugates_now : list_in u standard_at (p.conjugate + 2) ≡ conjugates ++ normal (held x) ∷ normal (held z) ∷ []
      conjugates_now =
          let e : p.conjugate + 2 ≡ p.conjugate + 1 + 1 = omega arith in
          ap₂ (λ (a : List ℕ) (n : ℕ). list_in a standard_at n) u-is e
          ∙ list_store t standard_at (p.conjugate + 1) z (omega (arith, t_size))
          ∙ ap (λ (ps : List Pauli). ps ++ normal (held z) ∷ [])
          (ap (λ (a : List ℕ). list_in a standard_at (p.conjugate + 1)) t-is
          ∙ list_store w standard_at p.conjugate x (omega (arith, w_outside.size))
          ∙ ap (λ (ps : List Pauli). ps ++ normal (held x) ∷ []) (list_kept_after w_outside standard_at p.conjugate (omega arith)))
          ∙ append_assoc conjugates (normal (held x) ∷ []) (normal (held z) ∷ [])

      others_now : list_in u further_at p.commuting ≡ others
      others_now =
          list_kept_after u_outside further_at p.commuting (omega arith) ∙ list_kept_after w_outside further_at p.commuting (omega arith)

      pub stored_pair : PairedTo l p u (record { left = m - 1; conjugate = p.conjugate + 2; commuting = p.commuting })
      unfolding paired_in Plain
      stored_pair = record {
        same =
            let e : m ≡ suc (m - 1) = omega arith in
            let now : List Pauli = cleared k last (get_or rest k I) (swap_remove k rest) in
            paired_alike (m - 1) _ now _ (conjugates ++ last ∷ get_or rest k I ∷ []) _ others list_now
            (ap (map normal) conjugates_now
            ∙ join_values conjugates conjugates (normal (held x) ∷ normal (held z) ∷ []) (last ∷ get_or rest k I ∷ []) refl
            (ap₂ (λ (a b : Pauli). a ∷ b ∷ []) (normal_twice (held x) ∙ loaded) (normal_twice (held z) ∙ z_value)))
            (ap (map normal) others_now)
            ∙ ap (map normal)
            (sym (paired_fuel (m - 1) now _ others
            (omega (arith, cleared_length k last (get_or rest k I) (swap_remove k rest), removed_length k rest (omega (arith, length_list l list_at m)), length_list l list_at m)))
            ∙ ap (λ (n : ℕ). paired_from n now (conjugates ++ last ∷ get_or rest k I ∷ []) others) (sym e)
            ∙ sym (step_some m k rest last conjugates others (place ∙ sym found)))
            ∙ sym begun;
        less = omega arith;
        count = omega arith;
        plain = λ s.
            ap (map normal) conjugates_now ∙ map-append normal conjugates (normal (held x) ∷ normal (held z) ∷ [])
            ∙ ap₂ (λ (ps qs : List Pauli). ps ++ qs) s (ap₂ (λ (a b : Pauli). a ∷ b ∷ []) (normal_twice (held x)) (normal_twice (held z)))
            ∙ sym conjugates_now;
      }

-- ---- the whole loop

-- from the area `first`, of n Paulis: what the pairing comes to is the same
pub record PairedUpTo (first : List ℕ) (n : ℕ) (w : List ℕ) (p : Pairing) : Type 0 where
  pub same : paired_in w p ≡ map normal (symplectic_form (list_in first list_at n))
  pub count : p.left + p.conjugate + p.commuting ≡ n
  pub plain : Plain w p

pub paired_start : (w : List ℕ) (n : ℕ) → PairedUpTo w n w (record { left = n; conjugate = 0; commuting = 0 })
unfolding paired_in Plain symplectic_form list_in
paired_start w n = record {
  same = ap (λ (m : ℕ). map normal (paired_from m (list_in w list_at n) [] [])) (sym (length_list w list_at n));
  count = omega arith;
  plain = refl;
}

pub paired_end : (first : List ℕ) (n : ℕ) (w : List ℕ) (p : Pairing) → PairedUpTo first n w p → p.left ≡ 0 → (u : List ℕ)
    → list_in u (standard_at + 5 * p.conjugate) p.commuting ≡ map normal (list_in w further_at p.commuting)
    → Outside (standard_at + 5 * p.conjugate) (5 * p.commuting) w u
    → list_in u standard_at n ≡ map normal (symplectic_form (list_in first list_at n))
unfolding paired_in Plain paired_from
paired_end first n w p s z u e o =
    let c : List Pauli = list_in w standard_at p.conjugate in
    let d : List Pauli = list_in w further_at p.commuting in
    let m : n ≡ p.conjugate + p.commuting = omega (arith, s.count) in
    ap (list_in u standard_at) m ∙ list_append u standard_at p.conjugate p.commuting
    ∙ ap₂ (λ (ps qs : List Pauli). ps ++ qs) (list_kept o standard_at p.conjugate (omega arith) ∙ sym s.plain) e
    ∙ sym (map-append normal c d)
    ∙ sym (ap (λ (k : ℕ). map normal (paired_from k (list_in w list_at p.left) c d)) z)
    ∙ s.same

-- ---- the paired list of an accepted roll, over the places of its support

module _ (b : List ℕ) (n : ℕ) (e : count_of b ≡ answer n) (known : List ℕ)
    (g : Gathered (support (list_of b)) known) (w : List ℕ)
    (list : list_in w list_at n ≡ map (over_places known) (list_of b)) (u : List ℕ)
    (paired : list_in u standard_at n ≡ map normal (symplectic_form (list_in w list_at n))) where
  pairs_are : list_in u standard_at n ≡ map normal (symplectic_form (placed (paulis (list_of b))))
  unfolding over_support
  pairs_are =
      paired ∙ ap (λ (ps : List Pauli). map normal (symplectic_form ps)) (listed (list_of b) known g (own_few b n e) w n list)

  pub pairs_on : OnPlaces (length known) (list_in u standard_at n)
  pairs_on =
      rw (pairs_are, size_same (list_of b) known g (own_few b n e) w n list) (symplectic_places_on (paulis (list_of b)))

  pub pairs_written : roll_over known (list_in u standard_at n) ≡ symplectic_bytes (paulis (list_of b))
  unfolding symplectic_bytes paulis
  pairs_written =
      ap₂ roll_over (known_is (list_of b) known g (own_few b n e) ∙ support_of_lem (list_of b)) pairs_are
      ∙ written_symplectic (paulis (list_of b))
