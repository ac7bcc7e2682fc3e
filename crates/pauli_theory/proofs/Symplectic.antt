-- Symplectic pairing: the loop's course, and what it keeps: the group, the count, and which elements anticommute.
use mathlib.Core.Path.{◌≡◌, refl, sym, ap, ◌∙◌, subst}
use mathlib.Core.List.{List, [], ◌∷◌, ◌++◌, map, append_assoc}
use mathlib.Core.Option.{Option, some, none}
use Prim.Native.Nat.{ℕ, zero, suc, ◌+◌, ◌-◌, ◌*◌, ◌≤◌, ◌<◌}
use native.Mathlib.Omega.{arith}
use native.Mathlib.Decide.{ℕ_discrete}
use lib.ListN.{length, get_or, set, take, drop, length-append, length-map, length-set, length-take, take-append-drop}
use lib.Seq.{length-take-le, take-length, take-suc, take-take, take-set-le, get_or-take, get_or-set_same, get_or-set_other}
use Rattle.binar.proofs.row.Bits.{dot_comm}
use Rattle.binar.proofs.Lists.{all_of, all_map, all_zip, all_join, all_left, all_right, all_get, all_by, all_over, all_under}
use Rattle.binar.proofs.echelon.Span.{if_bit_case}
use Rattle.pauli.specs.Support.{All}
use Rattle.pauli.specs.Pauli.{Pauli, I, anticommute}
use Rattle.pauli.proofs.signed.Algebra.{anticommute_lt, anticommute_comm, anticommute_times_r}
use Rattle.pauli_theory.specs.Symplectic.{position, swap_remove, times_if, cleared, on_position, paired_from, symplectic_form}
use Rattle.pauli_theory.specs.Theorems.{SymplecticLaw}
use Rattle.pauli_theory.proofs.Agree.{Subgroup}
use Rattle.pauli_theory.proofs.Group.{generated_subgroup, generators, inside_by}
use Rattle.pauli_theory.proofs.Products.{commuting_subgroup}
use Rattle.pauli_theory.proofs.Rows.{generated_on}
use Rattle.pauli_theory.proofs.Tests.{Commuting}
use Rattle.pauli_theory.proofs.Cosets.{undo}

-- ---- `pop`
pub popped : (g : Pauli) (gs : List Pauli) → take (length gs) (g ∷ gs) ++ get_or (g ∷ gs) (length gs) I ∷ [] ≡ g ∷ gs
popped g gs = sym (take-suc (g ∷ gs) (length gs) I (omega arith)) ∙ take-length (g ∷ gs)

-- ---- `swap_remove`
module _ (P : Pauli → Type 0) where
  all_take : (n : ℕ) (ps : List Pauli) → All P ps → All P (take n ps)
  all_take zero ps h = tt
  all_take (suc n) [] h = tt
  all_take (suc n) (p ∷ ps) h = (h.0, all_take n ps h.1)

  all_set : (ps : List Pauli) (i : ℕ) (a : Pauli) → All P ps → P a → All P (set ps i a)
  all_set [] i a h b = tt
  all_set (p ∷ ps) zero a h b = (b, h.1)
  all_set (p ∷ ps) (suc i) a h b = (h.0, all_set ps i a h.1 b)

module _ (k : ℕ) (gs : List Pauli) (l : k < length gs) where
  pub removed_length : length (swap_remove k gs) ≡ length gs - 1
  unfolding swap_remove
  removed_length = let n = length-set gs k (get_or gs (length gs - 1) I) in length-take-le (length gs - 1) _ (omega arith)

  -- those before k stand as they were
  removed_before : take k (swap_remove k gs) ≡ take k gs
  unfolding swap_remove
  removed_before =
      let a = get_or gs (length gs - 1) I in
      take-take k (length gs - 1) (set gs k a) (omega arith) ∙ take-set-le k gs k a (omega arith)

  removed_in : (P : Pauli → Type 0) → All P gs → All P (swap_remove k gs)
  unfolding swap_remove
  removed_in P h = all_take P (length gs - 1) _ (all_set P gs k _ h (all_get P gs I h (length gs - 1) (omega arith)))

  removed_out : (P : Pauli → Type 0) → All P (swap_remove k gs) → P (get_or gs k I) → All P gs
  unfolding swap_remove
  removed_out P h z = all_by P gs I λ i b. elim (ℕ_discrete i k) [ yes e ↦ rw e z | no n ↦ not_k i n b ]
    where
      end : ℕ
      end = length gs - 1

      a : Pauli
      a = get_or gs end I

      kept : (i : ℕ) → i < end → P (get_or (swap_remove k gs) i I)
      kept i b = all_get P (swap_remove k gs) I h i (omega (arith, removed_length))

      at_end : k < end → P a
      at_end b = rw (get_or-take end (set gs k a) k I b ∙ get_or-set_same gs k a I l) at (kept k b)

      other : (i : ℕ) → (i ≡ k → ⊥) → i < end → P (get_or gs i I)
      other i n b = rw (get_or-take end (set gs k a) i I b ∙ get_or-set_other gs k i a I n) at (kept i b)

      not_k : (i : ℕ) → (i ≡ k → ⊥) → i < length gs → P (get_or gs i I)
      not_k i n b = elim (ℕ_discrete i end) [ yes e ↦ rw e (at_end (omega arith)) | no d ↦ other i n (omega arith) ]

-- ---- `position`
abbrev Commutes : Pauli → Pauli → Type 0
Commutes p q = anticommute p q ≡ 0

data Searched (x : Pauli) (gs : List Pauli) (i : ℕ) : Option ℕ → Type 0 where
  nowhere : All (Commutes x) gs → Searched x gs i none
  found : {j : ℕ} (k : ℕ) → i + k ≡ j → k < length gs → All (Commutes x) (take k gs) → anticommute x (get_or gs k I) ≡ 1
      → Searched x gs i (some j)

searched_next : (x g : Pauli) (gs : List Pauli) (i : ℕ) (o : Option ℕ) → Commutes x g → Searched x gs (suc i) o → Searched x (g ∷ gs) i o
searched_next x g gs i none c (nowhere h) = nowhere (c, h)
searched_next x g gs i (some j) c (found k e l h a) = found {j = j} (suc k) (omega arith) (omega arith) (c, h) a

searched : (x : Pauli) (gs : List Pauli) (i : ℕ) → Searched x gs i (position x i gs)
unfolding position
searched x [] i = nowhere tt
searched x (g ∷ gs) i =
    if_bit_case (Searched x (g ∷ gs) i) (anticommute x g) (λ z. searched_next x g gs i (position x (suc i) gs) z (searched x gs (suc i)))
    (λ l. found {j = i} 0 (omega arith) (omega arith) tt (omega (arith, anticommute_lt x g)))

-- ---- `*=` where it anticommutes
module _ {Q : Pauli → Type 0} (S : Subgroup 4 Q) (p q : Pauli) (b : Q q) where
  times_if_in : (g : Pauli) → Q g → Q (times_if p q g)
  unfolding times_if
  times_if_in g a = if_bit_case Q (anticommute g p) (λ z. a) (λ l. S.products g q a b)

  times_if_out : (g : Pauli) → Q (times_if p q g) → Q g
  unfolding times_if
  times_if_out g = if_bit_case (λ w. Q w → Q g) (anticommute g p) (λ z a. a) (λ l a. undo S g q a b)

times_if_clears : (p q : Pauli) → anticommute p q ≡ 1 → (g : Pauli) → Commutes p (times_if p q g)
unfolding times_if
times_if_clears p q e g =
    if_bit_case (Commutes p) (anticommute g p) (λ z. anticommute_comm p g ∙ z)
    (λ l. anticommute_times_r p g q ∙ omega (arith, anticommute_comm p g, anticommute_lt g p))

commutes_self : (p : Pauli) → Commutes p p
unfolding anticommute
commutes_self p = omega (arith, dot_comm p.x p.z)

module _ (k : ℕ) (x z : Pauli) (gs : List Pauli) where
  pub cleared_length : length (cleared k x z gs) ≡ length gs
  unfolding cleared
  cleared_length =
      length-append (map (times_if z x) (take k gs)) (map (λ g. times_if z x (times_if x z g)) (drop k gs))
      ∙ omega (
        arith,
        length-map (take k gs) (times_if z x),
        length-map (drop k gs) (λ g. times_if z x (times_if x z g)),
        length-append (take k gs) (drop k gs),
        ap length (take-append-drop k gs),
      )

  module _ {Q : Pauli → Type 0} (S : Subgroup 4 Q) (a : Q x) (b : Q z) where
    cleared_in : All Q gs → All Q (cleared k x z gs)
    unfolding cleared
    cleared_in h =
        let w : All Q (take k gs ++ drop k gs) = rw (take-append-drop k gs) h in
        all_join Q (map (times_if z x) (take k gs)) (map (λ g. times_if z x (times_if x z g)) (drop k gs))
        (all_over Q (times_if z x) (take k gs) (all_map (times_if_in S z x a) (take k gs) (all_left Q (take k gs) (drop k gs) w)))
        (all_over Q (λ g. times_if z x (times_if x z g)) (drop k gs)
        (all_map (λ g c. times_if_in S z x a (times_if x z g) (times_if_in S x z b g c)) (drop k gs) (all_right Q (take k gs) (drop k gs) w)))

    cleared_out : All Q (cleared k x z gs) → All Q gs
    unfolding cleared
    cleared_out h =
        let A = map (times_if z x) (take k gs) in
        let B = map (λ g. times_if z x (times_if x z g)) (drop k gs) in
        rw (take-append-drop k gs) at
        (all_join Q (take k gs) (drop k gs)
        (all_map (times_if_out S z x a) (take k gs) (all_under Q (times_if z x) (take k gs) (all_left Q A B h)))
        (all_map (λ g c. times_if_out S x z b g (times_if_out S z x a (times_if x z g) c)) (drop k gs)
        (all_under Q (λ g. times_if z x (times_if x z g)) (drop k gs) (all_right Q A B h))))

  -- where x and z anticommute, and x commutes with those before k, all commute with both
  module _ (e : anticommute x z ≡ 1) (before : All (Commutes x) (take k gs)) where
    cleared_commute : All (λ g. Commutes x g × Commutes z g) (cleared k x z gs)
    unfolding cleared
    cleared_commute =
        let f : anticommute z x ≡ 1 = anticommute_comm z x ∙ e in
        let keep = times_if_in (commuting_subgroup 4 x) z x (commutes_self x) in
        all_join _ (map (times_if z x) (take k gs)) (map (λ g. times_if z x (times_if x z g)) (drop k gs))
        (all_over _ (times_if z x) (take k gs) (all_map (λ g c. (keep g c, times_if_clears z x f g)) (take k gs) before))
        (all_over _ (λ g. times_if z x (times_if x z g)) (drop k gs)
        (all_of (λ g. (keep (times_if x z g) (times_if_clears x z e g), times_if_clears z x f (times_if x z g))) (drop k gs)))

-- ---- the course of the loop: the generators left, the commuting elements so far, and what it adds to the conjugate elements
data Course : List Pauli → List Pauli → List Pauli → Type 0 where
  done : {commuting : List Pauli} → Course [] commuting commuting
  alone : {commuting out : List Pauli} (rest : List Pauli) (x : Pauli) → All (Commutes x) rest → Course rest (commuting ++ x ∷ []) out
      → Course (rest ++ x ∷ []) commuting out
  pair : {commuting out : List Pauli} (rest : List Pauli) (x : Pauli) (k : ℕ) → k < length rest → All (Commutes x) (take k rest)
      → anticommute x (get_or rest k I) ≡ 1 → Course (cleared k x (get_or rest k I) (swap_remove k rest)) commuting out
      → Course (rest ++ x ∷ []) commuting (x ∷ get_or rest k I ∷ out)

record Ended (gs conjugate commuting result : List Pauli) : Type 0 where
  out : List Pauli
  course : Course gs commuting out
  equals : result ≡ conjugate ++ out

turn : (o : Option ℕ) (rest : List Pauli) (x : Pauli) (conjugate commuting : List Pauli)
    (next : List Pauli → List Pauli → List Pauli → List Pauli) → ((gs ps qs : List Pauli) → length gs ≤ length rest → Ended gs ps qs (next gs ps qs)) → Searched x rest 0 o
    → Ended (rest ++ x ∷ []) conjugate commuting
    (on_position o (next rest conjugate (commuting ++ x ∷ []))
    (λ k. let z = get_or rest k I in next (cleared k x z (swap_remove k rest)) (conjugate ++ x ∷ z ∷ []) commuting))
unfolding on_position
turn none rest x conjugate commuting next more (nowhere h) =
    let w = more rest conjugate (commuting ++ x ∷ []) (omega arith) in
    record { out = w.out; course = alone rest x h w.course; equals = w.equals }
turn (some j) rest x conjugate commuting next more (found k e l h a) = rw (← same) here
  where
    same : k ≡ j
    same = omega arith

    z : Pauli
    z = get_or rest k I

    gs : List Pauli
    gs = cleared k x z (swap_remove k rest)

    here : Ended (rest ++ x ∷ []) conjugate commuting (next gs (conjugate ++ x ∷ z ∷ []) commuting)
    here =
        let w = more gs (conjugate ++ x ∷ z ∷ []) commuting (omega (arith, cleared_length k x z (swap_remove k rest), removed_length k rest l)) in
        record {
          out = x ∷ z ∷ w.out;
          course = pair rest x k l h a w.course;
          equals = w.equals ∙ append_assoc conjugate (x ∷ z ∷ []) w.out;
        }

ended : (n : ℕ) (gs conjugate commuting : List Pauli) → length gs ≤ n → Ended gs conjugate commuting (paired_from n gs conjugate commuting)
unfolding paired_from
ended zero [] conjugate commuting l = record { out = commuting; course = done; equals = refl }
ended zero (g ∷ gs) conjugate commuting l = absurd (omega arith)
ended (suc n) [] conjugate commuting l = record { out = commuting; course = done; equals = refl }
ended (suc n) (g ∷ gs) conjugate commuting l =
    let x = get_or (g ∷ gs) (length gs) I in
    let rest = take (length gs) (g ∷ gs) in
    let m : length rest ≤ n = omega (arith, length-take (length gs) (g ∷ gs)) in
    subst (λ ps. Ended ps conjugate commuting (paired_from (suc n) (g ∷ gs) conjugate commuting)) (popped g gs)
    (turn (position x 0 rest) rest x conjugate commuting (paired_from n) (λ ps qs rs b. ended n ps qs rs (omega arith)) (searched x rest 0))

-- ---- what it keeps
module _ {Q : Pauli → Type 0} (S : Subgroup 4 Q) where
  -- the generators after the pair of x and the element at k
  pair_in : (rest : List Pauli) (x : Pauli) (k : ℕ) → k < length rest → All Q (rest ++ x ∷ [])
      → All Q (cleared k x (get_or rest k I) (swap_remove k rest))
  pair_in rest x k l a =
      let c = all_left Q rest (x ∷ []) a in
      cleared_in k x (get_or rest k I) (swap_remove k rest) S (all_right Q rest (x ∷ []) a).0 (all_get Q rest I c k l) (removed_in k rest l Q c)

  course_in : {gs commuting out : List Pauli} → Course gs commuting out → All Q gs → All Q commuting → All Q out
  course_in done a b = b
  course_in {commuting} (alone rest x h more) a b =
      course_in more (all_left Q rest (x ∷ []) a) (all_join Q commuting (x ∷ []) b (all_right Q rest (x ∷ []) a))
  course_in (pair rest x k l h e more) a b =
      ((all_right Q rest (x ∷ []) a).0, (all_get Q rest I (all_left Q rest (x ∷ []) a) k l, course_in more (pair_in rest x k l a) b))

  course_out : {gs commuting out : List Pauli} → Course gs commuting out → All Q out → All Q gs × All Q commuting
  course_out done a = (tt, a)
  course_out {commuting} (alone rest x h more) a =
      let w = course_out more a in
      (all_join Q rest (x ∷ []) w.0 (all_right Q commuting (x ∷ []) w.1), all_left Q commuting (x ∷ []) w.1)
  course_out (pair rest x k l h e more) a =
      let w = course_out more a.1.1 in
      let qx = a.0 in
      let qz = a.1.0 in (
        all_join Q rest (x ∷ []) (removed_out k rest l Q (cleared_out k x (get_or rest k I) (swap_remove k rest) S qx qz w.0) qz) (qx, tt),
        w.1,
      )

course_count : {gs commuting out : List Pauli} → Course gs commuting out → length out ≡ length gs + length commuting
course_count done = omega arith
course_count {commuting} (alone rest x h more) = omega (arith, course_count more, length-append commuting (x ∷ []), length-append rest (x ∷ []))
course_count (pair rest x k l h e more) =
    omega (
      arith,
      course_count more,
      length-append rest (x ∷ []),
      cleared_length k x (get_or rest k I) (swap_remove k rest),
      removed_length k rest l,
    )

-- ---- the pairs, and then elements that commute with each other
data Pairs : ℕ → List Pauli → Type 0 where
  no_pairs : {ps : List Pauli} → Commuting ps → Pairs 0 ps
  first_pair : {k : ℕ} {x z : Pauli} {ps : List Pauli} → anticommute x z ≡ 1 → All (Commutes x) ps → All (Commutes z) ps → Pairs k ps
      → Pairs (suc k) (x ∷ z ∷ ps)

-- each of ps with each of qs
abbrev Apart : List Pauli → List Pauli → Type 0
Apart ps qs = All (λ p. All (Commutes p) qs) ps

course_pairs : {gs commuting out : List Pauli} → Course gs commuting out → Commuting commuting → Apart commuting gs → (k : ℕ) × Pairs k out
course_pairs done c a = (0, no_pairs c)
course_pairs {commuting} (alone rest x h more) c a =
    let with-x = all_map (λ p w. (all_right (Commutes p) rest (x ∷ []) w).0) commuting a in
    course_pairs more
    (all_join _ commuting (x ∷ []) (all_zip (λ p u v. all_join (Commutes p) commuting (x ∷ []) u (v, tt)) commuting c with-x)
    (all_join (Commutes x) commuting (x ∷ []) (all_map (λ p e. anticommute_comm x p ∙ e) commuting with-x) (commutes_self x, tt), tt))
    (all_join _ commuting (x ∷ []) (all_map (λ p w. all_left (Commutes p) rest (x ∷ []) w) commuting a) (h, tt))
course_pairs {commuting} (pair {out} rest x k l h e more) c a =
    let z = get_or rest k I in
    let ps = cleared k x z (swap_remove k rest) in
    let both = cleared_commute k x z (swap_remove k rest) e (rw (removed_before k rest l) h) in
    let with-x = all_map (λ p w. (all_right (Commutes p) rest (x ∷ []) w).0) commuting a in
    let with-z = all_map (λ p w. all_get (Commutes p) rest I (all_left (Commutes p) rest (x ∷ []) w) k l) commuting a in
    let w = course_pairs more c (all_map (λ p. pair_in (commuting_subgroup 4 p) rest x k l) commuting a) in (
      suc w.0,
      first_pair e
          (course_in (commuting_subgroup 4 x) more (all_map (λ p u. u.0) ps both) (all_map (λ p u. anticommute_comm x p ∙ u) commuting with-x))
          (course_in (commuting_subgroup 4 z) more (all_map (λ p u. u.1) ps both) (all_map (λ p u. anticommute_comm z p ∙ u) commuting with-z))
          w.1,
    )

pairs_room : {k : ℕ} {ps : List Pauli} → Pairs k ps → 2 * k ≤ length ps
pairs_room (no_pairs c) = omega arith
pairs_room (first_pair e u v more) = omega (arith, pairs_room more)

pairs_anticommute : {k : ℕ} {ps : List Pauli} → Pairs k ps → (i : ℕ) → i < k → anticommute (get_or ps (2 * i) I) (get_or ps (2 * i + 1) I) ≡ 1
pairs_anticommute (no_pairs c) i l = absurd (omega arith)
pairs_anticommute (first_pair e u v more) zero l = e
pairs_anticommute (first_pair {ps} e u v more) (suc i) l = rw (left, right) (pairs_anticommute more i (omega arith))
  where
    left : 2 * suc i ≡ suc (suc (2 * i))
    left = omega arith

    right : suc (suc (2 * i)) + 1 ≡ suc (suc (2 * i + 1))
    right = omega arith

pairs_commute : {k : ℕ} {ps : List Pauli} → Pairs k ps → (i j : ℕ) → i < j → j < length ps → ((h : ℕ) → h < k → i ≡ 2 * h → j ≡ 2 * h + 1 → ⊥)
    → anticommute (get_or ps i I) (get_or ps j I) ≡ 0
pairs_commute (no_pairs {ps} c) i j l m n =
    let p = get_or ps i I in
    all_get (Commutes p) ps I (all_get (λ q. All (Commutes q) ps) ps I c i (omega arith)) j m
pairs_commute (first_pair e u v more) i zero l m n = absurd (omega arith)
pairs_commute (first_pair e u v more) zero (suc zero) l m n = absurd (n 0 (omega arith) refl refl)
pairs_commute (first_pair {x} {ps} e u v more) zero (suc (suc j)) l m n = all_get (Commutes x) ps I u j (omega arith)
pairs_commute (first_pair e u v more) (suc i) (suc zero) l m n = absurd (omega arith)
pairs_commute (first_pair {z} {ps} e u v more) (suc zero) (suc (suc j)) l m n = all_get (Commutes z) ps I v j (omega arith)
pairs_commute (first_pair e u v more) (suc (suc i)) (suc (suc j)) l m n =
    pairs_commute more i j (omega arith) (omega arith) λ h b f g. n (suc h) (omega arith) (omega arith) (omega arith)

-- ---- the law
pub symplectic_law : (gs : List Pauli) → SymplecticLaw gs
unfolding symplectic_form
symplectic_law gs =
    let out = symplectic_form gs in
    let w = ended (length gs) gs [] [] (omega arith) in
    let course : Course gs [] out = subst (Course gs []) (sym w.equals) w.course in
    let count : length out ≡ length gs = omega (arith, course_count course) in
    let p = course_pairs course tt tt in
    let inside = course_in (generated_subgroup gs) course (generators gs) tt in
    record {
      count = count;
      generates = record {
        there = inside_by out gs inside;
        back = inside_by gs out (course_out (generated_subgroup out) course (generators out)).0;
      };
      on_support = all_map (generated_on gs) out inside;
      pairs = p.0;
      room = omega (arith, pairs_room p.1);
      paired = pairs_anticommute p.1;
      else_commute = λ i j l m. pairs_commute p.1 i j l (omega arith);
    }
