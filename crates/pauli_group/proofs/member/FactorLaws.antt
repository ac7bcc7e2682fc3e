-- Laws of an element put to the group of a list: when its qubits are in the support, and what the answer is.
use Rattle.std.proofs.Common.{◌≡◌, ℕ, suc, ◌+◌, ◌-◌, ◌*◌, ◌%◌, ◌^◌, ◌<◌, ◌≤◌, Bool, true, false, cond, ltb, List, [], ◌∷◌, ◌++◌, map, length, get_or, take, drop, take_all, sym, refl, ap, ◌∙◌, ap₂, ⊎_elim, arith, get_or-drop, get_or-take, ltb-true, lt-ltb, ne_eqb}
use mathlib.Core.List.Memᴰ
use mathlib.Core.List.Memᴰ.{append_cases as in-append}
use mathlib.Core.List.Memᴰ.{head as here}
use mathlib.Core.List.Memᴰ.{tail as there}
use mathlib.Core.List.{Memᴰ as Mem}
use mathlib.Core.Option.{Option, some, none}
use native.Mathlib.Nat.{add-mod, mod-mod}
use native.Mathlib.Decide.{ℕ_discrete}
use lib.ListN.{length-map}
use lib.Pow.{mod-mod-pow}
use Rattle.binar.specs.Echelon.{EchelonForm, rank as echelon_rank}
use Rattle.binar.specs.Layout.{form_stride, form_in, FormLeft}
use Rattle.binar.specs.Solve.{transpose_solve}
use Rattle.binar.proofs.echelon.Bounds.{rank_rows}
use Rattle.binar.proofs.Lists.{all_get}
use Rattle.binar.proofs.matrix_form.Theorems.{reduced_law}
use Rattle.pauli.specs.declared.signed.Pauli.{Pauli as Held}
use Rattle.pauli.specs.Condense.{list_of, nothing, condensed, Readable}
use Rattle.pauli.specs.Pauli.{Pauli, normal, indexed_product}
use Rattle.pauli.specs.PauliTheorems.{PauliOn}
use Rattle.pauli.specs.Roll.{Sparse, count_of}
use Rattle.pauli.specs.Support.{Rising}
use Rattle.pauli.specs.Known.{place_of}
use Rattle.pauli.specs.Sets.{row_of, pauli_of}
use Rattle.pauli.specs.Signed.{held, list_in}
use Rattle.pauli.specs.Told.{answer}
use Rattle.pauli.proofs.roll.Checks.{AllowedSets}
use Rattle.pauli.proofs.joined.JoinLaws.{accepted}
use Rattle.pauli.proofs.support.Lists.{all_in}
use Rattle.pauli.proofs.condense.Places.{place_in, condense_lt}
use Rattle.pauli.proofs.roll.RollLaws.{answer_parts}
use Rattle.pauli.proofs.condense.Sets.{set_has, set_only}
use Rattle.pauli_theory.specs.Group.{Promise}
use Rattle.pauli_theory.specs.Membership.{Factorization, exponent_left, with_phase, factorization_of}
use Rattle.pauli_theory.specs.Standard.{support_of, form_of, rank, if_zero, step_of}
use Rattle.pauli_theory.proofs.Phases.{with_phase_lem}
use Rattle.pauli_theory.proofs.IfZero.{if_zero_zero, if_zero_more}
use Rattle.pauli_theory.proofs.OverPlaces.{placed, places_form, places_phase_step, places_factorization, off_factorization}
use Rattle.pauli_theory.proofs.Rows.{support_rises}
use Rattle.pauli_group.specs.Inner.Area.{target_at, list_at, standard_at, row_words, stride_of}
use Rattle.pauli_group.proofs.source.SourceLaws.{Counted}
use Rattle.pauli_group.specs.Inner.Groups.{Grouped, over_support}
use Rattle.pauli_group.specs.Calls.{paulis}
use Rattle.pauli_group.specs.Inner.Lists.{row_over, clash_of, stabilizer_of}
use Rattle.pauli_group.specs.Inner.Members.{covered, Asked}
use Rattle.pauli_group.proofs.area.AreaLaws.{form_room}
use Rattle.pauli_group.proofs.group.GroupedLaws.{list_length}
use Rattle.pauli_group.proofs.group.GroupLaws.{described}
use Rattle.pauli_group.proofs.scan.ScanLaws.{more_than}

-- ---- numbers that are all in a support

place_mem : (qs : List ℕ) (q : ℕ) → place_of qs q < length qs → Mem q qs
unfolding place_of
place_mem [] q h = absurd (omega arith)
place_mem (r ∷ rs) q h =
    elim (ℕ_discrete r q) [
      | yes e ↦ here (sym e)
      | no d ↦ there (place_mem rs q (let l : suc (place_of rs q) < suc (length rs) = rw (ne_eqb r q d) at h in omega arith))
    ]

module _ (qs : List ℕ) (n : ℕ) (ns : List ℕ) where
  covered_first : covered qs (n ∷ ns) ≡ true → Mem n qs × (covered qs ns ≡ true)
  unfolding covered
  covered_first e = go (ltb (place_of qs n) (length qs)) refl e
    where
      go : (b : Bool) → ltb (place_of qs n) (length qs) ≡ b → cond b (covered qs ns) false ≡ true
          → Mem n qs × (covered qs ns ≡ true)
      go true t f = (place_mem qs n (ltb-true (place_of qs n) (length qs) t), f)
      go false t f = let z : ◌≡◌ {A = ℕ} 0 1 = cc in absurd (omega arith)

  covered_more : Mem n qs → covered qs (n ∷ ns) ≡ covered qs ns
  unfolding covered
  covered_more m = rw (lt-ltb (place_of qs n) (length qs) (place_in qs n m))

covered_true : (qs ns : List ℕ) → covered qs ns ≡ true → (q : ℕ) → Mem q ns → Mem q qs
covered_true qs [] e q m = elim m [ ]
covered_true qs (n ∷ ns) e q (here k) = rw k (covered_first qs n ns e).0
covered_true qs (n ∷ ns) e q (there k) = covered_true qs ns (covered_first qs n ns e).1 q k

covered_false : (qs ns : List ℕ) → covered qs ns ≡ false → ((q : ℕ) → Mem q ns → Mem q qs) → ⊥
unfolding covered
covered_false qs [] e all = let z : ◌≡◌ {A = ℕ} 0 1 = cc in omega arith
covered_false qs (n ∷ ns) e all =
    covered_false qs ns (sym (covered_more qs n ns (all n (here refl))) ∙ e) (λ q m. all q (there m))

module _ (qs : List ℕ) (p : Sparse) where
  pub covered_on : covered qs (p.xs ++ p.zs) ≡ true → PauliOn qs (pauli_of p)
  unfolding pauli_of
  covered_on e =
      let all = covered_true qs (p.xs ++ p.zs) e in
      record {
        x = λ q o. all q (Memᴰ.append_left p.zs (set_only p.xs q o));
        z = λ q o. all q (Memᴰ.append_right p.xs (set_only p.zs q o));
      }

  pub covered_off : covered qs (p.xs ++ p.zs) ≡ false → PauliOn qs (pauli_of p) → ⊥
  unfolding pauli_of
  covered_off e on =
      covered_false qs (p.xs ++ p.zs) e
      (λ q m. ⊎_elim (λ k. on.x q (set_has p.xs q k)) (λ k. on.z q (set_has p.zs q k)) (in-append p.xs m))

-- a Pauli of an accepted roll whose numbers are all in a support
pub covered_readable : (b : List ℕ) (n : ℕ) → count_of b ≡ answer n → (i : ℕ) → i < n → (qs : List ℕ) → Rising 0 qs
    → covered qs ((get_or (list_of b) i nothing).xs ++ (get_or (list_of b) i nothing).zs) ≡ true → Readable b n i qs
covered_readable b n c i h qs rises e =
    let (r, size) = accepted b n c in
    let p = get_or (list_of b) i nothing in
    let sets = all_get AllowedSets (list_of b) nothing (answer_parts b (list_of b) r).sets i (rw size h) in
    let all = covered_true qs (p.xs ++ p.zs) e in
    let xs = all_in (λ q. Mem q qs) p.xs (λ q m. all q (Memᴰ.append_left p.zs m)) in
    let zs = all_in (λ q. Mem q qs) p.zs (λ q m. all q (Memᴰ.append_right p.xs m)) in
    record {
      accepted = r;
      count = size;
      number = h;
      x = record { rise = sets.0.rise; support = rises; in_support = xs };
      z = record { rise = sets.1.rise; support = rises; in_support = zs };
    }

-- ---- a group in the area

module _ {gs : List Pauli} {known x : List ℕ} {places r total : ℕ} (G : Grouped gs known x places r total) where
  pub places_known : places ≡ length known
  places_known = G.size ∙ ap length (sym G.support)

  pub known_rises : Rising 0 known
  known_rises = rw G.support (support_rises gs)

  pub grouped_front : Grouped gs (take places known) x places r total
  grouped_front = rw (take_all places known (omega (arith, places_known))) G

  form_is : form_in (stride_of (length gs)) (length gs) row_words (2 * places) r x ≡ form_of gs
  unfolding over_support
  form_is = G.form ∙ places_form gs

  pub grouped_solvable : length gs ≤ 128 → places ≤ 128 → length x ≡ 4096
      → FormLeft x (stride_of (length gs)) (length gs) (2 * places) r target_at
  unfolding form_in form_of rank echelon_rank stride_of form_stride
  grouped_solvable few small size =
      let n = length gs in
      let s = stride_of n in
      let qs = support_of gs in
      let A = map (row_of qs) gs in
      let ps : take r (drop (n * s) x) ≡ (form_of gs).pivots = ap (λ (f : EchelonForm). f.pivots) form_is in
      let low : r ≤ n = omega (arith, G.rank_is, rank_rows (2 * length qs) A, length-map gs (row_of qs)) in
      record {
        rows = low;
        pivots = omega (arith, low, (form_room n few).0);
        target = omega (arith, (form_room n few).1, size);
        wide = omega arith;
        inside = λ k h. omega (
          arith,
          ap (λ (l : List ℕ). get_or l k 0) (sym ps) ∙ get_or-take r (drop (n * s) x) k 0 h ∙ get_or-drop (n * s) x k 0,
          (reduced_law (2 * length qs) A).inside k (omega (arith, G.rank_is)),
          G.size,
        );
      }

-- ---- the answer

-- the exponent left: by value, and by bytes
difference : (a b r : ℕ) → r < 4 → b < 4 → (r + b) % 4 ≡ a → r ≡ (a + 4 - b) % 4
difference a b r hr hb e = omega arith

left_is : (a b r : ℕ) → (r + b) % 2 ^ 8 ≡ a → r % 4 ≡ (a % 4 % 4 + 4 - b % 4) % 4
left_is a b r e =
    let sum : (r % 4 + b % 4) % 4 ≡ a % 4 = sym (add-mod r b 4) ∙ sym (mod-mod-pow (r + b) 6 2) ∙ ap (◌% 4) e in
    rw (mod-mod a 4) (difference (a % 4) (b % 4) (r % 4) (omega arith) (omega arith) sum)

module _ {known w : List ℕ} {n places r total step : ℕ} (g : Asked known w n places r total step) where
  abbrev gs : List Pauli
  gs = g.list

  abbrev front : List ℕ
  front = take places known

  pub asked_solvable : n ≤ 128 → places ≤ 128 → length w ≡ 4096 → FormLeft w (stride_of n) n (2 * places) r target_at
  asked_solvable few small size =
      rw g.size (grouped_solvable g.grouped (rw (← g.size) few) small size)

  -- the element e of a roll
  module _ (e : Sparse) where
    pub factored_off : covered front (e.xs ++ e.zs) ≡ false → none ≡ factorization_of g.promise gs (pauli_of e)
    factored_off c =
        sym (off_factorization g.promise gs (pauli_of e) (covered_off (support_of gs) e (rw g.grouped.support at c)))

    module _ (c : covered front (e.xs ++ e.zs) ≡ true) (p : Held)
        (hp : held p ≡ condensed front (pauli_of e)) where
      pub asked_on : ((held p).x < 2 ^ places) × ((held p).z < 2 ^ places)
      unfolding condensed
      asked_on =
          let size : length front ≡ places = ap length g.grouped.support ∙ sym g.grouped.size in
          rw hp (rw size at (condense_lt front (pauli_of e).x), rw size at (condense_lt front (pauli_of e).z))

      abbrev p' : Pauli
      p' = normal (condensed (support_of gs) (pauli_of e))

      abbrev found : Option ℕ
      found = transpose_solve (2 * places) (form_in (stride_of n) n row_words (2 * places) r w) (row_over places (held p))

      held_is : held p ≡ condensed (support_of gs) (pauli_of e)
      held_is = hp ∙ ap (λ (qs : List ℕ). condensed qs (pauli_of e)) g.grouped.support

      found_is : let s = length (support_of gs) in found ≡ transpose_solve (2 * s) (form_of (placed gs)) (p'.x + 2 ^ s * p'.z)
      unfolding over_support row_over normal condensed
      found_is =
          let form : form_in (stride_of n) n row_words (2 * places) r w ≡ form_of (placed gs)
          = ap (λ (k : ℕ). form_in (stride_of k) k row_words (2 * places) r w) g.size ∙ g.grouped.form in
          ap₂ (λ (f : EchelonForm) (q : Pauli). transpose_solve (2 * places) f (row_over places q)) form held_is
          ∙ ap (λ (k : ℕ). transpose_solve (2 * k) (form_of (placed gs)) (row_over k (condensed (support_of gs) (pauli_of e)))) g.grouped.size

      factored : factorization_of g.promise gs (pauli_of e) ≡ with_phase g.promise (placed gs) p' found
      factored =
          places_factorization g.promise gs (pauli_of e) (covered_on (support_of gs) e (rw g.grouped.support at c))
          ∙ ap (with_phase g.promise (placed gs) p') (sym found_is)

      pub factored_none : none ≡ found → none ≡ factorization_of g.promise gs (pauli_of e)
      unfolding with_phase
      factored_none t = sym (factored ∙ ap (with_phase g.promise (placed gs) p') (sym t))

      -- a set is found: q is the product of its generators, and k the difference of the exponents in a byte
      module _ (set : ℕ) (t : some set ≡ found) (q : Held) (hq : normal (held q) ≡ indexed_product set (list_in w list_at n)) (k : ℕ)
          (hk : (k + q.exponent) % 2 ^ 8 ≡ p.exponent) where
        exponent_is : k % 4 ≡ exponent_left p' (indexed_product set (placed gs))
        unfolding exponent_left normal held condensed over_support
        exponent_is =
            let list : list_in w list_at n ≡ placed gs = ap (list_in w list_at) g.size ∙ g.grouped.list in
            let product : q.exponent % 4 ≡ (indexed_product set (placed gs)).e
            = ap (λ (m : Pauli). m.e) hq ∙ ap (λ (ps : List Pauli). (indexed_product set ps).e) list in
            let own : p.exponent ≡ (pauli_of e).e = ap (λ (m : Pauli). m.e) held_is in
            left_is p.exponent q.exponent k hk ∙ ap₂ (λ (a : ℕ) (b : ℕ). (a % 4 % 4 + 4 - b) % 4) own product

        answered : factorization_of g.promise gs (pauli_of e)
            ≡ if_zero (k % 4 % step) (some (record { indexes = set; exponent = k % 4 })) none
        unfolding with_phase
        answered =
            factored ∙ ap (with_phase g.promise (placed gs) p') (sym t) ∙ with_phase_lem g.promise (placed gs) p' set
            ∙ ap₂ (λ (a : ℕ) (b : ℕ). if_zero {X = Option Factorization} (a % b) (some (record { indexes = set; exponent = a })) none)
            (sym exponent_is) (places_phase_step gs g.promise ∙ sym g.step_is)

        pub factored_found : k % 4 % step ≡ 0
            → some (record { indexes = set; exponent = k % 4 }) ≡ factorization_of g.promise gs (pauli_of e)
        factored_found z = sym (answered ∙ if_zero_zero _ _ z)

        pub factored_phase : (k % 4 % step ≡ 0 → ⊥) → none ≡ factorization_of g.promise gs (pauli_of e)
        factored_phase d = sym (answered ∙ if_zero_more (k % 4 % step) _ _ (more_than (k % 4 % step) d))

-- ---- a list within the limits

module _ (ps : List Sparse) (n : ℕ) (e : Counted ps n) {known x : List ℕ} {places r total : ℕ}
    (G : Grouped (paulis ps) known x places r total) (promise : Promise) {step clash stable : ℕ}
    (ec : clash ≡ clash_of promise (list_in x standard_at total))
    (es : step ≡ step_of (clash_of promise (list_in x standard_at total)) (list_in x standard_at total))
    (et : stable ≡ stabilizer_of (clash_of promise (list_in x standard_at total)) (list_in x standard_at total)) where
  unfoldable pub asked_of : Asked known x n places r total step
  asked_of = record {
    list = paulis ps;
    promise = promise;
    size = sym (list_length ps n e);
    grouped = grouped_front G;
    step_is = (described G promise step clash stable ec es et).step_is;
  }
