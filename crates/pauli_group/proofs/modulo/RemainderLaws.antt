-- Laws of the remainder in the work area: Paulis multiplied at a pivot, and by all standard generators in turn.
use Rattle.std.proofs.Common.{◌≡◌, ℕ, zero, suc, ◌+◌, ◌*◌, ◌%◌, ◌^◌, ◌<◌, ◌≤◌, Bool, true, false, cond, ltb, List, map, length, get_or, take, drop, sym, refl, ap, ◌∙◌, add-one, arith, length-drop, length-take-le, get_or-drop, get_or-take}
use lib.ListN.{length-map}
use Rattle.binar.specs.Row.{bit, if_bit}
use Rattle.binar.proofs.row.Bits.{bit_lt}
use Rattle.binar.proofs.Lists.{all_map, all_over, map_same}
use Rattle.pauli.specs.Known.{place_of}
use Rattle.pauli.specs.Support.{All}
use Rattle.pauli.proofs.support.Lists.{in_get_or}
use Rattle.pauli.specs.declared.signed.Pauli.{Pauli as Held}
use Rattle.pauli.specs.Pauli.{Pauli, I, normal, times}
use Rattle.pauli.specs.Signed.{held, pauli_in, list_in, times_stored}
use Rattle.pauli.proofs.signed.Algebra.{normal_lt, normal_times, times_normal_l, times_normal_r}
use Rattle.pauli.proofs.signed.SignedLaws.{zero_bit, if_times_value}
use Rattle.pauli.proofs.write.Writers.{length_list}
use Rattle.pauli_theory.specs.Inner.ModuloPlaces.{moved_pauli, pivot_place, multiplied_at, multiplied_over, multiplied_by_all_over}
use Rattle.pauli_theory.proofs.ModuloPlaces.{over_next, over_end, pivot_place_lem}
use Rattle.pauli_group.specs.Inner.Area.{standard_at, further_at, stride_of, Outside}
use Rattle.pauli_group.proofs.area.AreaLaws.{form_room}
use Rattle.pauli_group.proofs.list.ListLaws.{list_map_at, on_places_at, pauli_kept, outside_refl, outside_join}
use Rattle.pauli_group.specs.Inner.Moved.{Movable, MovablePauli}
use Rattle.pauli_group.specs.Inner.Remainder.{multiplied_stored, Other, remainder_by}
use Rattle.pauli_group.proofs.moved.MoveLaws.{loaded_movable, moved_value}

-- ---- one Pauli at one place

-- the bit that decides
abbrev pub one_at : Bool → ℕ → Pauli → ℕ
one_at is_x place g = cond is_x (bit g.x place) (bit g.z place)

pub one_x : (is_x : Bool) (place : ℕ) (g : Pauli) (s b : ℕ) → is_x ≡ true → s ≡ g.x → b ≡ bit s place → b ≡ one_at is_x place g
one_x is_x place g s b t e h = h ∙ rw (t, e)

pub one_z : (is_x : Bool) (place : ℕ) (g : Pauli) (s b : ℕ) → is_x ≡ false → s ≡ g.z → b ≡ bit s place → b ≡ one_at is_x place g
one_z is_x place g s b t e h = h ∙ rw (t, e)

one_lt : (is_x : Bool) (place : ℕ) (g : Pauli) → one_at is_x place g < 2
one_lt true place g = bit_lt g.x place
one_lt false place g = bit_lt g.z place

module _ (is_x : Bool) (place : ℕ) (other g : Pauli) where
  pub multiplied_hit : (b : ℕ) → b ≡ one_at is_x place g → b ≡ 1 → (r : Pauli) → r ≡ times_stored g other
      → r ≡ multiplied_stored is_x place other g
  unfolding multiplied_stored if_bit
  multiplied_hit b e h r t = let o : one_at is_x place g ≡ 1 = sym e ∙ h in rw o t

  pub multiplied_miss : (b : ℕ) → b ≡ one_at is_x place g → (b ≡ 1 → ⊥) → g ≡ multiplied_stored is_x place other g
  unfolding multiplied_stored if_bit
  multiplied_miss b e h =
      let o : one_at is_x place g ≡ 0 = zero_bit (one_at is_x place g) (one_lt is_x place g) (λ q. h (e ∙ q)) in rw o

  -- by value it is what is defined
  pub at_value : {r : Pauli} → r ≡ multiplied_stored is_x place other g → normal r ≡ normal (multiplied_at is_x place other g)
  unfolding multiplied_stored multiplied_at
  at_value e = ap normal e ∙ if_times_value (one_at is_x place g) g other

-- the product's value goes by the values of its factors
pub multiplied_value : (is_x : Bool) (place : ℕ) (other g h : Pauli) → normal g ≡ normal h
    → normal (multiplied_at is_x place other g) ≡ normal (multiplied_at is_x place other h)
unfolding multiplied_at if_bit normal
multiplied_value is_x place other g h e =
    let x : g.x ≡ h.x = same_x e in
    let z : g.z ≡ h.z = same_z e in
    let b : one_at is_x place g ≡ one_at is_x place h = rw (x, z) in
    rw b (go (one_at is_x place h))
  where
    same_x : normal g ≡ normal h → g.x ≡ h.x
    same_x f = ap (λ (r : Pauli). r.x) f

    same_z : normal g ≡ normal h → g.z ≡ h.z
    same_z f = ap (λ (r : Pauli). r.z) f

    go : (k : ℕ) → normal (if_bit k (times g other) g) ≡ normal (if_bit k (times h other) h)
    go zero = e
    go (suc k) = ap normal (sym (times_normal_l g other) ∙ ap (λ (r : Pauli). times r other) e ∙ times_normal_l h other)

-- of a Pauli whose exponent is a value, by a factor that is the same by value
module _ (is_x : Bool) (place : ℕ) (other other' g : Pauli) (e : normal other ≡ normal other') (low : g.e < 4) where
  pub multiplied_plain : normal (multiplied_at is_x place other g) ≡ multiplied_at is_x place other' g
  unfolding multiplied_at if_bit
  multiplied_plain = go (one_at is_x place g)
    where
      go : (k : ℕ) → normal (if_bit k (times g other) g) ≡ if_bit k (times g other') g
      go zero = normal_lt g low
      go (suc k) = normal_times g other ∙ sym (times_normal_r g other) ∙ ap (times g) e ∙ times_normal_r g other'

pub normal_low : (p : Pauli) → (normal p).e < 4
unfolding normal
normal_low p = omega arith

-- ---- by all standard generators in turn

-- all numbers of one list are in another: every set is movable
pub other_movable : {own qs x : List ℕ} {n rank total : ℕ} → Other own qs x n rank total → (v : ℕ) → Movable own qs v
other_movable o v = record { own_rises = o.own_rises; rises = o.rises; inside = λ i h e. o.inside _ (in_get_or _ i 0 h) }

module _ (own qs x : List ℕ) (n rank total m : ℕ) where
  abbrev hs : List Pauli
  hs = map (moved_pauli own qs) (list_in x standard_at total)

  abbrev cs : List ℕ
  cs = take rank (drop (n * stride_of n) x)

  -- of the area x the further list alone has changed, to w, and the first k standard generators are dealt with
  pub record MultipliedUpTo (k : ℕ) (w : List ℕ) : Type 0 where
    pub within : k ≤ rank
    pub rest : Outside further_at (5 * m) x w
    pub same : multiplied_by_all_over own qs (drop k hs) (drop k cs) (list_in w further_at m) ≡ remainder_by own qs x n rank total (list_in x further_at m)
    pub low : All (λ p. p.e < 4) (list_in w further_at m)

  pub multiplied_start : All (λ p. p.e < 4) (list_in x further_at m) → MultipliedUpTo 0 x
  unfolding remainder_by
  multiplied_start h = record { within = omega arith; rest = outside_refl further_at (5 * m) x; same = refl; low = h }

  module _ (o : Other own qs x n rank total) (size : length x ≡ 4096) where
    room : n * stride_of n + rank ≤ 1040
    room = omega (arith, (form_room n o.list_few).0, o.fits, o.few)

    cs_length : length cs ≡ rank
    cs_length = length-take-le rank (drop (n * stride_of n) x) (rw length-drop (omega (arith, room, size)))

    hs_length : length hs ≡ total
    hs_length = length-map (list_in x standard_at total) (moved_pauli own qs) ∙ length_list x standard_at total

    module _ (k : ℕ) (w : List ℕ) (u : MultipliedUpTo k w) where
      pub multiplied_end : rank ≤ k → list_in w further_at m ≡ remainder_by own qs x n rank total (list_in x further_at m)
      multiplied_end h = sym (over_end own qs hs cs k (omega (arith, cs_length)) (list_in w further_at m)) ∙ u.same

      pub pivot_room : k < rank → n * stride_of n + k < length w
      pivot_room h = omega (arith, room, size, u.rest.size)

      module _ (h : k < rank) (pivot : ℕ) (read : pivot ≡ get_or w (n * stride_of n + k) 0) where
        pivot_first : pivot ≡ get_or x (n * stride_of n + k) 0
        pivot_first = read ∙ u.rest.before (n * stride_of n + k) (omega (arith, room))

        pub pivot_low : pivot < 2 * length own
        pivot_low = rw pivot_first (o.pivots k h)

        pivot_is : pivot ≡ get_or cs k 0
        pivot_is = pivot_first ∙ sym (get_or-take rank (drop (n * stride_of n) x) k 0 h ∙ get_or-drop (n * stride_of n) x k 0)

        module _ (other : Held) (loaded : normal (held other) ≡ normal (pauli_in w (standard_at + 5 * k))) where
          other_is : normal (held other) ≡ normal (pauli_in x (standard_at + 5 * k))
          other_is = loaded ∙ ap normal (pauli_kept u.rest (standard_at + 5 * k) (omega (arith, o.fits, o.few)))

          pub other_moves : ((held other).x < 2 ^ length own) × ((held other).z < 2 ^ length own) × MovablePauli own qs (held other)
          other_moves =
              loaded_movable other (pauli_in x (standard_at + 5 * k)) other_is own qs (length own)
              (on_places_at (length own) x standard_at total k o.on (omega (arith, o.fits))) (other_movable o _, other_movable o _)

          module _ (moved : Held) (made : held moved ≡ moved_pauli own qs (held other)) (place : ℕ) (is_x : Bool)
              (test : is_x ≡ ltb pivot (length own)) (at : place ≡ place_of qs (get_or own (pivot % length own) 0)) where
            pub place_low : length qs ≤ 128 → place < 128
            unfolding pivot_place
            place_low few = let l : place < length qs = rw at pivot_in_place in omega (arith, l)
              where
                pivot_in_place : place_of qs (get_or own (pivot % length own) 0) < length qs
                pivot_in_place = pivot_place_lem own qs o.inside pivot pivot_low

            placed : (p : Pauli) → multiplied_at is_x place (moved_pauli own qs (pauli_in x (standard_at + 5 * k))) p
                ≡ multiplied_over own qs (get_or cs k 0) (get_or hs k I) p
            unfolding multiplied_over pivot_place
            placed p =
                rw (← pivot_is, list_map_at (moved_pauli own qs) x standard_at total k I (omega (arith, o.fits)), test, at) refl

            step_map : map (λ p. normal (multiplied_at is_x place (held moved) p)) (list_in w further_at m)
                ≡ map (multiplied_over own qs (get_or cs k 0) (get_or hs k I)) (list_in w further_at m)
            step_map =
                let q = pauli_in x (standard_at + 5 * k) in
                let value : normal (held moved) ≡ normal (moved_pauli own qs q) = moved_value other q other_is own qs moved made in
                map_same (λ p. normal (multiplied_at is_x place (held moved) p)) (multiplied_over own qs (get_or cs k 0) (get_or hs k I)) (list_in w further_at m)
                (all_map (λ p low. multiplied_plain is_x place (held moved) (moved_pauli own qs q) p value low ∙ placed p) (list_in w further_at m) u.low)

            pub multiplied_step : (v : List ℕ) → list_in v further_at m ≡ map (λ p. normal (multiplied_at is_x place (held moved) p)) (list_in w further_at m)
                → Outside further_at (5 * m) w v → MultipliedUpTo (k + 1) v
            multiplied_step v list rest = record {
              within = omega arith;
              rest = outside_join u.rest rest;
              same =
                  rw (add-one k, list, step_map)
                  (sym (over_next own qs hs cs k (omega (arith, hs_length, o.fits)) (omega (arith, cs_length)) (list_in w further_at m)) ∙ u.same);
              low = rw list (all_over (λ p. p.e < 4) (λ p. normal (multiplied_at is_x place (held moved) p)) (list_in w further_at m)
                  (all_map (λ p _. normal_low (multiplied_at is_x place (held moved) p)) (list_in w further_at m) u.low));
            }

-- the same where own has as many numbers as there are places
module _ (own qs x : List ℕ) (places n rank total m : ℕ) (own_size : places ≡ length own)
    (o : Other own qs x n rank total) (size : length x ≡ 4096) (k : ℕ) (w : List ℕ)
    (u : MultipliedUpTo own qs x n rank total m k w) (h : k < rank) (pivot at : ℕ) (start : at ≡ n * stride_of n)
    (read : pivot ≡ get_or w (at + k) 0) where
  met : pivot ≡ get_or w (n * stride_of n + k) 0
  met = read ∙ ap (λ (i : ℕ). get_or w (i + k) 0) start

  module _ (other : Held) (loaded : normal (held other) ≡ normal (pauli_in w (standard_at + 5 * k))) where
    pub loaded_moves : ((held other).x < 2 ^ length own) × ((held other).z < 2 ^ length own) × MovablePauli own qs (held other)
    loaded_moves = other_moves own qs x n rank total m o size k w u h pivot met other loaded

    module _ (moved : Held) (made : held moved ≡ moved_pauli own qs (held other)) (place q : ℕ) (found : place ≡ place_of qs q)
        (qubit : q ≡ get_or own (pivot % places) 0) where
      place_is : place ≡ place_of qs (get_or own (pivot % length own) 0)
      place_is = found ∙ ap (place_of qs) (qubit ∙ ap (λ (j : ℕ). get_or own (pivot % j) 0) own_size)

      test : ltb pivot places ≡ ltb pivot (length own)
      test = ap (ltb pivot) own_size

      pub place_few : length qs ≤ 128 → place < 128
      place_few = place_low own qs x n rank total m o size k w u h pivot met other loaded moved made place (ltb pivot places) test place_is

      pub multiplied_next : (v : List ℕ)
          → list_in v further_at m ≡ map (λ p. normal (multiplied_at (ltb pivot places) place (held moved) p)) (list_in w further_at m)
          → Outside further_at (5 * m) w v → MultipliedUpTo own qs x n rank total m (k + 1) v
      multiplied_next =
          multiplied_step own qs x n rank total m o size k w u h pivot met other loaded moved made place (ltb pivot places) test place_is
