-- Laws of lists kept in words.
use Rattle.std.proofs.Common.{◌≡◌, ℕ, ◌%◌, ◌^◌, ◌<◌, List, [], map, length, get_or, sym, ap, ◌∙◌, subst, arith}
use mathlib.Core.List.{map-map, Memᴰ as Mem}
use Rattle.binar.proofs.Lists.{all_of, map_same}
use lib.ListN.{length-map}
use Rattle.pauli.specs.Condense.{condensed}
use Rattle.pauli.specs.Pauli.{Pauli, normal}
use Rattle.pauli.specs.Roll.{numbers, support}
use Rattle.pauli.specs.Sets.{pauli_of, expand}
use Rattle.pauli.specs.Signed.{paulis_in}
use Rattle.pauli.specs.Support.{All, Rising}
use Rattle.pauli.specs.Writing.{sparse_over, OnPlaces}
use Rattle.pauli.proofs.signed.SignedLaws.{length_paulis}
use Rattle.pauli.proofs.support.Lists.{all_in, in_get_or}
use Rattle.pauli.proofs.support.SupportLaws.{insert_all_rises}
use Rattle.pauli_theory.specs.Inner.ModuloPlaces.{moved_set, moved_pauli}
use Rattle.pauli_group.specs.Inner.Kept.{spread, KeptOver}
use Rattle.pauli_group.specs.Inner.Lists.{over_places}
use Rattle.pauli_group.specs.Inner.Moved.{Movable, MovablePauli}

module _ (own : List ℕ) (words : List (List ℕ)) where
  pub spread_length : length (spread own words) ≡ length words
  unfolding spread
  spread_length = length-map (paulis_in words) (sparse_over own) ∙ length_paulis words

  module _ (k : KeptOver own words) where
    pub own_rises : Rising 0 own
    unfolding support
    own_rises = subst (Rising 0) k.support_is (insert_all_rises (numbers (spread own words)) [] tt)

    pub kept_on : OnPlaces (length own) (paulis_in words)
    unfolding OnPlaces
    kept_on = all_in (λ p. (p.x < 2 ^ length own) × (p.z < 2 ^ length own)) (paulis_in words) k.on

    pub kept_movable : (qs : List ℕ) → Rising 0 qs → ((q : ℕ) → Mem q own → Mem q qs) → All (MovablePauli own qs) (paulis_in words)
    kept_movable qs rises inside = all_of (λ p. (movable p.x, movable p.z)) (paulis_in words)
      where
        movable : (v : ℕ) → Movable own qs v
        movable v = record { own_rises = own_rises; rises = rises; inside = λ j l e. inside (get_or own j 0) (in_get_or own j 0 l) }

  -- moved to the places of qs they are the Paulis that are kept
  module _ (qs : List ℕ) where
    read_over : (p : Pauli) → normal (moved_pauli own qs p) ≡ over_places qs (sparse_over own p)
    unfolding over_places condensed pauli_of sparse_over normal moved_pauli moved_set expand
    read_over p =
        let value : p.e % 4 ≡ p.e % 4 % 4 = omega arith in
        ap (λ (e : ℕ). record { e = e; x = moved_set own qs p.x; z = moved_set own qs p.z }) value

    pub kept_read : map (λ p. normal (moved_pauli own qs p)) (paulis_in words) ≡ map (over_places qs) (spread own words)
    unfolding spread
    kept_read =
        map_same (λ p. normal (moved_pauli own qs p)) (λ p. over_places qs (sparse_over own p)) (paulis_in words) (all_of read_over (paulis_in words))
        ∙ sym (map-map (over_places qs) (sparse_over own) (paulis_in words))
