-- Laws of the call for the remainder: the two groups in the area, and what is left of the first.
use Rattle.std.proofs.Common.{◌≡◌, ℕ, ◌*◌, ◌<◌, ◌≤◌, List, ◌++◌, map, length, get_or, take, drop, sym, refl, ap, ◌∙◌, subst, ap₂, arith}
use mathlib.Core.List.{Memᴰ as Mem}
use Rattle.binar.specs.Echelon.{EchelonForm, rank as echelon_rank}
use Rattle.binar.specs.Layout.{form_in}
use Rattle.binar.proofs.Lists.{all_of, all_map, all_over, map_same}
use Rattle.pauli.specs.Support.{All, Rising}
use Rattle.pauli.proofs.support.Lists.{in_get_or}
use Rattle.pauli.specs.Pauli.{Pauli, normal}
use Rattle.pauli.specs.Signed.{list_in}
use Rattle.pauli.specs.Writing.{OnPlaces}
use Rattle.pauli.proofs.signed.Algebra.{normal_lt}
use Rattle.pauli_theory.specs.Group.{Promise}
use Rattle.pauli_theory.specs.Modulo.{modulo}
use Rattle.pauli_theory.specs.Inner.ModuloPlaces.{moved_pauli}
use Rattle.pauli_theory.specs.Standard.{support_of, form_of, standard, rank, phase_step, exponent_mod}
use Rattle.pauli_theory.proofs.ModuloPlaces.{left_in_joined, right_in_joined, pivots_fit, multiplied_places, places_modulo, modulo_on}
use Rattle.pauli_theory.proofs.OverPlaces.{placed}
use Rattle.pauli_theory.proofs.Rows.{support_rises}
use Rattle.pauli_theory.proofs.Theorems.{group_laws}
use Rattle.pauli_group.specs.Inner.Area.{standard_at, further_at, stride_of}
use Rattle.pauli_group.specs.Inner.Groups.{over_support, Grouped}
use Rattle.pauli_group.proofs.member.FactorLaws.{grouped_solvable}
use Rattle.pauli_group.specs.Inner.Moved.{Movable, MovablePauli}
use Rattle.pauli_group.specs.Inner.Further.{FurtherHas}
use Rattle.pauli_group.specs.Inner.Remainder.{Other, remainder_by}
use Rattle.pauli_group.proofs.modulo.RemainderLaws.{normal_low}

module _ (gs hs : List Pauli) (qs : List ℕ) (joint : qs ≡ support_of (gs ++ hs)) where
  qs_rise : Rising 0 qs
  qs_rise = rw joint (support_rises (gs ++ hs))

  -- ---- the left group

  module _ {known x : List ℕ} {places r total : ℕ} (g : Grouped gs known x places r total) where
    left_movable : (v : ℕ) → Movable known qs v
    left_movable v = record {
      own_rises = rw g.support (support_rises gs);
      rises = qs_rise;
      inside = λ i h e. rw joint (left_in_joined gs hs _ (subst (Mem (get_or known i 0)) g.support (in_get_or known i 0 h)));
    }

    pub left_moves : OnPlaces places (list_in x standard_at total) → All (MovablePauli known qs) (list_in x standard_at total)
    unfolding OnPlaces
    left_moves on = all_map (λ p _. (left_movable p.x, left_movable p.z)) (list_in x standard_at total) on

    module _ (y : List ℕ)
        (list : list_in y further_at total ≡ map (λ p. normal (moved_pauli known qs p)) (list_in x standard_at total)) where
      pub moved_low : All (λ p. p.e < 4) (list_in y further_at total)
      moved_low =
          rw list
          (all_over (λ p. p.e < 4) (λ p. normal (moved_pauli known qs p)) (list_in x standard_at total)
          (all_of (λ p. normal_low (moved_pauli known qs p)) (list_in x standard_at total)))

      pub left_list : list_in y further_at total ≡ map (moved_pauli (support_of gs) qs) (standard (placed gs))
      unfolding over_support moved_pauli
      left_list =
          list ∙ ap₂ (λ (own : List ℕ) (ps : List Pauli). map (λ p. normal (moved_pauli own qs p)) ps) g.support g.standards
          ∙ map_same (λ p. normal (moved_pauli (support_of gs) qs p)) (moved_pauli (support_of gs) qs) (standard (placed gs))
          (all_map (λ p low. normal_lt (moved_pauli (support_of gs) qs p) low) (standard (placed gs)) (group_laws.standard_law (placed gs)).values)

  -- ---- the right group

  module _ {known x : List ℕ} {places r total : ℕ} (g : Grouped hs known x places r total) (few : length hs ≤ 128) (small : places ≤ 128)
      (size : length x ≡ 4096) (total-few : total ≤ 128) (on : OnPlaces places (list_in x standard_at total)) where
    own_length : length known ≡ places
    own_length = ap length g.support ∙ sym g.size

    pub right_other : Other known qs x (length hs) r total
    unfolding rank echelon_rank
    right_other = record {
      own_rises = rw g.support (support_rises hs);
      rises = qs_rise;
      inside = λ q m. rw joint (right_in_joined gs hs q (subst (Mem q) g.support m));
      fits = omega (arith, g.rank_is, g.count, pivots_fit hs);
      few = total-few;
      list_few = few;
      on = rw own_length on;
      pivots = λ k h. rw own_length ((grouped_solvable g few small size).inside k h);
    }

    -- the multiplications from what was moved
    module _ (ps : List Pauli) (moved : ps ≡ map (moved_pauli (support_of gs) qs) (standard (placed gs))) where
      pub remainder_is : remainder_by known qs x (length hs) r total ps ≡ multiplied_places gs hs
      unfolding remainder_by over_support form_in
      remainder_is =
          let pivots : take r (drop (length hs * stride_of (length hs)) x) ≡ (form_of (placed hs)).pivots = ap (λ (f : EchelonForm). f.pivots) g.form in
          rw (moved, pivots, g.standards, g.support, joint) refl

      pub remainder_left : (promise : Promise) (m : ℕ) → m ≡ phase_step promise hs → (w y : List ℕ) (n : ℕ)
          → list_in w further_at n ≡ remainder_by known qs x (length hs) r total ps
          → list_in y further_at n ≡ map (exponent_mod m) (list_in w further_at n) → n ≤ 128 → length qs ≤ 128
          → FurtherHas qs (modulo promise gs hs) y n
      remainder_left promise m step w y n made taken low places = record {
        rises = qs_rise;
        places = places;
        few = omega (arith, low);
        on = rw joint (modulo_on gs hs promise);
        list = rw joint (taken ∙ ap (map (exponent_mod m)) (made ∙ remainder_is) ∙ places_modulo gs hs promise m step);
      }
