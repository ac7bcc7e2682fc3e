-- The group of a list in the work area: from the roll's Paulis over the places of their support.
use Rattle.std.proofs.Common.{◌≡◌, ℕ, ◌+◌, ◌*◌, ◌≤◌, List, [], ◌++◌, map, length, sym, refl, ap, ◌∙◌, subst, ap₂, arith}
use mathlib.Core.List.{map-append, Memᴰ as Mem}
use lib.ListN.{length-map}
use Rattle.binar.specs.Echelon.{rank as echelon_rank}
use Rattle.pauli.specs.Condense.{list_of, condensed}
use Rattle.pauli.specs.Known.{Gathered}
use Rattle.pauli.specs.Pauli.{Pauli, normal}
use Rattle.pauli.specs.Roll.{Sparse, numbers, support, count_of}
use Rattle.pauli.specs.Support.{most_qubits, insert_all}
use Rattle.pauli.specs.Sets.{pauli_of}
use Rattle.pauli.specs.Signed.{list_in}
use Rattle.pauli.specs.Told.{answer}
use Rattle.pauli.specs.Writing.{OnPlaces}
use Rattle.pauli.proofs.join.ProductLaws.{count_accepted, readable}
use Rattle.pauli.proofs.roll.ListSupport.{in_support, sets_in_support}
use Rattle.pauli_theory.specs.Group.{Promise, none, abelian, not_abelian}
use Rattle.pauli_theory.specs.Standard.{support_of, form_of, standard, rank, nonabelian, phase_step, stabilizer, step_of}
use Rattle.pauli_theory.proofs.Theorems.{group_laws}
use Rattle.pauli_theory.proofs.ByProducts.{standard_by_products}
use Rattle.pauli_theory.proofs.OverPlaces.{places_on, places_echelon, places_rank, places_standard, places_nonabelian, places_phase_step, places_stabilizer}
use Rattle.pauli_theory.proofs.Written.{support_of_lem, placed_roll}
use Rattle.pauli_group.specs.Inner.Area.{list_at, standard_at, Outside}
use Rattle.pauli_group.specs.Inner.Groups.{products_named, Built, over_support, Grouped, Facts, facts_in, facts_of}
use Rattle.pauli_group.specs.declared.group.Description.{Description}
use Rattle.pauli_group.specs.declared.source.Source.{Source}
use Rattle.pauli_group.specs.declared.source.Source.TheVariants.{Rolled, Kept}
use Rattle.pauli_group.specs.Inner.Kept.{spread}
use Rattle.pauli_group.specs.Inner.Sources.{sparse_in, PlacedIn}
use Rattle.pauli_group.specs.Calls.{paulis}
use Rattle.pauli_group.specs.Inner.Lists.{step_told, over_places, row_over, form_over, from_products, ReadableAll, clash_of, stabilizer_of}
use Rattle.pauli_group.specs.Answers.{yes_number}
use Rattle.pauli_group.proofs.list.ListLaws.{list_append, list_kept}

-- ---- the support

-- the numbers of one list, gathered
pub own_gathered : (ps : List Sparse) (qs : List ℕ) → Gathered (insert_all (numbers ps) []) qs → Gathered (support ps) qs
unfolding support
own_gathered ps qs g = g

module _ (ps : List Sparse) (known : List ℕ) (g : Gathered (support ps) known) (few : length (support ps) ≤ most_qubits) where
  pub known_is : known ≡ support ps
  known_is = g.known few

  pub places_are : length known ≡ length (support ps)
  unfolding most_qubits
  places_are = omega (arith, g.count, few)

  pub places_few : length known ≤ 128
  unfolding most_qubits
  places_few = omega (arith, places_are, few)

  -- each Pauli of a roll whose list is part of ps
  pub part_readable : (b : List ℕ) (n : ℕ) → count_of b ≡ answer n → ((p : Sparse) → Mem p (list_of b) → Mem p ps) → ReadableAll b n known
  part_readable b n e inside i h = rw known_is (readable b n (count_accepted b n e) i h ps inside)

  -- a list that is part of ps
  pub part_placed : (s : Source) → ((p : Sparse) → Mem p (sparse_in s) → Mem p ps) → PlacedIn s known
  part_placed (Rolled r) inside = part_readable r.bytes.now r.count r.accepted inside
  part_placed (Kept k) inside = (
    g.rises,
    λ q m.
        let (p, i, j) = in_support (spread k.qubits.now k.paulis.now) q (subst (Mem q) (sym k.kept.support_is) m) in
        rw known_is (sets_in_support p ps (inside p i) q j),
  )

  -- the area with the list
  module _ (w : List ℕ) (n : ℕ) (list : list_in w list_at n ≡ map (over_places known) ps) where
    pub listed : list_in w list_at n ≡ over_support (paulis ps)
    unfolding over_places over_support paulis
    listed = list ∙ ap (λ (qs : List ℕ). map (λ (p : Sparse). normal (condensed qs (pauli_of p))) ps) known_is ∙ placed_roll ps

    pub size_same : length known ≡ length (support_of (paulis ps))
    unfolding paulis
    size_same = places_are ∙ ap length (support_of_lem ps)

    pub on_places : OnPlaces (length known) (list_in w list_at n)
    unfolding over_support
    on_places = rw (listed, size_same) (places_on (paulis ps))

    form_same : form_over (length known) (list_in w list_at n) ≡ form_of (over_support (paulis ps))
    unfolding form_over row_over over_support
    form_same = rw (listed, size_same) (sym (places_echelon (paulis ps)))

    -- and with its form and standard generators
    module _ (x : List ℕ) (r total : ℕ) (count : length ps ≡ n) (B : Built w n (length known) x r total) where
      rank_same : r ≡ rank (over_support (paulis ps))
      unfolding rank
      rank_same = B.rank_is ∙ ap echelon_rank form_same

      standard_same : from_products r (products_named (form_over (length known) (list_in w list_at n)) (list_in w list_at n)) ≡ standard (over_support (paulis ps))
      unfolding from_products products_named
      standard_same =
          ap₂ (λ (k : ℕ) (qs : List Pauli). from_products k qs) rank_same (ap₂ products_named form_same listed)
          ∙ sym (standard_by_products (over_support (paulis ps)))

      pub grouped : Grouped (paulis ps) known x (length known) r total
      unfolding over_support paulis
      grouped =
          let size : n ≡ length (paulis ps) = sym (length-map ps pauli_of ∙ count) in
          record {
            support = known_is ∙ support_of_lem ps;
            size = size_same;
            rank_is = rank_same ∙ places_rank (paulis ps);
            form = rw (← size) (B.form ∙ form_same);
            list = rw (← size) (B.list ∙ listed);
            count = B.count ∙ ap length (standard_same ∙ places_standard (paulis ps)) ∙ length-map (standard (paulis ps)) (condensed (support_of (paulis ps)));
            standards = B.standards ∙ standard_same;
          }

-- ---- two lists, one after the other

module _ (f : Sparse → Pauli) (ls rs : List Sparse) (at m n : ℕ) (x y : List ℕ)
    (first : list_in x at m ≡ map f ls) (second : list_in y (at + 5 * m) n ≡ map f rs) (o : Outside (at + 5 * m) (5 * n) x y) where
  pub two_listed : list_in y at (m + n) ≡ map f (ls ++ rs)
  two_listed = list_append y at m n ∙ ap₂ (λ (a : List Pauli) (b : List Pauli). a ++ b) (list_kept o at m (omega arith) ∙ first) second ∙ sym (map-append f ls rs)

-- ---- what the standard generators tell

clash_standard : (promise : Promise) (gs : List Pauli) → clash_of promise (standard gs) ≡ nonabelian promise gs
unfolding clash_of nonabelian
clash_standard none gs = refl
clash_standard abelian gs = refl
clash_standard not_abelian gs = refl

-- rank, step, clash and stabilizer' are those of the group of gs
pub record Described (promise : Promise) (gs : List Pauli) (rank' step clash stabilizer' : ℕ) : Type 0 where
  pub rank_is : rank' ≡ rank gs
  pub step_is : step ≡ phase_step promise gs
  pub clash_is : clash ≡ nonabelian promise gs
  pub stabilizer_is : stabilizer' ≡ stabilizer promise gs

pub facts_are : (promise : Promise) (gs : List Pauli) {rank' step clash stabilizer' : ℕ} → Described promise gs rank' step clash stabilizer'
    → record { rank = rank'; step = step; clash = clash; stabilizer = stabilizer' } ≡ facts_of promise gs
unfolding facts_of
facts_are promise gs d = λ i. record { rank = d.rank_is i; step = d.step_is i; clash = d.clash_is i; stabilizer = d.stabilizer_is i }

-- by what the code holds
pub facts_told : (promise : Promise) (gs : List Pauli) (d : Description) → facts_in d ≡ facts_of promise gs
    → Described promise gs d.rank (step_told d.signs.phases) (yes_number d.signs.clash) (yes_number d.signs.stabilizer)
unfolding facts_of
facts_told promise gs d e =
    record {
      rank_is = ap (λ (f : Facts). f.rank) e;
      step_is = ap (λ (f : Facts). f.step) e;
      clash_is = ap (λ (f : Facts). f.clash) e;
      stabilizer_is = ap (λ (f : Facts). f.stabilizer) e;
    }

module _ {gs : List Pauli} {known x : List ℕ} {places r total : ℕ} (G : Grouped gs known x places r total) where
  pub standards_few : length gs ≤ 128 → total ≤ 128
  standards_few few = omega (arith, G.count, (group_laws.standard_law gs).count)

  pub described : (promise : Promise) (step clash stable : ℕ) → clash ≡ clash_of promise (list_in x standard_at total)
      → step ≡ step_of (clash_of promise (list_in x standard_at total)) (list_in x standard_at total)
      → stable ≡ stabilizer_of (clash_of promise (list_in x standard_at total)) (list_in x standard_at total) → Described promise gs r step clash stable
  unfolding over_support phase_step step_of stabilizer stabilizer_of
  described promise step clash stable ec es et =
      let same : clash_of promise (list_in x standard_at total) ≡ nonabelian promise (over_support gs) = ap (clash_of promise) G.standards ∙ clash_standard promise (over_support gs) in
      record {
        rank_is = G.rank_is;
        step_is = es ∙ ap₂ step_of same G.standards ∙ places_phase_step gs promise;
        clash_is = ec ∙ same ∙ places_nonabelian gs promise;
        stabilizer_is = et ∙ ap₂ stabilizer_of same G.standards ∙ places_stabilizer gs promise;
      }

pub paulis_append : (ps qs : List Sparse) → paulis (ps ++ qs) ≡ paulis ps ++ paulis qs
unfolding paulis
paulis_append ps qs = map-append pauli_of ps qs
