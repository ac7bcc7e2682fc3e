-- What the inner functions leave in the work area, and what they tell.
use Rattle.std.specs.Prelude.{◌≡◌, ℕ, ◌*◌, List, map, length, Result}
use Rattle.binar.specs.Echelon.{EchelonForm, rank as echelon_rank}
use Rattle.binar.specs.Layout.{form_in}
use Rattle.pauli.specs.Condense.{condensed}
use Rattle.pauli.specs.Pauli.{Pauli, normal, indexed_product}
use Rattle.pauli.specs.Signed.{list_in}
use Rattle.pauli.specs.Refusals.{told_by}
use Rattle.pauli.specs.Told.{map_told}
use Rattle.pauli_theory.specs.Group.{Promise}
use Rattle.pauli_theory.specs.Standard.{support_of, form_of, standard, rank, nonabelian, phase_step, stabilizer}
use Rattle.pauli_group.specs.declared.group.Description.{Description}
use Rattle.pauli_group.specs.WorkArea.{area_after}
use Rattle.pauli_group.specs.Calls.{one_list}
use Rattle.pauli_group.specs.Inner.Area.{list_at, standard_at, further_at, row_words, stride_of, Outside}
use Rattle.pauli_group.specs.Inner.Lists.{step_told, form_over, from_products}
use Rattle.pauli_group.specs.Answers.{yes_number}
use Rattle.pauli.specs.declared.refusal.Refusal.{Refusal}

-- the products of the Paulis ps that the rows of T name
unfoldable pub products_named : EchelonForm → List Pauli → List Pauli
products_named f ps = map (λ q. indexed_product q.t ps) f.rows

-- the area was l, with n generators over s places; now it is x, with their form and standard generators
pub record Built (l : List ℕ) (n s : ℕ) (x : List ℕ) (rank total : ℕ) : Type 0 where
  pub rank_is : rank ≡ echelon_rank (form_over s (list_in l list_at n))
  pub form : form_in (stride_of n) n row_words (2 * s) rank x ≡ form_over s (list_in l list_at n)
  pub list : list_in x list_at n ≡ list_in l list_at n
  pub count : total ≡ length (from_products rank (products_named (form_over s (list_in l list_at n)) (list_in l list_at n)))
  pub standards : list_in x standard_at total ≡ from_products rank (products_named (form_over s (list_in l list_at n)) (list_in l list_at n))
  -- the words from the further list on are as they were
  pub rest : Outside 0 further_at l x

-- a list over the places of its support, exponents by value
unfoldable pub over_support : List Pauli → List Pauli
over_support gs = map (λ p. normal (condensed (support_of gs) p)) gs

-- the list gs, its form and its standard generators are in the area x, and `known` is its support, of so many places
pub record Grouped (gs : List Pauli) (known x : List ℕ) (places rank' total : ℕ) : Type 0 where
  pub support : known ≡ support_of gs
  pub size : places ≡ length (support_of gs)
  pub rank_is : rank' ≡ rank gs
  pub form : form_in (stride_of (length gs)) (length gs) row_words (2 * places) rank' x ≡ form_of (over_support gs)
  pub list : list_in x list_at (length gs) ≡ over_support gs
  pub count : total ≡ length (standard gs)
  pub standards : list_in x standard_at total ≡ standard (over_support gs)

-- what the calls tell of a group: 0 or 1 for clash, two generators that anticommute, and for a stabilizer group
pub record Facts : Type 0 where
  pub rank : ℕ
  pub step : ℕ
  pub clash : ℕ
  pub stabilizer : ℕ

unfoldable pub facts_of : Promise → List Pauli → Facts
facts_of promise gs =
    record { rank = rank gs; step = phase_step promise gs; clash = nonabelian promise gs; stabilizer = stabilizer promise gs }

-- the facts that the code holds
abbrev pub facts_in : Description → Facts
facts_in d = record { rank = d.rank; step = step_told d.signs.phases; clash = yes_number d.signs.clash; stabilizer = yes_number d.signs.stabilizer }

-- what the description of a list promises: what it tells, and the work area at exit
pub record DescriptionCall (promise : Promise) (b work : List ℕ) (r : Result Description Refusal) (work' : List ℕ) : Type 0 where
  pub told : told_by facts_in r ≡ map_told (facts_of promise) (one_list b (length work))
  pub area : work' ≡ area_after (one_list b (length work)) work
