-- Laws of a claim's form: whether its indexes rise and stay below the count, and what its test tells.
use Rattle.std.proofs.Common.{◌≡◌, sym, ap, ◌∙◌, true, false, ◌&&◌, nat_le, nat_lt, le-leb, lt-ltb, le-ltb, ltb-true, List, [], ◌∷◌, length, get_or, drop, drop_of_length-le, add-one, ℕ, suc, ◌+◌, ◌<◌, ◌≤◌, arith}
use borrow.Author.Tests.{lt-leb}
use Rattle.std.proofs.lemmas.Bool.{and_parts}
use Rattle.pauli.specs.Pauli.{Pauli}
use Rattle.pauli.specs.Support.{All}
use Rattle.pauli.specs.Told.{Told, refused}
use Rattle.pauli.proofs.roll.Told.{test_pass, test_refuses}
use Rattle.pauli.proofs.support.Lists.{drop_one}
use Rattle.pauli_theory.specs.Claims.{Claim, rises_below, well_formed}
use Rattle.claims.specs.Calls.{formed}

-- ---- the indexes before number i rise below n, and those from there on are to rise from `least`
module _ (n : ℕ) (is : List ℕ) (i least : ℕ) (before : rises_below 0 n is ≡ rises_below least n (drop i is)) where
  pub rises_all : length is ≤ i → true ≡ rises_below 0 n is
  unfolding rises_below
  rises_all h = sym (before ∙ ap (rises_below least n) (drop_of_length-le is h))

  module _ (h : i < length is) where
    abbrev k : ℕ
    k = get_or is i 0

    here : rises_below 0 n is ≡ nat_le least k && (nat_lt k n && rises_below (suc k) n (drop (i + 1) is))
    unfolding rises_below
    here = before ∙ ap (rises_below least n) (sym (drop_one is i 0 h))

    pub falls_below : k < least → false ≡ rises_below 0 n is
    falls_below l = sym (here ∙ rw (lt-leb least k l))

    pub past_list : least ≤ k → n ≤ k → false ≡ rises_below 0 n is
    past_list l m = sym (here ∙ rw (le-leb least k l, le-ltb k n m))

    pub rises_next : least ≤ k → k < n → rises_below 0 n is ≡ rises_below (k + 1) n (drop (i + 1) is)
    rises_next l m = here ∙ rw (le-leb least k l, lt-ltb k n m, add-one k)

-- ---- the test of a claim by so many generators
module _ (gs : List Pauli) (is : List ℕ) (e n : ℕ) (size : n ≡ length gs) where
  abbrev claim : Claim
  claim = record { indexes = is; exponent = e }

  module _ {A : Type 0} (next : Told A) where
    pub formed_not : rises_below 0 n is ≡ false → formed gs claim next ≡ refused 16 0
    unfolding formed well_formed
    formed_not f = test_refuses _ 16 0 next (rw (← size, f))

    pub formed_high : rises_below 0 n is ≡ true → 3 < e → formed gs claim next ≡ refused 16 0
    unfolding formed well_formed
    formed_high r h = test_refuses _ 16 0 next (rw (← size, r, le-ltb e 4 h))

    pub formed_well : rises_below 0 n is ≡ true → e ≤ 3 → formed gs claim next ≡ next
    unfolding formed well_formed
    formed_well r h = test_pass _ 16 0 next (rw (← size, r, lt-ltb e 4 (omega arith)))

-- indexes that rise below n are below it
pub indexes_below : (n least : ℕ) (is : List ℕ) → rises_below least n is ≡ true → All (λ i. i < n) is
unfolding rises_below
indexes_below n least [] r = tt
indexes_below n least (i ∷ is) r =
    let a = and_parts (nat_lt i n) (rises_below (suc i) n is) (and_parts (nat_le least i) _ r).1 in
    (ltb-true i n a.0, indexes_below n (suc i) is a.1)
