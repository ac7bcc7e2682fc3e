-- Laws of the named support: whether it rises, how many of its numbers are not among the list's own, and the test of both.
use Rattle.std.proofs.Common.{◌≡◌, refl, sym, ap, ◌∙◌, Bool, true, false, not, ◌&&◌, leb, le-leb, leb-true, ℕ, suc, ◌+◌, ◌≤◌, ◌<◌, List, [], ◌∷◌, ◌++◌, append-nil, length, length-append, length-take, get_or, take, take_all, drop, add-one, drop_of_length-le, cond, arith}
use Rattle.std.proofs.lemmas.List.{take_more}
use borrow.Author.Tests.{lt-leb}
use Rattle.binar.specs.Kernel.{without}
use Rattle.binar.proofs.Without.{is_among, without_length, without_last}
use Rattle.pauli.specs.Support.{Rising, insert_all}
use Rattle.pauli.specs.Told.{Told, refused}
use Rattle.pauli.proofs.roll.Told.{test_pass, test_refuses}
use Rattle.pauli.proofs.support.Lists.{drop_one}
use Rattle.pauli.proofs.support.SupportLaws.{rising_length, insert_all_rises, insert_all_has}
use Rattle.pauli_theory.proofs.Named.{joined_length}
use Rattle.centralizer.specs.Calls.{rises_from, together, most_together, fitting}

-- ---- whether the numbers rise

pub both_true : (a b : Bool) → (a && b) ≡ true → (a ≡ true) × (b ≡ true)
both_true true b e = (refl, e)
both_true false b e = let z : ◌≡◌ {A = ℕ} 0 1 = cc in absurd (omega arith)

pub rises_rising : (least : ℕ) (qs : List ℕ) → rises_from least qs ≡ true → Rising least qs
unfolding rises_from
rises_rising least [] e = tt
rises_rising least (q ∷ qs) e =
    let a = both_true (leb least q) (rises_from (suc q) qs) e in
    (leb-true least q a.0, rises_rising (suc q) qs a.1)

-- the numbers before number i rise, and those from there on are to rise from `least`
module _ (qs : List ℕ) (i least : ℕ) (before : rises_from 0 qs ≡ rises_from least (drop i qs)) where
  pub rises_all : length qs ≤ i → true ≡ rises_from 0 qs
  unfolding rises_from
  rises_all h = sym (before ∙ ap (rises_from least) (drop_of_length-le qs h))

  module _ (h : i < length qs) where
    abbrev q : ℕ
    q = get_or qs i 0

    here : rises_from 0 qs ≡ leb least q && rises_from (suc q) (drop (i + 1) qs)
    unfolding rises_from
    here = before ∙ ap (rises_from least) (sym (drop_one qs i 0 h))

    pub rises_next : least ≤ q → rises_from 0 qs ≡ rises_from (q + 1) (drop (i + 1) qs)
    rises_next l = here ∙ rw (le-leb least q l, add-one q)

    pub falls_below : q < least → false ≡ rises_from 0 qs
    falls_below l = sym (here ∙ rw (lt-leb least q l))

-- ---- those of the first i numbers that are not excluded

module _ (excluded qs : List ℕ) (i : ℕ) where
  abbrev pub kept : List ℕ
  kept = without excluded (take i qs)

  pub kept_few : length kept ≤ i
  kept_few = omega (arith, without_length excluded (take i qs), length-take i qs)

  pub kept_all : length qs ≤ i → kept ≡ without excluded qs
  kept_all h = ap (without excluded) (take_all i qs h)

  -- the next one
  module _ (h : i < length qs) where
    with_next : without excluded (take (i + 1) qs) ≡ kept ++ cond (not (is_among excluded (get_or qs i 0))) (get_or qs i 0 ∷ []) []
    with_next = ap (without excluded) (take_more qs i 0 h) ∙ without_last excluded (take i qs) (get_or qs i 0)

    pub kept_not : is_among excluded (get_or qs i 0) ≡ true → without excluded (take (i + 1) qs) ≡ kept
    kept_not e = with_next ∙ rw e (append-nil kept)

    pub kept_next : is_among excluded (get_or qs i 0) ≡ false → without excluded (take (i + 1) qs) ≡ kept ++ get_or qs i 0 ∷ []
    kept_next e = with_next ∙ rw e

    pub kept_more : is_among excluded (get_or qs i 0) ≡ false → length (without excluded (take (i + 1) qs)) ≡ length kept + 1
    kept_more e = ap length (kept_next e) ∙ length-append kept (get_or qs i 0 ∷ [])

-- ---- the test of both supports

module _ (named own : List ℕ) (rises : Rising 0 own) where
  module _ (r : rises_from 0 named ≡ true) where
    together_is : together named own ≡ length own + length (without own named)
    unfolding together
    together_is = joined_length 0 named own (rises_rising 0 named r) rises

    -- few together, so few of each
    pub both_few : length own + length (without own named) ≤ 63 → (length own ≤ 63) × (length named ≤ 63) × Rising 0 named
    unfolding together
    both_few h =
        let n = rises_rising 0 named r in
        let all = insert_all named own in
        (omega arith, omega (arith, rising_length 0 0 all named (insert_all_rises named own rises) n (insert_all_has named own), together_is), n)

  module _ {A : Type 0} (next : Told A) where
    pub fitting_not : rises_from 0 named ≡ false → fitting named own next ≡ refused 13 0
    unfolding fitting
    fitting_not e = test_refuses _ 13 0 next (rw e)

    pub fitting_many : rises_from 0 named ≡ true → 63 < length own + length (without own named) → fitting named own next ≡ refused 13 0
    unfolding fitting most_together
    fitting_many r h = test_refuses _ 13 0 next (rw (r, together_is r, lt-leb _ 63 h))

    pub fitting_few : rises_from 0 named ≡ true → length own + length (without own named) ≤ 63 → fitting named own next ≡ next
    unfolding fitting most_together
    fitting_few r h = test_pass _ 13 0 next (rw (r, together_is r, le-leb _ 63 h))
