-- The tests of `read` on entries and sets: they pass exactly where the properties hold.
use Rattle.std.proofs.Common.{◌≡◌, ℕ, suc, ◌+◌, not, List, [], ◌∷◌, sym, refl, ap, ◌∙◌, add-zero, arith, ltb-false, le-ltb, eq-eqb, ne_eqb, eqb-true}
use borrow.Author.Tests.{eqb-false, not-false}
use Rattle.pauli.specs.Told.{answer, and_then}
use Rattle.pauli.specs.Roll.{Sparse, Entry, check_entries, check_set, check_sets}
use Rattle.pauli.specs.RollTheorems.{AllowedSet}
use Rattle.pauli.specs.Support.{All, Rising}
use Rattle.pauli.proofs.roll.Told.{test_pass, test_passed, answered}
use Rattle.pauli.proofs.roll.Paulis.{Placed, counted}

pub entries_pass : (i before : ℕ) (es : List Entry) → Placed before es → check_entries i before es ≡ answer (before + counted es)
unfolding check_entries counted
entries_pass i before [] h = ap answer (sym (add-zero before))
entries_pass i before (a ∷ more) h =
    let sum : before + a.xcount + a.zcount + counted more ≡ before + (a.xcount + a.zcount + counted more) = omega arith in
    test_pass _ 3 i _ (le-ltb 1 a.given (omega arith))
    ∙ test_pass _ 3 i _ (ap not (eq-eqb _ _ h.1))
    ∙ test_pass _ 4 i _ (ne_eqb a.given 0 (omega arith))
    ∙ entries_pass (suc i) _ more h.2
    ∙ ap answer sum

pub entries_passed : (i before : ℕ) (es : List Entry) (total : ℕ) → check_entries i before es ≡ answer total
    → Placed before es × (total ≡ before + counted es)
unfolding check_entries counted
entries_passed i before [] total h = (tt, cc (add-zero before))
entries_passed i before (a ∷ more) total h =
    let (given, h1) = test_passed _ 3 i _ total h in
    let (start, h2) = test_passed _ 3 i _ total h1 in
    let (missing, h3) = test_passed _ 4 i _ total h2 in
    let (placed, sum) = entries_passed (suc i) _ more total h3 in
    ((omega (arith, ltb-false, eqb-false a.given 0 missing), eqb-true _ _ (not-false _ start), placed), omega arith)

-- both sets of a Pauli
abbrev pub AllowedSets : Sparse → Type 0
AllowedSets p = AllowedSet 0 p.xs × AllowedSet 0 p.zs

abbrev pub RisingSets : Sparse → Type 0
RisingSets p = Rising 0 p.xs × Rising 0 p.zs

pub set_pass : (i least : ℕ) (qs : List ℕ) → Rising least qs → check_set i least qs ≡ answer tt
unfolding check_set
set_pass i least [] h = refl
set_pass i least (q ∷ qs) h = test_pass _ 6 i _ (le-ltb _ _ h.0) ∙ set_pass i (suc q) qs h.1

pub set_passed : (i least : ℕ) (qs : List ℕ) (u : Unit) → check_set i least qs ≡ answer u → Rising least qs
unfolding check_set
set_passed i least [] u h = tt
set_passed i least (q ∷ qs) u h =
    let (rises, h1) = test_passed _ 6 i _ u h in
    (ltb-false _ _ rises, set_passed i (suc q) qs u h1)

pub sets_pass : (i : ℕ) (ps : List Sparse) → All AllowedSets ps → check_sets i ps ≡ answer tt
unfolding check_sets and_then
sets_pass i [] h = refl
sets_pass i (p ∷ ps) h = rw (set_pass i 0 p.xs h.0.0.rise, set_pass i 0 p.zs h.0.1.rise) (sets_pass (suc i) ps h.1)

pub sets_passed : (i : ℕ) (ps : List Sparse) (u : Unit) → check_sets i ps ≡ answer u → All RisingSets ps
unfolding check_sets
sets_passed i [] u h = tt
sets_passed i (p ∷ ps) u h =
    let (v, x, h1) = answered (check_set i 0 p.xs) _ u h in
    let (w, z, h2) = answered (check_set i 0 p.zs) _ u h1 in
    ((set_passed i 0 p.xs v x, set_passed i 0 p.zs w z), sets_passed (suc i) ps u h2)
