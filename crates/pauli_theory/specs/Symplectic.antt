-- Symplectic pairing: `symplectic_form_of`, by the steps of the source.
use Rattle.std.specs.Prelude.{List, [], ◌∷◌, ◌++◌, map, ℕ, zero, suc, ◌-◌, length, get_or, set, take, drop}
use Rattle.std.proofs.Math.Option.{Option, some, none}
use Rattle.binar.specs.Row.{if_bit}
use Rattle.pauli.specs.Pauli.{Pauli, I, times, anticommute}

-- `position`: the index, counted from i, of the first that anticommutes with x
unfoldable pub position : Pauli → ℕ → List Pauli → Option ℕ
position x i [] = none
position x i (g ∷ gs) = if_bit (anticommute x g) (some i) (position x (suc i) gs)

-- `swap_remove`: what is left without the element at k, whose place the last one takes
unfoldable pub swap_remove : ℕ → List Pauli → List Pauli
swap_remove k gs = take (length gs - 1) (set gs k (get_or gs (length gs - 1) I))

-- `if anti_commutes_with(generator, &p) { *generator *= &q; }`
unfoldable pub times_if : Pauli → Pauli → Pauli → Pauli
times_if p q g = if_bit (anticommute g p) (times g q) g

-- the generators from index k on, and those before it, for the pair of x and z
unfoldable pub cleared : ℕ → Pauli → Pauli → List Pauli → List Pauli
cleared k x z gs = map (times_if z x) (take k gs) ++ map (λ g. times_if z x (times_if x z g)) (drop k gs)

unfoldable pub on_position {ℓ} : {X : Type ℓ} → Option ℕ → X → (ℕ → X) → X
on_position none x f = x
on_position (some k) x f = f k

-- `while let Some(x_logical) = generators.pop()`, at most n turns; the conjugate and the commuting elements so far
unfoldable pub paired_from : ℕ → List Pauli → List Pauli → List Pauli → List Pauli
paired_from zero gs conjugate commuting = conjugate ++ commuting
paired_from (suc n) [] conjugate commuting = conjugate ++ commuting
paired_from (suc n) (g ∷ gs) conjugate commuting =
    let x = get_or (g ∷ gs) (length gs) I in
    let rest = take (length gs) (g ∷ gs) in
    on_position (position x 0 rest) (paired_from n rest conjugate (commuting ++ x ∷ []))
    (λ k. let z = get_or rest k I in paired_from n (cleared k x z (swap_remove k rest)) (conjugate ++ x ∷ z ∷ []) commuting)

-- "`symplectic_form_of`: result order and phases as written"
unfoldable pub symplectic_form : List Pauli → List Pauli
symplectic_form gs = paired_from (length gs) gs [] []
