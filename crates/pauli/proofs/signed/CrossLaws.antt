-- One walk over the words of two Paulis: what it collects, and the parity of that.
use Rattle.std.proofs.Common.{◌≡◌, ℕ, zero, suc, ◌+◌, ◌%◌, List, [], ◌∷◌, get_or, sym, ap, ◌∙◌, ap₂, arith}
use lib.Bits.{bit_and, bit_xor}
use lib.Count.{ones}
use Rattle.binar.specs.Row.{◌⊕◌, dot}
use Rattle.binar.proofs.row.Bits.{ones_xor, xor_zero_l}
use Rattle.pauli.specs.declared.places.Places.{Places}
use Rattle.pauli.specs.PlaceSet.{set_in}
use Rattle.pauli.proofs.places.Halves.{Words, dot_halves}

-- the two words of a set
abbrev pub words_of : Places → List ℕ
words_of s = s.low ∷ s.high ∷ []

-- what z and u share in their first n words
unfoldable pub crossed_in : List ℕ → List ℕ → ℕ → ℕ
crossed_in z u zero = 0
crossed_in z u (suc n) = bit_xor (crossed_in z u n) (bit_and (get_or z n 0) (get_or u n 0))

-- with what x and v share there
unfoldable pub clashing_in : List ℕ → List ℕ → List ℕ → List ℕ → ℕ → ℕ
clashing_in x z u v zero = 0
clashing_in x z u v (suc n) =
    bit_xor (bit_xor (clashing_in x z u v n) (bit_and (get_or x n 0) (get_or v n 0))) (bit_and (get_or z n 0) (get_or u n 0))

pub crossed_parity : (z u : Places) → Words z → Words u → ones (crossed_in (words_of z) (words_of u) 2) % 2 ≡ dot (set_in z) (set_in u)
unfolding crossed_in ◌⊕◌
crossed_parity z u f g =
    ap (λ (n : ℕ). ones (bit_xor n (bit_and z.high u.high)) % 2) (xor_zero_l (bit_and z.low u.low)) ∙ dot_halves z u f g

-- one word more, by parity
more : (m k a : ℕ) → ones m % 2 ≡ k % 2 → ones (bit_xor m a) % 2 ≡ (k + ones a) % 2
unfolding ◌⊕◌
more m k a e = ones_xor m a ∙ omega (arith, e)

regroup : (a b c d : ℕ) → (a + b + c + d) % 2 ≡ ((a + c) % 2 + (b + d) % 2) % 2
regroup a b c d = omega arith

pub clashing_parity : (x z u v : Places) → Words x → Words z → Words u → Words v
    → ones (clashing_in (words_of x) (words_of z) (words_of u) (words_of v) 2) % 2 ≡ (dot (set_in x) (set_in v) + dot (set_in z) (set_in u)) % 2
unfolding clashing_in ◌⊕◌
clashing_parity x z u v fx fz fu fv =
    let a = bit_and x.low v.low in
    let b = bit_and z.low u.low in
    let c = bit_and x.high v.high in
    let d = bit_and z.high u.high in
    let first : ones (bit_xor 0 a) % 2 ≡ ones a % 2 = ap (λ (n : ℕ). ones n % 2) (xor_zero_l a) in
    more _ _ d (more _ _ c (more _ _ b first)) ∙ regroup (ones a) (ones b) (ones c) (ones d)
    ∙ ap₂ (λ (m : ℕ) (n : ℕ). (m + n) % 2) (sym (ones_xor a c) ∙ dot_halves x v fx fv) (sym (ones_xor b d) ∙ dot_halves z u fz fu)
