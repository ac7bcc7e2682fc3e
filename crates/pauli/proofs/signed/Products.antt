-- Products of lists of Paulis, and of the Paulis at the indexes of a set.
use Rattle.std.proofs.Common.{◌≡◌, ℕ, zero, suc, ◌/◌, ◌%◌, ◌<◌, List, [], ◌∷◌, ◌++◌, map, sym, refl, ap, ◌∙◌, ap₂, arith}
use Rattle.binar.specs.Row.{◌⊕◌, if_bit, row_sum}
use Rattle.binar.proofs.echelon.Span.{if_bit_map}
use Rattle.pauli.specs.Pauli.{Pauli, I, normal, times, product_from, product, cons_if, select, indexed_product}
use Rattle.pauli.proofs.signed.Algebra.{times_assoc, I-times, times-I, times_lt, normal_times, times_normal_l}

product_from_lem : (p : Pauli) (qs : List Pauli) → product_from (normal p) qs ≡ times p (product qs)
unfolding product_from product
product_from_lem p [] = sym (times-I p)
product_from_lem p (q ∷ qs) =
    ap (λ r. product_from r qs) (times_normal_l p q ∙ sym (normal_times p q)) ∙ product_from_lem (times p q) qs
    ∙ times_assoc p q (product qs) ∙ ap (times p) (sym (product_from_lem q qs) ∙ ap (λ r. product_from r qs) (sym (I-times q)))

pub product_cons : (q : Pauli) (qs : List Pauli) → product (q ∷ qs) ≡ times q (product qs)
unfolding product_from product
product_cons q qs = ap (λ r. product_from r qs) (I-times q) ∙ product_from_lem q qs

pub product_none : product [] ≡ I
unfolding product_from product
product_none = refl

pub product_normal : (qs : List Pauli) → normal (product qs) ≡ product qs
unfolding product_from product normal I
product_normal [] = refl
product_normal (q ∷ qs) = rw product_cons (normal_times q (product qs))

pub product_lt : (qs : List Pauli) → (product qs).e < 4
unfolding product_from product I
product_lt [] = omega arith
product_lt (q ∷ qs) = rw product_cons (times_lt q (product qs))

pub product_append : (ps qs : List Pauli) → product (ps ++ qs) ≡ times (product ps) (product qs)
product_append [] qs = sym (ap (λ r. times r (product qs)) product_none ∙ I-times (product qs) ∙ product_normal qs)
product_append (p ∷ ps) qs =
    rw (product_cons p (ps ++ qs), product_append ps qs, product_cons p ps) (sym (times_assoc p (product ps) (product qs)))

-- ---- by the indexes of a set
pub indexed_cons : (s : ℕ) (g : Pauli) (gs : List Pauli) → indexed_product s (g ∷ gs) ≡ times (if_bit (s % 2) g I) (indexed_product (s / 2) gs)
unfolding indexed_product select cons_if if_bit
indexed_cons s g gs = go (s % 2)
  where
    more : List Pauli
    more = select (s / 2) gs

    go : (d : ℕ) → product (cons_if d g more) ≡ times (if_bit d g I) (product more)
    go zero = sym (I-times (product more) ∙ product_normal more)
    go (suc d) = product_cons g more

pub indexed_normal : (s : ℕ) (gs : List Pauli) → normal (indexed_product s gs) ≡ indexed_product s gs
unfolding indexed_product
indexed_normal s gs = product_normal (select s gs)

-- what is additive over products is, of the product at the indexes of s, the sum of its rows at s
pub indexed_additive : (F : Pauli → ℕ) → ((p q : Pauli) → F (times p q) ≡ F p ⊕ F q) → F I ≡ 0
    → (s : ℕ) (gs : List Pauli) → F (indexed_product s gs) ≡ row_sum s (map F gs)
unfolding indexed_product select product_from product row_sum
indexed_additive F f z s [] = z
indexed_additive F f z s (g ∷ gs) =
    ap F (indexed_cons s g gs) ∙ f (if_bit (s % 2) g I) (indexed_product (s / 2) gs)
    ∙ ap₂ ◌⊕◌ (if_bit_map F (s % 2) g I ∙ ap (if_bit (s % 2) (F g)) z) (indexed_additive F f z (s / 2) gs)
