-- Paulis put behind one another in the work area.
use Rattle.std.proofs.Common.{◌≡◌, refl, sym, ap₂, ◌∙◌, subst, List, [], ◌∷◌, ◌++◌, length, length-append, ℕ, ◌+◌, ◌*◌, ◌≤◌, arith}
use lib.Seq.{sets}
use Rattle.pauli.specs.declared.signed.Pauli.{Pauli as Held}
use Rattle.pauli.specs.Pauli.{Pauli, normal}
use Rattle.pauli.specs.Signed.{held, pauli_words, list_in}
use Rattle.pauli_group.specs.Inner.Area.{Outside}
use Rattle.pauli_group.proofs.list.ListLaws.{outside_refl, list_store, store_further}

-- the Paulis ps stand from word base on in the slice w, which is else as the slice first
pub record Behind (base : ℕ) (ps : List Pauli) (first w : List ℕ) : Type 0 where
  pub list : list_in w base (length ps) ≡ ps
  pub rest : Outside base (5 * length ps) first w

pub behind_none : (base : ℕ) (w : List ℕ) → Behind base [] w w
unfolding list_in
behind_none base w = record { list = refl; rest = outside_refl base 0 w }

-- one more
pub behind_more : {base : ℕ} {ps : List Pauli} {first w : List ℕ} → Behind base ps first w → base + 5 * length ps + 5 ≤ length first
    → (q : Pauli) (p : Held) → normal (held p) ≡ q → (at : ℕ) → at ≡ base + 5 * length ps
    → (u : List ℕ) → u ≡ sets w at (pauli_words p) → Behind base (ps ++ q ∷ []) first u
behind_more {base} {ps} {first} {w} s room q p e at a u g =
    let n = length ps in
    let more : length (ps ++ q ∷ []) ≡ n + 1 = length-append ps (q ∷ []) in
    let put : u ≡ sets w (base + 5 * n) (pauli_words p) = rw a at g in
    record {
      list =
          ap₂ (λ (l : List ℕ) (k : ℕ). list_in l base k) put more ∙ list_store w base n p (omega (arith, s.rest.size))
          ∙ ap₂ (λ (rs : List Pauli) (r : Pauli). rs ++ r ∷ []) s.list e;
      rest = subst (λ (k : ℕ). Outside base (5 * k) first u) (sym more) (store_further first w base n p s.rest u put);
    }
