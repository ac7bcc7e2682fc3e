-- Laws of bytes that tell results, one behind the other.
use Rattle.std.proofs.Common.{◌≡◌, refl, ap, ◌∙◌, List, [], ◌∷◌, ◌++◌, ℕ, suc, ◌+◌, ◌*◌, ◌≤◌, ◌<◌, mul-add, mul-one, arith, length, length-append, get_or, drop, drop-cons, drop_of_length-le}
use mathlib.Core.Option.{Option}
use Rattle.pauli.proofs.write.Puts.{Left, left_done, left_room, left_step}
use Rattle.pauli_theory.specs.Membership.{Factorization}
use Rattle.factorizations.specs.Put.{Put}
use Rattle.factorizations.specs.Stored.{result_in, results_in}

-- the bytes that tell one result, in which its number may stand; those of a list of results from number i on; and a bound of each
pub record Pieces : Type 0 where
  pub one : ℕ → Option Factorization → List ℕ
  pub all : ℕ → List (Option Factorization) → List ℕ
  pub none_left : (i : ℕ) → all i [] ≡ []
  pub one_more : (i : ℕ) (o : Option Factorization) (os : List (Option Factorization)) → all i (o ∷ os) ≡ one i o ++ all (suc i) os
  pub most : ℕ

module _ (P : Pieces) (ls : List (List ℕ)) where
  -- result i
  abbrev pub result : ℕ → Option Factorization
  result i = result_in (get_or ls i []) 0

  -- the pieces from result i on
  unfoldable pub pieces_from : ℕ → List ℕ
  pieces_from i = P.all i (results_in (drop i ls))

  pub pieces_start : P.all 0 (results_in ls) ≡ pieces_from 0
  unfolding pieces_from
  pieces_start = refl

  module _ (i : ℕ) where
    pub pieces_end : length ls ≤ i → pieces_from i ≡ []
    unfolding pieces_from results_in
    pieces_end h = ap (λ (xs : List (List ℕ)). P.all i (results_in xs)) (drop_of_length-le ls h) ∙ P.none_left i

    pub pieces_next : i < length ls → pieces_from i ≡ P.one i (result i) ++ pieces_from (i + 1)
    unfolding pieces_from results_in
    pieces_next h =
        let s : suc i ≡ i + 1 = omega arith in
        ap (λ (xs : List (List ℕ)). P.all i (results_in xs)) (drop-cons ls i [] h)
        ∙ P.one_more i (result i) (results_in (drop (suc i) ls))
        ∙ ap (λ (j : ℕ). P.one i (result i) ++ P.all j (results_in (drop j ls))) s

  -- their length is counted, up to result i
  pub record Measured (i total : ℕ) : Type 0 where
    pub within : i ≤ length ls
    pub few : total ≤ P.most * i
    pub sum : total + length (pieces_from i) ≡ length (P.all 0 (results_in ls))

  pub measured_start : Measured 0 0
  measured_start = record { within = omega arith; few = omega arith; sum = omega (arith, ap length pieces_start) }

  module _ {i total : ℕ} (c : Measured i total) where
    pub measured_end : length ls ≤ i → (total ≡ length (P.all 0 (results_in ls))) × (total ≤ P.most * length ls)
    measured_end h =
        let same : length ls ≡ i = omega (arith, c.within) in
        (omega (arith, c.sum, ap length (pieces_end i h)), rw same c.few)

    pub measured_next : i < length ls → (k : ℕ) → k ≡ length (P.one i (result i)) → k ≤ P.most → Measured (i + 1) (total + k)
    measured_next h k e f =
        let whole = ap length (pieces_next i h) ∙ length-append (P.one i (result i)) (pieces_from (i + 1)) in
        record {
          within = omega arith;
          few = omega (arith, c.few, mul-add P.most i 1, mul-one P.most);
          sum = omega (arith, c.sum);
        }

  -- they are put, up to result i
  module _ {first : List ℕ} {start : ℕ} {out : List ℕ} {next : ℕ} (i : ℕ)
      (r : Left first start (P.all 0 (results_in ls)) out next (pieces_from i)) where
    pub pieces_put : length ls ≤ i → Put first start (P.all 0 (results_in ls)) out next
    pieces_put h = let e = left_done r (pieces_end i h) in record { bytes = e.0; past = e.1 }

    module _ (h : i < length ls) where
      pub piece_fits : next + length (P.one i (result i)) ≤ length out
      piece_fits = left_room r (P.one i (result i)) (pieces_from (i + 1)) _ (pieces_next i h) refl

      pub piece_put : (u : List ℕ) (n : ℕ) → Put out next (P.one i (result i)) u n → length u ≡ length out
          → Left first start (P.all 0 (results_in ls)) u n (pieces_from (i + 1))
      piece_put u n p e =
          rw p.past
          (left_step r (P.one i (result i)) (pieces_from (i + 1)) _ (pieces_next i h) refl u p.bytes e)
