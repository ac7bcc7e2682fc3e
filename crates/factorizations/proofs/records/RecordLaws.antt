-- Laws of the records of results.
use Rattle.std.proofs.Common.{◌≡◌, refl, sym, ap, ◌∙◌, List, [], ◌∷◌, ◌++◌, ℕ, ◌+◌, ◌*◌, ◌≤◌, arith, length, set}
use mathlib.Core.Option.{Option, some, none}
use Rattle.binar.specs.Row.{weight}
use Rattle.pauli.specs.Bytes.{le16}
use Rattle.pauli.specs.Sets.{members}
use Rattle.pauli.specs.Writing.{put_bytes}
use Rattle.pauli.proofs.write.Puts.{put_nothing, put_byte, put_two, put_append}
use Rattle.pauli_theory.specs.Membership.{Factorization}
use Rattle.pauli_group.specs.Calls.{le16s, index_bytes, factored}
use Rattle.pauli_group.proofs.member.MemberLaws.{length_indexes}
use Rattle.factorizations.specs.Put.{Put}
use Rattle.factorizations.specs.Records.{result_bytes, results_bytes}
use Rattle.factorizations.proofs.stored.PieceLaws.{Pieces}

-- ---- one record

pub other_length : 1 ≡ length (result_bytes none)
unfolding result_bytes
other_length = refl

pub member_length : (s e : ℕ) → length (result_bytes (some (record { indexes = s; exponent = e }))) ≡ 4 + 2 * weight s
unfolding result_bytes index_bytes factored le16
member_length s e = omega (arith, length_indexes s)

pub other_put : (out : List ℕ) (at : ℕ) → at + length (result_bytes none) ≤ length out → Put out at (result_bytes none) (set out at 0) (at + 1)
unfolding result_bytes
other_put out at h = record {
  bytes = sym (put_byte out at 0 [] (omega arith) ∙ put_nothing (set out at 0) (at + 1));
  past = refl;
}

module _ (out : List ℕ) (at s e : ℕ) (h : at + length (result_bytes (some (record { indexes = s; exponent = e }))) ≤ length out) where
  pub member_room : at + 4 + 2 * weight s ≤ length out
  member_room = omega (arith, member_length s e)

  pub member_put : (n : ℕ) → n ≡ weight s → (a b : List ℕ) → a ≡ put_bytes (set (set out at 1) (at + 1) e) (at + 2) (le16 n)
      → b ≡ put_bytes a (at + 4) (le16s (members s))
      → Put out at (result_bytes (some (record { indexes = s; exponent = e }))) b (at + 4 + 2 * n)
  unfolding result_bytes index_bytes factored le16
  member_put n c a b p q =
      let head : List ℕ = 1 ∷ e ∷ [] in
      let first = head ++ le16 n in
      record {
        bytes =
            q ∙ ap (λ (o : List ℕ). put_bytes o (at + 4) (le16s (members s)))
            (p ∙ ap (λ (o : List ℕ). put_bytes o (at + 2) (le16 n)) (put_two out at 1 e (omega (arith, member_room)))
            ∙ put_append out at head (omega (arith, member_room)) (le16 n))
            ∙ put_append out at first (omega (arith, member_room)) (le16s (members s))
            ∙ ap (λ (k : ℕ). put_bytes out at (1 ∷ e ∷ le16 k ++ le16s (members s))) c;
        past = omega (arith, length_indexes s);
      }

-- ---- the records of results, one behind the other

pub none_left : results_bytes [] ≡ []
unfolding results_bytes
none_left = refl

pub one_more : (o : Option Factorization) (os : List (Option Factorization)) → results_bytes (o ∷ os) ≡ result_bytes o ++ results_bytes os
unfolding results_bytes
one_more o os = refl

abbrev pub records : Pieces
records = record {
  one = λ i o. result_bytes o;
  all = λ i os. results_bytes os;
  none_left = λ i. none_left;
  one_more = λ i o os. one_more o os;
  most = 260;
}
