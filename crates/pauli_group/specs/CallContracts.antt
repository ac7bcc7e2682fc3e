-- What each call promises: its answer, the output at exit and the work area at exit, by what it was lent.
use Rattle.std.specs.Prelude.{◌≡◌, ℕ, List, length, Bool, Option, Result}
use Rattle.pauli.specs.Writing.{told_bytes, left_in}
use Rattle.pauli_theory.specs.Group.{Promise}
use Rattle.pauli_group.specs.WorkArea.{area_after}
use Rattle.pauli_group.specs.Calls.{one_list, standard_generators, rank_call, phases_call, abelian_call, stabilizer_call, size_call, question, factorization_call, told_member, member_left, symplectic_call, elements_call, two_lists, order_call, modulo_call, quotient_call, common_call}
use Rattle.pauli_group.specs.declared.answers.Factors.{Factors}
use Rattle.std.specs.declared.cmp.Ordering.{Ordering}
use Rattle.pauli_group.specs.declared.answers.Phases.{Phases}
use Rattle.pauli.specs.declared.refusal.Refusal.{Refusal}
use Rattle.pauli_group.specs.Answers.{factored_in, order_of, phases_told, yes_number}
use Rattle.pauli.specs.Refusals.{told_by, told_of}

pub record StandardCall (b work out : List ℕ) (r : Result ℕ Refusal) (work' out' : List ℕ) : Type 0 where
  pub told : told_of r ≡ told_bytes (standard_generators b (length work)) out
  pub left : out' ≡ left_in (standard_generators b (length work)) out
  pub area : work' ≡ area_after (one_list b (length work)) work

pub record SymplecticCall (b work out : List ℕ) (r : Result ℕ Refusal) (work' out' : List ℕ) : Type 0 where
  pub told : told_of r ≡ told_bytes (symplectic_call b (length work)) out
  pub left : out' ≡ left_in (symplectic_call b (length work)) out
  pub area : work' ≡ area_after (one_list b (length work)) work

pub record ElementsCall (promise : Promise) (start count : ℕ) (b work out : List ℕ) (r : Result ℕ Refusal) (work' out' : List ℕ) : Type 0 where
  pub told : told_of r ≡ told_bytes (elements_call promise start count b (length work)) out
  pub left : out' ≡ left_in (elements_call promise start count b (length work)) out
  pub area : work' ≡ area_after (one_list b (length work)) work

pub record RankCall (b work : List ℕ) (r : Result ℕ Refusal) (work' : List ℕ) : Type 0 where
  pub told : told_of r ≡ rank_call b (length work)
  pub area : work' ≡ area_after (one_list b (length work)) work

pub record PhasesCall (promise : Promise) (b work : List ℕ) (r : Result Phases Refusal) (work' : List ℕ) : Type 0 where
  pub told : told_by phases_told r ≡ phases_call promise b (length work)
  pub area : work' ≡ area_after (one_list b (length work)) work

pub record AbelianCall (promise : Promise) (b work : List ℕ) (r : Result Bool Refusal) (work' : List ℕ) : Type 0 where
  pub told : told_by yes_number r ≡ abelian_call promise b (length work)
  pub area : work' ≡ area_after (one_list b (length work)) work

pub record StabilizerCall (promise : Promise) (b work : List ℕ) (r : Result Bool Refusal) (work' : List ℕ) : Type 0 where
  pub told : told_by yes_number r ≡ stabilizer_call promise b (length work)
  pub area : work' ≡ area_after (one_list b (length work)) work

pub record SizeCall (promise : Promise) (b work : List ℕ) (r : Result ℕ Refusal) (work' : List ℕ) : Type 0 where
  pub told : told_of r ≡ size_call promise b (length work)
  pub area : work' ≡ area_after (one_list b (length work)) work

-- element n of the roll e, put to the generators of the roll b
pub record MemberCall (promise : Promise) (b e : List ℕ) (n : ℕ) (work out : List ℕ) (r : Result (Option Factors) Refusal) (work' out' : List ℕ) : Type 0 where
  pub told : told_by factored_in r ≡ told_member (factorization_call promise b e n (length work)) out
  pub left : out' ≡ member_left (factorization_call promise b e n (length work)) out
  pub area : work' ≡ area_after (question b e n (length work)) work

pub record OrderCall (left right : Promise) (l r work : List ℕ) (found : Result (Option Ordering) Refusal) (work' : List ℕ) : Type 0 where
  pub told : told_by order_of found ≡ order_call left right l r (length work)
  pub area : work' ≡ area_after (two_lists l r (length work)) work

pub record ModuloCall (right : Promise) (l r work out : List ℕ) (wrote : Result ℕ Refusal) (work' out' : List ℕ) : Type 0 where
  pub told : told_of wrote ≡ told_bytes (modulo_call right l r (length work)) out
  pub written : out' ≡ left_in (modulo_call right l r (length work)) out
  pub area : work' ≡ area_after (two_lists l r (length work)) work

pub record QuotientCall (left right : Promise) (l r work out : List ℕ) (wrote : Result ℕ Refusal) (work' out' : List ℕ) : Type 0 where
  pub told : told_of wrote ≡ told_bytes (quotient_call left right l r (length work)) out
  pub written : out' ≡ left_in (quotient_call left right l r (length work)) out
  pub area : work' ≡ area_after (two_lists l r (length work)) work

-- promises are not read
pub record CommonCall (l r work out : List ℕ) (wrote : Result ℕ Refusal) (work' out' : List ℕ) : Type 0 where
  pub told : told_of wrote ≡ told_bytes (common_call l r (length work)) out
  pub written : out' ≡ left_in (common_call l r (length work)) out
  pub area : work' ≡ area_after (two_lists l r (length work)) work
