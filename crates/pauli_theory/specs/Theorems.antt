-- What is proved of the group calls' definitions, for every list of Paulis. Each statement is a type; its proof is in proofs/.
use Rattle.std.specs.Prelude.{◌≡◌, ℕ, ◌+◌, ◌-◌, ◌*◌, ◌%◌, ◌^◌, ◌≤◌, ◌<◌, min, max, length, get_or}
use mathlib.Core.List.{List, ◌++◌, map, Memᴰ as Mem}
use Rattle.std.proofs.Math.Option.{some, none}
use Rattle.binar.specs.Space.{RowSpace, Independent, Dimension}
use Rattle.pauli.specs.Support.{All}
use Rattle.pauli.specs.Pauli.{Pauli, I, Same, times, turned, anticommute, indexed_product}
use Rattle.pauli.specs.Sets.{row_of}
use Rattle.pauli.specs.PauliTheorems.{PauliOn}
use Rattle.pauli_theory.specs.Group.{Generated, Inside, SameGroup, Abelian, Promise, Honest}
use Rattle.pauli_theory.specs.Standard.{support_of, form_of, rank, standard, nonabelian, phases_of, phase_step, log2_size, stabilizer}
use Rattle.pauli_theory.specs.Membership.{Factorization, factorization_of}
use Rattle.pauli_theory.specs.Order.{equal, less, greater, no_order, partial_cmp}
use Rattle.pauli_theory.specs.Listing.{elements_of}
use Rattle.pauli_theory.specs.Modulo.{supports_other, modulo, try_quotient}
use Rattle.pauli_theory.specs.Symplectic.{symplectic_form}
use Rattle.pauli_theory.specs.Common.{common_rows, common_basis, common_phase}
use Rattle.pauli_theory.specs.WholeCommonTheorems.{WholeCommonLaw}

-- What a list generates: the identity, its generators, products, and an inverse of each element
pub record GeneratedLaw (gs : List Pauli) : Type 0 where
  pub identity : Generated gs I
  pub generators : (i : ℕ) → i < length gs → Generated gs (get_or gs i I)
  pub products : (p q : Pauli) → Generated gs p → Generated gs q → Generated gs (times p q)
  pub inverses : (p : Pauli) → Generated gs p → (q : Pauli) × Generated gs q × (times p q ≡ I) × (times q p ≡ I)

-- 1. Standard generators: they generate the list's group, are no more than the generators (one, for no generators), lie on the
-- list's qubits and have exponents 0 to 3; and they are the same exactly for the same group
pub record StandardLaw (gs : List Pauli) : Type 0 where
  pub generates : SameGroup (standard gs) gs
  pub count : length (standard gs) ≤ max (length gs) 1
  pub on_support : All (PauliOn (support_of gs)) (standard gs)
  pub values : All (λ p. p.e < 4) (standard gs)

pub record CanonicalLaw (gs hs : List Pauli) : Type 0 where
  pub same_standard : SameGroup gs hs → standard gs ≡ standard hs
  pub same_group : standard gs ≡ standard hs → SameGroup gs hs

-- 2. Phases: with an absent or true promise they are exactly the powers of i in the group
pub record PhasesLaw (promise : Promise) (gs : List Pauli) : Type 0 where
  pub in_group : (k : ℕ) → Mem (k % 4) (phases_of promise gs) → Generated gs (turned k I)
  pub all_of_group : (k : ℕ) → Generated gs (turned k I) → Mem (k % 4) (phases_of promise gs)

-- 3. Membership: an element has a factorization exactly when it is generated; and the product of the generators at the indexes
-- given, rising, times i to the exponent given, is the element
pub record MembershipLaw (promise : Promise) (gs : List Pauli) (p : Pauli) : Type 0 where
  pub complete : Generated gs p → (f : Factorization) × (factorization_of promise gs p ≡ some f)
  pub sound : (f : Factorization) → factorization_of promise gs p ≡ some f → Generated gs p
  pub within : (f : Factorization) → factorization_of promise gs p ≡ some f → (f.indexes < 2 ^ length gs) × (f.exponent < 4)
  pub equals : (f : Factorization) → factorization_of promise gs p ≡ some f → Same (turned f.exponent (indexed_product f.indexes gs)) p

-- 4. A member of either list is a member of the two joined
pub record JoinedLaw (gs hs : List Pauli) : Type 0 where
  pub left : Inside gs (gs ++ hs)
  pub right : Inside hs (gs ++ hs)

-- 5. Comparison, with absent or true promises: it is inclusion of groups, and goes by the standard generators as document 01 says
pub record OrderLaw (left right : Promise) (gs hs : List Pauli) : Type 0 where
  pub equal_right : partial_cmp left right gs hs ≡ equal → SameGroup gs hs
  pub equal_only : SameGroup gs hs → partial_cmp left right gs hs ≡ equal
  pub less_right : partial_cmp left right gs hs ≡ less → Inside gs hs × (Inside hs gs → ⊥)
  pub less_only : Inside gs hs → (Inside hs gs → ⊥) → partial_cmp left right gs hs ≡ less
  pub greater_right : partial_cmp left right gs hs ≡ greater → Inside hs gs × (Inside gs hs → ⊥)
  pub greater_only : Inside hs gs → (Inside gs hs → ⊥) → partial_cmp left right gs hs ≡ greater
  -- "equal when their standard generators are the same; else less when the right list's are those of the two joined, greater
  -- when the left list's are; else no order"
  pub standard_equal : standard gs ≡ standard hs → partial_cmp left right gs hs ≡ equal
  pub standard_less : (standard gs ≡ standard hs → ⊥) → standard hs ≡ standard (gs ++ hs) → partial_cmp left right gs hs ≡ less
  pub standard_greater : (standard gs ≡ standard hs → ⊥) → (standard hs ≡ standard (gs ++ hs) → ⊥) → standard gs ≡ standard (gs ++ hs) → partial_cmp left right gs hs ≡ greater
  pub standard_none : (standard hs ≡ standard (gs ++ hs) → ⊥) → (standard gs ≡ standard (gs ++ hs) → ⊥) → partial_cmp left right gs hs ≡ no_order

-- A against A joined with B: equal exactly when every generator of B is generated by A, else less
pub record AgainstJoinedLaw (left right : Promise) (gs hs : List Pauli) : Type 0 where
  pub equal_when : All (Generated gs) hs → partial_cmp left right gs (gs ++ hs) ≡ equal
  pub equal_only : partial_cmp left right gs (gs ++ hs) ≡ equal → All (Generated gs) hs
  pub else_less : (All (Generated gs) hs → ⊥) → partial_cmp left right gs (gs ++ hs) ≡ less

-- 6. The rank is the dimension of the row space
abbrev pub RankLaw : List Pauli → Type 0
RankLaw gs = Dimension (map (row_of (support_of gs)) gs) (rank gs)

-- 7. Size, with an absent or true promise: the group has 2^k elements, k the log2 size: a list of so many Paulis, no two of them
-- equal, holds exactly the generated ones
pub record SizeLaw (promise : Promise) (gs : List Pauli) : Type 0 where
  pub elements : List Pauli
  pub count : length elements ≡ 2 ^ log2_size promise gs
  pub distinct : (i j : ℕ) → i < length elements → j < length elements → Same (get_or elements i I) (get_or elements j I) → i ≡ j
  pub generated : All (Generated gs) elements
  pub complete : (p : Pauli) → Generated gs p → (i : ℕ) × (i < length elements) × Same (get_or elements i I) p

-- 8. Abelian by the list, and stabilizer group: abelian, and -I is not generated; with an absent or true promise
pub record AbelianLaw (promise : Promise) (gs : List Pauli) : Type 0 where
  pub abelian_right : nonabelian promise gs ≡ 0 → Abelian gs
  pub abelian_only : Abelian gs → nonabelian promise gs ≡ 0
  pub stabilizer_right : stabilizer promise gs ≡ 1 → Abelian gs × (Generated gs (turned 2 I) → ⊥)
  pub stabilizer_only : Abelian gs → (Generated gs (turned 2 I) → ⊥) → stabilizer promise gs ≡ 1

-- 9. A true promise changes no answer
pub record PromiseLaw (promise : Promise) (gs : List Pauli) : Type 0 where
  pub same_abelian : nonabelian promise gs ≡ nonabelian Promise.none gs
  pub same_phases : phases_of promise gs ≡ phases_of Promise.none gs
  pub same_stabilizer : stabilizer promise gs ≡ stabilizer Promise.none gs
  pub same_size : log2_size promise gs ≡ log2_size Promise.none gs
  pub same_factorization : (p : Pauli) → factorization_of promise gs p ≡ factorization_of Promise.none gs p
  pub same_elements : elements_of promise gs ≡ elements_of Promise.none gs

-- nor do two, of the calls on two lists
pub record PromisesLaw (left right : Promise) (gs hs : List Pauli) : Type 0 where
  pub same_order : partial_cmp left right gs hs ≡ partial_cmp Promise.none Promise.none gs hs
  pub same_remainder : modulo right gs hs ≡ modulo Promise.none gs hs
  pub same_quotient : try_quotient left right gs hs ≡ try_quotient Promise.none Promise.none gs hs

-- 10. Modulo: p is g times an element of the group of hs
pub record Coset (hs : List Pauli) (g p : Pauli) : Type 0 where
  pub factor : Pauli
  pub generated : Generated hs factor
  pub equals : Same (times g factor) p

-- with an absent or true promise of the other list
pub record ModuloLaw (promise : Promise) (gs hs : List Pauli) : Type 0 where
  -- one for each standard generator, and that up to an element of the other group
  pub count : length (modulo promise gs hs) ≡ length (standard gs)
  pub cosets : (i : ℕ) → i < length (standard gs) → Coset hs (get_or (standard gs) i I) (get_or (modulo promise gs hs) i I)
  -- none has a one at a pivot of the other's form
  pub clear : All (λ p. All (λ c. supports_other (support_of hs) c p ≡ 0) (form_of hs).pivots) (modulo promise gs hs)
  -- with the other list they generate what both lists do
  pub generates : SameGroup (modulo promise gs hs ++ hs) (gs ++ hs)
  pub on_support : All (PauliOn (support_of (gs ++ hs))) (modulo promise gs hs)
  -- the exponents are below the modulus, which is the least of 4 - e over the other's phases e
  pub low : All (λ p. p.e < phase_step promise hs) (modulo promise gs hs)
  pub least : (e : ℕ) → Mem e (phases_of promise hs) → phase_step promise hs ≤ 4 - e
  pub attained : (e : ℕ) × Mem e (phases_of promise hs) × (phase_step promise hs ≡ 4 - e)

-- 11. Quotient, with absent or true promises: none exactly when the divisor's group is not inside, which a generator of it shows;
-- else modulo
pub record QuotientLaw (promise divisor_promise : Promise) (gs hs : List Pauli) : Type 0 where
  pub none_right : try_quotient promise divisor_promise gs hs ≡ none → Inside hs gs → ⊥
  pub none_only : (Inside hs gs → ⊥) → try_quotient promise divisor_promise gs hs ≡ none
  pub outside : try_quotient promise divisor_promise gs hs ≡ none → (i : ℕ) × (i < length hs) × (Generated gs (get_or hs i I) → ⊥)
  pub some_only : Inside hs gs → try_quotient promise divisor_promise gs hs ≡ some (modulo divisor_promise gs hs)
  -- the quotient and the divisor generate the list's group
  pub generates : Inside hs gs → SameGroup (modulo divisor_promise gs hs ++ hs) gs

-- 12. Symplectic pairing: "pairs anticommute, all else commutes, and the same group is generated"
pub record SymplecticLaw (gs : List Pauli) : Type 0 where
  pub count : length (symplectic_form gs) ≡ length gs
  pub generates : SameGroup (symplectic_form gs) gs
  pub on_support : All (PauliOn (support_of gs)) (symplectic_form gs)
  -- the pairs stand first
  pub pairs : ℕ
  pub room : 2 * pairs ≤ length gs
  pub paired : (i : ℕ) → i < pairs → anticommute (get_or (symplectic_form gs) (2 * i) I) (get_or (symplectic_form gs) (2 * i + 1) I) ≡ 1
  -- the elements at i and j, unless they are a pair
  pub else_commute : (i j : ℕ) → i < j → j < length gs → ((h : ℕ) → h < pairs → i ≡ 2 * h → j ≡ 2 * h + 1 → ⊥)
      → anticommute (get_or (symplectic_form gs) i I) (get_or (symplectic_form gs) j I) ≡ 0

-- 13. Common rows: of matrices of c columns, independent rows that span what both row spaces have, no more than the rows of either
pub record CommonRowsLaw (c : ℕ) (A B : List ℕ) : Type 0 where
  pub there : (v : ℕ) → RowSpace (common_rows c A B) v → RowSpace A v × RowSpace B v
  pub back : (v : ℕ) → RowSpace A v → RowSpace B v → RowSpace (common_rows c A B) v
  pub independent : Independent (common_rows c A B)
  pub count : length (common_rows c A B) ≤ min (length A) (length B)

-- so do the rows of the common basis for the rows of the two lists
pub record CommonBasisLaw (gs hs : List Pauli) : Type 0 where
  pub there : let rows = map (row_of (support_of (gs ++ hs))) in
      (v : ℕ) → RowSpace (rows (common_basis gs hs)) v → RowSpace (rows gs) v × RowSpace (rows hs) v
  pub back : let rows = map (row_of (support_of (gs ++ hs))) in
      (v : ℕ) → RowSpace (rows gs) v → RowSpace (rows hs) v → RowSpace (rows (common_basis gs hs)) v
  pub independent : Independent (map (row_of (support_of (gs ++ hs))) (common_basis gs hs))
  pub count : length (common_basis gs hs) ≤ min (length (standard gs)) (length (standard hs))
  pub on_support : All (PauliOn (support_of (gs ++ hs))) (common_basis gs hs)

-- the shared phase of a Pauli, with absent or true promises: it is one in both groups; and there is none exactly when no power of i
-- times the Pauli is in both
pub record CommonPhaseLaw (left right : Promise) (gs hs : List Pauli) : Type 0 where
  pub shared : (p q : Pauli) → common_phase left right gs hs p ≡ some q → (q.x ≡ p.x) × (q.z ≡ p.z) × Generated gs q × Generated hs q
  pub dropped : (p : Pauli) → common_phase left right gs hs p ≡ none → (k : ℕ) → Generated gs (turned k p) → Generated hs (turned k p) → ⊥

-- 14. The common part: WholeCommonLaw, of WholeCommonTheorems

-- all of these
pub record GroupLaws : Type 0 where
  pub generated_law : (gs : List Pauli) → GeneratedLaw gs
  pub standard_law : (gs : List Pauli) → StandardLaw gs
  pub canonical_law : (gs hs : List Pauli) → CanonicalLaw gs hs
  pub phases_law : (promise : Promise) (gs : List Pauli) → Honest promise gs → PhasesLaw promise gs
  pub membership_law : (promise : Promise) (gs : List Pauli) (p : Pauli) → Honest promise gs → MembershipLaw promise gs p
  pub joined_law : (gs hs : List Pauli) → JoinedLaw gs hs
  pub order_law : (left right : Promise) (gs hs : List Pauli) → Honest left gs → Honest right hs → OrderLaw left right gs hs
  pub against_joined_law : (left right : Promise) (gs hs : List Pauli) → Honest left gs → Honest right (gs ++ hs) → AgainstJoinedLaw left right gs hs
  pub rank_law : (gs : List Pauli) → RankLaw gs
  pub size_law : (promise : Promise) (gs : List Pauli) → Honest promise gs → SizeLaw promise gs
  pub abelian_law : (promise : Promise) (gs : List Pauli) → Honest promise gs → AbelianLaw promise gs
  pub promise_law : (promise : Promise) (gs : List Pauli) → Honest promise gs → PromiseLaw promise gs
  pub promises_law : (left right : Promise) (gs hs : List Pauli) → Honest left gs → Honest right hs → PromisesLaw left right gs hs
  pub modulo_law : (promise : Promise) (gs hs : List Pauli) → Honest promise hs → ModuloLaw promise gs hs
  pub quotient_law : (promise divisor_promise : Promise) (gs hs : List Pauli) → Honest promise gs → Honest divisor_promise hs
      → QuotientLaw promise divisor_promise gs hs
  pub symplectic_law : (gs : List Pauli) → SymplecticLaw gs
  pub common_rows_law : (c : ℕ) (A B : List ℕ) → All (λ v. v < 2 ^ c) A → All (λ v. v < 2 ^ c) B → CommonRowsLaw c A B
  pub common_basis_law : (gs hs : List Pauli) → CommonBasisLaw gs hs
  pub common_phase_law : (left right : Promise) (gs hs : List Pauli) → Honest left gs → Honest right hs → CommonPhaseLaw left right gs hs
  pub whole_common_law : (gs hs : List Pauli) → WholeCommonLaw gs hs
