-- The group calls, as functions of the bytes lent: document 01, "Group", with the order of refusals of "Turned back".
use Rattle.std.specs.Prelude.{ℕ, ◌+◌, cond, List, [], ◌∷◌, ◌++◌, map, length, nat_lt, slice_index_or}
use Rattle.std.proofs.Math.Option.{Option, some, none}
use Rattle.binar.specs.Row.{weight}
use Rattle.pauli.specs.Bytes.{le16}
use Rattle.pauli.specs.JoinCalls.{read_both, within, Counts, few_qubits}
use Rattle.pauli.specs.Sets.{sparse_of, members, pauli_of}
use Rattle.pauli.specs.Condense.{nothing}
use Rattle.pauli.specs.Pauli.{Pauli}
use Rattle.pauli.specs.Roll.{Sparse, read, write, most_paulis}
use Rattle.pauli.specs.Told.{Told, answer, refused, refuse_if, and_then, map_told}
use Rattle.pauli.specs.Writing.{put_bytes}
use Rattle.pauli_theory.specs.Group.{Promise}
use Rattle.pauli_theory.specs.Standard.{if_zero, standard, rank, nonabelian, phases_of, log2_size, stabilizer}
use Rattle.pauli_theory.specs.Membership.{Factorization, factorization_of}
use Rattle.pauli_theory.specs.Listing.{elements_of, page}
use Rattle.pauli_theory.specs.Symplectic.{symplectic_form}
use Rattle.pauli_group.specs.WorkArea.{enough}
use Rattle.pauli_theory.specs.Modulo.{modulo, try_quotient}
use Rattle.pauli_theory.specs.Order.{Order, partial_cmp}
use Rattle.pauli_theory.specs.WholeCommon.{whole_common}

-- "A list is the Paulis of a roll in its order"
unfoldable pub paulis : List Sparse → List Pauli
paulis ps = map pauli_of ps

-- a list as a written roll
abbrev pub list_bytes : List Pauli → List ℕ
list_bytes ps = write (map sparse_of ps)

-- ---- calls on one list

-- its roll is checked (1 to 7), then the work area (9)
unfoldable pub one_list : List ℕ → ℕ → Told (List Pauli)
one_list b words = and_then (read b) λ ps. enough words (answer (paulis ps))

-- "Standard generators are the roll written for `StandardForm::new`"
unfoldable pub standard_bytes : List Pauli → List ℕ
standard_bytes gs = list_bytes (standard gs)

unfoldable pub standard_generators : List ℕ → ℕ → Told (List ℕ)
standard_generators b words = map_told standard_bytes (one_list b words)

unfoldable pub rank_call : List ℕ → ℕ → Told ℕ
rank_call b words = map_told rank (one_list b words)

-- the list of the phases: 0; or 0,2; or 0,1,2,3
unfoldable pub phases_call : Promise → List ℕ → ℕ → Told (List ℕ)
phases_call promise b words = map_told (phases_of promise) (one_list b words)

-- 1 for yes, 0 for no
unfoldable pub abelian_call : Promise → List ℕ → ℕ → Told ℕ
abelian_call promise b words = map_told (λ gs. if_zero (nonabelian promise gs) 1 0) (one_list b words)

unfoldable pub stabilizer_call : Promise → List ℕ → ℕ → Told ℕ
stabilizer_call promise b words = map_told (stabilizer promise) (one_list b words)

unfoldable pub size_call : Promise → List ℕ → ℕ → Told ℕ
size_call promise b words = map_told (log2_size promise) (one_list b words)

-- ---- membership

-- the generators, and the element that is asked about
pub record Question : Type 0 where
  pub generators : List Pauli
  pub element : Pauli

-- the rolls, "generators before elements" (1 to 7), the element's number (8), the work area (9)
unfoldable pub question : List ℕ → List ℕ → ℕ → ℕ → Told Question
question b e n words =
    and_then (read_both b e) λ l. within n l.right (enough words
    (answer (record { generators = paulis l.left; element = pauli_of (slice_index_or l.right n nothing) })))

-- how many Paulis each of two rolls has
unfoldable pub roll_counts : List ℕ → List ℕ → Told Counts
roll_counts b e = map_told (λ l. record { left = length l.left; right = length l.right }) (read_both b e)

-- how many Paulis the two rolls have, where the question can be asked
unfoldable pub question_counts : List ℕ → List ℕ → ℕ → ℕ → Told Counts
question_counts b e n words =
    and_then (read_both b e) λ l. within n l.right (enough words (answer (record { left = length l.left; right = length l.right })))

unfoldable pub factorization_call : Promise → List ℕ → List ℕ → ℕ → ℕ → Told (Option Factorization)
factorization_call promise b e n words = map_told (λ q. factorization_of promise q.generators q.element) (question b e n words)

-- numbers as two bytes each
unfoldable pub le16s : List ℕ → List ℕ
le16s [] = []
le16s (n ∷ ns) = le16 n ++ le16s ns

-- "The indexes go to the output, rising, 2 bytes each, little-endian"
unfoldable pub index_bytes : Factorization → List ℕ
index_bytes f = le16s (members f.indexes)

-- "their count and e are returned"
pub record Factored : Type 0 where
  pub count : ℕ
  pub exponent : ℕ

unfoldable pub factored : Factorization → Factored
factored f = record { count = weight f.indexes; exponent = f.exponent }

-- what membership tells: the count and the exponent, or 12 where the output is short; or not a member, which is no refusal
unfoldable pub told_member : Told (Option Factorization) → List ℕ → Told (Option Factored)
told_member (answer (some f)) out = refuse_if (nat_lt (length out) (length (index_bytes f))) 12 0 (answer (some (factored f)))
told_member (answer none) out = answer none
told_member (refused n p) out = refused n p

unfoldable pub member_left : Told (Option Factorization) → List ℕ → List ℕ
member_left (answer (some f)) out = cond (nat_lt (length out) (length (index_bytes f))) out (put_bytes out 0 (index_bytes f))
member_left (answer none) out = out
member_left (refused n p) out = out

-- ---- symplectic pairing

unfoldable pub symplectic_bytes : List Pauli → List ℕ
symplectic_bytes gs = list_bytes (symplectic_form gs)

unfoldable pub symplectic_call : List ℕ → ℕ → Told (List ℕ)
symplectic_call b words = map_told symplectic_bytes (one_list b words)

-- ---- listing

-- "listing with rank above 16"
abbrev pub most_listed : ℕ
most_listed = 16

unfoldable pub page_bytes : Promise → ℕ → ℕ → List Pauli → List ℕ
page_bytes promise start count gs = list_bytes (page start count (elements_of promise gs))

-- after the work area (9) the rank (10)
unfoldable pub elements_call : Promise → ℕ → ℕ → List ℕ → ℕ → Told (List ℕ)
elements_call promise start count b words =
    and_then (one_list b words) λ gs. refuse_if (nat_lt most_listed (rank gs)) 10 0 (answer (page_bytes promise start count gs))

-- ---- calls on two lists

-- two lists that can be joined
pub record Pair : Type 0 where
  pub left : List Pauli
  pub right : List Pauli

-- both rolls (1 to 7), the joined limits (2, 7), the work area (9)
unfoldable pub two_lists : List ℕ → List ℕ → ℕ → Told Pair
two_lists l r words =
    and_then (read_both l r) λ b. refuse_if (nat_lt most_paulis (length b.left + length b.right)) 2 0
    (few_qubits b (enough words (answer (record { left = paulis b.left; right = paulis b.right }))))

-- how many Paulis each of them has
unfoldable pub pair_counts : Pair → Counts
pair_counts b = record { left = length b.left; right = length b.right }

unfoldable pub order_call : Promise → Promise → List ℕ → List ℕ → ℕ → Told Order
order_call left right l r words = map_told (λ b. partial_cmp left right b.left b.right) (two_lists l r words)

-- ---- modulo and quotient

-- "`modulo` as written": the left list by the right one, whose promise alone is read
unfoldable pub modulo_bytes : Promise → Pair → List ℕ
modulo_bytes right b = list_bytes (modulo right b.left b.right)

unfoldable pub modulo_call : Promise → List ℕ → List ℕ → ℕ → Told (List ℕ)
modulo_call right l r words = map_told (modulo_bytes right) (two_lists l r words)

-- "divisor not a subgroup"
unfoldable pub quotient_bytes : Option (List Pauli) → Told (List ℕ)
quotient_bytes (some ps) = answer (list_bytes ps)
quotient_bytes none = refused 11 0

-- "`try_quotient` is the reference": the left list by the right one, the divisor; after the work area (9) the divisor (11)
unfoldable pub quotient_call : Promise → Promise → List ℕ → List ℕ → ℕ → Told (List ℕ)
quotient_call left right l r words = and_then (two_lists l r words) λ b. quotient_bytes (try_quotient left right b.left b.right)

-- "the common part is every element that is a member of both, and nothing else"
unfoldable pub common_bytes : Pair → List ℕ
common_bytes b = list_bytes (whole_common b.left b.right)

-- "Abelian promises of both lists are set aside in this operation"
unfoldable pub common_call : List ℕ → List ℕ → ℕ → Told (List ℕ)
common_call l r words = map_told common_bytes (two_lists l r words)
