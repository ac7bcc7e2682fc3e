-- The results of a whole roll of elements: the bytes tell them apart, and each is the single call's.
use Rattle.std.proofs.Common.{◌≡◌, refl, sym, ap, ap₂, ◌∙◌, subst, List, [], ◌∷◌, ◌++◌, map, append_assoc, append-nil, ℕ, zero, suc, ◌+◌, ◌*◌, ◌≤◌, ◌<◌, arith, length, get_or, take, length-append, take_at, drop_at, Result}
use mathlib.Core.Option.{Option, some, none}
use borrow.Author.Tests.{le-ltb}
use lib.ListN.{length-map, get_or-map}
use Rattle.binar.specs.Row.{weight}
use Rattle.pauli.specs.Bytes.{u16_at, le16}
use Rattle.pauli.specs.Condense.{nothing}
use Rattle.pauli.specs.JoinCalls.{Lists, read_both}
use Rattle.pauli.specs.Pauli.{Pauli}
use Rattle.pauli.specs.Roll.{Sparse, read}
use Rattle.pauli.specs.Sets.{members, pauli_of}
use Rattle.pauli.specs.Support.{All}
use Rattle.pauli.specs.Told.{Told, answer, refused, refuse_if, and_then, map_told}
use Rattle.pauli.specs.Writing.{put_bytes, left_in}
use Rattle.pauli.proofs.join.ReadBack.{put_front}
use Rattle.pauli.proofs.roll.BytesLaws.{u16_read}
use Rattle.pauli.proofs.roll.Told.{refused_none, test_pass, test_passed, answered, map_answer}
use Rattle.pauli_theory.specs.Group.{Generated, Promise}
use Rattle.pauli_theory.specs.Membership.{Factorization, factorization_of}
use Rattle.pauli_theory.specs.Standard.{if_zero}
use Rattle.pauli_group.specs.Calls.{paulis, index_bytes, Factored, factored, member_left}
use Rattle.pauli_group.specs.WorkArea.{enough}
use Rattle.pauli_group.proofs.factorization.QuestionLaws.{weight_few, index_bytes_lem, question_is}
use Rattle.factorizations.specs.Contract.{FactorizationsCall}
use Rattle.factorizations.specs.Calls.{Questions, questions, results_of, factorizations_call, Totals, totals, told_results}
use Rattle.factorizations.specs.Records.{result_bytes, results_bytes}
use Rattle.factorizations.proofs.records.RecordLaws.{other_length, member_length}
use Rattle.demand_three.specs.DemandThree.{Generators, list, Element, pauli, indexes_at, Gives}
use Rattle.demand_three.specs.ManyElements.{size_in, results_up_to, results_in, together, factors_in, indexes_in, Answered, bytes, result, Single, result_of, ManyElements}
use Rattle.demand_three.proofs.DemandLists.{get_or_any}
use Rattle.demand_three.proofs.DemandMember.{result as factors, left_result, told_of, passes, law, gives, given}
use Rattle.pauli.specs.declared.refusal.Refusal.{Refusal}
use Rattle.factorizations.specs.declared.answers.Results.{Results}
use Rattle.pauli_group.specs.Answers.{factored_in}
use Rattle.pauli.specs.Refusals.{told_by}
use Rattle.factorizations.specs.Answers.{totals_in}

-- ---- results read from bytes alone

-- the index count fits its two bytes
abbrev Small : Option Factorization → Type 0
Small none = Unit {0}
Small (some f) = weight f.indexes ≤ 128

module _ (f : Factorization) (h : weight f.indexes ≤ 128) (rest : List ℕ) where
  abbrev front : List ℕ
  front = result_bytes (some f) ++ rest

  size_read : size_in front ≡ length (result_bytes (some f))
  unfolding size_in result_bytes factored if_zero
  size_read =
      let behind = append_assoc (le16 (weight f.indexes)) (index_bytes f) rest in
      let count : u16_at front 2 ≡ weight f.indexes = u16_read front (weight f.indexes) 2 (index_bytes f ++ rest) (omega arith) behind in
      ap (λ (n : ℕ). 4 + 2 * n) count ∙ sym (member_length f.indexes f.exponent)

next_result : (o : Option Factorization) → Small o → (rest : List ℕ) (k : ℕ)
    → results_up_to (suc k) (result_bytes o ++ rest) ≡ result_bytes o ∷ results_up_to k rest
unfolding results_up_to size_in result_bytes if_zero
next_result none h rest k = refl
next_result (some f) h rest k =
    let bs = result_bytes (some f) in
    let size : length bs ≡ size_in (bs ++ rest) = sym (size_read f h rest) in
    ap₂ ◌∷◌ (take_at bs rest (size_in (bs ++ rest)) size) (ap (results_up_to k) (drop_at bs rest (size_in (bs ++ rest)) size))

some_byte : (o : Option Factorization) → 1 ≤ length (result_bytes o)
unfolding result_bytes
some_byte none = omega arith
some_byte (some f) = omega arith

read_results : (os : List (Option Factorization)) → All Small os → (k : ℕ) → length (results_bytes os) ≤ k
    → results_up_to k (results_bytes os) ≡ map result_bytes os
unfolding results_bytes results_up_to
read_results [] a zero h = refl
read_results [] a (suc k) h = refl
read_results (o ∷ os) a zero h = absurd (omega (arith, length-append (result_bytes o) (results_bytes os), some_byte o))
read_results (o ∷ os) a (suc k) h =
    next_result o a.0 (results_bytes os) k
    ∙ ap (result_bytes o ∷◌) (read_results os a.1 k (omega (arith, length-append (result_bytes o) (results_bytes os), some_byte o)))

all_together : (os : List (Option Factorization)) → together (map result_bytes os) ≡ results_bytes os
unfolding together results_bytes
all_together [] = refl
all_together (o ∷ os) = ap (result_bytes o ++◌) (all_together os)

-- ---- what a call tells and leaves

abbrev asking : Lists → Questions
asking l = record { generators = paulis l.left; elements = paulis l.right }

-- both rolls are accepted
asked : (b e : List ℕ) (words : ℕ) (q : Questions) → questions b e words ≡ answer q
    → (ps : List Sparse) × (qs : List Sparse) × (read b ≡ answer ps) × (read e ≡ answer qs) × (asking (record { left = ps; right = qs }) ≡ q)
unfolding questions read_both enough
asked b e words q h =
    let (l, both, next) = answered (read_both b e) _ q h in
    let (ps, left, more) = answered (read b) _ l both in
    let (qs, right, last) = answered (read e) _ l more in
    let (area, told) = test_passed _ 9 0 _ q next in
    let lists : ◌≡◌ {A = Lists} (record { left = ps; right = qs }) l = cc in
    let whole : asking l ≡ q = cc in
    (ps, qs, left, right, ap asking lists ∙ whole)

-- the output begins with the records of the results
left_front : (t : Told (List (Option Factorization))) (out : List ℕ) (n : Totals) → told_results t out ≡ answer n
    → (os : List (Option Factorization)) × (t ≡ answer os) × (totals os ≡ n)
    × (take n.bytes (left_in (map_told results_bytes t) out) ≡ results_bytes os)
unfolding told_results left_in map_told totals
left_front (refused m p) out n e = absurd (refused_none m p n e)
left_front (answer os) out n e =
    let (room, told) = test_passed _ 12 0 _ n e in
    let same : totals os ≡ n = cc in
    let size : n.bytes ≡ length (results_bytes os) = ap (λ (t : Totals). t.bytes) (sym same) in
    (os, refl, same, rw (room, size) (put_front out (results_bytes os)))

small : (promise : Promise) (b : List ℕ) (ps : List Sparse) → read b ≡ answer ps → (x : Pauli) (o : Option Factorization)
    → factorization_of promise (paulis ps) x ≡ o → Small o
small promise b ps p x none f = tt
small promise b ps p x (some g) f = weight_few promise b ps p x g f

all_small : (promise : Promise) (b : List ℕ) (ps : List Sparse) → read b ≡ answer ps → (xs : List Pauli)
    → All Small (map (factorization_of promise (paulis ps)) xs)
all_small promise b ps p [] = tt
all_small promise b ps p (x ∷ xs) = (small promise b ps p x (factorization_of promise (paulis ps) x) refl, all_small promise b ps p xs)

-- the results of the elements es by the generators gs
abbrev results_by : Promise → List Sparse → List Sparse → List (Option Factorization)
results_by promise gs es = map (factorization_of promise (paulis gs)) (paulis es)

-- ---- accepted rolls are answered

result_few : (o : Option Factorization) → Small o → length (result_bytes o) ≤ 260
result_few none h = omega (arith, other_length)
result_few (some f) h = omega (arith, member_length f.indexes f.exponent)

bytes_few : (os : List (Option Factorization)) → All Small os → length (results_bytes os) ≤ 260 * length os
unfolding results_bytes
bytes_few [] a = omega arith
bytes_few (o ∷ os) a = omega (arith, length-append (result_bytes o) (results_bytes os), result_few o a.0, bytes_few os a.1)

module _ (promise : Promise) (b e work out : List ℕ) (found : Result Results Refusal) (work' out' : List ℕ)
    (c : FactorizationsCall promise b e work out found work' out') (gs es : List Sparse) (p : read b ≡ answer gs) (q : read e ≡ answer es) where
  abbrev os : List (Option Factorization)
  os = results_by promise gs es

  call_is : 4096 ≤ length work → factorizations_call promise b e (length work) ≡ answer os
  unfolding factorizations_call questions read_both and_then enough refuse_if map_told results_of
  call_is h = rw (p, q, le-ltb (length work) 4096 h)

  always_answered : 4096 ≤ length work → 260 * length es ≤ length out → (t : Totals) × (told_by totals_in found ≡ answer t)
  unfolding told_results totals paulis
  always_answered h k =
      let few = bytes_few os (all_small promise b gs p (paulis es)) in
      let size = length-map (paulis es) (factorization_of promise (paulis gs)) ∙ length-map es pauli_of in
      let room : length (results_bytes os) ≤ length out = omega (arith, few, size) in (
        totals os,
        c.told ∙ ap (λ (t : Told (List (Option Factorization))). told_results t out) (call_is h)
            ∙ test_pass _ 12 0 _ (le-ltb (length out) (length (results_bytes os)) room),
      )

-- ---- a call that is answered

record Held (promise : Promise) (b e : List ℕ) (c : Answered promise b e) : Type 0 where
  gs : List Sparse
  es : List Sparse
  generators : read b ≡ answer gs
  elements : read e ≡ answer es
  number : c.totals.count ≡ length es
  size : c.totals.bytes ≡ length (results_bytes (results_by promise gs es))
  front : bytes c ≡ results_bytes (results_by promise gs es)

module _ (promise : Promise) (b e : List ℕ) (c : Answered promise b e) where
  held : Held promise b e c
  unfolding factorizations_call results_of totals paulis
  held =
      let (os, told, sums, front) = left_front _ c.out c.totals (sym c.promised.told ∙ c.told) in
      let (q, is, made) = map_answer (results_of promise) (questions b e (length c.work)) os told in
      let (ps, qs, left, right, whole) = asked b e (length c.work) q is in
      let same : os ≡ results_by promise ps qs = sym made ∙ ap (results_of promise) (sym whole) in
      record {
        gs = ps;
        es = qs;
        generators = left;
        elements = right;
        number =
            ap (λ (t : Totals). t.count) (sym sums) ∙ ap length same
            ∙ length-map (paulis qs) (factorization_of promise (paulis ps)) ∙ length-map qs pauli_of;
        size = ap (λ (t : Totals). t.bytes) (sym sums) ∙ ap (λ (os : List (Option Factorization)). length (results_bytes os)) same;
        front = ap (take c.totals.bytes) c.promised.left ∙ front ∙ ap results_bytes same;
      }

  count : (es : List Sparse) → read e ≡ answer es → c.totals.count ≡ length es
  count es r = let same : held.es ≡ es = let told = held.elements in cc in held.number ∙ ap length same

  results_are : results_in (bytes c) ≡ map result_bytes (results_by promise held.gs held.es)
  unfolding results_in
  results_are =
      let h = held in
      let os = results_by promise h.gs h.es in
      ap (λ (bs : List ℕ). results_up_to (length bs) bs) h.front
      ∙ read_results os (all_small promise b h.gs h.generators (paulis h.es)) (length (results_bytes os)) (omega arith)

  as_many : length (results_in (bytes c)) ≡ c.totals.count
  unfolding paulis
  as_many =
      ap length results_are ∙ length-map (results_by promise held.gs held.es) result_bytes
      ∙ length-map (paulis held.es) (factorization_of promise (paulis held.gs)) ∙ length-map held.es pauli_of ∙ sym held.number

  nothing_else : together (results_in (bytes c)) ≡ bytes c
  nothing_else = ap together results_are ∙ all_together (results_by promise held.gs held.es) ∙ sym held.front

  all_there : length (bytes c) ≡ c.totals.bytes
  all_there = ap length held.front ∙ sym held.size

  module _ (n : ℕ) (h : n < c.totals.count) where
    inside : n < length held.es
    inside = omega (arith, held.number)

    abbrev R : Option Factorization
    R = factorization_of promise (paulis held.gs) (pauli_of (get_or held.es n nothing))

    result_is : result c n ≡ result_bytes R
    unfolding paulis
    result_is =
        let F : Pauli → Option Factorization = factorization_of promise (paulis held.gs) in
        let os = map F (paulis held.es) in
        let within : n < length (map result_bytes os) = omega (arith, as_many, ap length results_are) in
        ap (λ (rs : List (List ℕ)). get_or rs n []) results_are
        ∙ get_or_any (map result_bytes os) n [] (result_bytes (F (pauli_of nothing))) within
        ∙ get_or-map result_bytes os n (F (pauli_of nothing))
        ∙ ap result_bytes (get_or-map F (paulis held.es) n (pauli_of nothing))
        ∙ ap (λ (p : Pauli). result_bytes (F p)) (get_or-map pauli_of held.es n nothing)

    module _ (s : Single promise b e n) where
      told_single : told_by factored_in s.found ≡ answer (factors R)
      told_single =
          s.promised.told ∙ told_of promise b e held.gs held.es held.generators held.elements n inside s.work s.out
          ∙ passes promise b e held.gs held.es held.generators held.elements n inside s.work s.out s.words s.room

      as_single : (o : Option Factorization) → R ≡ o → result_bytes o ≡ result_of (factors o) s.out'
      unfolding result_bytes result_of factors factored
      as_single none r = refl
      as_single (some g) r =
          let few = weight_few promise b held.gs held.generators (pauli_of (get_or held.es n nothing)) g r in
          let is = question_is promise b e held.gs held.es held.generators held.elements n inside (length s.work)
          ∙ test_pass _ 9 0 _ (le-ltb (length s.work) 4096 s.words) ∙ ap answer r in
          let left : s.out' ≡ put_bytes s.out 0 (index_bytes g)
          = s.promised.left ∙ ap (λ t. member_left t s.out) is ∙ left_result g s.out (omega (arith, s.room)) in
          let taken : take (2 * weight g.indexes) s.out' ≡ index_bytes g
          = ap (take (2 * weight g.indexes)) left ∙ rw (← index_bytes_lem g) (put_front s.out (index_bytes g)) in
          ap (λ (bs : List ℕ). 1 ∷ g.exponent ∷ le16 (weight g.indexes) ++ bs) (sym taken)

      equals : (r : Option Factored) × (told_by factored_in s.found ≡ answer r) × (result c n ≡ result_of r s.out')
      equals = (factors R, told_single, result_is ∙ as_single R refl)

      zero_when : told_by factored_in s.found ≡ answer none → result c n ≡ 0 ∷ []
      unfolding result_of
      zero_when t =
          let same : factors R ≡ none = let u = told_single in cc in
          result_is ∙ as_single R refl ∙ ap (λ (r : Option Factored). result_of r s.out') same

      zero_only : get_or (result c n) 0 0 ≡ 0 → told_by factored_in s.found ≡ answer none
      unfolding result_bytes factors
      zero_only z = go R refl
        where
          go : (o : Option Factorization) → R ≡ o → told_by factored_in s.found ≡ answer none
          go none r = told_single ∙ ap (λ (o : Option Factorization). answer (factors o)) r
          go (some g) r =
              let one : get_or (result c n) 0 0 ≡ 1 = ap (λ (bs : List ℕ). get_or bs 0 0) (result_is ∙ ap result_bytes r) in
              absurd (omega (arith, z, one))

-- ---- demand 3, of each result

module _ (A : Generators) (x : Element) (c : Answered A.promise A.roll x.roll) where
  abbrev F : Option Factorization
  F = factorization_of A.promise (list A) (pauli x)

  result_here : result c x.number ≡ result_bytes F
  result_here =
      let h = held A.promise A.roll x.roll c in
      let left : h.gs ≡ A.held = let p = h.generators in let q = A.accepted in cc in
      let right : h.es ≡ x.held = let p = h.elements in let q = x.accepted in cc in
      result_is A.promise A.roll x.roll c x.number (omega (arith, h.number, ap length right, x.within))
      ∙ ap₂ (λ (ps qs : List Sparse). result_bytes (factorization_of A.promise (paulis ps) (pauli_of (get_or qs x.number nothing)))) left right

  first_byte : (o : Option Factorization) → F ≡ o → get_or (result c x.number) 0 0 ≡ get_or (result_bytes o) 0 0
  first_byte o s = ap (λ (bs : List ℕ). get_or bs 0 0) (result_here ∙ ap result_bytes s)

  member_when : Generated (list A) (pauli x) → get_or (result c x.number) 0 0 ≡ 1
  unfolding result_bytes
  member_when a = let (g, s) = (law A x).complete a in first_byte (some g) s

  found : get_or (result c x.number) 0 0 ≡ 1 → (g : Factorization) × (F ≡ some g)
  unfolding result_bytes
  found one = go F refl
    where
      go : (o : Option Factorization) → F ≡ o → (g : Factorization) × (F ≡ some g)
      go none s = absurd (omega (arith, one, first_byte none s))
      go (some g) s = (g, s)

  member_only : get_or (result c x.number) 0 0 ≡ 1 → Generated (list A) (pauli x)
  member_only one = let (g, s) = found one in (law A x).sound g s

  module _ (g : Factorization) (s : F ≡ some g) where
    abbrev W : List ℕ
    W = result_bytes (some g)

    count_read : u16_at W 2 ≡ weight g.indexes
    unfolding result_bytes factored
    count_read =
        let few = weight_few A.promise A.roll A.held A.accepted (pauli x) g s in
        u16_read W (weight g.indexes) 2 (index_bytes g) (omega arith) refl

    factors_read : factors_in W ≡ factored g
    unfolding factors_in result_bytes factored
    factors_read = ap (λ (n : ℕ). record { count = n; exponent = g.exponent }) count_read

    indexes_read : indexes_in W ≡ members g.indexes
    unfolding indexes_in result_bytes factored le16
    indexes_read = ap (indexes_at W 4) count_read ∙ given A x g s W 4 [] (sym (append-nil (index_bytes g)))

  product_is : get_or (result c x.number) 0 0 ≡ 1
      → Gives (list A) (indexes_in (result c x.number)) (factors_in (result c x.number)) (pauli x)
  product_is one =
      let (g, s) = found one in
      let here : result c x.number ≡ result_bytes (some g) = result_here ∙ ap result_bytes s in
      subst (λ (r : List ℕ). Gives (list A) (indexes_in r) (factors_in r) (pauli x)) (sym here)
      (subst (λ (f : Factored). Gives (list A) (indexes_in (result_bytes (some g))) f (pauli x)) (sym (factors_read g s))
      (subst (λ (ms : List ℕ). Gives (list A) ms (factored g) (pauli x)) (sym (indexes_read g s)) (gives A x g s)))

pub many_elements : ManyElements
many_elements = record {
  always_answered = always_answered;
  count = count;
  as_many = as_many;
  nothing_else = nothing_else;
  all_there = all_there;
  equals = equals;
  zero_when = zero_when;
  zero_only = zero_only;
  member_when = member_when;
  member_only = member_only;
  product_is = product_is;
}
