-- The sizes against the calls that they speak of: each goes by the tests of its call, and its number is that of the list that is written.
use Rattle.std.proofs.Common.{◌≡◌, sym, ap, ◌∙◌, subst, Bool, true, false, List, [], ◌∷◌, ◌++◌, map, ℕ, ◌+◌, ◌-◌, ◌*◌, ◌^◌, ◌≤◌, ◌<◌, min, mul-suc, mul_assoc, add-mul, mul-le-mul_left, zero-add, arith, ltb, length, take, drop, length-append, Result}
use borrow.Author.Tests.{lt-ltb, le-ltb}
use lib.ListN.{length-map}
use lib.Seq.{drop-append_seam}
use Rattle.pauli.specs.JoinCalls.{Lists, read_both, few_qubits, joined_of, join_of}
use Rattle.pauli.specs.JoinContract.{JoinCall}
use Rattle.pauli.specs.Told.{Told, answer, refused, refuse_if, and_then, map_told}
use Rattle.pauli.specs.Roll.{Sparse, numbers, support, read, by_value, write}
use Rattle.pauli.specs.Support.{All, Rising}
use Rattle.pauli.specs.Pauli.{Pauli, normal}
use Rattle.pauli.specs.PauliTheorems.{On, PauliOn}
use Rattle.pauli.specs.Sets.{members, pauli_of, sparse_of}
use Rattle.pauli.specs.Writing.{put_bytes, told_bytes, left_in}
use Rattle.pauli.proofs.condense.Sets.{members_rise, members_only}
use Rattle.pauli.proofs.join.JoinedLists.{joined_law}
use Rattle.pauli.proofs.join.ReadBack.{told_bytes_lem}
use Rattle.pauli.proofs.roll.ListSupport.{numbers_by_value, support_by_value}
use Rattle.pauli.proofs.roll.RefusalLaws.{OfRoll, of_test, of_then, of_read}
use Rattle.pauli.proofs.roll.RollLaws.{length_encode}
use Rattle.pauli.proofs.roll.Told.{refused_none, test_pass, test_passed, answered, map_test, map_refused, map_answer}
use Rattle.pauli.proofs.support.SupportLaws.{rising_length}
use Rattle.pauli_theory.specs.Group.{Promise}
use Rattle.pauli_theory.specs.Standard.{support_of, standard, rank}
use Rattle.pauli_theory.specs.Listing.{phase_count, page_size, elements_of, page}
use Rattle.pauli_theory.proofs.ListingTheorems.{listing_laws}
use Rattle.pauli_theory.proofs.Rows.{support_rises}
use Rattle.pauli_theory.proofs.Theorems.{group_laws}
use Rattle.pauli_theory.proofs.Written.{support_of_lem}
use Rattle.pauli_group.specs.WorkArea.{work_words, enough, area_after}
use Rattle.pauli_group.specs.Calls.{paulis, one_list, standard_bytes, standard_generators, page_bytes, elements_call}
use Rattle.pauli_group.specs.CallContracts.{StandardCall, ElementsCall}
use Rattle.sizes.specs.Calls.{Joined, sizes_of, joined_sizes, bound_of, standard_bound, page_elements, page_call}
use Rattle.sizes.specs.SizeContracts.{JoinedSizesCall, StandardBoundCall, PageSizeCall}
use Rattle.demand_three.specs.Sizes.{RollOf, JoinedSizesLaw, StandardBoundLaw, PageSizeLaw, Sizes}
use Rattle.demand_three.proofs.ReadBack.{read_back}
use Rattle.sizes.specs.declared.answers.JoinedSizes.{JoinedSizes}
use Rattle.pauli.specs.declared.refusal.Refusal.{Refusal}
use Rattle.sizes.specs.Answers.{sizes_in}
use Rattle.pauli.specs.Refusals.{told_by, told_of}

-- ---- refusals

-- a test before an answer refuses with its own number
test_number : {A : Type 0} (t : Bool) (m q : ℕ) (a : A) (n p : ℕ) → refuse_if t m q (answer a) ≡ refused n p → m ≡ n
unfolding refuse_if
test_number true m q a n p e = cc
test_number false m q a n p e = absurd (refused_none n p a (sym e))

-- and so before any answer
test_alike : {A B : Type 0} (t : Bool) (m q : ℕ) (a : A) (b : B) (n p : ℕ) → refuse_if t m q (answer a) ≡ refused n p
    → refuse_if t m q (answer b) ≡ refused n p
unfolding refuse_if
test_alike true m q a b n p e = cc
test_alike false m q a b n p e = absurd (refused_none n p a (sym e))

then_alike : {A B C : Type 0} (t : Told A) (f : A → Told B) (g : A → Told C) → ((a : A) (n p : ℕ) → f a ≡ refused n p → g a ≡ refused n p)
    → (n p : ℕ) → and_then t f ≡ refused n p → and_then t g ≡ refused n p
unfolding and_then
then_alike (answer a) f g h n p e = h a n p e
then_alike (refused m q) f g h n p e = cc

map_alike : {A B C : Type 0} (f : A → B) (g : A → C) (t : Told A) (n p : ℕ) → map_told f t ≡ refused n p → map_told g t ≡ refused n p
unfolding map_told
map_alike f g t n p e = rw (map_refused f t n p e)

-- what is written is refused where its bytes are, and else with 12
bytes_refused : (t : Told (List ℕ)) (out : List ℕ) (n p : ℕ) → t ≡ refused n p → told_bytes t out ≡ refused n p
unfolding told_bytes
bytes_refused t out n p e = rw e

bytes_only : (t : Told (List ℕ)) (out : List ℕ) (n p : ℕ) → told_bytes t out ≡ refused n p → (n ≡ 12 → ⊥) → t ≡ refused n p
unfolding told_bytes
bytes_only (answer bs) out n p e d = absurd (d (sym (test_number _ 12 0 (length bs) n p e)))
bytes_only (refused m q) out n p e d = cc

-- the bytes fit
bytes_fit : (bs out : List ℕ) → length bs ≤ length out → told_bytes (answer bs) out ≡ answer (length bs)
unfolding told_bytes
bytes_fit bs out h = test_pass _ 12 0 _ (le-ltb (length out) (length bs) h)

-- a refusal of a roll has a number up to 7
of_number : {A : Type 0} (t : Told A) (n p : ℕ) → OfRoll t → t ≡ refused n p → n < 8
unfolding OfRoll
of_number t n p o e = (rw e at o).0

-- a refusal has a number below 12
unfoldable Not12 : {A : Type 0} → Told A → Type 0
Not12 (answer a) = Unit {0}
Not12 (refused n p) = n < 12

not12_roll : {A : Type 0} (t : Told A) → OfRoll t → Not12 t
unfolding OfRoll Not12
not12_roll (answer a) o = tt
not12_roll (refused n p) o = omega (arith, o.0)

not12_then : {A B : Type 0} (t : Told A) (f : A → Told B) → Not12 t → ((a : A) → Not12 (f a)) → Not12 (and_then t f)
unfolding Not12 and_then
not12_then (answer a) f o h = h a
not12_then (refused n p) f o h = o

not12_test : {A : Type 0} (t : Bool) (n p : ℕ) (a : A) → n < 12 → Not12 (refuse_if t n p (answer a))
unfolding Not12 refuse_if
not12_test true n p a h = h
not12_test false n p a h = tt

not12_number : {A : Type 0} (t : Told A) (n p : ℕ) → Not12 t → t ≡ refused n p → n < 12
unfolding Not12
not12_number t n p o e = rw e at o

-- ---- two rolls joined

-- the lists that are joined
both_lists : (l r : List ℕ) (ps : List Sparse) → joined_of l r ≡ answer ps
    → (ls : List Sparse) × (rs : List Sparse) × (read l ≡ answer ls) × (read r ≡ answer rs) × (ls ++ rs ≡ ps)
unfolding joined_of read_both few_qubits
both_lists l r ps j =
    let (b, both, next) = answered (read_both l r) _ ps j in
    let (ls, el, more) = answered (read l) _ b both in
    let (rs, er, last) = answered (read r) _ b more in
    let (few, next₁) = test_passed _ 2 0 _ ps next in
    let (qubits, next₂) = test_passed _ 7 0 _ ps next₁ in
    let lists : record { left = ls; right = rs } ≡ b = cc in
    let whole : b.left ++ b.right ≡ ps = cc in
    (ls, rs, el, er, ap (λ (x : Lists). x.left ++ x.right) lists ∙ whole)

joined_numbers : (l r : List ℕ) → OfRoll (joined_of l r)
unfolding joined_of read_both few_qubits OfRoll
joined_numbers l r =
    of_then (read_both l r) _ (of_then (read l) _ (of_read l) λ ps. of_then (read r) _ (of_read r) λ qs. tt) λ b.
    of_test _ 2 0 _ (omega arith) (omega arith) λ _. of_test _ 7 0 _ (omega arith) (omega arith) λ _. tt

module _ (l r : List ℕ) (found : Result JoinedSizes Refusal) (c : JoinedSizesCall l r found) (out : List ℕ) (wrote : Result ℕ Refusal) (out' : List ℕ)
    (d : JoinCall l r out wrote out') where
  -- the list whose sizes are told
  joined_list : (s : Joined) → told_by sizes_in found ≡ answer s
      → (ps : List Sparse) × (joined_of l r ≡ answer ps) × (join_of l r ≡ answer (write ps)) × (sizes_of ps ≡ s)
  unfolding joined_sizes join_of map_told
  joined_list s e = let (ps, j, m) = map_answer sizes_of (joined_of l r) s (sym c.told ∙ e) in (ps, j, ap (map_told write) j, m)

  joined_enough : (s : Joined) → told_by sizes_in found ≡ answer s → s.bytes ≤ length out
      → (told_of wrote ≡ answer s.bytes) × (drop s.bytes out' ≡ drop s.bytes out)
  unfolding sizes_of left_in put_bytes
  joined_enough s e room =
      let (ps, j, w, m) = joined_list s e in
      let bs = write ps in
      let size : length bs ≡ s.bytes = ap (λ (x : Joined). x.bytes) m in
      let fits : length bs ≤ length out = rw size room in
      let left : out' ≡ bs ++ drop (0 + length bs) out = d.left ∙ rw (w, le-ltb (length out) (length bs) fits) in
      let behind : drop (length bs) out' ≡ drop (length bs) out =
      ap (drop (length bs)) left ∙ drop-append_seam bs (drop (0 + length bs) out) ∙ ap (λ (n : ℕ). drop n out) (zero-add (length bs)) in
      let told : told_of wrote ≡ answer (length bs) = d.told ∙ ap (λ (t : Told (List ℕ)). told_bytes t out) w ∙ bytes_fit bs out fits in
      (told ∙ ap answer size, subst (λ (n : ℕ). drop n out' ≡ drop n out) size behind)

  joined_short : (s : Joined) → told_by sizes_in found ≡ answer s → length out < s.bytes → told_of wrote ≡ refused 12 0
  unfolding sizes_of told_bytes refuse_if
  joined_short s e h =
      let (ps, j, w, m) = joined_list s e in
      let size : length (write ps) ≡ s.bytes = ap (λ (x : Joined). x.bytes) m in
      d.told ∙ rw (w, lt-ltb (length out) (length (write ps)) (rw size h))

  joined_roll : (s : Joined) → told_by sizes_in found ≡ answer s → (n : ℕ) → told_of wrote ≡ answer n
      → RollOf (take n out') s.count s.qubits
  unfolding sizes_of
  joined_roll s e n t =
      let (ps, j, w, m) = joined_list s e in
      let (ls, rs, el, er, parts) = both_lists l r ps j in
      let (bs, q, front) = told_bytes_lem (join_of l r) out n (sym d.told ∙ t) in
      let law = joined_law l r ls rs bs el er q in
      record {
        held = map by_value ps;
        accepted = ap read (ap (take n) d.left ∙ front) ∙ law.read_back ∙ ap (λ (qs : List Sparse). answer (map by_value qs)) parts;
        paulis = length-map ps by_value ∙ ap (λ (x : Joined). x.count) m;
        distinct = ap length (support_by_value ps) ∙ ap (λ (x : Joined). x.qubits) m;
      }

  joined_sizes_law : JoinedSizesLaw found out wrote out'
  unfolding joined_sizes join_of
  joined_sizes_law = record {
    enough = joined_enough;
    short = joined_short;
    roll = joined_roll;
    refused_alike = λ n p e. d.told ∙ bytes_refused (join_of l r) out n p (map_alike sizes_of write (joined_of l r) n p (sym c.told ∙ e));
    refused_only = λ n p e x. c.told ∙ map_alike write sizes_of (joined_of l r) n p (bytes_only (join_of l r) out n p (sym d.told ∙ e) x);
    never = λ n p e.
        let low = of_number (joined_of l r) n p (joined_numbers l r) (map_refused sizes_of (joined_of l r) n p (sym c.told ∙ e)) in
        (λ i. omega (arith, low, i), λ i. omega (arith, low, i));
  }

-- ---- standard generators

-- a set on the qubits qs
set_short : (qs : List ℕ) → Rising 0 qs → (v : ℕ) → On qs v → length (members v) ≤ length qs
set_short qs h v on = rising_length 0 0 qs (members v) h (members_rise v) (λ q m. on q (members_only v q m))

-- the numbers of Paulis on the qubits qs
numbers_short : (qs : List ℕ) → Rising 0 qs → (ps : List Pauli) → All (PauliOn qs) ps
    → length (numbers (map sparse_of ps)) ≤ 2 * length qs * length ps
unfolding numbers sparse_of
numbers_short qs h [] on = omega arith
numbers_short qs h (p ∷ ps) on =
    let rest = numbers_short qs h ps on.1 in
    let x = set_short qs h p.x on.0.x in
    let z = set_short qs h p.z on.0.z in
    simp length-append (omega (arith, rest, x, z, mul-suc (2 * length qs) (length ps)))

-- the roll of Paulis on the qubits qs
roll_short : (qs : List ℕ) → Rising 0 qs → (ps : List Pauli) → All (PauliOn qs) ps
    → length (write (map sparse_of ps)) ≤ 2 + (10 + 8 * length qs) * length ps
unfolding write
roll_short qs h ps on =
    let size = length_encode (map by_value (map sparse_of ps)) in
    let count : length (map by_value (map sparse_of ps)) ≡ length ps = length-map (map sparse_of ps) by_value ∙ length-map ps sparse_of in
    let bodies = ap length (numbers_by_value (map sparse_of ps)) in
    let n = length ps in
    let s = length qs in
    let parts : (10 + 8 * s) * n ≡ 10 * n + 4 * (2 * s * n) = spread s n in
    omega (arith, size, count, bodies, numbers_short qs h ps on, parts)
  where
    spread : (s n : ℕ) → (10 + 8 * s) * n ≡ 10 * n + 4 * (2 * s * n)
    spread s n = add-mul 10 (8 * s) n ∙ ap (10 * n +◌) (ap (◌* n) (mul_assoc 4 2 s) ∙ mul_assoc 4 (2 * s) n)

standard_short : (ps : List Sparse) → length (standard_bytes (paulis ps)) ≤ bound_of ps
unfolding standard_bytes bound_of paulis
standard_short ps =
    let gs = paulis ps in
    let law = group_laws.standard_law gs in
    let qs = support_of gs in
    let short = roll_short qs (support_rises gs) (standard gs) law.on_support in
    let more = mul-le-mul_left (10 + 8 * length qs) law.count in
    let s : length qs ≡ length (support ps) = ap length (sym (support_of_lem ps)) in
    let n : length gs ≡ length ps = length-map ps pauli_of in
    rw (← s, ← n) (omega (arith, short, more))

-- standard generators of an accepted roll
standard_is : (b : List ℕ) (ps : List Sparse) → read b ≡ answer ps → (words : ℕ)
    → standard_generators b words ≡ refuse_if (ltb words work_words) 9 0 (answer (standard_bytes (paulis ps)))
unfolding standard_generators one_list and_then enough map_told
standard_is b ps e words = rw e (map_test standard_bytes (ltb words work_words) 9 0 (answer (paulis ps)))

-- what is told, where the bytes fit
standard_not_12 : (t : Bool) (bs out : List ℕ) → length bs ≤ length out → (p : ℕ)
    → told_bytes (refuse_if t 9 0 (answer bs)) out ≡ refused 12 p → ⊥
unfolding told_bytes refuse_if
standard_not_12 true bs out h p e = let z : ◌≡◌ {A = ℕ} 9 12 = cc in omega arith
standard_not_12 false bs out h p e = refused_none 12 p (length bs) (sym e ∙ bytes_fit bs out h)

-- a list that is refused, and not with 9
one_only : (b : List ℕ) (words n p : ℕ) → one_list b words ≡ refused n p → (n ≡ 9 → ⊥) → read b ≡ refused n p
unfolding one_list and_then enough
one_only b words n p e d = go (read b) e
  where
    go : (t : Told (List Sparse)) → and_then t (λ ps. enough words (answer (paulis ps))) ≡ refused n p → t ≡ refused n p
    go (answer ps) h = absurd (d (sym (test_number (ltb words work_words) 9 0 (paulis ps) n p h)))
    go (refused m q) h = cc

standard_refused : (b : List ℕ) (words n p : ℕ) → read b ≡ refused n p → standard_generators b words ≡ refused n p
unfolding standard_generators one_list and_then map_told
standard_refused b words n p e = rw e

bound_refused : (b : List ℕ) (n p : ℕ) → read b ≡ refused n p → standard_bound b ≡ refused n p
unfolding standard_bound map_told
bound_refused b n p e = rw e

module _ (b : List ℕ) (found : Result ℕ Refusal) (c : StandardBoundCall b found) (work out : List ℕ) (wrote : Result ℕ Refusal) (work' out' : List ℕ)
    (d : StandardCall b work out wrote work' out') where
  -- the list whose bound is told, and what its standard generators tell
  bound_list : (bound : ℕ) → told_of found ≡ answer bound → (ps : List Sparse) × (length (standard_bytes (paulis ps)) ≤ bound)
      × (told_of wrote ≡ told_bytes (refuse_if (ltb (length work) work_words) 9 0 (answer (standard_bytes (paulis ps)))) out)
  unfolding standard_bound
  bound_list bound e =
      let (ps, r, m) = map_answer bound_of (read b) bound (sym c.told ∙ e) in
      let short = subst (λ (n : ℕ). length (standard_bytes (paulis ps)) ≤ n) m (standard_short ps) in
      (ps, short, d.told ∙ ap (λ (t : Told (List ℕ)). told_bytes t out) (standard_is b ps r (length work)))

  standard_bound_law : StandardBoundLaw found work out wrote
  unfolding standard_bound standard_generators one_list
  standard_bound_law = record {
    enough = λ bound e room area.
        let (ps, short, told) = bound_list bound e in
        let bs = standard_bytes (paulis ps) in
        let large = test_pass _ 9 0 (answer bs) (le-ltb (length work) work_words area) in
        (length bs, told ∙ ap (λ (t : Told (List ℕ)). told_bytes t out) large ∙ bytes_fit bs out (omega arith), short);
    not_12 = λ bound e room p h.
        let (ps, short, told) = bound_list bound e in
        standard_not_12 (ltb (length work) work_words) (standard_bytes (paulis ps)) out (omega arith) p (sym told ∙ h);
    refused_alike = λ n p e.
        let r = map_refused bound_of (read b) n p (sym c.told ∙ e) in
        d.told ∙ bytes_refused (standard_generators b (length work)) out n p (standard_refused b (length work) n p r);
    refused_only = λ n p e x y.
        let bytes = bytes_only (standard_generators b (length work)) out n p (sym d.told ∙ e) y in
        let one = map_refused standard_bytes (one_list b (length work)) n p bytes in
        c.told ∙ bound_refused b n p (one_only b (length work) n p one x);
    never = λ n p e.
        let low = of_number (read b) n p (of_read b) (map_refused bound_of (read b) n p (sym c.told ∙ e)) in
        (λ i. omega (arith, low, i), λ i. omega (arith, low, i));
  }

-- ---- a page

module _ (promise : Promise) (start count : ℕ) (b area : List ℕ) (found : Result ℕ Refusal) (area' : List ℕ)
    (c : PageSizeCall promise start count b area found area') (work out : List ℕ) (wrote : Result ℕ Refusal) (work' out' : List ℕ)
    (d : ElementsCall promise start count b work out wrote work' out') where
  page_holds : (k n : ℕ) → told_of found ≡ answer k → told_of wrote ≡ answer n
      → (held : List Sparse) × (read (take n out') ≡ answer held) × (length held ≡ k)
  unfolding page_call page_elements one_list enough
  page_holds k n e t =
      let (gs, one, next) = answered (one_list b (length area)) _ k (sym c.told ∙ e) in
      let (low, told) = test_passed _ 10 0 _ k next in
      let (ps, r, more) = answered (read b) _ gs one in
      let (room, list) = test_passed _ 9 0 _ gs more in
      let same : paulis ps ≡ gs = cc in
      let es = elements_of promise (paulis ps) in
      let H = read_back.elements promise start count b work out wrote work' out' ps d r n t in
      let size : length (page start count es) ≡ min (page_size count) (length es - start) = (listing_laws.page_law start count es).size in
      let total : length es ≡ 2 ^ rank (paulis ps) * phase_count promise (paulis ps) =
      (listing_laws.elements_law promise (paulis ps)).count_by_rank in
      let here : min (page_size count) (2 ^ rank gs * phase_count promise gs - start) ≡ k = cc in (
        H.held,
        H.accepted,
        sym (length-map H.held pauli_of) ∙ ap length H.exactly ∙ length-map (page start count es) normal ∙ size
            ∙ ap (λ (m : ℕ). min (page_size count) (m - start)) (total ∙ ap (λ (hs : List Pauli). 2 ^ rank hs * phase_count promise hs) same)
            ∙ here,
      )

  page_size_law : PageSizeLaw area found area' work out wrote work' out'
  unfolding page_call elements_call one_list enough
  page_size_law = record {
    holds = page_holds;
    refused_alike = λ same n p e.
        let told = ap (page_call promise start count b) (sym same) ∙ sym c.told ∙ e in
        d.told ∙ bytes_refused (elements_call promise start count b (length work)) out n p
        (then_alike (one_list b (length work)) _ _
        (λ gs. test_alike _ 10 0 (page_elements promise start count gs) (page_bytes promise start count gs)) n p told);
    refused_only = λ same n p e x.
        let told = bytes_only (elements_call promise start count b (length work)) out n p (sym d.told ∙ e) x in
        c.told ∙ ap (page_call promise start count b) same
        ∙ then_alike (one_list b (length work)) _ _
        (λ gs. test_alike _ 10 0 (page_bytes promise start count gs) (page_elements promise start count gs)) n p told;
    never = λ n p e i.
        let low = not12_number (page_call promise start count b (length area)) n p page_numbers (sym c.told ∙ e) in omega (arith, low, i);
    left_alike = λ same. c.area ∙ ap (λ (x : List ℕ). area_after (one_list b (length x)) x) same ∙ sym d.area;
  }
    where
      page_numbers : Not12 (page_call promise start count b (length area))
      page_numbers =
          not12_then (one_list b (length area)) _
          (not12_then (read b) _ (not12_roll (read b) (of_read b)) λ ps. not12_test _ 9 0 (paulis ps) (omega arith))
          λ gs. not12_test _ 10 0 (page_elements promise start count gs) (omega arith)

-- ---- the calls

pub sizes : Sizes
sizes = record { joined = joined_sizes_law; standard = standard_bound_law; page = page_size_law }
