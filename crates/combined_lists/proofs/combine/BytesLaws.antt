-- A line worked out on lists and on the bytes of rolls: what single calls tell of rolls is what the operations tell of their lists.
use Rattle.std.proofs.Common.{◌≡◌, ℕ, ◌+◌, Bool, true, false, ltb, ltb-false, List, [], ◌++◌, map, length, sym, refl, ap, ◌∙◌, subst, ap₂, arith}
use Rattle.std.proofs.lemmas.Bool.{and_parts}
use Rattle.std.specs.Prelude.{slice_index_or}
use mathlib.Core.List.{map-map, map-append}
use mathlib.Core.Option.{Option, some, none as nothing}
use lib.ListN.{length-map, length-append}
use Rattle.binar.proofs.Lists.{all_join, all_map, all_of, map_same}
use Rattle.pauli.specs.Condense.{list_of}
use Rattle.pauli.specs.Pauli.{Pauli, normal}
use Rattle.pauli.specs.ReadBack.{Holds}
use Rattle.pauli.specs.Roll.{most_paulis, Sparse, support, read, write, encode, by_value}
use Rattle.pauli.specs.Sets.{pauli_of, sparse_of}
use Rattle.pauli.specs.Support.{most_qubits, All}
use Rattle.pauli.specs.Told.{Told, answer, refused, refuse_if, and_then, map_told}
use Rattle.pauli.proofs.condense.Sets.{members_set}
use Rattle.pauli.proofs.join.JoinedLists.{join_is, written_read}
use Rattle.pauli.proofs.join.ReadBack.{paulis_by_value}
use Rattle.pauli.proofs.roll.Checks.{AllowedSets}
use Rattle.pauli.proofs.roll.RollLaws.{answer_parts}
use Rattle.pauli.proofs.roll.Told.{refused_none, test_passed, map_test}
use Rattle.pauli_theory.specs.Group.{none}
use Rattle.pauli_theory.specs.Modulo.{try_quotient}
use Rattle.pauli_theory.specs.Standard.{support_of}
use Rattle.pauli_theory.specs.WholeCommon.{whole_common}
use Rattle.pauli_theory.proofs.ByValue.{values_twice, support_value, quotient_value, quotient_values, whole_value}
use Rattle.pauli_theory.proofs.Written.{support_of_lem}
use Rattle.pauli_group.specs.Calls.{paulis, list_bytes, Pair, two_lists, quotient_bytes, quotient_call, common_bytes, common_call}
use Rattle.pauli_group.specs.Inner.Sources.{joinable}
use Rattle.pauli_group.specs.WorkArea.{work_words}
use Rattle.pauli_group.proofs.calls.ReadBackLaws.{Fit, two_is, quotient_holds, common_holds}
use Rattle.pauli_group.proofs.group.GroupLaws.{paulis_append}
use Rattle.combined_lists.specs.Combining.{single_call, as_written, line_bytes}
use Rattle.combined_lists.specs.CombineTheorems.{roll_in}
use Rattle.combined_lists.specs.Line.{Sign, quotient, common, joined, Tree, letter, parens, operation, all_sent}
use Rattle.combined_lists.specs.LineCall.{sent_of}
use Rattle.combined_lists.specs.Work.{value_of}
use Rattle.combined_lists.specs.Inner.Slots.{if_subgroup, on_lists}

-- ---- a roll and its list

-- the bytes are an accepted roll whose list, by value, is x
pub record Reads (b : List ℕ) (x : List Pauli) : Type 0 where
  pub held : List Sparse
  pub accepted : read b ≡ answer held
  pub list : map normal (paulis held) ≡ x

-- ---- written rolls

sparse_path : {e f : ℕ} {xs ys zs ws : List ℕ} → e ≡ f → xs ≡ ys → zs ≡ ws
    → ◌≡◌ {A = Sparse} (record { e = e; xs = xs; zs = zs }) (record { e = f; xs = ys; zs = ws })
sparse_path i j k = cc

-- a Pauli of an accepted roll, written as it is or as its value
sparse_value : (p : Sparse) → AllowedSets p → by_value (sparse_of (normal (pauli_of p))) ≡ by_value p
unfolding by_value sparse_of normal pauli_of
sparse_value p a = sparse_path (omega arith) (members_set p.xs a.0.rise) (members_set p.zs a.1.rise)

written_value : (ps : List Sparse) → All AllowedSets ps → list_bytes (map normal (paulis ps)) ≡ write ps
unfolding write paulis
written_value ps a =
    ap encode
    (ap (map by_value) (map-map sparse_of normal (map pauli_of ps) ∙ map-map (λ p. sparse_of (normal p)) pauli_of ps)
    ∙ map-map by_value (λ p. sparse_of (normal (pauli_of p))) ps
    ∙ map_same (λ p. by_value (sparse_of (normal (pauli_of p)))) by_value ps (all_map sparse_value ps a))

-- an accepted roll as a written one
pub as_written_is : (b : List ℕ) (ps : List Sparse) → read b ≡ answer ps → as_written b ≡ write ps
unfolding as_written list_of
as_written_is b ps e = ap write (answer_parts b ps e).paulis

-- it is its list's
pub reads_written : (b : List ℕ) (x : List Pauli) → Reads b x → as_written b ≡ list_bytes x
reads_written b x r =
    as_written_is b r.held r.accepted ∙ sym (written_value r.held (answer_parts b r.held r.accepted).sets) ∙ ap list_bytes r.list

-- bytes that hold a list hold it by value
reads_held : (b : List ℕ) (zs : List Pauli) → Holds b zs → Reads b (map normal zs)
unfolding paulis
reads_held b zs h = record { held = h.held; accepted = h.accepted; list = ap (map normal) h.exactly ∙ values_twice zs }

-- a list is written by value
written_twice : (zs : List Pauli) → list_bytes (map normal zs) ≡ list_bytes zs
unfolding write by_value sparse_of normal
written_twice zs =
    ap encode
    (ap (map by_value) (map-map sparse_of normal zs) ∙ map-map by_value (λ p. sparse_of (normal p)) zs
    ∙ map_same (λ p. by_value (sparse_of (normal p))) (λ p. by_value (sparse_of p)) zs (all_of (λ p. sparse_path (omega arith) refl refl) zs)
    ∙ sym (map-map by_value sparse_of zs))

-- ---- the limits of two lists joined

then_test : {A B : Type 0} (f : A → Told B) (t : Bool) (n p : ℕ) (next : Told A) → and_then (refuse_if t n p next) f ≡ refuse_if t n p (and_then next f)
unfolding and_then refuse_if
then_test f true n p next = refl
then_test f false n p next = refl

module _ (s t : Bool) where
  -- the two tests that two lists joined are put to
  abbrev limited : {A : Type 0} → Told A → Told A
  limited next = refuse_if s 2 0 (refuse_if t 7 0 next)

  map_limited : {A B : Type 0} (f : A → B) (next : Told A) → map_told f (limited next) ≡ limited (map_told f next)
  map_limited f next = map_test f s 2 0 (refuse_if t 7 0 next) ∙ ap (refuse_if s 2 0) (map_test f t 7 0 next)

  then_limited : {A B : Type 0} (f : A → Told B) (next : Told A) → and_then (limited next) f ≡ limited (and_then next f)
  then_limited f next = then_test f s 2 0 (refuse_if t 7 0 next) ∙ ap (refuse_if s 2 0) (then_test f t 7 0 next)

-- ---- the single calls

subgroup_told : (o : Option (List Pauli)) → quotient_bytes o ≡ map_told list_bytes (if_subgroup o)
unfolding quotient_bytes if_subgroup map_told
subgroup_told (some zs) = refl
subgroup_told nothing = refl

subgroup_some : (o : Option (List Pauli)) (zs : List Pauli) → if_subgroup o ≡ answer zs → o ≡ some zs
unfolding if_subgroup
subgroup_some (some ys) zs e = cc
subgroup_some nothing zs e = absurd (refused_none 11 0 zs e)

module _ (b c : List ℕ) (ps qs : List Sparse) (eb : read b ≡ answer ps) (ec : read c ≡ answer qs) where
  abbrev gs : List Pauli
  gs = paulis ps

  abbrev hs : List Pauli
  hs = paulis qs

  abbrev x : List Pauli
  x = map normal gs

  abbrev y : List Pauli
  y = map normal hs

  abbrev many : Bool
  many = ltb most_paulis (length ps + length qs)

  abbrev wide : Bool
  wide = ltb most_qubits (length (support (ps ++ qs)))

  both_by_value : x ++ y ≡ map normal (paulis (ps ++ qs))
  both_by_value = sym (ap (map normal) (paulis_append ps qs) ∙ map-append normal gs hs)

  joinable_is : {A : Type 0} (next : Told A) → joinable x y next ≡ limited many wide next
  unfolding joinable paulis
  joinable_is next =
      let count : length x + length y ≡ length ps + length qs = ap₂ ◌+◌ (length-map gs normal ∙ length-map ps pauli_of) (length-map hs normal ∙ length-map qs pauli_of) in
      let places : length (support_of (x ++ y)) ≡ length (support (ps ++ qs)) =
      ap length (ap support_of both_by_value ∙ support_value (paulis (ps ++ qs)) ∙ sym (support_of_lem (ps ++ qs))) in
      ap₂ (λ (n : ℕ) (m : ℕ). limited (ltb most_paulis n) (ltb most_qubits m) next) count places

  two_limited : two_lists b c work_words ≡ limited many wide (answer (record { left = gs; right = hs }))
  unfolding refuse_if
  two_limited = two_is b c ps qs eb ec work_words

  both_allowed : All AllowedSets (ps ++ qs)
  both_allowed = all_join AllowedSets ps qs (answer_parts b ps eb).sets (answer_parts c qs ec).sets

  joined_written : list_bytes (x ++ y) ≡ write (ps ++ qs)
  joined_written = ap list_bytes both_by_value ∙ written_value (ps ++ qs) both_allowed

  -- a single call tells the written roll of what the operation tells of the lists
  lists_told : (s : Sign) → single_call s b c ≡ map_told list_bytes (on_lists s x y)
  unfolding single_call on_lists quotient_call common_call common_bytes and_then map_told
  lists_told quotient =
      ap (λ (o : Told Pair). and_then o (λ p. quotient_bytes (try_quotient none none p.left p.right))) two_limited
      ∙ then_limited many wide (λ (p : Pair). quotient_bytes (try_quotient none none p.left p.right)) (answer (record { left = gs; right = hs }))
      ∙ ap (limited many wide) (subgroup_told (try_quotient none none gs hs) ∙ ap (λ o. map_told list_bytes (if_subgroup o)) (sym (quotient_value none none gs hs)))
      ∙ sym (ap (map_told list_bytes) (joinable_is (if_subgroup (try_quotient none none x y))) ∙ map_limited many wide list_bytes (if_subgroup (try_quotient none none x y)))
  lists_told common =
      ap (map_told common_bytes) two_limited ∙ map_limited many wide common_bytes (answer (record { left = gs; right = hs }))
      ∙ ap (λ (us : List ℕ). limited many wide (answer us)) (sym (ap list_bytes (whole_value gs hs) ∙ written_twice (whole_common gs hs)))
      ∙ sym (ap (map_told list_bytes) (joinable_is (answer (whole_common x y))) ∙ map_limited many wide list_bytes (answer (whole_common x y)))
  lists_told joined =
      join_is b c ps qs eb ec ∙ ap (λ (us : List ℕ). limited many wide (answer us)) (sym joined_written)
      ∙ sym (ap (map_told list_bytes) (joinable_is (answer (x ++ y))) ∙ map_limited many wide list_bytes (answer (x ++ y)))

  -- where the operation answers
  limits_met : {A : Type 0} (next : Told A) (a : A) → joinable x y next ≡ answer a → Fit ps qs × (next ≡ answer a)
  limits_met next a e =
      let (few, f) = test_passed _ 2 0 _ a (sym (joinable_is next) ∙ e) in
      let (qubits, g) = test_passed _ 7 0 _ a f in (
        record {
          few = ltb-false most_paulis (length ps + length qs) few;
          qubits = ltb-false most_qubits (length (support (ps ++ qs))) qubits;
        },
        g,
      )

  -- that written roll is read back
  result_reads : (s : Sign) (z : List Pauli) → on_lists s x y ≡ answer z → Reads (list_bytes z) z
  unfolding on_lists paulis
  result_reads quotient z e =
      let (fit, f) = limits_met (if_subgroup (try_quotient none none x y)) z e in
      let same : try_quotient none none gs hs ≡ some z = sym (quotient_value none none gs hs) ∙ subgroup_some (try_quotient none none x y) z f in
      subst (Reads (list_bytes z)) (quotient_values none none gs hs z same) (reads_held (list_bytes z) z (quotient_holds b c ps qs eb ec fit none none z same))
  result_reads common z e =
      let (fit, f) = limits_met (answer (whole_common x y)) z e in
      let same : map normal (whole_common gs hs) ≡ z = sym (whole_value gs hs) ∙ cc in
      subst (λ us. Reads (list_bytes us) us) same
      (subst (λ us. Reads us (map normal (whole_common gs hs))) (sym (written_twice (whole_common gs hs)))
      (reads_held (list_bytes (whole_common gs hs)) (whole_common gs hs) (common_holds b c ps qs eb ec fit)))
  result_reads joined z e =
      let (fit, f) = limits_met (answer (x ++ y)) z e in
      let same : x ++ y ≡ z = cc in
      subst (λ us. Reads (list_bytes us) us) same
      (record {
        held = map by_value (ps ++ qs);
        accepted = ap read joined_written ∙ written_read (ps ++ qs) (rw length-append fit.few) both_allowed fit.qubits;
        list = ap (map normal) (paulis_by_value (ps ++ qs)) ∙ values_twice (paulis (ps ++ qs)) ∙ sym both_by_value;
      })

-- ---- a line

-- what is told of bytes and of lists: the same refusal, or a roll and its list
pub data Alike : Told (List ℕ) → Told (List Pauli) → Type 0 where
  answers : (b : List ℕ) (x : List Pauli) → Reads b x → Alike (answer b) (answer x)
  refusals : (n p : ℕ) → Alike (refused n p) (refused n p)

written_alike : (o : Told (List Pauli)) → ((z : List Pauli) → o ≡ answer z → Reads (list_bytes z) z) → Alike (map_told list_bytes o) o
unfolding map_told
written_alike (answer z) h = answers (list_bytes z) z (h z refl)
written_alike (refused n p) h = refusals n p

module _ (s : Sign) (b c : List ℕ) (x y : List Pauli) (r : Reads b x) (q : Reads c y) where
  pub call_told : single_call s b c ≡ map_told list_bytes (on_lists s x y)
  call_told =
      lists_told b c r.held q.held r.accepted q.accepted s
      ∙ ap₂ (λ (us vs : List Pauli). map_told list_bytes (on_lists s us vs)) r.list q.list

  pub call_reads : (z : List Pauli) → on_lists s x y ≡ answer z → Reads (list_bytes z) z
  call_reads z e = result_reads b c r.held q.held r.accepted q.accepted s z (ap₂ (on_lists s) r.list q.list ∙ e)

  call_alike : Alike (single_call s b c) (on_lists s x y)
  call_alike = subst (λ o. Alike o (on_lists s x y)) (sym call_told) (written_alike (on_lists s x y) call_reads)

then_alike : (f : List ℕ → Told (List ℕ)) (g : List Pauli → Told (List Pauli)) (o : Told (List ℕ)) (u : Told (List Pauli)) → Alike o u
    → ((b : List ℕ) (x : List Pauli) → Reads b x → Alike (f b) (g x)) → Alike (and_then o f) (and_then u g)
unfolding and_then
then_alike f g o u (answers b x r) h = h b x r
then_alike f g o u (refusals n p) h = refusals n p

written_told : (o : Told (List ℕ)) (u : Told (List Pauli)) → Alike o u → map_told list_bytes u ≡ map_told as_written o
unfolding map_told
written_told o u (answers b x r) = ap answer (sym (reads_written b x r))
written_told o u (refusals n p) = refl

module _ (rolls : List (List ℕ)) (lists : ℕ → List Pauli) where
  -- the letter a stands for an accepted roll, and for its list by value
  abbrev pub Given : ℕ → Type 0
  Given a = (ps : List Sparse) × (read (roll_in rolls a) ≡ answer ps) × (lists a ≡ map normal (paulis ps))

  given_reads : (a : ℕ) → Given a → Reads (roll_in rolls a) (lists a)
  given_reads a (ps, e, same) = record { held = ps; accepted = e; list = sym same }

  pub value_alike : (t : Tree) → all_sent (sent_of rolls) t ≡ true → ((a : ℕ) → sent_of rolls a ≡ true → Given a)
      → Alike (value_of single_call (roll_in rolls) t) (value_of on_lists lists t)
  unfolding value_of all_sent
  value_alike (letter a) s given = answers (roll_in rolls a) (lists a) (given_reads a (given a s))
  value_alike (parens t) s given = value_alike t s given
  value_alike (operation o l r) s given =
      let (u, v) = and_parts (all_sent (sent_of rolls) l) (all_sent (sent_of rolls) r) s in
      then_alike _ _ _ _ (value_alike l u given) λ b x h. then_alike _ _ _ _ (value_alike r v given) λ c y k. call_alike o b c x y h k

-- a line's bytes are the written roll of what it comes to on lists
pub lists_bytes : (rolls : List (List ℕ)) (lists : ℕ → List Pauli) (t : Tree) → all_sent (sent_of rolls) t ≡ true
    → ((a : ℕ) → sent_of rolls a ≡ true → (ps : List Sparse) × (read (slice_index_or rolls a []) ≡ answer ps) × (lists a ≡ map normal (paulis ps)))
    → map_told list_bytes (value_of on_lists lists t) ≡ line_bytes rolls t
unfolding line_bytes
lists_bytes rolls lists t s given =
    written_told (value_of single_call (roll_in rolls) t) (value_of on_lists lists t) (value_alike rolls lists t s given)
