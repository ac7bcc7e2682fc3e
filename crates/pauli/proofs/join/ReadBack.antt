-- Lists of Paulis within the limits, written and read back; and what the first bytes of an output are, by what its call told and left.
use Rattle.std.proofs.Common.{◌≡◌, ℕ, ◌+◌, ◌≤◌, List, [], ◌∷◌, ◌++◌, map, length, get_or, take, drop, sym, refl, ap, ◌∙◌, subst, ap₂, ⊎_elim, arith, take_at, Result}
use mathlib.Core.List.Memᴰ
use mathlib.Core.List.Memᴰ.{append_cases as in-append}
use mathlib.Core.List.{map-map, Memᴰ as Mem}
use lib.ListN.{length-map}
use Rattle.binar.proofs.Lists.{all_join, all_map, all_over}
use Rattle.pauli.specs.Told.{Told, answer, refused}
use Rattle.pauli.specs.Roll.{most_paulis, highest_qubit, Sparse, numbers, support, read, write, by_value}
use Rattle.pauli.specs.Support.{most_qubits, All, Rising}
use Rattle.pauli.specs.RollTheorems.{AllowedSet}
use Rattle.pauli.specs.Pauli.{Pauli, normal, times}
use Rattle.pauli.specs.PauliTheorems.{On, PauliOn}
use Rattle.pauli.specs.Sets.{members, pauli_of, sparse_of}
use Rattle.pauli.specs.Condense.{nothing}
use Rattle.pauli.specs.Writing.{put_bytes, told_bytes, left_in}
use Rattle.pauli.specs.JoinCalls.{product_of, join_of}
use Rattle.pauli.specs.ReadBack.{Holds, JoiningReadBack, ProductReadBack}
use Rattle.pauli.proofs.signed.Algebra.{pauli_path}
use Rattle.pauli.proofs.support.Lists.{all_in, all_mem, in_get_or}
use Rattle.pauli.proofs.support.SupportLaws.{rising_length}
use Rattle.pauli.proofs.condense.Sets.{set_members, members_rise, members_only}
use Rattle.pauli.proofs.condense.Rows.{on_times}
use Rattle.pauli.proofs.condense.PauliTheorems.{support_law}
use Rattle.pauli.proofs.roll.Checks.{AllowedSets}
use Rattle.pauli.proofs.roll.ListSupport.{in_support, support_only, support_rises}
use Rattle.pauli.proofs.roll.RollLaws.{answer_parts, by_value_exponents}
use Rattle.pauli.proofs.roll.Told.{refused_none, test_passed}
use Rattle.pauli.proofs.join.JoinedLists.{written_read, joined_law}
use Rattle.pauli.proofs.join.ProductLaws.{product_answer, made_answered, made_size}
use Rattle.pauli.specs.declared.refusal.Refusal.{Refusal}
use Rattle.pauli.specs.Refusals.{told_of}

-- ---- Paulis from the lists that a roll holds

pub paulis_by_value : (ps : List Sparse) → map pauli_of (map by_value ps) ≡ map normal (map pauli_of ps)
unfolding pauli_of by_value normal
paulis_by_value ps = map-map pauli_of by_value ps ∙ sym (map-map normal pauli_of ps)

paulis_back : (ps : List Pauli) → map pauli_of (map sparse_of ps) ≡ ps
unfolding pauli_of sparse_of
paulis_back [] = refl
paulis_back (p ∷ ps) = ap₂ ◌∷◌ (pauli_path refl (set_members p.x) (set_members p.z)) (paulis_back ps)

-- ---- qubits that a roll can hold

pub record Qubits (qs : List ℕ) : Type 0 where
  pub rise : Rising 0 qs
  pub few : length qs ≤ most_qubits
  pub low : All (λ q. q ≤ highest_qubit) qs

-- the support of sets that are allowed
pub support_qubits : (ps : List Sparse) → All AllowedSets ps → length (support ps) ≤ most_qubits → Qubits (support ps)
support_qubits ps sets few = record {
  rise = support_rises ps;
  few = few;
  low = all_in (λ q. q ≤ highest_qubit) (support ps) λ q m.
      let (p, i, k) = in_support ps q m in
      let s = all_mem AllowedSets ps sets p i in
      ⊎_elim (all_mem (λ r. r ≤ highest_qubit) p.xs s.0.low q) (all_mem (λ r. r ≤ highest_qubit) p.zs s.1.low q)
      (in-append p.xs k);
}

pub read_qubits : (b : List ℕ) (ps : List Sparse) → read b ≡ answer ps → Qubits (support ps)
read_qubits b ps e = let parts = answer_parts b ps e in support_qubits ps parts.sets parts.qubits

pub joined_qubits : (l r : List ℕ) (ps qs : List Sparse) → read l ≡ answer ps → read r ≡ answer qs → length (support (ps ++ qs)) ≤ most_qubits
    → Qubits (support (ps ++ qs))
joined_qubits l r ps qs el er few =
    support_qubits (ps ++ qs) (all_join AllowedSets ps qs (answer_parts l ps el).sets (answer_parts r qs er).sets) few

-- ---- a list of Paulis on such qubits, written

module _ (qs : List ℕ) (limits : Qubits qs) where
  members_in : (v : ℕ) → On qs v → (q : ℕ) → Mem q (members v) → Mem q qs
  members_in v on q m = on q (members_only v q m)

  numbers_in : (ps : List Pauli) → All (PauliOn qs) ps → (q : ℕ) → Mem q (numbers (map sparse_of ps)) → Mem q qs
  unfolding numbers sparse_of
  numbers_in [] on q m = elim m [ ]
  numbers_in (p ∷ ps) on q m =
      ⊎_elim (λ i. ⊎_elim (members_in p.x on.0.x q) (members_in p.z on.0.z q) (in-append (members p.x) i))
      (numbers_in ps on.1 q) (in-append (members p.x ++ members p.z) m)

  set_allowed : (v : ℕ) → On qs v → AllowedSet 0 (members v)
  set_allowed v on = record {
    rise = members_rise v;
    low = all_in (λ r. r ≤ highest_qubit) (members v) (λ q m. all_mem (λ r. r ≤ highest_qubit) qs limits.low q (members_in v on q m));
  }

  module _ (ps : List Pauli) (on : All (PauliOn qs) ps) (count : length ps ≤ most_paulis) where
    abbrev roll : List Sparse
    roll = map sparse_of ps

    roll_allowed : All AllowedSets roll
    unfolding sparse_of
    roll_allowed = all_over AllowedSets sparse_of ps (all_map (λ p o. (set_allowed p.x o.x, set_allowed p.z o.z)) ps on)

    roll_few : length (support roll) ≤ most_qubits
    roll_few =
        let fewer = rising_length 0 0 qs (support roll) limits.rise (support_rises roll)
        (λ q m. numbers_in ps on q (support_only roll q m)) in
        omega (arith, fewer, limits.few)

    -- a list within the limits is read back from its roll, by value
    pub written_holds : Holds (write (map sparse_of ps)) ps
    unfolding write
    written_holds = record {
      held = map by_value roll;
      accepted = written_read roll (rw length-map count) roll_allowed roll_few;
      exactly = paulis_by_value roll ∙ ap (map normal) (paulis_back ps);
      exponents = by_value_exponents roll;
      given = refl;
    }

-- ---- what is told

-- bytes at the front of an output
pub put_front : (out bs : List ℕ) → take (length bs) (put_bytes out 0 bs) ≡ bs
unfolding put_bytes
put_front out bs = take_at bs (drop (0 + length bs) out) (length bs) refl

-- where a call tells a size, its output begins with its result
pub told_bytes_lem : (t : Told (List ℕ)) (out : List ℕ) (n : ℕ) → told_bytes t out ≡ answer n
    → (bs : List ℕ) × (t ≡ answer bs) × (take n (left_in t out) ≡ bs)
unfolding told_bytes left_in
told_bytes_lem (refused m p) out n e = absurd (refused_none m p n e)
told_bytes_lem (answer bs) out n e =
    let (room, size) = test_passed _ 12 0 _ n e in
    let same : n ≡ length bs = cc in
    (bs, refl, rw (room, same) (put_front out bs))

-- so they hold what the result's bytes hold
left_holds : (t : Told (List ℕ)) (out out' : List ℕ) (n : ℕ) → told_bytes t out ≡ answer n → out' ≡ left_in t out
    → (ps : List Pauli) → ((bs : List ℕ) → t ≡ answer bs → Holds bs ps) → Holds (take n out') ps
left_holds t out out' n e left ps holds =
    let (bs, s, front) = told_bytes_lem t out n e in
    subst (λ (b : List ℕ). Holds b ps) (sym (ap (take n) left ∙ front)) (holds bs s)

pub call_holds : (t : Told (List ℕ)) (out : List ℕ) (wrote : Result ℕ Refusal) (out' : List ℕ) (n : ℕ) → told_of wrote ≡ told_bytes t out → out' ≡ left_in t out
    → told_of wrote ≡ answer n → (ps : List Pauli) → ((bs : List ℕ) → t ≡ answer bs → Holds bs ps) → Holds (take n out') ps
call_holds t out wrote out' n told left e = left_holds t out out' n (sym told ∙ e) left

-- ---- the two calls

pub joining_read_back : JoiningReadBack
unfolding write
joining_read_back l r out wrote out' ps qs n c el er e =
    call_holds (join_of l r) out wrote out' n c.told c.left e (map pauli_of (ps ++ qs)) λ bs j.
    let law = joined_law l r ps qs bs el er j in
    record {
      held = map by_value (ps ++ qs);
      accepted = law.read_back;
      exactly = paulis_by_value (ps ++ qs);
      exponents = by_value_exponents (ps ++ qs);
      given = law.written;
    }

pub product_read_back : ProductReadBack
unfolding most_paulis
product_read_back l i r j out found out' ps qs m c el er e =
    let P = pauli_of (get_or ps i nothing) in
    let Q = pauli_of (get_or qs j nothing) in
    let made = sym c.told ∙ e in
    let a = made_answered l i r j out m made ps qs el er in
    left_holds (product_of l i r j) out out' m.bytes (made_size l i r j out m made ps qs el er) c.left (times P Q ∷ []) λ bs s.
    let limits = joined_qubits l r ps qs el er a.few in
    let left = (support_law (ps ++ qs)).covers (get_or ps i nothing) (Memᴰ.append_left qs (in_get_or ps i nothing a.first)) in
    let right = (support_law (ps ++ qs)).covers (get_or qs j nothing) (Memᴰ.append_right ps (in_get_or qs j nothing a.second)) in
    let given = product_answer l i r j _ a.factors in
    let same : write (sparse_of (times P Q) ∷ []) ≡ bs = cc in
    subst (λ (b : List ℕ). Holds b (times P Q ∷ [])) same
    (written_holds (support (ps ++ qs)) limits (times P Q ∷ []) (on_times (support (ps ++ qs)) P Q left right, tt) (omega arith))
