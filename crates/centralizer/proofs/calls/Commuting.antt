-- What the two calls write generates what commutes with the list's Paulis: from their contracts alone.
use Rattle.std.proofs.Common.{◌≡◌, refl, sym, ap, ◌∙◌, subst, ⊎_elim, Bool, true, false, not, leb-true, List, [], ◌∷◌, map, length, take, ℕ, ◌≤◌, ◌<◌, ◌^◌, Result, arith}
use mathlib.Core.List.{map-id}
use mathlib.Core.List.Memᴰ.{append_cases as in-append}
use Rattle.binar.proofs.Lists.{all_map, all_over, all_under, map_same}
use Rattle.pauli.specs.Told.{Told, answer, and_then}
use Rattle.pauli.specs.Refusals.{told_of}
use Rattle.pauli.specs.declared.refusal.Refusal.{Refusal}
use Rattle.pauli.specs.Roll.{most_paulis, highest_qubit, Sparse, support, read}
use Rattle.pauli.specs.Support.{most_qubits, All, Rising, insert_all}
use Rattle.pauli.specs.Pauli.{Pauli, phase, normal, anticommute}
use Rattle.pauli.specs.PauliTheorems.{PauliOn}
use Rattle.pauli.specs.Sets.{pauli_of}
use Rattle.pauli.specs.ReadBack.{Holds}
use Rattle.pauli.specs.Writing.{told_bytes, left_in}
use Rattle.pauli.proofs.condense.Sets.{set_has}
use Rattle.pauli.proofs.join.ReadBack.{written_holds, told_bytes_lem, read_qubits}
use Rattle.pauli.proofs.roll.ListSupport.{in_support, support_rises}
use Rattle.pauli.proofs.roll.Told.{test_passed, map_answer}
use Rattle.pauli.proofs.signed.Algebra.{normal_lt}
use Rattle.pauli.proofs.support.Lists.{all_mem}
use Rattle.pauli.proofs.support.SupportLaws.{rising_length, insert_all_rises, insert_all_has}
use Rattle.pauli_theory.specs.Group.{Generated}
use Rattle.pauli_theory.specs.Standard.{support_of}
use Rattle.pauli_theory.specs.Centralizer.{centralizer_within}
use Rattle.pauli_theory.proofs.Centralizer.{centralizer_law}
use Rattle.pauli_theory.proofs.Written.{support_of_lem}
use Rattle.pauli_group.specs.Calls.{paulis, list_bytes}
use Rattle.pauli_group.specs.WorkArea.{enough, area_after}
use Rattle.centralizer.specs.Calls.{together, most_together, fitting, checked, generators_of, within_checked, within_call, own_checked, own_call}
use Rattle.centralizer.specs.Commuting.{Centralizes, CentralizerCalls}
use Rattle.centralizer.proofs.named.NamedLaws.{both_true, rises_rising}
use Rattle.centralizer.proofs.calls.CheckedLaws.{own_told}

-- ---- a named support that was let through

numbers_high : (named : List ℕ) → All (λ q. q < 2 ^ 32) named → All (λ q. q ≤ highest_qubit) named
unfolding highest_qubit
numbers_high named = all_map (λ q h. omega arith) named

not_false : (t : Bool) → not t ≡ false → t ≡ true
not_false true e = refl
not_false false e = sym e

record Fits (named own : List ℕ) : Type 0 where
  rises : Rising 0 named
  few : length (insert_all named own) ≤ 63

-- what was checked is the list, and its named support fits
checked_answer : (named : List ℕ) (ps : List Sparse) (words : ℕ) (gs : List Pauli) → checked named ps words ≡ answer gs → Fits named (support ps) × (gs ≡ paulis ps)
unfolding checked fitting enough together most_together
checked_answer named ps words gs e =
    let (fit, s) = test_passed _ 13 0 _ gs e in
    let (area, same) = test_passed _ 9 0 _ gs s in
    let parts = both_true _ _ (not_false _ fit) in
    (record { rises = rises_rising 0 named parts.0; few = leb-true _ 63 parts.1 }, cc)

-- ---- the roll of the centralizer's generators

module _ (named : List ℕ) (low : All (λ q. q ≤ highest_qubit) named) (gs : List Sparse) (f : Fits named (support gs)) where
  abbrev C : List Pauli
  C = centralizer_within named (paulis gs)

  named_few : length named ≤ 63
  named_few =
      let own = support gs in
      omega (arith, rising_length 0 0 (insert_all named own) named (insert_all_rises named own (support_rises gs)) f.rises (insert_all_has named own), f.few)

  together_few : length (insert_all named (support_of (paulis gs))) ≤ 63
  unfolding paulis
  together_few = subst (λ (qs : List ℕ). length (insert_all named qs) ≤ 63) (support_of_lem gs) f.few

  generators_hold : Holds (list_bytes C) C
  unfolding most_qubits most_paulis
  generators_hold =
      written_holds named (record { rise = f.rises; few = omega (arith, named_few); low = low }) C (centralizer_law named (paulis gs)).on_named
      (omega (arith, (centralizer_law named (paulis gs)).count f.rises, together_few))

  module _ (bytes : List ℕ) (h : Holds bytes C) where
    held_is : map pauli_of h.held ≡ C
    held_is = h.exactly ∙ map_same normal (λ p. p) C (all_map (λ p l. normal_lt p l) C (centralizer_law named (paulis gs)).values) ∙ map-id C

    held_on : All (λ p. PauliOn named (pauli_of p)) h.held
    held_on = all_under (PauliOn named) pauli_of h.held (subst (All (PauliOn named)) (sym held_is) (centralizer_law named (paulis gs)).on_named)

    centralizes : Centralizes gs named bytes
    unfolding paulis pauli_of
    centralizes = record {
      held = h.held;
      accepted = h.accepted;
      among = λ q m.
          let (p, i, k) = in_support h.held q m in
          let on = all_mem (λ r. PauliOn named (pauli_of r)) h.held held_on p i in
          ⊎_elim (λ a. on.x q (set_has p.xs q a)) (λ b. on.z q (set_has p.zs q b)) (in-append p.xs k);
      has = λ p on c. subst (λ (ps : List Pauli). Generated ps p) (sym held_is)
          ((centralizer_law named (paulis gs)).complete p on (all_over (λ g. anticommute p g ≡ 0) pauli_of gs c));
      only = λ p on a. all_under (λ g. anticommute p g ≡ 0) pauli_of gs ((centralizer_law named (paulis gs)).sound p (subst (λ (ps : List Pauli). Generated ps p) held_is a)).1;
      on_named = λ p a. ((centralizer_law named (paulis gs)).sound p (subst (λ (ps : List Pauli). Generated ps p) held_is a)).0;
    }

-- ---- the calls

-- the roll that was written, where the checks told the list
module _ (named : List ℕ) (low : All (λ q. q ≤ highest_qubit) named) (gs : List Sparse) (words : ℕ) (t : Told (List ℕ)) (is : generators_of named (checked named gs words) ≡ t)
    (out : List ℕ) (wrote : Result ℕ Refusal) (out' : List ℕ) (told : told_of wrote ≡ told_bytes t out) (left : out' ≡ left_in t out)
    (n : ℕ) (size : told_of wrote ≡ answer n) where
  -- what was written, and that the named support was let through
  written : (bs : List ℕ) × (t ≡ answer bs) × (take n out' ≡ bs)
  written =
      let (bs, s, front) = told_bytes_lem t out n (sym told ∙ size) in
      (bs, s, ap (take n) left ∙ front)

  given : Fits named (support gs) × (take n out' ≡ list_bytes (centralizer_within named (paulis gs)))
  unfolding generators_of
  given =
      let (bs, s, front) = written in
      let (hs, c, same) = map_answer (λ ks. list_bytes (centralizer_within named ks)) (checked named gs words) bs (is ∙ s) in
      let (fits, e) = checked_answer named gs words hs c in
      (fits, front ∙ sym same ∙ ap (λ (ks : List Pauli). list_bytes (centralizer_within named ks)) e)

  pub writes : Centralizes gs named (take n out')
  writes =
      let (fits, e) = given in
      centralizes named low gs fits (take n out') (subst (λ (b : List ℕ). Holds b (centralizer_within named (paulis gs))) (sym e) (generators_hold named low gs fits))

-- a roll that was read is the list that the call works on
module _ (b : List ℕ) (gs : List Sparse) (e : read b ≡ answer gs) (words : ℕ) where
  within_is : (named : List ℕ) → generators_of named (checked named gs words) ≡ within_call b named words
  unfolding within_call within_checked and_then
  within_is named = rw e refl

  own_is : generators_of (support gs) (checked (support gs) gs words) ≡ own_call b words
  unfolding own_call own_checked and_then
  own_is = rw e (own_told gs words)

  own_checked_is : own_checked b words ≡ within_checked b (support gs) words
  unfolding own_checked within_checked and_then
  own_checked_is = rw e refl

-- with no qubit named there is i alone
none_written : (b work out : List ℕ) (wrote : Result ℕ Refusal) (out' : List ℕ) → told_of wrote ≡ told_bytes (within_call b [] (length work)) out
    → out' ≡ left_in (within_call b [] (length work)) out → (n : ℕ) → told_of wrote ≡ answer n → take n out' ≡ list_bytes (phase 1 ∷ [])
unfolding within_call generators_of
none_written b work out wrote out' told left n size =
    let (bs, s, front) = told_bytes_lem (within_call b [] (length work)) out n (sym told ∙ size) in
    let (hs, c, same) = map_answer (λ ks. list_bytes (centralizer_within [] ks)) (within_checked b [] (length work)) bs s in
    ap (take n) left ∙ front ∙ sym same ∙ ap list_bytes ((centralizer_law [] hs).none_named refl)

pub centralizer_calls : CentralizerCalls
unfolding within_call within_checked own_call own_checked and_then generators_of
centralizer_calls = record {
  within = λ b named work out wrote work' out' c gs n e size. writes named (numbers_high named c.numbers) gs (length work) _ (within_is b gs e (length work) named) out wrote out' c.told c.left n size;
  own = λ b work out wrote work' out' c gs n e size. writes (support gs) (read_qubits b gs e).low gs (length work) _ (own_is b gs e (length work)) out wrote out' c.told c.left n size;
  none_named = λ b work out wrote work' out' c n size. none_written b work out wrote out' c.told c.left n size;
  same = λ b work out gs e r work' out' c s work'' out'' d. (
    c.told ∙ ap (λ (t : Told (List ℕ)). told_bytes t out) (sym (own_is b gs e (length work)) ∙ within_is b gs e (length work) (support gs)) ∙ sym d.told,
    c.left ∙ ap (λ (t : Told (List ℕ)). left_in t out) (sym (own_is b gs e (length work)) ∙ within_is b gs e (length work) (support gs)) ∙ sym d.left,
    c.area ∙ ap (λ (t : Told (List Pauli)). area_after t work) (own_checked_is b gs e (length work)) ∙ sym d.area,
  );
}
