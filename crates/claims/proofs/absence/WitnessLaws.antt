-- Laws of a witness, which is put over the places of a roll's support: it anticommutes with the roll's Paulis as it does there.
use Rattle.std.proofs.Common.{◌≡◌, sym, ap, ◌∙◌, true, false, ◌==◌, eqb, eq-eqb, eqb-true, ne_eqb, List, [], length, get_or, drop, drop_of_length-le, max, ℕ, ◌+◌, ◌<◌, ◌≤◌, arith}
use Rattle.std.proofs.lemmas.Bool.{eqb-false}
use Rattle.std.proofs.lemmas.List.{get_or-map}
use Rattle.pauli.specs.Condense.{list_of, nothing, condensed, Readable}
use Rattle.pauli.specs.Known.{Gathered}
use Rattle.pauli.specs.Pauli.{Pauli, I, anticommute}
use Rattle.pauli.specs.Roll.{numbers, support, count_of}
use Rattle.pauli.specs.Sets.{pauli_of}
use Rattle.pauli.specs.Support.{Rising, insert_all}
use Rattle.pauli.specs.Told.{answer}
use Rattle.pauli.specs.declared.signed.Pauli.{Pauli as Held}
use Rattle.pauli.specs.Signed.{held}
use Rattle.pauli.proofs.condense.PauliTheorems.{support_law}
use Rattle.pauli.proofs.joined.JoinLaws.{accepted, own_few}
use Rattle.pauli.proofs.signed.Algebra.{anticommute_lt, anticommute_comm}
use Rattle.pauli.proofs.signed.SignedLaws.{zero_bit}
use Rattle.pauli.proofs.support.Lists.{in_get_or, drop_one}
use Rattle.pauli.proofs.write.Condensed.{condensed_anticommute}
use Rattle.pauli_theory.specs.Claims.{absence_accepted}
use Rattle.pauli_theory.specs.Standard.{anticommutes_with_some}
use Rattle.pauli_theory.proofs.Tests.{anticommute_largest, largest_lt}
use Rattle.pauli_group.specs.Calls.{paulis}
use Rattle.pauli_group.proofs.group.GroupLaws.{own_gathered, known_is, places_few, part_readable}

-- ---- over the places of the support of an accepted roll of n Paulis
module _ (b : List ℕ) (n : ℕ) (c : count_of b ≡ answer n) (known : List ℕ) (g : Gathered (insert_all (numbers (list_of b)) []) known) where
  own : Gathered (support (list_of b)) known
  own = own_gathered (list_of b) known g

  pub witness_room : (length known ≤ 128) × Rising 0 known
  witness_room = (places_few (list_of b) known own (own_few b n c), g.rises)

  module _ (k : ℕ) (h : k < n) where
    pub roll_readable : Readable b n k known
    roll_readable = part_readable (list_of b) known own (own_few b n c) b n c (λ p m. m) k h

    pub witness_clash : (p w : Held) (v : Pauli) → held p ≡ condensed known (pauli_of (get_or (list_of b) k nothing)) → held w ≡ condensed known v
        → anticommute (held p) (held w) ≡ anticommute v (pauli_of (get_or (list_of b) k nothing))
    witness_clash p w v e f =
        let q = get_or (list_of b) k nothing in
        let on = (support_law (list_of b)).covers q (in_get_or (list_of b) k nothing (rw (accepted b n c).1 h)) in
        rw (e, f) (condensed_anticommute known g.rises (pauli_of q) v (rw (known_is (list_of b) known own (own_few b n c)) on))
        ∙ anticommute_comm (pauli_of q) v

    pub roll_pauli : pauli_of (get_or (list_of b) k nothing) ≡ get_or (paulis (list_of b)) k I
    unfolding paulis
    roll_pauli = sym (get_or-map pauli_of (list_of b) k nothing I (rw (accepted b n c).1 h))

-- ---- none of the Paulis before number k anticommutes with w
module _ (w : Pauli) (gs : List Pauli) (k : ℕ) (left : anticommutes_with_some w gs ≡ anticommutes_with_some w (drop k gs)) where
  pub clash_none : length gs ≤ k → false ≡ (anticommutes_with_some w gs == 1)
  unfolding anticommutes_with_some
  clash_none h = sym (ap (λ (l : List Pauli). eqb (anticommutes_with_some w l) 1) (drop_of_length-le gs h)) ∙ ap (λ (a : ℕ). eqb a 1) (sym left)

  module _ (h : k < length gs) (g : Pauli) (e : g ≡ get_or gs k I) where
    next : anticommutes_with_some w gs ≡ max (anticommute w g) (anticommutes_with_some w (drop (k + 1) gs))
    unfolding anticommutes_with_some
    next = left ∙ ap (anticommutes_with_some w) (sym (drop_one gs k I h)) ∙ ap (λ (q : Pauli). max (anticommute w q) (anticommutes_with_some w (drop (k + 1) gs))) (sym e)

    pub clash_here : anticommute w g ≡ 1 → true ≡ (anticommutes_with_some w gs == 1)
    clash_here o =
        let few = largest_lt (anticommute w) (anticommute_lt w) (drop (k + 1) gs) in
        sym (eq-eqb _ 1 (omega (arith, next, anticommute_largest w (drop (k + 1) gs), few)))

    pub clash_next : (anticommute w g ≡ 1 → ⊥) → anticommutes_with_some w gs ≡ anticommutes_with_some w (drop (k + 1) gs)
    clash_next n = omega (arith, next, anticommute_lt w g)

-- ---- the two tests together
module _ (gs : List Pauli) (p w : Pauli) where
  some_lt : anticommutes_with_some w gs < 2
  some_lt = omega (arith, anticommute_largest w gs, largest_lt (anticommute w) (anticommute_lt w) gs)

  pub refused_clash : (anticommutes_with_some w gs == 1) ≡ true → false ≡ absence_accepted gs p w
  unfolding absence_accepted
  refused_clash e = sym (rw (ne_eqb (anticommutes_with_some w gs) 0 (λ z. omega (arith, eqb-true _ 1 e))))

  pub refuted : (anticommutes_with_some w gs == 1) ≡ false → (anticommute w p == 1) ≡ absence_accepted gs p w
  unfolding absence_accepted
  refuted e = sym (rw (eq-eqb (anticommutes_with_some w gs) 0 (zero_bit _ some_lt (eqb-false _ 1 e))))
