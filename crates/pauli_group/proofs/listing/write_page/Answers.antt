-- The group is built; where its rank allows, its page is listed and written; and the area is cleared.
use Rattle.std.proofs.Common.{ℕ, List, sym, ap, ◌∙◌, arith}
use Rattle.pauli.specs.Condense.{list_of}
use Rattle.pauli.specs.Refusals.{told_refusal}
use Rattle.pauli.specs.Told.{Told, answer}
use Rattle.pauli.specs.Writing.{told_bytes, left_in}
use Rattle.pauli_group.specs.Calls.{paulis}
use Rattle.pauli_group.specs.Promises.{promise_of}
use Rattle.pauli_group.proofs.area.AreaLaws.{span_list}
use Rattle.pauli_group.proofs.member.FactorLaws.{places_known}
use Rattle.pauli_group.proofs.listing.PageLaws.{signs_step, page_places, page_written, page_refused, page_answered}
use Rattle.pauli_group.proofs.listing.write_page.Goals as goal

pub returns-then-g-gt-MOST_LISTED : goal.returns-then-g-gt-MOST_LISTED
unfolding told_bytes left_in
returns-then-g-gt-MOST_LISTED c =
    let group = c.group_of-g in
    let out = c.args.out.now in
    let same = sym (page_refused (promise_of c.args.promise) c.args.start c.args.count (paulis (list_of c.args.roll.bytes.now)) (rw (← group.ensures.group.rank_is) c.if-g-gt-MOST_LISTED.true)) in record {
      told = ap told_refusal c.into.ensures ∙ ap (λ (t : Told (List ℕ)). told_bytes t out) same;
      left = ap (λ (t : Told (List ℕ)). left_in t out) same;
      area = c.clear.ensures _ c.told-w;
    }

pub write_roll-wrote-requires : goal.write_roll-wrote-requires
write_roll-wrote-requires c =
    let group = c.group_of-g in
    let told = rw (span_list _ c.paulis.ensures.list c.standards.ensures) at c.signs_of-signs.ensures in
    let step = signs_step _ group.ensures.group c.signs_of-signs.result told.clash told.step told.stabilizer in
    let few = c.page_elements-length.ensures.1 in
    let list = span_list _ c.paulis-2.ensures.list c.at-page.ensures in
    let known = places_known group.ensures.group in (
      omega (arith, c.paulis-2.ensures.count, c.at-page.ensures, few),
      rw (c.qubits.ensures.list, ← known) group.result.few.1,
      rw (list, c.qubits.ensures.list, ← known) (page_places _ _ group.ensures.group _ step _ _ _ (rw c.step-step.ensures.0 at c.page_elements-length.ensures.0) _ c.put_elements.ensures.list),
    )

pub returns : goal.returns
returns c =
    let group = c.group_of-g in
    let out = c.args.out.now in
    let told = rw (span_list _ c.paulis.ensures.list c.standards.ensures) at c.signs_of-signs.ensures in
    let step = signs_step _ group.ensures.group c.signs_of-signs.result told.clash told.step told.stabilizer in
    let wrote = rw (span_list _ c.paulis-2.ensures.list c.at-page.ensures, c.qubits.ensures.list) at c.write_roll-wrote.ensures in
    let roll = page_written _ _ group.ensures.group _ step _ _ _ (rw c.step-step.ensures.0 at c.page_elements-length.ensures.0) _ c.put_elements.ensures.list in
    let same = ap answer roll ∙ sym (page_answered (promise_of c.args.promise) c.args.start c.args.count (paulis (list_of c.args.roll.bytes.now)) (rw (← group.ensures.group.rank_is) c.if-g-gt-MOST_LISTED.false)) in record {
      told = wrote.told ∙ ap (λ (t : Told (List ℕ)). told_bytes t out) same;
      left = wrote.left ∙ ap (λ (t : Told (List ℕ)). left_in t out) same;
      area = c.clear-2.ensures _ c.told-w;
    }
