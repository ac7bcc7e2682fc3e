-- A number that stands at its place is known; another is put in there.
use Rattle.std.proofs.Common.{◌≡◌, ◌≤◌, ◌+◌, take, sym, ap, ◌∙◌, arith, length, length-take-le, get_or-take}
use Rattle.std.proofs.lemmas.Bool.{eqb-true, eqb-false}
use Rattle.pauli.proofs.support.SupportLaws.{insert_rises}
use Rattle.pauli.proofs.support.Walk.{lower_le, noted_known, noted_moved, noted_last}
use Rattle.pauli.specs.Known.{lower}
use Rattle.pauli.specs.Support.{most_qubits, insert}
use Rattle.pauli.proofs.support.Support.note.Goals as goal

pub bounds-self-inside-count : goal.bounds-self-inside-count
unfolding most_qubits
bounds-self-inside-count c =
    let at = c.self.inside in
    let size = length-take-le at.count at.numbers (omega arith) in
    omega (arith, size, ap length c.self.view_is, c.requires.0)

pub invariant_of-self : goal.invariant_of-self
unfolding most_qubits
invariant_of-self c =
    let at = c.self.inside in
    let size = length-take-le at.count at.numbers (omega arith) in
    let room : at.count + 1 ≤ 129 = omega (arith, size, ap length c.self.view_is, c.requires.0) in
    let last : at.count ≡ lower c.args.q.0 (take at.count at.numbers) = omega (arith, size, c.place_from-i.ensures, c.if-i-count.true, lower_le (take at.count at.numbers) c.args.q.0) in (
      room,
      rw (noted_last at.numbers at.count c.args.q.0 (omega (arith, room)) last) (insert_rises 0 c.args.q.0 _ (omega arith) c.self.invariant.1),
    )

pub returns-then-i-count-clause-known : goal.returns-then-i-count-clause-known
unfolding most_qubits
returns-then-i-count-clause-known c =
    let at = c.self.inside in
    let size = length-take-le at.count at.numbers (omega arith) in
    let room : at.count + 1 ≤ 129 = omega (arith, size, ap length c.self.view_is, c.requires.0) in
    let last : at.count ≡ lower c.args.q.0 (take at.count at.numbers) = omega (arith, size, c.place_from-i.ensures, c.if-i-count.true, lower_le (take at.count at.numbers) c.args.q.0) in
    rw (← c.self.view_is) (noted_last at.numbers at.count c.args.q.0 (omega (arith, room)) last)

pub returns-then-i-count-clause-next : goal.returns-then-i-count-clause-next
returns-then-i-count-clause-next c =
    let at = c.self.inside in
    let size = length-take-le at.count at.numbers (omega arith) in
    omega (arith, size, c.place_from-i.ensures, c.if-i-count.true, lower_le (take at.count at.numbers) c.args.q.0, ap (lower c.args.q.0) c.self.view_is)

pub returns-then-eq-clause-known : goal.returns-then-eq-clause-known
returns-then-eq-clause-known c =
    let at = c.self.inside in
    let size = length-take-le at.count at.numbers (omega arith) in
    let known = noted_known (take at.count at.numbers) c.args.q.0 c.place_from-i.result.0 c.place_from-i.ensures (omega (arith, size)) (get_or-take at.count at.numbers c.place_from-i.result.0 0 (omega (arith, c.if-i-count.false)) ∙ eqb-true _ _ (sym c.eq.ensures ∙ c.if-eq.true)) in
    sym c.self.view_is ∙ known ∙ ap (insert c.args.q.0) c.self.view_is

pub overflow_add-i : goal.overflow_add-i
overflow_add-i c =
    let at = c.self.inside in
    let size = length-take-le at.count at.numbers (omega arith) in
    omega (arith, size, c.place_from-i.ensures, lower_le (take at.count at.numbers) c.args.q.0)

pub copy_within-requires-clause-start_le_end : goal.copy_within-requires-clause-start_le_end
copy_within-requires-clause-start_le_end c =
    let at = c.self.inside in
    let size = length-take-le at.count at.numbers (omega arith) in
    omega (arith, size, c.place_from-i.ensures, lower_le (take at.count at.numbers) c.args.q.0)

pub copy_within-requires-clause-dest_in_bounds : goal.copy_within-requires-clause-dest_in_bounds
unfolding most_qubits
copy_within-requires-clause-dest_in_bounds c =
    let at = c.self.inside in
    let size = length-take-le at.count at.numbers (omega arith) in
    omega (arith, size, ap length c.self.view_is, c.requires.0, c.place_from-i.ensures, lower_le (take at.count at.numbers) c.args.q.0)

pub offset_bounds-self-inside-i-2 : goal.offset_bounds-self-inside-i-2
offset_bounds-self-inside-i-2 c =
    let at = c.self.inside in
    let size = length-take-le at.count at.numbers (omega arith) in
    omega (arith, size, c.place_from-i.ensures, lower_le (take at.count at.numbers) c.args.q.0)

pub bounds-self-inside-i-2 : goal.bounds-self-inside-i-2
unfolding most_qubits
bounds-self-inside-i-2 c =
    let at = c.self.inside in
    let size = length-take-le at.count at.numbers (omega arith) in
    omega (arith, size, ap length c.self.view_is, c.requires.0, c.place_from-i.ensures, lower_le (take at.count at.numbers) c.args.q.0)

pub overflow_add-result-2 : goal.overflow_add-result-2
overflow_add-result-2 c =
    let at = c.self.inside in
    let size = length-take-le at.count at.numbers (omega arith) in
    omega (arith, size, c.place_from-i.ensures, lower_le (take at.count at.numbers) c.args.q.0)

pub invariant_of-self-2 : goal.invariant_of-self-2
unfolding most_qubits
invariant_of-self-2 c =
    let at = c.self.inside in
    let size = length-take-le at.count at.numbers (omega arith) in
    let room : at.count + 1 ≤ 129 = omega (arith, size, ap length c.self.view_is, c.requires.0) in (
      room,
      rw (noted_moved at.numbers at.count c.args.q.0 (omega (arith, room)) c.place_from-i.result.0 c.place_from-i.ensures (λ h e. eqb-false _ _ (sym c.eq.ensures ∙ c.if-eq.false) e) _ c.copy_within.ensures.after) (insert_rises 0 c.args.q.0 _ (omega arith) c.self.invariant.1),
    )

pub returns-clause-known : goal.returns-clause-known
unfolding most_qubits
returns-clause-known c =
    let at = c.self.inside in
    let size = length-take-le at.count at.numbers (omega arith) in
    let room : at.count + 1 ≤ 129 = omega (arith, size, ap length c.self.view_is, c.requires.0) in
    rw (← c.self.view_is) (noted_moved at.numbers at.count c.args.q.0 (omega (arith, room)) c.place_from-i.result.0 c.place_from-i.ensures (λ h e. eqb-false _ _ (sym c.eq.ensures ∙ c.if-eq.false) e) _ c.copy_within.ensures.after)
