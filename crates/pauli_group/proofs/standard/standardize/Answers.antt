-- By what the tests say: the phases stay, or go mod 2.
use Rattle.std.proofs.Common.{◌≡◌, ◌<◌, max, ap, ◌∙◌, arith}
use Rattle.pauli.specs.Signed.{list_in}
use Rattle.pauli_theory.specs.Standard.{some_order_four, some_anticommute}
use Rattle.pauli_group.specs.Inner.Area.{standard_at}
use Rattle.pauli_group.proofs.area.AreaLaws.{span_list}
use Rattle.pauli_group.proofs.scan.PhaseLaws.{modulus_in, modulus_le, modulus_more}
use Rattle.pauli_group.proofs.standard.StandardLaws.{made_plain, made_halved}
use Rattle.pauli_group.proofs.standard.standardize.Goals as goal
use Rattle.pauli_group.proofs.standard.standardize.Goals.{then-some_order_four-via-then-some_order_four, then-some_order_four-via-else-some_order_four+then-some_anticommute}

pub take_mod-requires : goal.take_mod-requires
take_mod-requires c = rw c.modulus_of-m.ensures (modulus_more _)

pub append_phase-requires-2 : goal.append_phase-requires-2
append_phase-requires-2 c = (omega (arith, c.at-list.ensures, c.requires), rw c.modulus_of-m.ensures (modulus_le _))

pub returns-then-some_order_four : goal.returns-then-some_order_four
returns-then-some_order_four c =
    let at = c.at-list.ensures in
    let ps = list_in c.take_mod.new.w standard_at c.args.rank in
    let bad : 0 < max (some_order_four ps) (some_anticommute ps) = elim c.then-some_order_four.branch [
      | then-some_order_four-via-then-some_order_four w ↦ omega (arith, w.if-some_order_four.ensures, ap some_order_four (span_list _ c.paulis-2.ensures.list at))
      | then-some_order_four-via-else-some_order_four+then-some_anticommute w ↦ omega (arith, w.if-some_anticommute.ensures, ap some_anticommute (span_list _ w.paulis-else-some_order_four.ensures.list at))
    ] in
    let m = c.modulus_of-m.ensures ∙ ap modulus_in (span_list _ c.paulis.ensures.list c.at-powers.ensures) in
    let taken = rw (at.0, at.1) at c.take_mod.ensures in
    let halved = rw (at.0, at.1) at c.take_mod-then-some_order_four.ensures in
    let end = rw (at.0, at.1) at c.append_phase.ensures in
    let all = made_halved c.args.w.now c.args.n c.args.rank c.requires.1 _ m _ taken.list taken.rest _ _ _ bad halved.list halved.rest end.count end.list end.rest in
    record { count = all.0; list = all.1.0; rest = all.1.1 }

pub returns : goal.returns
returns c =
    let at = c.at-list.ensures in
    let ps = list_in c.take_mod.new.w standard_at c.args.rank in
    let bad : max (some_order_four ps) (some_anticommute ps) ≡ 0 = omega (
      arith,
      c.if-some_order_four.ensures,
      ap some_order_four (span_list _ c.paulis-2.ensures.list at),
      c.if-some_anticommute.ensures,
      ap some_anticommute (span_list _ c.paulis-else-some_order_four.ensures.list at),
    ) in
    let m = c.modulus_of-m.ensures ∙ ap modulus_in (span_list _ c.paulis.ensures.list c.at-powers.ensures) in
    let taken = rw (at.0, at.1) at c.take_mod.ensures in
    let end = rw (at.0, at.1) at c.append_phase-2.ensures in
    let all = made_plain c.args.w.now c.args.n c.args.rank c.requires.1 _ m _ taken.list taken.rest _ _ bad end.count end.list end.rest in
    record { count = all.0; list = all.1.0; rest = all.1.1 }
