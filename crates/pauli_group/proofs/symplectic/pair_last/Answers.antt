-- The last Pauli goes to the commuting elements, or with the one found to the conjugate elements.
use Rattle.std.proofs.Common.{refl, ap, ◌∙◌, arith}
use Rattle.pauli.specs.Signed.{held}
use Rattle.pauli.proofs.signed.SignedLaws.{stored_value}
use Rattle.pauli_theory.specs.Symplectic.{position}
use Rattle.pauli_group.proofs.area.AreaLaws.{span_list}
use Rattle.pauli_group.proofs.symplectic.PairLaws.{stored_alone, stored_pair}
use Rattle.pauli_group.proofs.symplectic.pair_last.Goals as goal

pub returns-in-None : goal.returns-in-None
returns-in-None c =
    let none = c.in-None.ensures.position ∙ ap (position (held c.load-x.result) 0) (span_list _ c.paulis.ensures.list c.at-others.ensures) in
    stored_alone c.args.w.now c.args.p c.told-w c.requires.0 c.requires.1 _ refl c.load-x.result (stored_value _ c.load-x.ensures) none _ c.store.ensures

pub returns : goal.returns
returns c =
    let found = c.in-Some.ensures.position ∙ ap (position (held c.load-x.result) 0) (span_list _ c.paulis.ensures.list c.at-others.ensures) in
    let rest = c.at-rest.ensures in
    let clear = rw (rest.0, rest.1) at c.clear_pair.ensures in
    stored_pair c.args.w.now c.args.p c.told-w c.requires.0 c.requires.1 _ refl c.load-x.result (stored_value _ c.load-x.ensures)
    _ found (omega (arith, c.in-Some.ensures.below, c.paulis.ensures.count, c.at-others.ensures))
    c.load-z.result c.load-last.result (stored_value _ c.load-z.ensures) (stored_value _ c.load-last.ensures)
    _ c.store-2.ensures _ clear.list clear.rest _ c.store-3.ensures _ c.store-4.ensures
