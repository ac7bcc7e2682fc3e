-- The five words are those of a Pauli with no places.
use Rattle.std.proofs.Common.{arith}
use Rattle.pauli_group.proofs.scan.PhaseLaws.{phase_stored}
use Rattle.pauli_group.proofs.scan.put_phase.Goals as goal

pub returns : goal.returns
returns c =
    let a = c.args in
    let x = c.none in
    let z = c.none-2 in
    let put = c.store in let all = phase_stored a.w.now a.at (record { exponent = a.k; x = x.result; z = z.result }) (omega (arith, c.told-w, c.requires.0)) c.requires.1 x.ensures z.ensures
    put.new.w put.ensures in record { list = all.0; rest = all.1 }
