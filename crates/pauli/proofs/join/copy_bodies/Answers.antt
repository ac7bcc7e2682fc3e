-- They are copied whole.
use Rattle.std.proofs.Common.{◌*◌, ap, arith, length, length-drop}
use Rattle.pauli.proofs.roll.Paulis.{length_bodies}
use Rattle.pauli.specs.Roll.{bodies}
use Rattle.pauli.specs.Condense.{list_of}
use Rattle.pauli.proofs.join.copy_bodies.Goals as goal

pub put_slice-requires : goal.put_slice-requires
put_slice-requires c =
    let ps = list_of c.args.roll.bytes.now in
    omega (arith, ap length c.bodies.ensures, length-drop (4 * c.args.past) (bodies ps), length_bodies ps, c.requires)

pub returns : goal.returns
returns c = rw c.bodies.ensures at c.put_slice.ensures
