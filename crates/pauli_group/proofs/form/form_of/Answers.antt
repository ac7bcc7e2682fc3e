use Rattle.pauli_group.proofs.area.AreaLaws.{stride_least}
use Rattle.pauli_group.proofs.form.MadeLaws.{made_rank, made_form, made_some, made_outside}
use Rattle.std.proofs.Common.{◌+◌, ◌*◌, ◌≤◌, arith}
use Rattle.pauli_group.specs.Inner.Area.{stride_of}
use Rattle.pauli_group.proofs.form.form_of.Goals as goal

pub put_rows-requires : goal.put_rows-requires
put_rows-requires c =
    let k = c.stride_of.ensures in
    (rw k (omega (arith, c.requires.1)), rw k (stride_least c.args.list.count), c.requires.2, c.requires.3)

pub unwrap-requires : goal.unwrap-requires
unwrap-requires c =
    made_some c.args.w.now c.args.list.base c.args.list.count c.args.s (omega (arith, c.requires.1, c.args.list.inside)) c.requires.2 c.told-w c.requires.3
    _ c.stride_of.ensures _ c.put_rows.ensures _ _ c.echelon_form.ensures

pub returns : goal.returns
returns c =
    let w = c.args.w.now in
    let base = c.args.list.base in
    let n = c.args.list.count in
    let s = c.args.s in
    let room : n * stride_of n + n ≤ 4096 = omega (arith, c.requires.1, c.args.list.inside) in
    let B = c.put_rows.ensures in
    let C = c.echelon_form.ensures in record {
      rank = made_rank w base n s room c.requires.2 c.told-w c.requires.3 _ c.stride_of.ensures _ B _ _ C _ c.unwrap.ensures;
      form = made_form w base n s room c.requires.2 c.told-w c.requires.3 _ c.stride_of.ensures _ B _ _ C _ c.unwrap.ensures;
      rest = made_outside w base n s room c.requires.2 c.told-w c.requires.3 _ c.stride_of.ensures _ B _ _ C;
    }
