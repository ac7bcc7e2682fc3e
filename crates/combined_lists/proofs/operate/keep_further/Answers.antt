use Rattle.std.proofs.Common.{arith}
use Rattle.pauli_group.proofs.area.AreaLaws.{span_list}
use Rattle.combined_lists.proofs.operate.OperateLaws.{further_keepable, put_holds, put_kept}
use Rattle.combined_lists.proofs.operate.keep_further.Goals as goal

pub keep-requires : goal.keep-requires
keep-requires c =
    let k = c.requires.1 in
    rw c.qubits.ensures.list
    (record { list = k.list; keepable = further_keepable k.keeps _ (span_list _ c.paulis.ensures.list c.at-list.ensures) })

pub returns-clause-list : goal.returns-clause-list
returns-clause-list c gs f =
    put_holds c.args.slots.now c.args.at _ (omega (arith, c.told-slots, c.requires.0)) gs
    (c.keep.ensures gs (rw c.qubits.ensures.list (further_keepable f _ (span_list _ c.paulis.ensures.list c.at-list.ensures))))

pub returns-clause-kept : goal.returns-clause-kept
returns-clause-kept c = put_kept c.args.slots.now c.args.at _ (omega (arith, c.told-slots, c.requires.0))
