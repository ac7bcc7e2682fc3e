use Rattle.std.proofs.Common.{sym, ap, ap₂, ◌∙◌}
use Rattle.pauli.specs.Told.{refused}
use Rattle.pauli.specs.Writing.{told_bytes, left_in}
use Rattle.pauli_group.specs.Inner.Further.{SomeFurther}
use Rattle.pauli_group.specs.Calls.{quotient_bytes}
use Rattle.pauli_group.proofs.further.FurtherLaws.{further_same}
use Rattle.pauli_group.proofs.quotient.write_quotient.Goals as goal

pub write_further-requires : goal.write_further-requires
write_further-requires c =
    let some = rw c.in-Ok.is at c.quotient_of.ensures.answered in
    record { list = _; has = further_same some.1 _ c.qubits.ensures.list }

pub returns-in-Ok : goal.returns-in-Ok
unfolding quotient_bytes
returns-in-Ok c =
    let some = rw c.in-Ok.is at c.quotient_of.ensures.answered in
    let f : SomeFurther _ _ _ = record { list = _; has = further_same some.1 _ c.qubits.ensures.list } in
    let wrote = c.write_further.ensures in record {
      told = rw (c.rolled.ensures.0, c.rolled.ensures.1) at (wrote.told f ∙ sym (ap (λ q. told_bytes (quotient_bytes q) c.args.out.now) some.0));
      left = rw (c.rolled.ensures.0, c.rolled.ensures.1) at (wrote.left f ∙ sym (ap (λ q. left_in (quotient_bytes q) c.args.out.now) some.0));
      area = wrote.area _ c.told-w;
    }

pub returns-in-Err : goal.returns-in-Err
unfolding quotient_bytes told_bytes left_in
returns-in-Err c =
    let none = rw c.in-Err.is at c.quotient_of.ensures.refused in record {
      told =
          rw (c.rolled.ensures.0, c.rolled.ensures.1) at
          (ap₂ refused none.1 none.2 ∙ sym (ap (λ q. told_bytes (quotient_bytes q) c.args.out.now) none.0));
      left = rw (c.rolled.ensures.0, c.rolled.ensures.1) at (sym (ap (λ q. left_in (quotient_bytes q) c.args.out.now) none.0));
      area = c.clear.ensures _ c.told-w;
    }
