-- Nothing is written, or one power of i behind the list.
use Rattle.pauli.specs.Pauli.{phase}
use Rattle.std.proofs.Common.{◌+◌, ◌*◌, refl, arith}
use Rattle.pauli_group.proofs.scan.PhaseLaws.{appended_zero, appended_power, appended_identity, appended_nothing, nothing_behind, power_behind}
use Rattle.pauli_group.proofs.scan.append_phase.Goals as goal

pub returns-then-m-eq0 : goal.returns-then-m-eq0
returns-then-m-eq0 c =
    let a = c.args in let all = nothing_behind a.w.now a.list.base a.list.count a.m (appended_zero _ _ c.if-m-eq0.true) in record { count = all.0; list = all.1.0; rest = all.1.1 }

pub returns-then-m-lt3 : goal.returns-then-m-lt3
returns-then-m-lt3 c =
    let a = c.args in
    let put = c.put_phase in let all = power_behind a.w.now a.list.base a.list.count a.m (phase a.m) (appended_power _ _ c.if-m-eq0.false c.if-m-lt3.true)
    (a.list.base + 5 * a.list.count) (a.list.count + 1) refl refl put.new.w put.ensures.list put.ensures.rest in record { count = all.0; list = all.1.0; rest = all.1.1 }

pub returns-then-list-eq0 : goal.returns-then-list-eq0
returns-then-list-eq0 c =
    let a = c.args in
    let put = c.put_phase-then-list-eq0 in
    let none = c.if-list-eq0.true in let all = power_behind a.w.now a.list.base a.list.count a.m (phase 0) (appended_identity a.w.now a.list.base a.list.count a.m c.if-m-lt3.false none)
    a.list.base 1 (omega arith) (omega arith) put.new.w put.ensures.list put.ensures.rest in record { count = all.0; list = all.1.0; rest = all.1.1 }

pub returns : goal.returns
returns c =
    let a = c.args in let all = nothing_behind a.w.now a.list.base a.list.count a.m (appended_nothing a.w.now a.list.base a.list.count a.m c.if-m-lt3.false c.if-list-eq0.false) in record { count = all.0; list = all.1.0; rest = all.1.1 }
