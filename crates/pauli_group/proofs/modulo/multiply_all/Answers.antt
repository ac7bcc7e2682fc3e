use Rattle.std.proofs.Common.{◌≡◌, ◌*◌, refl, ap, arith}
use Rattle.pauli.proofs.signed.SignedLaws.{stored_value}
use Rattle.pauli_group.specs.Inner.Area.{stride_of}
use Rattle.pauli_group.proofs.area.AreaLaws.{form_room}
use Rattle.pauli_group.proofs.modulo.RemainderLaws.{multiplied_start, multiplied_end, pivot_room, loaded_moves, place_few, multiplied_next}
use Rattle.pauli_group.proofs.modulo.multiply_all.Goals as goal

pub overflow_mul-at : goal.overflow_mul-at
overflow_mul-at c =
    let at : c.args.group.count * c.stride_of.result ≡ c.args.group.count * stride_of c.args.group.count = ap (c.args.group.count *◌) c.stride_of.ensures in
    omega (arith, (form_room c.args.group.count c.requires.3.list_few).0, at)

pub loop-k-init : goal.loop-k-init
loop-k-init c = multiplied_start _ _ _ _ _ _ _ c.requires.4

pub overflow_add-pivot : goal.overflow_add-pivot
overflow_add-pivot c =
    let at : c.args.group.count * c.stride_of.result ≡ c.args.group.count * stride_of c.args.group.count = ap (c.args.group.count *◌) c.stride_of.ensures in
    omega (arith, (form_room c.args.group.count c.requires.3.list_few).0, at, c.requires.3.fits, c.requires.3.few, c.loop-k-test.true)

pub offset_bounds-w-at : goal.offset_bounds-w-at
offset_bounds-w-at c =
    let at : c.args.group.count * c.stride_of.result ≡ c.args.group.count * stride_of c.args.group.count = ap (c.args.group.count *◌) c.stride_of.ensures in
    omega (arith, (form_room c.args.group.count c.requires.3.list_few).0, at)

pub bounds-w-at : goal.bounds-w-at
bounds-w-at c =
    let at : c.args.group.count * c.stride_of.result ≡ c.args.group.count * stride_of c.args.group.count = ap (c.args.group.count *◌) c.stride_of.ensures in
    omega (arith, at, pivot_room _ _ _ _ _ _ _ c.requires.3 c.told-w _ _ c.loop-k.invariant c.loop-k-test.true)

pub move_pauli-moved-requires : goal.move_pauli-moved-requires
move_pauli-moved-requires c =
    let at = ap (c.args.group.count *◌) c.stride_of.ensures in
    let m = loaded_moves _ _ _ _ _ _ _ _ c.requires.1 c.requires.3 c.told-w _ _ c.loop-k.invariant c.loop-k-test.true _ _ at refl _ (stored_value _ c.load-other.ensures) in
    (c.requires.2, m.0, m.1, m.2)

pub multiply_at-requires : goal.multiply_at-requires
multiply_at-requires c =
    let at = ap (c.args.group.count *◌) c.stride_of.ensures in
    place_few _ _ _ _ _ _ _ _ c.requires.1 c.requires.3 c.told-w _ _ c.loop-k.invariant c.loop-k-test.true _ _ at refl _ (stored_value _ c.load-other.ensures) _ c.move_pauli-moved.ensures _ _ c.place_of-place.ensures c.qubit_at.ensures c.requires.2

pub loop-k-preserved : goal.loop-k-preserved
loop-k-preserved c =
    let list = rw (c.at-list.ensures.0, c.at-list.ensures.1) at c.multiply_at.ensures.list in
    let rest = rw (c.at-list.ensures.0, c.at-list.ensures.1) at c.multiply_at.ensures.rest in
    let at = ap (c.args.group.count *◌) c.stride_of.ensures in
    multiplied_next _ _ _ _ _ _ _ _ c.requires.1 c.requires.3 c.told-w _ _ c.loop-k.invariant c.loop-k-test.true _ _ at refl _ (stored_value _ c.load-other.ensures) _ c.move_pauli-moved.ensures _ _ c.place_of-place.ensures c.qubit_at.ensures _ list rest

pub returns-clause-list : goal.returns-clause-list
returns-clause-list c = multiplied_end _ _ _ _ _ _ _ c.requires.3 c.told-w _ _ c.loop-k.invariant c.loop-k-test.false
