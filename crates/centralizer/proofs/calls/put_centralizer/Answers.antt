-- The stacked Paulis are those of the definition, their form gives the kernel's rows, and these are put beside the rest.
use Rattle.std.proofs.Common.{arith}
use Rattle.pauli.proofs.joined.JoinLaws.{accepted_few}
use Rattle.pauli.specs.Condense.{list_of}
use Rattle.pauli.specs.Roll.{most_paulis}
use Rattle.centralizer.proofs.calls.PutLaws.{own_is, own_rises, own_readable, unnamed_few, stack_is, stack_count, stack_few, stacked_on, most_room, kernel_room, kernel_few, kernel_movable, kernel_put, further_few, result_is}
use Rattle.centralizer.proofs.calls.put_centralizer.Goals as goal

pub read_exchanged-requires : goal.read_exchanged-requires
read_exchanged-requires c = let a = c.args in (own_readable a.named.now a.own.now a.roll.bytes.now a.roll.count a.roll.accepted c.requires.0 c.requires.1, omega (arith, c.requires.1))

pub put_unnamed-middle-requires : goal.put_unnamed-middle-requires
unfolding most_paulis
put_unnamed-middle-requires c = (c.requires.1, omega (arith, accepted_few c.args.roll.bytes.now c.args.roll.count c.args.roll.accepted), own_rises c.args.named.now c.args.own.now c.args.roll.bytes.now c.args.roll.count c.args.roll.accepted c.requires.0 c.requires.1)

pub put_unnamed-total-requires : goal.put_unnamed-total-requires
unfolding most_paulis
put_unnamed-total-requires c =
    let a = c.args in
    (c.requires.1, omega (arith, accepted_few a.roll.bytes.now a.roll.count a.roll.accepted, c.put_unnamed-middle.ensures.count, unnamed_few a.named.now a.own.now a.roll.bytes.now a.roll.count a.roll.accepted c.requires.0 c.requires.1), own_rises c.args.named.now c.args.own.now c.args.roll.bytes.now c.args.roll.count c.args.roll.accepted c.requires.0 c.requires.1)

pub at-requires : goal.at-requires
unfolding most_paulis
at-requires c =
    let a = c.args in
    let M = c.put_unnamed-middle.ensures in
    let T = c.put_unnamed-total.ensures in
    omega (
      arith,
      stack_few a.named.now a.own.now a.roll.bytes.now a.roll.count a.roll.accepted c.requires.0 c.requires.1 _ _ _ _ _ M.count T.count
          c.read_exchanged.ensures.list M.list M.rest T.list T.rest (accepted_few a.roll.bytes.now a.roll.count a.roll.accepted),
    )

pub form_of-rank-requires : goal.form_of-rank-requires
unfolding most_paulis
form_of-rank-requires c =
    let a = c.args in
    let M = c.put_unnamed-middle.ensures in
    let T = c.put_unnamed-total.ensures in
    let at = c.at.ensures in
    let most =
    stack_few a.named.now a.own.now a.roll.bytes.now a.roll.count a.roll.accepted c.requires.0 c.requires.1 _ _ _ _ _ M.count T.count
    c.read_exchanged.ensures.list M.list M.rest T.list T.rest (accepted_few a.roll.bytes.now a.roll.count a.roll.accepted) in
    let S =
    stack_is a.named.now a.own.now a.roll.bytes.now a.roll.count a.roll.accepted c.requires.0 c.requires.1 _ _ _ _ _ M.count T.count
    c.read_exchanged.ensures.list M.list M.rest T.list T.rest in
    let own = own_is a.named.now a.own.now a.roll.bytes.now a.roll.count a.roll.accepted c.requires.0 c.requires.1 in
    rw (at.0, at.1) (omega (arith, most), omega (arith, (most_room _ most).0), omega (arith, c.requires.1), rw (S, own) (stacked_on a.named.now (list_of a.roll.bytes.now)))

pub stride_of-requires : goal.stride_of-requires
unfolding most_paulis
stride_of-requires c =
    let a = c.args in
    let M = c.put_unnamed-middle.ensures in
    let T = c.put_unnamed-total.ensures in
    omega (
      arith,
      stack_few a.named.now a.own.now a.roll.bytes.now a.roll.count a.roll.accepted c.requires.0 c.requires.1 _ _ _ _ _ M.count T.count
          c.read_exchanged.ensures.list M.list M.rest T.list T.rest (accepted_few a.roll.bytes.now a.roll.count a.roll.accepted),
    )

pub invariant_of-shape : goal.invariant_of-shape
unfolding most_paulis
invariant_of-shape c =
    let a = c.args in
    let M = c.put_unnamed-middle.ensures in
    let T = c.put_unnamed-total.ensures in
    let most =
    stack_few a.named.now a.own.now a.roll.bytes.now a.roll.count a.roll.accepted c.requires.0 c.requires.1 _ _ _ _ _ M.count T.count
    c.read_exchanged.ensures.list M.list M.rest T.list T.rest (accepted_few a.roll.bytes.now a.roll.count a.roll.accepted) in
    record { wide = omega (arith, c.stride_of.ensures, (most_room _ most).1, c.requires.1) }

pub write_kernel-rows-requires : goal.write_kernel-rows-requires
unfolding most_paulis
write_kernel-rows-requires c =
    let a = c.args in
    let M = c.put_unnamed-middle.ensures in
    let T = c.put_unnamed-total.ensures in
    let at = c.at.ensures in
    let most =
    stack_few a.named.now a.own.now a.roll.bytes.now a.roll.count a.roll.accepted c.requires.0 c.requires.1 _ _ _ _ _ M.count T.count
    c.read_exchanged.ensures.list M.list M.rest T.list T.rest (accepted_few a.roll.bytes.now a.roll.count a.roll.accepted) in
    let S =
    stack_is a.named.now a.own.now a.roll.bytes.now a.roll.count a.roll.accepted c.requires.0 c.requires.1 _ _ _ _ _ M.count T.count
    c.read_exchanged.ensures.list M.list M.rest T.list T.rest in
    let count =
    stack_count a.named.now a.own.now a.roll.bytes.now a.roll.count a.roll.accepted c.requires.0 c.requires.1 _ _ _ _ _ M.count T.count
    c.read_exchanged.ensures.list M.list M.rest T.list T.rest in
    let own = own_is a.named.now a.own.now a.roll.bytes.now a.roll.count a.roll.accepted c.requires.0 c.requires.1 in
    let F = rw (at.0, at.1, own) at c.form_of-rank.ensures in
    rw (c.stride_of.ensures, own) (kernel_room a.named.now (list_of a.roll.bytes.now) (rw own at c.requires.1) _ c.form_of-rank.array_long _ _ most count _ S F.rank F.form)

pub put_kernel-requires : goal.put_kernel-requires
unfolding most_paulis
put_kernel-requires c =
    let a = c.args in
    let M = c.put_unnamed-middle.ensures in
    let T = c.put_unnamed-total.ensures in
    let at = c.at.ensures in
    let most =
    stack_few a.named.now a.own.now a.roll.bytes.now a.roll.count a.roll.accepted c.requires.0 c.requires.1 _ _ _ _ _ M.count T.count
    c.read_exchanged.ensures.list M.list M.rest T.list T.rest (accepted_few a.roll.bytes.now a.roll.count a.roll.accepted) in
    let S =
    stack_is a.named.now a.own.now a.roll.bytes.now a.roll.count a.roll.accepted c.requires.0 c.requires.1 _ _ _ _ _ M.count T.count
    c.read_exchanged.ensures.list M.list M.rest T.list T.rest in
    let count =
    stack_count a.named.now a.own.now a.roll.bytes.now a.roll.count a.roll.accepted c.requires.0 c.requires.1 _ _ _ _ _ M.count T.count
    c.read_exchanged.ensures.list M.list M.rest T.list T.rest in
    let own = own_is a.named.now a.own.now a.roll.bytes.now a.roll.count a.roll.accepted c.requires.0 c.requires.1 in
    let small = rw own at c.requires.1 in
    let F = rw (at.0, at.1, own) at c.form_of-rank.ensures in
    let W = rw (c.stride_of.ensures, own) at c.write_kernel-rows.ensures in
    (kernel_few a.named.now (list_of a.roll.bytes.now) small _ c.form_of-rank.array_long _ _ most count _ S F.rank F.form _ _ W.count W.left, c.requires.1, c.requires.2, rw own (kernel_movable a.named.now (list_of a.roll.bytes.now) small _ c.form_of-rank.array_long _ _ most count _ S F.rank F.form _ _ W.count W.left c.requires.3))

pub put_further-count-requires : goal.put_further-count-requires
unfolding most_paulis
put_further-count-requires c =
    let a = c.args in
    let M = c.put_unnamed-middle.ensures in
    let T = c.put_unnamed-total.ensures in
    let at = c.at.ensures in
    let most =
    stack_few a.named.now a.own.now a.roll.bytes.now a.roll.count a.roll.accepted c.requires.0 c.requires.1 _ _ _ _ _ M.count T.count
    c.read_exchanged.ensures.list M.list M.rest T.list T.rest (accepted_few a.roll.bytes.now a.roll.count a.roll.accepted) in
    let S =
    stack_is a.named.now a.own.now a.roll.bytes.now a.roll.count a.roll.accepted c.requires.0 c.requires.1 _ _ _ _ _ M.count T.count
    c.read_exchanged.ensures.list M.list M.rest T.list T.rest in
    let count =
    stack_count a.named.now a.own.now a.roll.bytes.now a.roll.count a.roll.accepted c.requires.0 c.requires.1 _ _ _ _ _ M.count T.count
    c.read_exchanged.ensures.list M.list M.rest T.list T.rest in
    let own = own_is a.named.now a.own.now a.roll.bytes.now a.roll.count a.roll.accepted c.requires.0 c.requires.1 in
    let small = rw own at c.requires.1 in
    let F = rw (at.0, at.1, own) at c.form_of-rank.ensures in
    let W = rw (c.stride_of.ensures, own) at c.write_kernel-rows.ensures in
    (kernel_few a.named.now (list_of a.roll.bytes.now) small _ c.form_of-rank.array_long _ _ most count _ S F.rank F.form _ _ W.count W.left, c.requires.2, c.requires.3)

pub overflow_mul-count : goal.overflow_mul-count
unfolding most_paulis
overflow_mul-count c =
    let a = c.args in
    let M = c.put_unnamed-middle.ensures in
    let T = c.put_unnamed-total.ensures in
    let at = c.at.ensures in
    let most =
    stack_few a.named.now a.own.now a.roll.bytes.now a.roll.count a.roll.accepted c.requires.0 c.requires.1 _ _ _ _ _ M.count T.count
    c.read_exchanged.ensures.list M.list M.rest T.list T.rest (accepted_few a.roll.bytes.now a.roll.count a.roll.accepted) in
    let S =
    stack_is a.named.now a.own.now a.roll.bytes.now a.roll.count a.roll.accepted c.requires.0 c.requires.1 _ _ _ _ _ M.count T.count
    c.read_exchanged.ensures.list M.list M.rest T.list T.rest in
    let count =
    stack_count a.named.now a.own.now a.roll.bytes.now a.roll.count a.roll.accepted c.requires.0 c.requires.1 _ _ _ _ _ M.count T.count
    c.read_exchanged.ensures.list M.list M.rest T.list T.rest in
    let own = own_is a.named.now a.own.now a.roll.bytes.now a.roll.count a.roll.accepted c.requires.0 c.requires.1 in
    let small = rw own at c.requires.1 in
    let F = rw (at.0, at.1, own) at c.form_of-rank.ensures in
    let W = rw (c.stride_of.ensures, own) at c.write_kernel-rows.ensures in
    let low = kernel_few a.named.now (list_of a.roll.bytes.now) small _ c.form_of-rank.array_long _ _ most count _ S F.rank F.form _ _ W.count W.left in
    let further = further_few a.named.now a.own.now in
    omega (arith, low, further, c.put_further-count.ensures.count, c.requires.2)

pub overflow_add-count : goal.overflow_add-count
unfolding most_paulis
overflow_add-count c =
    let a = c.args in
    let M = c.put_unnamed-middle.ensures in
    let T = c.put_unnamed-total.ensures in
    let at = c.at.ensures in
    let most =
    stack_few a.named.now a.own.now a.roll.bytes.now a.roll.count a.roll.accepted c.requires.0 c.requires.1 _ _ _ _ _ M.count T.count
    c.read_exchanged.ensures.list M.list M.rest T.list T.rest (accepted_few a.roll.bytes.now a.roll.count a.roll.accepted) in
    let S =
    stack_is a.named.now a.own.now a.roll.bytes.now a.roll.count a.roll.accepted c.requires.0 c.requires.1 _ _ _ _ _ M.count T.count
    c.read_exchanged.ensures.list M.list M.rest T.list T.rest in
    let count =
    stack_count a.named.now a.own.now a.roll.bytes.now a.roll.count a.roll.accepted c.requires.0 c.requires.1 _ _ _ _ _ M.count T.count
    c.read_exchanged.ensures.list M.list M.rest T.list T.rest in
    let own = own_is a.named.now a.own.now a.roll.bytes.now a.roll.count a.roll.accepted c.requires.0 c.requires.1 in
    let small = rw own at c.requires.1 in
    let F = rw (at.0, at.1, own) at c.form_of-rank.ensures in
    let W = rw (c.stride_of.ensures, own) at c.write_kernel-rows.ensures in
    let low = kernel_few a.named.now (list_of a.roll.bytes.now) small _ c.form_of-rank.array_long _ _ most count _ S F.rank F.form _ _ W.count W.left in
    let further = further_few a.named.now a.own.now in
    omega (arith, low, further, c.put_further-count.ensures.count, c.requires.2)

pub put_phase-requires : goal.put_phase-requires
unfolding most_paulis
put_phase-requires c =
    let a = c.args in
    let M = c.put_unnamed-middle.ensures in
    let T = c.put_unnamed-total.ensures in
    let at = c.at.ensures in
    let most =
    stack_few a.named.now a.own.now a.roll.bytes.now a.roll.count a.roll.accepted c.requires.0 c.requires.1 _ _ _ _ _ M.count T.count
    c.read_exchanged.ensures.list M.list M.rest T.list T.rest (accepted_few a.roll.bytes.now a.roll.count a.roll.accepted) in
    let S =
    stack_is a.named.now a.own.now a.roll.bytes.now a.roll.count a.roll.accepted c.requires.0 c.requires.1 _ _ _ _ _ M.count T.count
    c.read_exchanged.ensures.list M.list M.rest T.list T.rest in
    let count =
    stack_count a.named.now a.own.now a.roll.bytes.now a.roll.count a.roll.accepted c.requires.0 c.requires.1 _ _ _ _ _ M.count T.count
    c.read_exchanged.ensures.list M.list M.rest T.list T.rest in
    let own = own_is a.named.now a.own.now a.roll.bytes.now a.roll.count a.roll.accepted c.requires.0 c.requires.1 in
    let small = rw own at c.requires.1 in
    let F = rw (at.0, at.1, own) at c.form_of-rank.ensures in
    let W = rw (c.stride_of.ensures, own) at c.write_kernel-rows.ensures in
    let low = kernel_few a.named.now (list_of a.roll.bytes.now) small _ c.form_of-rank.array_long _ _ most count _ S F.rank F.form _ _ W.count W.left in
    let further = further_few a.named.now a.own.now in
    (omega (arith, low, further, c.put_further-count.ensures.count, c.requires.2), omega arith)

pub overflow_add-result : goal.overflow_add-result
unfolding most_paulis
overflow_add-result c =
    let a = c.args in
    let M = c.put_unnamed-middle.ensures in
    let T = c.put_unnamed-total.ensures in
    let at = c.at.ensures in
    let most =
    stack_few a.named.now a.own.now a.roll.bytes.now a.roll.count a.roll.accepted c.requires.0 c.requires.1 _ _ _ _ _ M.count T.count
    c.read_exchanged.ensures.list M.list M.rest T.list T.rest (accepted_few a.roll.bytes.now a.roll.count a.roll.accepted) in
    let S =
    stack_is a.named.now a.own.now a.roll.bytes.now a.roll.count a.roll.accepted c.requires.0 c.requires.1 _ _ _ _ _ M.count T.count
    c.read_exchanged.ensures.list M.list M.rest T.list T.rest in
    let count =
    stack_count a.named.now a.own.now a.roll.bytes.now a.roll.count a.roll.accepted c.requires.0 c.requires.1 _ _ _ _ _ M.count T.count
    c.read_exchanged.ensures.list M.list M.rest T.list T.rest in
    let own = own_is a.named.now a.own.now a.roll.bytes.now a.roll.count a.roll.accepted c.requires.0 c.requires.1 in
    let small = rw own at c.requires.1 in
    let F = rw (at.0, at.1, own) at c.form_of-rank.ensures in
    let W = rw (c.stride_of.ensures, own) at c.write_kernel-rows.ensures in
    let low = kernel_few a.named.now (list_of a.roll.bytes.now) small _ c.form_of-rank.array_long _ _ most count _ S F.rank F.form _ _ W.count W.left in
    let further = further_few a.named.now a.own.now in
    omega (arith, low, further, c.put_further-count.ensures.count, c.requires.2)

pub returns-clause-few : goal.returns-clause-few
unfolding most_paulis
returns-clause-few c =
    let a = c.args in
    let M = c.put_unnamed-middle.ensures in
    let T = c.put_unnamed-total.ensures in
    let at = c.at.ensures in
    let most =
    stack_few a.named.now a.own.now a.roll.bytes.now a.roll.count a.roll.accepted c.requires.0 c.requires.1 _ _ _ _ _ M.count T.count
    c.read_exchanged.ensures.list M.list M.rest T.list T.rest (accepted_few a.roll.bytes.now a.roll.count a.roll.accepted) in
    let S =
    stack_is a.named.now a.own.now a.roll.bytes.now a.roll.count a.roll.accepted c.requires.0 c.requires.1 _ _ _ _ _ M.count T.count
    c.read_exchanged.ensures.list M.list M.rest T.list T.rest in
    let count =
    stack_count a.named.now a.own.now a.roll.bytes.now a.roll.count a.roll.accepted c.requires.0 c.requires.1 _ _ _ _ _ M.count T.count
    c.read_exchanged.ensures.list M.list M.rest T.list T.rest in
    let own = own_is a.named.now a.own.now a.roll.bytes.now a.roll.count a.roll.accepted c.requires.0 c.requires.1 in
    let small = rw own at c.requires.1 in
    let F = rw (at.0, at.1, own) at c.form_of-rank.ensures in
    let W = rw (c.stride_of.ensures, own) at c.write_kernel-rows.ensures in
    let low = kernel_few a.named.now (list_of a.roll.bytes.now) small _ c.form_of-rank.array_long _ _ most count _ S F.rank F.form _ _ W.count W.left in
    let further = further_few a.named.now a.own.now in
    omega (arith, low, further, c.put_further-count.ensures.count, c.requires.2)

pub returns-clause-list : goal.returns-clause-list
unfolding most_paulis
returns-clause-list c =
    let a = c.args in
    let M = c.put_unnamed-middle.ensures in
    let T = c.put_unnamed-total.ensures in
    let at = c.at.ensures in
    let most =
    stack_few a.named.now a.own.now a.roll.bytes.now a.roll.count a.roll.accepted c.requires.0 c.requires.1 _ _ _ _ _ M.count T.count
    c.read_exchanged.ensures.list M.list M.rest T.list T.rest (accepted_few a.roll.bytes.now a.roll.count a.roll.accepted) in
    let S =
    stack_is a.named.now a.own.now a.roll.bytes.now a.roll.count a.roll.accepted c.requires.0 c.requires.1 _ _ _ _ _ M.count T.count
    c.read_exchanged.ensures.list M.list M.rest T.list T.rest in
    let count =
    stack_count a.named.now a.own.now a.roll.bytes.now a.roll.count a.roll.accepted c.requires.0 c.requires.1 _ _ _ _ _ M.count T.count
    c.read_exchanged.ensures.list M.list M.rest T.list T.rest in
    let own = own_is a.named.now a.own.now a.roll.bytes.now a.roll.count a.roll.accepted c.requires.0 c.requires.1 in
    let small = rw own at c.requires.1 in
    let F = rw (at.0, at.1, own) at c.form_of-rank.ensures in
    let W = rw (c.stride_of.ensures, own) at c.write_kernel-rows.ensures in
    let U = c.put_further-count.ensures in
    result_is a.named.now a.own.now (list_of a.roll.bytes.now) own _ _ _ _ _ U.count
    (kernel_put a.named.now (list_of a.roll.bytes.now) small _ c.form_of-rank.array_long _ _ most count _ S F.rank F.form _ _ W.count W.left c.requires.3 _ (rw own at c.put_kernel.ensures.list)) U.list U.rest c.put_phase.ensures.list c.put_phase.ensures.rest
