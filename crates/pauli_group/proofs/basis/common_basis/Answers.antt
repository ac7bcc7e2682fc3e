use Rattle.std.proofs.Common.{inl, inr, le_trans, arith}
use Rattle.pauli_group.proofs.area.AreaLaws.{form_room_more}
use Rattle.pauli_group.proofs.basis.BasisLaws.{stack_count, stack_first, stack_on, stack_rank, stack_zeros, dependencies_on, basis_count, basis_is}
use Rattle.pauli_group.proofs.common.PartLaws.{lists_few}
use Rattle.pauli_group.proofs.source.SourceLaws.{source_counted}
use Rattle.pauli_group.proofs.basis.common_basis.Goals as goal

pub overflow_add-n : goal.overflow_add-n
overflow_add-n c =
    let few = lists_few _ _ _ _ (source_counted c.args.pair.left) (source_counted c.args.pair.right) c.args.pair.few in
    omega (arith, stack_count _ _ few _ _ _ c.stack_standard-stacked.ensures)

pub at-both-requires : goal.at-both-requires
at-both-requires c =
    let few = lists_few _ _ _ _ (source_counted c.args.pair.left) (source_counted c.args.pair.right) c.args.pair.few in
    omega (arith, stack_count _ _ few _ _ _ c.stack_standard-stacked.ensures)

pub form_of-rank-requires : goal.form_of-rank-requires
form_of-rank-requires c =
    let few = lists_few _ _ _ _ (source_counted c.args.pair.left) (source_counted c.args.pair.right) c.args.pair.few in
    let S = c.stack_standard-stacked.ensures in
    let both = c.at-both.ensures in
    let n = stack_count _ _ few _ _ _ S in
    rw (both.0, both.1) (omega (arith, n), omega (arith, (form_room_more _ n).0), c.requires.few, stack_on _ _ few _ _ _ S _ c.requires.count)

pub overflow_sub-n : goal.overflow_sub-n
overflow_sub-n c =
    let few = lists_few _ _ _ _ (source_counted c.args.pair.left) (source_counted c.args.pair.right) c.args.pair.few in
    let both = c.at-both.ensures in
    let F = rw (both.0, both.1) at c.form_of-rank.ensures in
    stack_rank _ _ few _ _ _ c.stack_standard-stacked.ensures _ c.requires.count _ F.rank _ F.form F.rest

pub put_products-requires : goal.put_products-requires
put_products-requires c =
    let few = lists_few _ _ _ _ (source_counted c.args.pair.left) (source_counted c.args.pair.right) c.args.pair.few in
    let S = c.stack_standard-stacked.ensures in
    let both = c.at-both.ensures in
    let F = rw (both.0, both.1) at c.form_of-rank.ensures in
    let n = stack_count _ _ few _ _ _ S in
    let rank = stack_rank _ _ few _ _ _ S _ c.requires.count _ F.rank _ F.form F.rest in
    let zeros = stack_zeros _ _ few _ _ _ S _ c.requires.count _ F.rank _ F.form F.rest in
    let from = c.at-first.ensures in
    let to = c.at-zeros.ensures in
    rw (from.0, from.1, to.0, to.1) (n, omega (arith, rank), stack_first _ _ few _ _ _ S, omega arith, inr (omega (arith, zeros)))

pub form_of-count-requires : goal.form_of-count-requires
form_of-count-requires c =
    let few = lists_few _ _ _ _ (source_counted c.args.pair.left) (source_counted c.args.pair.right) c.args.pair.few in
    let S = c.stack_standard-stacked.ensures in
    let both = c.at-both.ensures in
    let F = rw (both.0, both.1) at c.form_of-rank.ensures in
    let from = c.at-first.ensures in
    let to = c.at-zeros.ensures in
    let put = rw (from.0, from.1, to.0, to.1) at c.put_products.ensures.list in
    let zeros = stack_zeros _ _ few _ _ _ S _ c.requires.count _ F.rank _ F.form F.rest in
    rw (to.0, to.1) (omega (arith, zeros), omega (arith, (form_room_more _ (le_trans zeros (omega arith))).0), c.requires.few, dependencies_on _ _ few _ _ _ S _ c.requires.count _ F.rank _ F.form F.rest _ put)

pub at-basis-requires : goal.at-basis-requires
at-basis-requires c =
    let few = lists_few _ _ _ _ (source_counted c.args.pair.left) (source_counted c.args.pair.right) c.args.pair.few in
    let S = c.stack_standard-stacked.ensures in
    let both = c.at-both.ensures in
    let F = rw (both.0, both.1) at c.form_of-rank.ensures in
    let from = c.at-first.ensures in
    let to = c.at-zeros.ensures in
    let put = rw (from.0, from.1, to.0, to.1) at c.put_products.ensures.list in
    let E = rw (to.0, to.1) at c.form_of-count.ensures in
    let zeros = stack_zeros _ _ few _ _ _ S _ c.requires.count _ F.rank _ F.form F.rest in
    omega (arith, zeros, basis_count _ _ few _ _ _ S _ c.requires.count _ F.rank _ F.form F.rest _ put _ E.rank _ E.form E.rest)

pub put_products-requires-2 : goal.put_products-requires-2
put_products-requires-2 c =
    let few = lists_few _ _ _ _ (source_counted c.args.pair.left) (source_counted c.args.pair.right) c.args.pair.few in
    let S = c.stack_standard-stacked.ensures in
    let both = c.at-both.ensures in
    let F = rw (both.0, both.1) at c.form_of-rank.ensures in
    let from = c.at-first.ensures in
    let to = c.at-zeros.ensures in
    let put = rw (from.0, from.1, to.0, to.1) at c.put_products.ensures.list in
    let E = rw (to.0, to.1) at c.form_of-count.ensures in
    let basis = c.at-basis.ensures in
    let zeros = stack_zeros _ _ few _ _ _ S _ c.requires.count _ F.rank _ F.form F.rest in
    let count = basis_count _ _ few _ _ _ S _ c.requires.count _ F.rank _ F.form F.rest _ put _ E.rank _ E.form E.rest in
    rw (to.0, to.1, basis.0, basis.1) (omega (arith, zeros), omega (arith, count), zeros, omega arith, inl (omega (arith, zeros)))

pub returns : goal.returns
returns c =
    let few = lists_few _ _ _ _ (source_counted c.args.pair.left) (source_counted c.args.pair.right) c.args.pair.few in
    let S = c.stack_standard-stacked.ensures in
    let both = c.at-both.ensures in
    let F = rw (both.0, both.1) at c.form_of-rank.ensures in
    let from = c.at-first.ensures in
    let to = c.at-zeros.ensures in
    let put = rw (from.0, from.1, to.0, to.1) at c.put_products.ensures.list in
    let E = rw (to.0, to.1) at c.form_of-count.ensures in
    let basis = c.at-basis.ensures in
    let list = rw (to.0, to.1, basis.0, basis.1) at c.put_products-2.ensures.list in
    let zeros = stack_zeros _ _ few _ _ _ S _ c.requires.count _ F.rank _ F.form F.rest in
    let count = basis_count _ _ few _ _ _ S _ c.requires.count _ F.rank _ F.form F.rest _ put _ E.rank _ E.form E.rest in record {
      few = omega (arith, zeros, count);
      list = basis_is _ _ few _ _ _ S _ c.requires.count _ F.rank _ F.form F.rest _ put _ E.rank _ E.form E.rest _ list;
    }
