use Rattle.std.proofs.Common.{◌≤◌, arith}
use Rattle.pauli.specs.Signed.{list_in}
use Rattle.pauli.proofs.write.Writers.{length_list}
use Rattle.pauli_group.specs.Inner.Area.{standard_at}
use Rattle.pauli_group.proofs.area.AreaLaws.{form_room_more}
use Rattle.pauli_group.proofs.standard.StandardLaws.{from_products_few}
use Rattle.pauli_group.proofs.group.BuildLaws.{built, rank_few}
use Rattle.pauli_group.proofs.group.build.Goals as goal

pub form_of-rank-requires : goal.form_of-rank-requires
form_of-rank-requires c =
    let at = c.at-list.ensures in
    let n : c.args.n ≤ 129 = omega (arith, c.requires.0) in
    rw (at.0, at.1) (omega (arith, n), omega (arith, (form_room_more c.args.n n).0), c.requires.1, c.requires.2)

pub standardize-total-requires : goal.standardize-total-requires
standardize-total-requires c =
    let at = c.at-list.ensures in
    let f = rw (at.0, at.1) at c.form_of-rank.ensures in
    (c.requires.0, omega (arith, f.rank, rank_few c.args.w.now c.args.n c.args.s))

pub invariant_of-result : goal.invariant_of-result
invariant_of-result c =
    let at = c.at-list.ensures in
    let f = rw (at.0, at.1) at c.form_of-rank.ensures in
    let x = c.put_products.new.w in
    let low : c.form_of-rank.result ≤ c.args.n = omega (arith, f.rank, rank_few c.args.w.now c.args.n c.args.s) in
    let few = from_products_few c.form_of-rank.result (list_in x standard_at c.args.n) (rw (length_list x standard_at c.args.n) low) in
    record { few = (c.requires.0, c.requires.1, omega (arith, c.standardize-total.ensures.count, few, low, c.requires.0)) }

pub returns-clause-built : goal.returns-clause-built
returns-clause-built c =
    let list = c.at-list.ensures in
    let products = c.at-products.ensures in
    let f = rw (list.0, list.1) at c.form_of-rank.ensures in
    let p = rw (list.0, list.1, products.0, products.1) at c.put_products.ensures in
    let t = c.standardize-total.ensures in
    built c.args.w.now _ _ _ c.args.n c.args.s _ _ c.requires.0 c.told-w f.rank f.form f.rest p.list p.rest t.count t.list t.rest
