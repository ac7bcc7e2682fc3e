-- Invariant: the first i products are written.
use Rattle.std.proofs.Common.{◌*◌, ◌/◌, ◌^◌, take, drop}
use Rattle.pauli.specs.Signed.{list_in}
use Rattle.binar.specs.Words.{matrix}
use Rattle.pauli.specs.Pauli.{indexed_product}
use Rattle.pauli_group.proofs.list.ListLaws.{StoredUpTo}
use Rattle.pauli_group.specs.Inner.Area.{row_words, stride_of}
use Rattle.pauli_group.proofs.form.put_products.Given as goal

abbrev pub invariant-loop-i : goal.invariant-loop-i
invariant-loop-i l = StoredUpTo (λ v. indexed_product (v / 2 ^ (64 * row_words)) (list_in l.initial.w l.from.base l.from.count)) (take l.to.count (drop l.first (matrix (stride_of l.n) l.n l.initial.w))) l.to.base l.to.count l.initial.w l.i l.w
