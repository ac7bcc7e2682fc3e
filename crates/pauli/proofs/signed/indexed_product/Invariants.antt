-- Invariant: the product so far, times the Paulis at the places left, is the product.
use Rattle.std.proofs.Common.{◌≡◌}
use Rattle.pauli.proofs.signed.SignedLaws.{product_at}
use Rattle.pauli.specs.Signed.{held, paulis_in, product_stored}
use Rattle.pauli.specs.PlaceSet.{set_in}
use Rattle.pauli.proofs.signed.indexed_product.Given as goal

abbrev pub invariant-loop-p : goal.invariant-loop-p
invariant-loop-p l =
    (goal.iterator-loop-p).can_next l.p-iterator × (goal.iterator-loop-p).is_finite l.p-iterator
    × (product_stored (set_in l.fn.set) (paulis_in l.list) ≡ product_at l.list l.p-iterator (held l.product))
