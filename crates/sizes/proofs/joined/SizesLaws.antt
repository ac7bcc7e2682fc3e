-- What is told of two rolls that are not joined.
use Rattle.std.proofs.Common.{◌≡◌, sym, ap, ◌∙◌, List, ◌++◌, ℕ, suc, ◌+◌, min, arith, length, length-append}
use Rattle.pauli.specs.Condense.{list_of}
use Rattle.pauli.specs.JoinCalls.{counts_of}
use Rattle.pauli.specs.Roll.{support, write}
use Rattle.pauli.specs.Support.{most_qubits}
use Rattle.pauli.specs.Told.{answer, refused, map_told}
use Rattle.pauli.proofs.joined.JoinLaws.{Joining, accepted, counts_refused}
use Rattle.sizes.specs.Calls.{sizes_of, joined_sizes}

module _ (l r : List ℕ) where
  pub sizes_refused : (m p : ℕ) → counts_of l r ≡ refused m p → refused m p ≡ joined_sizes l r
  unfolding joined_sizes map_told
  sizes_refused m p e = rw (counts_refused l r m p e)

  pub sizes_told : (nl nr : ℕ) → Joining l r nl nr → (bytes qubits : ℕ) → bytes ≡ length (write (list_of l ++ list_of r))
      → qubits ≡ min (length (support (list_of l ++ list_of r))) (suc most_qubits)
      → answer (record { bytes = bytes; count = nl + nr; qubits = qubits }) ≡ joined_sizes l r
  unfolding joined_sizes map_told sizes_of most_qubits
  sizes_told nl nr j bytes qubits eb eq =
      let ps = list_of l ++ list_of r in
      let count : nl + nr ≡ length ps =
      sym (length-append (list_of l) (list_of r) ∙ omega (arith, (accepted l nl j.left).1, (accepted r nr j.right).1)) in
      let distinct : qubits ≡ length (support ps) = omega (arith, eq, j.qubits) in
      let same : record { bytes = bytes; count = nl + nr; qubits = qubits } ≡ sizes_of ps =
      λ k. record { bytes = eb k; count = count k; qubits = distinct k } in
      rw j.joined (ap answer same)
