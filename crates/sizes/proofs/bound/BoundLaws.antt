-- What is told of the bound on standard generators.
use Rattle.std.proofs.Common.{◌≡◌, List, ℕ, ◌+◌, ◌*◌, max, length}
use Rattle.pauli.specs.Condense.{list_of}
use Rattle.pauli.specs.Roll.{support, count_of}
use Rattle.pauli.specs.Told.{answer, refused, map_told}
use Rattle.pauli.proofs.joined.JoinLaws.{accepted, count_refused}
use Rattle.sizes.specs.Calls.{bound_of, standard_bound}

module _ (b : List ℕ) where
  pub bound_refused : (m p : ℕ) → count_of b ≡ refused m p → refused m p ≡ standard_bound b
  unfolding standard_bound map_told
  bound_refused m p e = rw (count_refused b m p e)

  pub bound_told : (n : ℕ) → count_of b ≡ answer n → (s : ℕ) → s ≡ length (support (list_of b)) → (k : ℕ) → k ≡ 2 + (10 + 8 * s) * max n 1
      → answer k ≡ standard_bound b
  unfolding standard_bound map_told bound_of
  bound_told n e s es k ek = rw ((accepted b n e).0, (accepted b n e).1, ek, es)
