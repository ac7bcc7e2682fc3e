-- Paulis over the places of a support: products, commutation, and how a roll holds them.
use Rattle.std.proofs.Common.{◌≡◌, ℕ, ◌+◌, ◌*◌, ◌%◌, List, sym, refl, ap, ap₂, ◌∙◌}
use Rattle.pauli.specs.Roll.{Sparse, by_value}
use Rattle.pauli.specs.Support.{Rising}
use Rattle.pauli.specs.Condense.{condensed}
use Rattle.pauli.specs.Pauli.{Pauli, times, anticommute, select}
use Rattle.pauli.specs.PauliTheorems.{On, PauliOn}
use Rattle.pauli.specs.Sets.{members, condense, expand, sparse_of}
use Rattle.pauli.specs.Writing.{sparse_over}
use Rattle.pauli.proofs.signed.Algebra.{pauli_path}
use Rattle.pauli.proofs.condense.Places.{select_rises, condense_sum, condense_dot, expand_condense}
use Rattle.pauli.proofs.condense.Sets.{members_set}

sparse_path : {p q : Sparse} → p.e ≡ q.e → p.xs ≡ q.xs → p.zs ≡ q.zs → p ≡ q
sparse_path a b c = λ i. record { e = a i; xs = b i; zs = c i }

module _ (qs : List ℕ) (h : Rising 0 qs) where
  -- the qubits at the places of a set
  pub select_members : (v : ℕ) → On qs v → select (condense qs v) qs ≡ members v
  unfolding expand
  select_members v on = sym (members_set (select (condense qs v) qs) (select_rises (condense qs v) 0 qs h)) ∙ ap members (expand_condense qs h v on)

  pub condensed_times : (p q : Pauli) → PauliOn qs p → times (condensed qs p) (condensed qs q) ≡ condensed qs (times p q)
  unfolding times condensed
  condensed_times p q on =
      pauli_path (ap (λ (d : ℕ). (p.e + q.e + 2 * d) % 4) (condense_dot qs h p.z q.x on.z)) (sym (condense_sum qs p.x q.x)) (sym (condense_sum qs p.z q.z))

  pub condensed_anticommute : (p q : Pauli) → PauliOn qs p → anticommute (condensed qs p) (condensed qs q) ≡ anticommute p q
  unfolding anticommute condensed
  condensed_anticommute p q on = ap₂ (λ (a b : ℕ). (a + b) % 2) (condense_dot qs h p.x q.z on.x) (condense_dot qs h p.z q.x on.z)

  pub sparse_over_lem : (p : Pauli) → PauliOn qs p → sparse_over qs (condensed qs p) ≡ by_value (sparse_of p)
  unfolding sparse_over condensed by_value sparse_of
  sparse_over_lem p on = sparse_path refl (select_members p.x on.x) (select_members p.z on.z)
