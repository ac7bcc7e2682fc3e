-- What is told of a page that is not listed.
use Rattle.std.proofs.Common.{◌≡◌, ◌∙◌, List, ℕ, ◌-◌, ◌*◌, ◌/◌, ◌^◌, min, ltb}
use Rattle.pauli.specs.Pauli.{Pauli}
use Rattle.pauli.specs.Told.{Told, answer, refused, refuse_if, and_then}
use Rattle.pauli_theory.specs.Group.{Promise}
use Rattle.pauli_theory.specs.Standard.{rank, phase_step}
use Rattle.pauli_theory.specs.Listing.{phase_count, page_size}
use Rattle.pauli_group.specs.Calls.{one_list, most_listed}
use Rattle.sizes.specs.Calls.{page_elements, page_call}

module _ (promise : Promise) (start count : ℕ) (b : List ℕ) (words : ℕ) where
  pub page_refused : (m p : ℕ) → one_list b words ≡ refused m p → refused m p ≡ page_call promise start count b words
  unfolding page_call and_then
  page_refused m p e = rw e

  pub page_told_lem : (gs : List Pauli) → one_list b words ≡ answer gs → (r step : ℕ) → r ≡ rank gs → step ≡ phase_step promise gs → (t : Told ℕ)
      → t ≡ refuse_if (ltb most_listed r) 10 0 (answer (min (page_size count) (2 ^ r * (4 / step) - start)))
      → t ≡ page_call promise start count b words
  unfolding page_call and_then page_elements phase_count
  page_told_lem gs e r step er es t h = h ∙ rw (e, er, es)
