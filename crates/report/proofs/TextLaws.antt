-- What the call leaves where it is lent the room for every text.
use mathlib.Core.Path.{◌≡◌, refl, sym, ap, ◌∙◌}
use Rattle.std.specs.Result.{result_unwrap_or}
use mathlib.Core.List.{List}
use Prim.Native.Nat.{ℕ, ◌≤◌}
use native.Mathlib.Omega.{arith}
use lib.ListN.{length, take}
use Rattle.pauli.specs.declared.refusal.Refusal.{Refusal}
use Rattle.pauli.specs.Told.{Told, answer}
use Rattle.closing_report.specs.Bound.{NeverRefused, Printed}
use Rattle.closing_report.specs.Contract.{ReportCall}
use Rattle.closing_report.specs.Listing.{text_of}
use Rattle.closing_report.proofs.report.BoundLaws.{never_refused}
use Rattle.std.proofs.Common.{Err, Ok, Result}
use Rattle.pauli.specs.Refusals.{told_of}

module _ (input work out : List ℕ) (r : Result ℕ Refusal) (work' out' : List ℕ) (c : ReportCall input work out r work' out')
    (words : length work ≡ 4096) (room : length out ≡ 53924) where
  printed : Printed input r out'
  unfolding NeverRefused
  printed = never_refused input work out r work' out' c (omega arith) (omega arith)

  not_refused : (q : Refusal) → r ≡ Err q → ⊥
  not_refused q e =
      let told = sym (ap told_of e) ∙ printed.told in
      let z : ◌≡◌ {A = ℕ} 0 1 = cc in
      omega arith

  text_put : (k : ℕ) → r ≡ Ok k → (take k out' ≡ text_of input) × (k ≤ length out')
  text_put k e =
      let told : ◌≡◌ {A = Told ℕ} (answer k) (answer printed.size) = sym (ap told_of e) ∙ printed.told in
      let same : k ≡ printed.size = cc in
      (ap (λ (n : ℕ). take n out') same ∙ printed.text, omega (arith, same, printed.room))

  -- so the length told is that of the text
  pub text_told : (k : ℕ) → k ≡ result_unwrap_or r 0 → (take k out' ≡ text_of input) × (k ≤ length out')
  text_told k e = go r refl
    where
      go : (q : Result ℕ Refusal) → r ≡ q → (take k out' ≡ text_of input) × (k ≤ length out')
      go (Ok n) f = let same : k ≡ n = e ∙ ap (λ (q : Result ℕ Refusal). result_unwrap_or q 0) f in rw same (text_put n f)
      go (Err q) f = absurd (not_refused q f)
