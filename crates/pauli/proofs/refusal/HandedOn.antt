-- A refusal that a call hands on.
use Rattle.std.proofs.Common.{◌≡◌, ap, ◌∙◌, Result, Err}
use Rattle.std.specs.Result.{IsErrAnd}
use Rattle.std.proofs.lemmas.Result.{err_from_is_err_and}
use Rattle.pauli.specs.declared.refusal.Refusal.{Refusal}

-- what a `?` returns is the refusal that it met
pub handed_on : {A : Type 0} (r : Result A Refusal) (q : Refusal) → IsErrAnd r (λ e. e ≡ q) → r ≡ Err q
handed_on r q h = let p = err_from_is_err_and r h in p.1 ∙ ap Err p.2
