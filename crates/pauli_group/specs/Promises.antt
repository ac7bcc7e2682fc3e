-- What the caller promises of a list.
use Rattle.std.specs.Prelude.{ℕ, zero, suc}
use Rattle.pauli_theory.specs.Group.{Promise as Promised, none, abelian, not_abelian}
use Rattle.pauli_group.specs.declared.promise.Promise.{Promise}
use Rattle.pauli_group.specs.declared.promise.Promise.TheVariants.{None, Abelian, NotAbelian}

abbrev pub promise_of : Promise → Promised
promise_of None = none
promise_of Abelian = abelian
promise_of NotAbelian = not_abelian

-- "A promise (none, abelian, not abelian)": 0, 1 and 2; every other number is none
unfoldable pub promise_numbered : ℕ → Promised
promise_numbered zero = none
promise_numbered (suc zero) = abelian
promise_numbered (suc (suc zero)) = not_abelian
promise_numbered (suc (suc (suc n))) = none
