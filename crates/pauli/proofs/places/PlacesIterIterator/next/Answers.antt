-- The lowest place is taken from the low word, from the high one, or there is none.
use Rattle.std.proofs.Common.{◌∙◌, sym, ap, length, arith}
use Rattle.pauli.proofs.places.Members.{take_low, take_high, take_none}
use Rattle.pauli.proofs.places.PlacesIterIterator.next.Goals as goal

pub returns-then-low-ne0-clause-steps : goal.returns-then-low-ne0-clause-steps
returns-then-low-ne0-clause-steps c = sym c.self.view_is ∙ take_low c.self.inside.left (omega arith) c.if-low-ne0.true

pub returns-then-low-ne0-clause-goes : goal.returns-then-low-ne0-clause-goes
returns-then-low-ne0-clause-goes c =
    record { on = λ _. (tt, tt, omega (arith, ap length (sym c.self.view_is ∙ take_low c.self.inside.left (omega arith) c.if-low-ne0.true))); keeps = tt; rests = λ _. tt }

pub returns-then-high-ne0-clause-steps : goal.returns-then-high-ne0-clause-steps
returns-then-high-ne0-clause-steps c = sym c.self.view_is ∙ take_high c.self.inside.left (omega arith) c.if-low-ne0.false c.if-high-ne0.true

pub returns-then-high-ne0-clause-goes : goal.returns-then-high-ne0-clause-goes
returns-then-high-ne0-clause-goes c =
    record { on = λ _. (tt, tt, omega (arith, ap length (sym c.self.view_is ∙ take_high c.self.inside.left (omega arith) c.if-low-ne0.false c.if-high-ne0.true))); keeps = tt; rests = λ _. tt }

pub returns-clause-steps : goal.returns-clause-steps
returns-clause-steps c = let none = sym c.self.view_is ∙ take_none c.self.inside.left c.if-low-ne0.false c.if-high-ne0.false in (none, none)
