-- An element with a qubit that the support has not is not claimed; another is compared over the places.
use Rattle.std.proofs.Common.{sym, ◌∙◌, ap}
use Rattle.pauli.specs.Pauli.{turned}
use Rattle.pauli.specs.Signed.{held}
use Rattle.pauli_theory.specs.Claims.{same_value}
use Rattle.pauli_group.proofs.member.FactorLaws.{covered_on, covered_off, covered_readable}
use Rattle.claims.proofs.membership.ClaimLaws.{same_off, same_on}
use Rattle.claims.proofs.membership.is_claimed.Goals as goal

pub returns-then-not-is_supported : goal.returns-then-not-is_supported
returns-then-not-is_supported c = λ q on same.
    same_off _ c.requires.1 _ q _ on (covered_off _ _ (sym c.is_supported.ensures ∙ c.if-not-is_supported.true))

pub condense_from-requires : goal.condense_from-requires
condense_from-requires c =
    (covered_readable _ _ c.args.roll.accepted _ c.requires.0 _ c.requires.1 (sym c.is_supported.ensures ∙ c.if-not-is_supported.false), c.requires.2)

pub returns : goal.returns
returns c = λ q on same.
    c.is_turned.ensures ∙ ap (same_value (turned c.args.exponent (held c.args.product))) c.condense_from.ensures
    ∙ same_on _ c.requires.1 _ q _ on (covered_on _ _ (sym c.is_supported.ensures ∙ c.if-not-is_supported.false)) _ same
