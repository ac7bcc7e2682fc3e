-- The exponents first, then the sets.
use Rattle.std.proofs.Common.{refl, sym, ◌∙◌}
use Rattle.pauli.specs.Signed.{held}
use Rattle.claims.proofs.membership.ClaimLaws.{turned_value, turned_x, turned_z}
use Rattle.claims.proofs.membership.is_turned.Goals as goal

pub returns-then-value-p : goal.returns-then-value-p
unfolding held
returns-then-value-p c = turned_value c.args.exponent _ (held c.args.product) (held c.args.p) refl c.if-value-p.true

pub returns-then-not-is_same_set : goal.returns-then-not-is_same_set
unfolding held
returns-then-not-is_same_set c =
    turned_x c.args.exponent _ (held c.args.product) (held c.args.p) refl c.if-value-p.false (sym c.is_same_set.ensures ∙ c.if-not-is_same_set.true)

pub returns : goal.returns
unfolding held
returns c =
    c.is_same_set-2.ensures
    ∙ turned_z c.args.exponent _ (held c.args.product) (held c.args.p) refl c.if-value-p.false (sym c.is_same_set.ensures ∙ c.if-not-is_same_set.false)
