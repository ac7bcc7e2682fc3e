-- Of left, of right, or empty.
use Rattle.pauli.proofs.joined.JoinLaws.{counts_joining, stretch_refused, stretch_left, stretch_right, stretch_past, body_refused, body_left, body_right, body_past}
use Rattle.pauli.specs.JoinCalls.{stretch_in, address_of}
use Rattle.std.proofs.Common.{sym, ap, ◌∙◌, arith}
use Rattle.pauli.proofs.lookup.joined_body.Goals as goal

pub returns-in-Err : goal.returns-in-Err
unfolding address_of
returns-in-Err c =
    let counts = sym c.in-Err.ensures.counts in record { bytes = sym (body_refused c.args.left.now c.args.right.now c.args.n _ _ counts); place = sym (ap (address_of c.args.left.ref_ptr c.args.right.ref_ptr) (stretch_refused c.args.left.now c.args.right.now c.args.n _ _ counts)) }

pub returns-then-n-l : goal.returns-then-n-l
unfolding address_of stretch_in
returns-then-n-l c =
    let l = c.args.left in
    let r = c.args.right in
    let j = counts_joining l.now r.now _ (sym c.in-Ok.ensures.counts) in record { bytes = (rw c.in-Ok.ensures.rolls.0 at c.body_in.ensures.bytes) ∙ sym (body_left l.now r.now c.args.n _ _ j c.if-n-l.true); place = (rw c.in-Ok.ensures.rolls.0 at c.body_in.ensures.place) ∙ sym (ap (address_of l.ref_ptr r.ref_ptr) (stretch_left l.now r.now c.args.n _ _ j c.if-n-l.true)) }

pub returns-then-n-l-2 : goal.returns-then-n-l-2
unfolding address_of stretch_in
returns-then-n-l-2 c =
    let l = c.args.left in
    let r = c.args.right in
    let j = counts_joining l.now r.now _ (sym c.in-Ok.ensures.counts) in
    let past = c.if-n-l.false in record { bytes = (rw c.in-Ok.ensures.rolls.1 at c.body_in-then-n-l-2.ensures.bytes) ∙ sym (body_right l.now r.now c.args.n _ _ j past c.if-n-l-2.true); place = (rw c.in-Ok.ensures.rolls.1 at c.body_in-then-n-l-2.ensures.place) ∙ sym (ap (address_of l.ref_ptr r.ref_ptr) (stretch_right l.now r.now c.args.n _ _ j past c.if-n-l-2.true)) }

pub returns : goal.returns
unfolding address_of
returns c =
    let l = c.args.left in
    let r = c.args.right in
    let j = counts_joining l.now r.now _ (sym c.in-Ok.ensures.counts) in record { bytes = sym (body_past l.now r.now c.args.n _ _ j (omega (arith, c.if-n-l-2.false, c.if-n-l.false))); place = sym (ap (address_of l.ref_ptr r.ref_ptr) (stretch_past l.now r.now c.args.n _ _ j (omega (arith, c.if-n-l-2.false, c.if-n-l.false)))) }
