use Rattle.std.proofs.Common.{◌≡◌, not, ◌&&◌, ap, ◌∙◌, rules, tests}
use Rattle.pauli.specs.Signed.{paulis_in}
use Rattle.pauli_group.specs.Inner.Lists.{stabilizer_of, clash_of}
use Rattle.pauli_group.specs.Answers.{yes_number}
use Rattle.pauli_group.specs.Promises.{promise_of}
use Rattle.pauli_group.proofs.standard.StandardLaws.{stabilizer_found, step_found}
use Rattle.pauli_group.proofs.standard.signs_of.Goals as goal

pub returns : goal.returns
returns c =
    let ps = paulis_in c.args.list.now in
    let clash = clash_of (promise_of c.args.promise) ps in
    let told = c.if-not-order_four.stabilizer in
    let tests_are : told ≡ ((not c.clash_of-clash.result && not c.some_order_four-order_four.result) && not c.some_minus-minus.result) = search (rules, tests) in
    let stabilizer : yes_number told ≡ stabilizer_of clash ps = ap yes_number tests_are ∙ stabilizer_found clash ps _ _ _ c.clash_of-clash.ensures c.some_order_four-order_four.ensures c.some_minus-minus.ensures in
    record {
      clash = c.clash_of-clash.ensures;
      step = c.phases_for.ensures ∙ step_found clash ps told stabilizer _ c.some_imaginary.ensures;
      stabilizer = stabilizer;
    }
