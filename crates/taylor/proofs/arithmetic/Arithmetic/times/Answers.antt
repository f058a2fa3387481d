-- Each way out of the product, from the tally of its pairs.
use Rattle.std.proofs.Common.{refl}
use Rattle.taylor.specs.Record.{worked_of}
use Rattle.taylor.proofs.Results.{passed_on}
use Rattle.taylor.proofs.Multiplied.{too_many, unfit, untested, result_held, multiplied}
use Rattle.taylor.proofs.arithmetic.Arithmetic.times.Goals as goal
use Rattle.taylor.proofs.arithmetic.Arithmetic.times.Goals.{In_ok-test}

pub returns-in_err-tally : goal.returns-in_err-tally
returns-in_err-tally g c = rw (passed_on c.from_residual.result c.from_residual.ensures.1)
    (record { value = too_many _ _ _ _ _ c.in_err-tally.field-0.0 c.in_err-tally.ensures })

pub returns-in_err-model : goal.returns-in_err-model
returns-in_err-model g c = rw (passed_on c.from_residual-in_err-model.result c.from_residual-in_err-model.ensures.1)
    (record { value = unfit _ _ _ _ _ c.in_ok-tally.tally c.in_ok-tally.ensures c.in_err-model.field-0.0 c.in_err-model.ensures.value })

pub test-requires : goal.test-requires
test-requires g c = result_held _ _ _ (worked_of c.args.worked.now) _ c.in_ok-tally.tally c.in_ok-tally.ensures c.in_ok-model.model c.in_ok-model.ensures.value c.args.self.now.low c.requires.first.tested.normal c.requires.second.tested.normal

pub returns-in_err-test : goal.returns-in_err-test
returns-in_err-test g c = rw (passed_on c.from_residual-in_err-test.result c.from_residual-in_err-test.ensures.1)
    (record { value = untested _ _ _ _ _ c.in_ok-tally.tally c.in_ok-tally.ensures c.in_ok-model.model c.in_ok-model.ensures.value c.in_err-test.field-0.0 c.in_err-test.ensures.value })

pub returns-then-worked : goal.returns-then-worked
returns-then-worked g c = record { value = multiplied _ _ _ _ _ c.in_ok-tally.tally c.in_ok-tally.ensures c.in_ok-model.model c.in_ok-model.ensures.value c.in_ok-test.ensures.value _ (rw c.if-worked.true refl) }

pub returns-else-worked : goal.returns-else-worked
returns-else-worked g c = record { value = multiplied _ _ _ _ _ c.in_ok-tally.tally c.in_ok-tally.ensures c.in_ok-model.model c.in_ok-model.ensures.value c.in_ok-test.ensures.value _ (rw c.if-worked.false refl) }
