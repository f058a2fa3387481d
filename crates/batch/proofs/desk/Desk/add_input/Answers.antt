use Rattle.std.proofs.Common.{◌≡◌, false, is_some, Ok, sym, ap, ◌∙◌, rules}
use Rattle.batch.specs.Desks.{view, names, with_inputs}
use Rattle.batch.specs.Inputs.{place_of}
use Rattle.batch.proofs.Taking.{counted, names_are, mapped, input_comes}
use Rattle.batch.proofs.desk.Desk.add_input.Goals as goal

pub returns : goal.returns
returns c =
    let d = c.args.self.now in
    let free : is_some (place_of (names (view d)) c.args.name.now) ≡ false = rw (names_are d) (search rules) in
    let n = counted d.inputs in
    let x = mapped _ _ c.in_ok-variable.variable _ c.map_err.ensures.cases c.in_ok-variable.was in
    record { value = input_comes (view d) _ _ _ free (search rules) _ (x ∙ c.new-made.ensures.value ∙ search rules) ∙ ap (λ xs. Ok (with_inputs xs (view d))) (sym c.in_ok-add.ensures.after) }
