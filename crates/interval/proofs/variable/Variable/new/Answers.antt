-- Each way out, at the two ends as they are passed.
use Rattle.std.proofs.lemmas.Grind.{common_steps}
use Rattle.interval.specs.declared.reason.Reason.TheVariants.{EndDoesNotFit}
use Rattle.std.proofs.Common.{◌≡◌, Ok, Err, None, Some, arith, sym, ap, ◌∙◌, w64, SFits, to_z, of_z, rules}
use Rattle.std.proofs.lemmas.Int.{to_z-of_z}
use Rattle.interval.specs.declared.marks.Interval.{Interval}
use Rattle.interval.specs.Interval.{interval, Fits}
use Rattle.interval.specs.Scale.{per_unit}
use Rattle.interval.specs.Variable.{centred, variable_of}
use Rattle.interval.proofs.GivenEnds.{lower_unfit, upper_unfit, fitting, accepted, variable_sound}
use Rattle.interval.proofs.variable.Variable.new.Goals as goal
use Rattle.interval.proofs.variable.Variable.new.Goals.{In_ok-b}

pub returns-in_err-a-clause-value : goal.returns-in_err-a-clause-value
returns-in_err-a-clause-value c =
    let n : c.hull.result ≡ None = grind (arith, common_steps) in
    let e : c.from_residual.result ≡ Err EndDoesNotFit = grind (arith, common_steps) in
    e ∙ lower_unfit (per_unit c.args.scale) c.args.lower c.args.upper (sym c.if-not-is_finite.ensures.value) (sym c.if-not-is_finite-2.ensures.value) c.if-lower-upper.false (sym n ∙ c.hull.ensures.value)

pub returns-in_err-b-clause-value : goal.returns-in_err-b-clause-value
returns-in_err-b-clause-value c =
    let n : c.hull-2.result ≡ None = grind (arith, common_steps) in
    let e : c.from_residual-in_err-b.result ≡ Err EndDoesNotFit = grind (arith, common_steps) in
    e ∙ upper_unfit (per_unit c.args.scale) c.args.lower c.args.upper (sym c.if-not-is_finite.ensures.value) (sym c.if-not-is_finite-2.ensures.value) c.if-lower-upper.false (sym n ∙ c.hull-2.ensures.value)

-- both hulls are there: what the ends make fits, and is accepted
module _ (c : In_ok-b) where
  abbrev ends : Interval
  ends = interval (to_z w64 (of_z w64 c.in_ok-a.a.lower)) (to_z w64 (of_z w64 c.in_ok-b.b.upper))

  fit-accepted : Fits ends × (Ok (centred c.args.lower c.args.upper ends) ≡ variable_of (per_unit c.args.scale) c.args.lower c.args.upper)
  fit-accepted =
      let S = per_unit c.args.scale in
      let x = c.args.lower in
      let y = c.args.upper in
      let p = sym c.if-not-is_finite.ensures.value in
      let q = sym c.if-not-is_finite-2.ensures.value in
      let h = c.if-lower-upper.false in
      let i = c.in_ok-a.a in
      let j = c.in_ok-b.b in
      let a : Some i ≡ c.hull.result = grind (arith, common_steps) in
      let b : Some j ≡ c.hull-2.result = grind (arith, common_steps) in
      let f : SFits w64 i.lower = search rules in
      let g : SFits w64 j.upper = search rules in
      let d = a ∙ c.hull.ensures.value in
      let e = b ∙ c.hull-2.ensures.value in
      -- an end that is passed on is as it was
      rw (to_z-of_z w64 i.lower f, to_z-of_z w64 j.upper g) (fitting S x y p q h i j d e, accepted S x y p q h i j d e)

pub centred-requires : goal.centred-requires
centred-requires c = (fit-accepted (goal.at.centred-requires c).In_ok-b).0

pub returns : goal.returns
returns c =
    let a = ap Ok c.centred.ensures.value ∙ (fit-accepted (goal.at.returns c).In_ok-b).1 in
    record { value = a; laws = variable_sound (per_unit c.args.scale) c.args.lower c.args.upper c.centred.result a }
