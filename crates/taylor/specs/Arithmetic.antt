-- Constants, variables, sums and differences of models. Assumes nothing.
use Rattle.std.specs.Prelude.{ℕ, [], ◌∷◌, map, length, pos, Ok, Result, nat_le}
use Rattle.interval.specs.declared.marks.Interval.{Interval}
use Rattle.interval.specs.declared.reason.Reason.{Reason}
use Rattle.interval.specs.declared.reason.Reason.TheVariants.{TooManyMonomials}
use Rattle.interval.specs.declared.variable.Variable.{Variable}
use Rattle.interval.specs.Interval.{interval, zero_interval, plus, negated}
use Rattle.interval.specs.Kind.{KindMeaning}
use Rattle.interval.specs.Reason.{require}
use Rattle.table.specs.Monomial.{constant_monomial, linear}
use Rattle.polynomial.specs.declared.term.Term.{Term}
use Rattle.polynomial.specs.Reach.{term, joins, dropped}
use Rattle.taylor.specs.Model.{Model, model}

-- an interval is split: the coefficient is the constant term, the leftover the remainder
unfoldable pub constant : KindMeaning → Interval → Model
constant k i = model (dropped (term constant_monomial (k.split i).0 ∷ [])) (k.split i).1

-- one unit
abbrev pub one : KindMeaning → Model
one k = constant k (interval (pos k.scale) (pos k.scale))

-- variable n is c plus h·u
unfoldable pub variable_model : ℕ → Variable → Model
variable_model n v =
    let c = term constant_monomial (interval v.centre v.centre) in
    let h = term (linear n) (interval v.half v.half) in
    model (dropped (c ∷ (h ∷ []))) zero_interval

-- coefficients and remainders are added; the monomials of both together are at most 40
unfoldable pub sum : Model → Model → Result Model Reason
sum M N =
    let table = joins M.terms N.terms in
    require (nat_le (length table) 40) TooManyMonomials (Ok (model (dropped table) (plus M.remainder N.remainder)))

-- the same term, and the same model, with the other sign
abbrev pub opposite : Term → Term
opposite t = term t.monomial (negated t.coefficient)

abbrev pub negated_model : Model → Model
negated_model M = model (map (λ t. term t.monomial (negated t.coefficient)) M.terms) (negated M.remainder)

abbrev pub difference : Model → Model → Result Model Reason
difference M N = sum M (negated_model N)
