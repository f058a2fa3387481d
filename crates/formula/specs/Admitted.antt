-- Which tokens may be run: they name what stands, and their numbers fit. Assumes nothing.
use Rattle.std.specs.Prelude.{ℕ, is_some, Ok, Result, nat_le, nat_lt}
use Rattle.interval.specs.declared.reason.Reason.{Reason}
use Rattle.interval.specs.declared.reason.Reason.TheVariants.{NoSuchVariable, LineNotStanding, ExponentTooLarge, ConstantDoesNotFit}
use Rattle.interval.specs.Hull.{hulled}
use Rattle.interval.specs.Reason.{require}
use Rattle.formula.specs.declared.token.Token.{Token}
use Rattle.formula.specs.declared.token.Token.TheVariants.{Constant, Variable, Line, Power, Add, Subtract, Multiply}

-- at a scale, with so many variables, over so many lines
abbrev pub admitted : ℕ → ℕ → ℕ → Token → Result (Unit {0}) Reason
admitted scale variables lines (Constant x) = require (is_some (hulled scale x)) ConstantDoesNotFit (Ok tt)
admitted scale variables lines (Variable v) = require (nat_lt v variables) NoSuchVariable (Ok tt)
admitted scale variables lines (Line n) = require (nat_lt n lines) LineNotStanding (Ok tt)
admitted scale variables lines (Power e) = require (nat_le e 8) ExponentTooLarge (Ok tt)
admitted scale variables lines Add = Ok tt
admitted scale variables lines Subtract = Ok tt
admitted scale variables lines Multiply = Ok tt
