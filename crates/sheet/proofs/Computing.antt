-- Everything that a run computes with, under one name to unfold. Assumes nothing.
use Rattle.std.proofs.Common.{ℕ}
use lib.Ieee.{of_bits, of_fields, odd, lt}
use Rattle.std.specs.Float.{float_is_finite}
use Rattle.interval.specs.Interval.{times}
use Rattle.interval.specs.Hull.{hull}
use Rattle.interval.specs.Variable.{variable}
use Rattle.polynomial.specs.Method.{plain}
use Rattle.polynomial.specs.Quadratic.{joint, quadratic}
use Rattle.taylor.specs.Model.{tested}
use Rattle.taylor.specs.Arithmetic.{constant, variable_model, sum}
use Rattle.taylor.specs.Product.{pairs, product, raised, power}
use Rattle.formula.specs.Token.{items_from}
use Rattle.formula.specs.Work.{run_items, work}
use Rattle.formula.specs.Meaning.{by_line}
use Rattle.sheet.specs.Opening.{open_sheet}
use Rattle.sheet.specs.Posting.{line_for}
use Rattle.sheet.specs.Narrowing.{rework, narrowed}
use Rattle.sheet.specs.Striking.{struck}
use Rattle.sheet.specs.Reading.{read_model, read_range, read_account}
use Rattle.sheet.specs.Turn.{run, answers}

unfoldable pub computing : ℕ
unfolding of_bits of_fields odd lt float_is_finite times hull plain joint quadratic variable tested constant variable_model sum pairs product raised power items_from run_items work by_line open_sheet line_for rework narrowed struck read_model read_range read_account run answers
computing = 0
