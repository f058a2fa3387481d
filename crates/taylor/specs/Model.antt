-- Models: a polynomial and a remainder, their records, and the test. Assumes nothing.
use Rattle.std.specs.Prelude.{◌&&◌, List, [], length, take, Ok, Result}
use Rattle.interval.specs.declared.marks.Interval.{Interval}
use Rattle.interval.specs.declared.reason.Reason.{Reason}
use Rattle.interval.specs.declared.reason.Reason.TheVariants.{DoesNotFit}
use Rattle.interval.specs.Interval.{zero_interval, fits, plus}
use Rattle.interval.specs.Reason.{require}
use Rattle.table.specs.Slice
use Rattle.polynomial.specs.declared.term.Term.{Term}
use Rattle.polynomial.specs.Reach.{zero_term}
pub use Rattle.polynomial.specs.Terms.{all_fit}
use Rattle.polynomial.specs.Method.{MethodMeaning}
use Rattle.taylor.specs.declared.model.ModelRecord.{ModelRecord}

pub record Model : Type 0 where
  pub terms : List Term
  pub remainder : Interval

abbrev pub model : List Term → Interval → Model
model ts r = record { terms = ts; remainder = r }

abbrev pub zero_model : Model
zero_model = model [] zero_interval

-- ---- the record of a model: its terms, then zero terms up to 40
abbrev pub packed_terms : List Term → List Term
packed_terms ts = Slice.packed 40 zero_term ts

abbrev pub packed : Model → ModelRecord
packed M = record { count = length M.terms; terms = packed_terms M.terms; remainder = M.remainder }

abbrev pub unpacked : ModelRecord → Model
unpacked r = model (take r.count r.terms) r.remainder

abbrev pub zero_record : ModelRecord
zero_record = packed zero_model

-- ---- the test
-- the method's range plus the remainder
abbrev pub full_range : MethodMeaning → Model → Interval
full_range m M = plus (m.range M.terms) M.remainder

-- coefficients, remainder, the method's range, and that range plus the remainder fit
unfoldable pub tested : MethodMeaning → Model → Result Model Reason
tested m M = require (all_fit M.terms && (fits M.remainder && (fits (m.range M.terms) && fits (full_range m M)))) DoesNotFit (Ok M)
