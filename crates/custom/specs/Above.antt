-- Of two ranges the one with the smaller upper end. Assumes nothing.
use Rattle.std.specs.Prelude.{Bool, true, false, cond, List, int_le}
use Rattle.interval.specs.declared.marks.Interval.{Interval}
use Rattle.polynomial.specs.declared.term.Term.{Term}
use Rattle.polynomial.specs.Method.{MethodMeaning, Ranges, method}

-- the range with the smaller upper end, the first where they are equal
abbrev pub tighter_above : Interval → Interval → Interval
tighter_above i j = cond (int_le i.upper j.upper) i j

-- either way it is a range
pub either_ranges : (b : Bool) (ts : List Term) (i j : Interval) → Ranges ts i → Ranges ts j → Ranges ts (cond b i j)
either_ranges true ts i j f g = f
either_ranges false ts i j f g = g

-- whatever two methods mean, so does the choice between them
abbrev pub tighter_above_method : MethodMeaning → MethodMeaning → MethodMeaning
tighter_above_method m n =
    method (λ ts. tighter_above (m.range ts) (n.range ts))
    (λ ts p. either_ranges (int_le (m.range ts).upper (n.range ts).upper) ts (m.range ts) (n.range ts) (m.laws ts p) (n.laws ts p))
