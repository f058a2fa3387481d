-- What two ranges have in common is a range. Assumes nothing.
use Rattle.std.proofs.Common.{Bool, true, false, cond, List, ℤ, arith}
use lib.Signed.{lt_z}
use Rattle.std.proofs.lemmas.Int.{ints, clamps}
use Rattle.rational.specs.Fraction.{Fraction, whole, ◌≤ᶠ◌}
use Rattle.interval.specs.declared.marks.Interval.{Interval}
use Rattle.interval.specs.Interval.{meet}
use Rattle.polynomial.specs.declared.term.Term.{Term}
use Rattle.polynomial.specs.Value.{lower_value, upper_value}
use Rattle.polynomial.specs.Method.{Ranges}
use Rattle.polynomial.specs.Laws.{MeetLawful}

-- either end of a choice is below or above
chosen-low : (b : Bool) (x y : ℤ) (v : Fraction) → whole x ≤ᶠ v → whole y ≤ᶠ v → whole (cond b x y) ≤ᶠ v
chosen-low true x y v f g = f
chosen-low false x y v f g = g

chosen-high : (b : Bool) (x y : ℤ) (v : Fraction) → v ≤ᶠ whole x → v ≤ᶠ whole y → v ≤ᶠ whole (cond b x y)
chosen-high true x y v f g = f
chosen-high false x y v f g = g

pub meet-ranges : (ts : List Term) (i j : Interval) → Ranges ts i → Ranges ts j → Ranges ts (meet i j)
meet-ranges ts i j f g =
    let fw = f.within in
    let gw = g.within in
    record {
      within = record { low = omega (arith, ints, clamps); high = omega (arith, ints, clamps) };
      holds = λ us u. record {
        low = chosen-low (lt_z j.lower i.lower) i.lower j.lower (lower_value us ts) (f.holds us u).low (g.holds us u).low;
        high = chosen-high (lt_z j.upper i.upper) j.upper i.upper (upper_value us ts) (g.holds us u).high (f.holds us u).high;
      };
    }

pub meet_lawful : MeetLawful
meet_lawful range other f g ts p = meet-ranges ts (range ts) (other ts) (f ts p) (g ts p)
