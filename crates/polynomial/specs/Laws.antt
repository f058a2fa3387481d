-- What values, reaches, joint ranges and methods keep. Assumes nothing.
use Rattle.std.specs.Prelude.{◌≡◌, Bool, ◌&&◌, nat_eq, List, ℤ, pos, negsuc, Decides}
use Rattle.std.specs.Cmp.Lexicographic.{pointwise}
use Rattle.std.specs.Ordering.{int_eq}
use Rattle.rational.specs.Fraction.{Fraction, whole, ◌+ᶠ◌, ◌*ᶠ◌, ◌≤ᶠ◌}
use Rattle.interval.specs.declared.marks.Interval.{Interval}
use Rattle.interval.specs.Interval.{◌within◌, interval, plus, meet, even_reach, full_reach}
use Rattle.table.specs.Monomial.{Monomial}
use Rattle.polynomial.specs.declared.term.Term.{Term}
use Rattle.polynomial.specs.Reach.{reach}
use Rattle.polynomial.specs.Value.{monomial_value, lower_value, upper_value, Units, Inside, value_with}
use Rattle.polynomial.specs.Method.{plain, Within, Lawful}
use Rattle.polynomial.specs.Quadratic.{joint, quadratic}

-- an equality of terms tells that the exponents and the two ends are equal, and so that they are one term
abbrev pub EqualByParts : (Term → Term → Bool) → Type 0
EqualByParts eq =
    (x y : Term)
    → (eq x y ≡ (pointwise nat_eq x.monomial y.monomial && (int_eq x.coefficient.lower y.coefficient.lower && int_eq x.coefficient.upper y.coefficient.upper)))
    × Decides (eq x y) (x ≡ y)

-- whichever number each coefficient stands for, the value lies from the lower to the upper one
abbrev pub ValuesBetween : Type 0
ValuesBetween = (us cs : List Fraction) (ts : List Term) → Inside cs ts → (lower_value us ts ≤ᶠ value_with us cs ts) × (value_with us cs ts ≤ᶠ upper_value us ts)

-- a number of an interval, times a monomial of unit coordinates, lies in the reach
abbrev pub ReachEncloses : Type 0
ReachEncloses = (us : List Fraction) → Units us → (m : Monomial) (i : Interval) (v : Fraction) → v within i → (v *ᶠ monomial_value us m) within reach m i

-- the joint range holds a·u² + b·u for every u from -1 to 1, and lies within the two reaches added up
abbrev pub JointEncloses : Type 0
JointEncloses = (a b : ℤ) (u : Fraction) → u within interval (negsuc 0) (pos 1) → (whole a *ᶠ (u *ᶠ u) +ᶠ whole b *ᶠ u) within joint a b

abbrev pub JointNarrows : Type 0
JointNarrows = (a b : ℤ) → Within (joint a b) (plus (even_reach (interval a a)) (full_reach (interval b b)))

-- plain and quadratic keep the laws of a method, and so does the meet of any two that keep them
abbrev pub PlainLawful : Type 0
PlainLawful = Lawful plain

abbrev pub QuadraticLawful : Type 0
QuadraticLawful = Lawful quadratic

abbrev pub MeetLawful : Type 0
MeetLawful = (range other : List Term → Interval) → Lawful range → Lawful other → Lawful (λ ts. meet (range ts) (other ts))
