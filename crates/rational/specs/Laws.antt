-- What exact arithmetic rests on: the order of fractions, and powers of unit numbers. Assumes nothing.
use Rattle.std.specs.Prelude.{◌⊎◌, ℕ, ◌*◌, ◌<◌, pos, negsuc}
use Rattle.rational.specs.Fraction.{Fraction, whole, over, powᶠ, ◌+ᶠ◌, ◌-ᶠ◌, ◌*ᶠ◌, ◌≤ᶠ◌, ◌=ᶠ◌}

-- the order is reflexive, transitive and total, and both ways it is equality of cross products
abbrev pub Reflexive : Type 0
Reflexive = (a : Fraction) → a ≤ᶠ a

abbrev pub Transitive : Type 0
Transitive = (a b c : Fraction) → a ≤ᶠ b → b ≤ᶠ c → a ≤ᶠ c

abbrev pub Total : Type 0
Total = (a b : Fraction) → (a ≤ᶠ b) ⊎ (b ≤ᶠ a)

abbrev pub Antisymmetric : Type 0
Antisymmetric = (a b : Fraction) → a ≤ᶠ b → b ≤ᶠ a → a =ᶠ b

-- sums are monotone, differences fall with what is taken away
abbrev pub SumMonotone : Type 0
SumMonotone = (a b c d : Fraction) → a ≤ᶠ b → c ≤ᶠ d → (a +ᶠ c) ≤ᶠ (b +ᶠ d)

abbrev pub DifferenceMonotone : Type 0
DifferenceMonotone = (a b c d : Fraction) → a ≤ᶠ b → c ≤ᶠ d → (a -ᶠ d) ≤ᶠ (b -ᶠ c)

-- products with what is not negative are monotone
abbrev pub ProductMonotone : Type 0
ProductMonotone = (a b c : Fraction) → whole (pos 0) ≤ᶠ c → a ≤ᶠ b → (a *ᶠ c) ≤ᶠ (b *ᶠ c)

-- a quotient by a whole number above 0, times that number
abbrev pub QuotientExact : Type 0
QuotientExact = (a : Fraction) (n : ℕ) (h : 0 < n) → (over a n h *ᶠ whole (pos n)) =ᶠ a

-- a number from -1 to 1, and one from 0 to 1
pub record UnitNumber (u : Fraction) : Type 0 where
  pub low : whole (negsuc 0) ≤ᶠ u
  pub high : u ≤ᶠ whole (pos 1)

pub record UnitPart (u : Fraction) : Type 0 where
  pub low : whole (pos 0) ≤ᶠ u
  pub high : u ≤ᶠ whole (pos 1)

-- a power of a number from -1 to 1 stays there, an even one from 0 to 1
abbrev pub PowersStay : Type 0
PowersStay = (u : Fraction) (k : ℕ) → UnitNumber u → UnitNumber (powᶠ u k)

abbrev pub EvenPowersStay : Type 0
EvenPowersStay = (u : Fraction) (k : ℕ) → UnitNumber u → UnitPart (powᶠ u (2 * k))
