-- Exact decimal numbers, and how they are written. Assumes nothing.
use Rattle.std.specs.Prelude.{ℕ, zero, suc, ◌*◌, ◌/◌, ◌%◌, ◌^◌, cond, [], ◌∷◌, ◌++◌, ℤ, pos, decimal, ◌==◌, int_lt, unsigned_abs}
use Rattle.std.specs.Fmt.{sign_text}
use Rattle.batch.specs.declared.decimal.Decimal.{Decimal}
use Rattle.batch.specs.Words.{Text}

abbrev pub sixteen_places : ℕ
sixteen_places = 10_000_000_000_000_000

abbrev pub first_place : ℕ
first_place = 1_000_000_000_000_000

-- so many marks at 2^bits marks a unit
unfoldable pub decimal_of : ℕ → ℤ → Decimal
decimal_of bits z = record { negative = int_lt z (pos 0); whole = unsigned_abs z / 2 ^ bits; fraction = unsigned_abs z % 2 ^ bits * (sixteen_places / 2 ^ bits) }

-- the digits of a fraction of sixteen places, up to the last that is not 0
abbrev pub fraction_digits : ℕ → ℕ → Text
fraction_digits zero f = []
fraction_digits (suc k) f = cond (f == 0) [] (decimal (f / first_place) ++ fraction_digits k (f % first_place * 10))

-- a point, and the digits after it, where there are any
abbrev pub after_point : ℕ → Text
after_point f = cond (f == 0) [] (46 ∷ fraction_digits 16 f)

unfoldable pub decimal_text : Decimal → Text
decimal_text d = sign_text d.negative ++ (decimal d.whole ++ after_point d.fraction)
