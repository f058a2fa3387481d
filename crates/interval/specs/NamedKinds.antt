-- The kinds whole, fixed and interval. Assumes nothing.
use Rattle.std.proofs.Common.{arith, lit≤}
use Rattle.std.specs.Prelude.{pos, ◌-ℤ◌, refl}
use Rattle.std.proofs.lemmas.Int.{ints}
use Rattle.interval.specs.declared.marks.Interval.{Interval}
use Rattle.interval.specs.Interval.{Fits, interval, zero_interval}
use Rattle.interval.specs.Kind.{IsScale, Splits, KindMeaning}

-- the lower end twice, and the width
abbrev pub point_split : Interval → Interval × Interval
point_split i = (interval i.lower i.lower, interval (pos 0) (i.upper -ℤ i.lower))

-- the interval itself, and nothing
abbrev pub interval_split : Interval → Interval × Interval
interval_split i = (i, zero_interval)

pub point_splits : (i : Interval) → Fits i → Splits i (point_split i)
point_splits i f = record {
  lower = omega (arith, ints);
  upper = omega (arith, ints);
  coefficient = record { low = f.low; order = omega (arith, ints); high = omega (arith, ints) };
  leftover = record { low = omega (arith, ints); order = omega (arith, ints); high = omega (arith, ints) };
}

pub interval_splits : (i : Interval) → Fits i → Splits i (interval_split i)
interval_splits i f = record {
  lower = omega (arith, ints);
  upper = omega (arith, ints);
  coefficient = f;
  leftover = record { low = omega (arith, ints); order = omega (arith, ints); high = omega (arith, ints) };
}

pub scale_1 : IsScale 1
scale_1 = (0, lit≤ tt, refl)

pub scale_65536 : IsScale 65536
scale_65536 = (16, lit≤ tt, refl)

abbrev pub whole_kind : KindMeaning
whole_kind = record { scale = 1; split = point_split; scales = scale_1; splits = point_splits }

abbrev pub fixed_kind : KindMeaning
fixed_kind = record { scale = 65536; split = point_split; scales = scale_65536; splits = point_splits }

abbrev pub interval_kind : KindMeaning
interval_kind = record { scale = 65536; split = interval_split; scales = scale_65536; splits = interval_splits }
