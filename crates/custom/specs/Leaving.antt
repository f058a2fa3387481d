-- The kind that leaves everything over. Assumes nothing.
use Rattle.interval.specs.declared.marks.Interval.{Interval}
use Rattle.interval.specs.Interval.{Fits, zero_interval}
use Rattle.interval.specs.Kind.{Splits, KindMeaning}
use Rattle.interval.specs.NamedKinds.{scale_1}
use Rattle.std.proofs.Common.{arith}
use Rattle.std.proofs.lemmas.Int.{ints}

-- nothing, and the interval itself
abbrev pub leaving_split : Interval → Interval × Interval
leaving_split i = (zero_interval, i)

pub leaving_splits : (i : Interval) → Fits i → Splits i (leaving_split i)
leaving_splits i f = record {
  lower = omega (arith, ints);
  upper = omega (arith, ints);
  coefficient = record { low = omega (arith, ints); order = omega (arith, ints); high = omega (arith, ints) };
  leftover = record { low = omega (arith, ints); order = f.order; high = omega (arith, ints) };
}

abbrev pub leaving_kind : KindMeaning
leaving_kind = record { scale = 1; split = leaving_split; scales = scale_1; splits = leaving_splits }
