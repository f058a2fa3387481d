-- The ends fit, so that the four products, their least and their greatest are small.
use Rattle.std.proofs.Common.{◌∙◌, ap₂}
use Rattle.std.specs.Int.{int_min, int_max}
use Rattle.interval.specs.Interval.{times}
use Rattle.interval.specs.Scale.{per_unit}
use Rattle.interval.proofs.Sizes.{lower_bounded, upper_bounded}
use Rattle.interval.proofs.Passed.{passed_small, end, product_is, least_is, greatest_is, rounded_is}
use Rattle.interval.proofs.marks.Interval.times.Goals as goal

pub product-ul-requires : goal.product-ul-requires
product-ul-requires c = (end (upper_bounded c.requires.0), end (lower_bounded c.requires.1))

pub product-uu-requires : goal.product-uu-requires
product-uu-requires c = (end (upper_bounded c.requires.0), end (upper_bounded c.requires.1))

pub rounded_out-requires : goal.rounded_out-requires
rounded_out-requires c =
    let p = c.product-ll.ensures.bound in
    let q = c.product-lu.ensures.bound in
    let r = c.product-ul.ensures.bound in
    let s = c.product-uu.ensures.bound in (
      passed_small (least_is p q r s c.min.ensures.value c.min-2.ensures.value c.min-least.ensures.value).1,
      passed_small (greatest_is p q r s c.max.ensures.value c.max-2.ensures.value c.max-greatest.ensures.value).1,
    )

pub returns : goal.returns
unfolding times
returns c =
    let i = c.requires.0 in
    let j = c.requires.1 in
    let ll = product_is (lower_bounded i) (lower_bounded j) c.product-ll.ensures.value in
    let lu = product_is (lower_bounded i) (upper_bounded j) c.product-lu.ensures.value in
    let ul = product_is (upper_bounded i) (lower_bounded j) c.product-ul.ensures.value in
    let uu = product_is (upper_bounded i) (upper_bounded j) c.product-uu.ensures.value in
    let p = c.product-ll.ensures.bound in
    let q = c.product-lu.ensures.bound in
    let r = c.product-ul.ensures.bound in
    let s = c.product-uu.ensures.bound in
    let l = least_is p q r s c.min.ensures.value c.min-2.ensures.value c.min-least.ensures.value in
    let g = greatest_is p q r s c.max.ensures.value c.max-2.ensures.value c.max-greatest.ensures.value in
    record {
      value = rounded_is (per_unit c.args.scale) l.1 g.1 (l.0 ∙ ap₂ int_min (ap₂ int_min ll lu) (ap₂ int_min ul uu)) (g.0 ∙ ap₂ int_max (ap₂ int_max ll lu) (ap₂ int_max ul uu)) c.rounded_out.ensures.value;
    }
