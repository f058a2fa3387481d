-- Total orders: offices by number, monomials by degree. Assumes nothing.
use Rattle.std.specs.Prelude.{◌≡◌, ℕ}
use Rattle.std.specs.declared.cmp.Ordering.TheVariants.{Less, Equal, Greater}
use Rattle.std.specs.declared.cmp.Ordering.{Ordering}
use Rattle.std.proofs.Common.{sym, ap, true≢false}
use Rattle.std.specs.Ordering.{ordering_reverse, ordering_then, is_lt, is_gt}
use Rattle.std.specs.Cmp.{IsTotalOrder, nat_cmp_total, on_total, back_total}
use Rattle.std.proofs.lemmas.Cmp.{then_total}
use Rattle.std.specs.Cmp.Lexicographic.{slice_cmp, lists_total}
use Rattle.std.proofs.lemmas.Map.Lookups.{exact_unsigned, exact_bytes}
use Rattle.table.specs.Monomial.{Monomial, degree}
use Rattle.std.specs.Ordering as StdOrdering

-- ranks that turn round with their keys, pass on, and are Equal only at equal keys
pub record Order (K : Type 0) : Type 0 where
  pub rank : K → K → Ordering
  pub flip : (x y : K) → rank x y ≡ ordering_reverse (rank y x)
  pub trans : (x y z : K) → rank x y ≡ Less → rank y z ≡ Less → rank x z ≡ Less
  pub exact : (x y : K) → rank x y ≡ Equal → x ≡ y

-- offices, ascending
abbrev pub by_number : Order ℕ
by_number = record { rank = StdOrdering.nat_cmp; flip = nat_cmp_total.antisymm; trans = nat_cmp_total.trans; exact = exact_unsigned }

-- ascending by degree; at equal degree the larger exponent at the first variable that differs comes first
abbrev pub rank_monomials : Monomial → Monomial → Ordering
rank_monomials a b = ordering_then (StdOrdering.nat_cmp (degree a) (degree b)) (slice_cmp StdOrdering.nat_cmp b a)

second_equal : (k m : Ordering) → ordering_then k m ≡ Equal → m ≡ Equal
second_equal Less m e = absurd (true≢false (ap is_lt e))
second_equal Equal m e = e
second_equal Greater m e = absurd (true≢false (ap is_gt e))

pub monomials_exact : (x y : Monomial) → rank_monomials x y ≡ Equal → x ≡ y
monomials_exact x y e = sym (exact_bytes y x (second_equal (StdOrdering.nat_cmp (degree x) (degree y)) (slice_cmp StdOrdering.nat_cmp y x) e))

-- that is a total order
pub by_degree_total : IsTotalOrder rank_monomials
by_degree_total = then_total (on_total degree nat_cmp_total) (back_total (lists_total nat_cmp_total))

abbrev pub by_degree : Order Monomial
by_degree = record { rank = rank_monomials; flip = by_degree_total.antisymm; trans = by_degree_total.trans; exact = monomials_exact }
