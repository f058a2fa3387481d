-- The quadratic range: a joint range for a linear and a square term of one variable. Assumes nothing.
use Rattle.std.specs.Prelude.{zero, suc, ◌*◌, Bool, cond, not, ◌&&◌, List, [], ◌∷◌, ℤ, pos, negsuc, ◌+ℤ◌, ◌-ℤ◌, ◌*ℤ◌, neg_ℤ, ◌==◌, int_le, nat_le, unsigned_abs}
use Rattle.std.specs.Int.{int_min, int_max}
use Rattle.interval.specs.declared.marks.Interval.{Interval}
use Rattle.interval.specs.Interval.{interval, zero_interval, is_zero, floor_div, ceil_div, plus}
use Rattle.polynomial.specs.declared.term.Term.{Term}
use Rattle.table.specs.Monomial.{Monomial, degree, multiplied, even, root}
use Rattle.polynomial.specs.Reach.{reach, coefficient_at}

-- the vertex -b²/(4a) of a·u² + b·u, rounded down and rounded up
abbrev pub vertex_down : ℤ → ℤ → ℤ
vertex_down (pos zero) b = pos 0
vertex_down (pos (suc k)) b = floor_div (neg_ℤ (b *ℤ b)) (4 * suc k)
vertex_down (negsuc k) b = floor_div (b *ℤ b) (4 * suc k)

abbrev pub vertex_up : ℤ → ℤ → ℤ
vertex_up (pos zero) b = pos 0
vertex_up (pos (suc k)) b = ceil_div (neg_ℤ (b *ℤ b)) (4 * suc k)
vertex_up (negsuc k) b = ceil_div (b *ℤ b) (4 * suc k)

-- the vertex lies between u = -1 and u = 1: |b| is at most 2|a|
abbrev pub turns : ℤ → ℤ → Bool
turns a b = nat_le (unsigned_abs b) (2 * unsigned_abs a)

-- from the lesser to the greater value at u = -1 and u = 1
abbrev pub at_ends : ℤ → ℤ → Interval
at_ends a b = interval (int_min (a -ℤ b) (a +ℤ b)) (int_max (a -ℤ b) (a +ℤ b))

-- the least interval that holds both
abbrev pub spanned : Interval → Interval → Interval
spanned i j = interval (int_min i.lower j.lower) (int_max i.upper j.upper)

-- the joint range of a·u² and b·u: the values at the ends and, where it turns between them, the vertex
unfoldable pub joint : ℤ → ℤ → Interval
joint a b = cond (turns a b) (spanned (interval (vertex_down a b) (vertex_up a b)) (at_ends a b)) (at_ends a b)

-- a term is there, with equal ends
abbrev pub point : Interval → Bool
point c = not (is_zero c) && (int_le c.upper c.lower && int_le c.lower c.upper)

-- the terms of u and of u² are both there, with equal ends
abbrev pub paired : List Term → Monomial → Bool
paired ts u = point (coefficient_at ts u) && point (coefficient_at ts (multiplied u u))

-- a term's part of the range: a pair's stands at its square
abbrev pub part : List Term → Term → Interval
part ts t =
    let m = t.monomial in
    let plain-part = reach m t.coefficient in
    cond (degree m == 1) (cond (paired ts m) zero_interval plain-part)
    (cond (degree m == 2 && (even m && paired ts (root m))) (joint t.coefficient.lower (coefficient_at ts (root m)).lower) plain-part)

abbrev pub parts : List Term → List Term → Interval
parts ts [] = zero_interval
parts ts (u ∷ us) = plus (part ts u) (parts ts us)

unfoldable pub quadratic : List Term → Interval
quadratic ts = parts ts ts
