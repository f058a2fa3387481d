-- Two larger figures: six variables, and a narrowing of one of two. Assumes nothing.
use Rattle.std.specs.Prelude.{◌≡◌, ℕ, true, List, [], ◌∷◌, ◌++◌, length, ℤ, pos, Ok, Err, Result, from_bits}
use Rattle.std.specs.Float.{binary64}
use Rattle.interval.specs.declared.reason.Reason.TheVariants.{TooManyMonomials}
use Rattle.interval.specs.declared.refusal.Refusal.{Refusal}
use Rattle.interval.specs.Reason.{and_then}
use Rattle.interval.specs.Interval.{interval, zero_interval}
use Rattle.interval.specs.NamedKinds.{whole_kind}
use Rattle.polynomial.specs.declared.term.Term.{Term}
use Rattle.table.specs.Monomial.{constant_monomial, linear}
use Rattle.polynomial.specs.Reach.{term}
use Rattle.ranging.specs.NamedMethods.{plain_method}
use Rattle.taylor.specs.Model.{model}
use Rattle.sheet.specs.State.{refusal, at_line}
use Rattle.sheet.specs.Box.{Ends}
use Rattle.sheet.specs.Opening.{opening, opened, largest_allowance}
use Rattle.sheet.specs.Posting.{line_for}
use Rattle.sheet.specs.Turn.{Answer, Posted, Narrowed, ModelIs, Turn, Post, Narrow, ReadModel, answers}
use Rattle.sheet.specs.Figures.{ends, zero_to_six, v0, to_power}

-- a sum, any variable, any line
abbrev pub plus_sign : List ℕ
plus_sign = 43 ∷ []

abbrev pub v : ℕ → List ℕ
v n = 118 ∷ n ∷ []

abbrev pub line : ℕ → List ℕ
line n = 108 ∷ n ∷ []

-- ---- six variables from 0 to 6, order 3
abbrev pub six : Ends
six = zero_to_six ++ zero_to_six ++ zero_to_six ++ zero_to_six ++ zero_to_six ++ zero_to_six

abbrev pub sum_of_six : List ℕ
sum_of_six = v 0 ++ v 1 ++ plus_sign ++ v 2 ++ plus_sign ++ v 3 ++ plus_sign ++ v 4 ++ plus_sign ++ v 5 ++ plus_sign

-- how many terms the sum has at a power
unfoldable pub terms_at : ℕ → Result ℕ Refusal
terms_at n = and_then (at_line 0 (line_for whole_kind plain_method (opened whole_kind (opening 3 six largest_allowance)) 1 21 (sum_of_six ++ to_power n))) (λ l. Ok (length l.worked.model.terms))

-- ---- two variables, order 2: the second is narrowed from 0 to 2 to 0 to 1
abbrev pub two : Ends
two = zero_to_six ++ ends 0 0x4000_0000_0000_0000

abbrev pub at : List ℕ → ℤ → Term
at m z = term m (interval z z)

-- c + 18u₀ + u₁ + 9u₀²
abbrev pub third_line : ℤ → Answer
third_line c = ModelIs (model (at constant_monomial c ∷ at (linear 0) (pos 18) ∷ at (linear 1) (pos 1) ∷ at (2 ∷ 0 ∷ 0 ∷ 0 ∷ 0 ∷ 0 ∷ []) (pos 9) ∷ []) zero_interval)

abbrev pub turns : List Turn
turns =
    Post 1 21 (v0 ++ to_power 2) ∷ Post 1 21 (v 1) ∷ Post 1 21 (line 0 ++ line 1 ++ plus_sign) ∷ ReadModel 2
    ∷ Narrow 1 21 1 (from_bits binary64 0) (from_bits binary64 0x3ff0_0000_0000_0000) ∷ ReadModel 2 ∷ []

abbrev pub replies : List (Result Answer Refusal)
replies =
    Ok (Posted 0 4 true) ∷ Ok (Posted 1 0 true) ∷ Ok (Posted 2 0 true) ∷ Ok (third_line (pos 10))
    ∷ Ok (Narrowed 2 0) ∷ Ok (third_line (pos 9)) ∷ []

-- the square has 28 terms, the cube too many, and the narrowing works the two lines that use its variable
pub record LargerFiguresStand : Type 0 where
  pub square : terms_at 2 ≡ Ok 28
  pub cube : terms_at 3 ≡ Err (refusal TooManyMonomials 0 17)
  pub narrowed : answers whole_kind plain_method (opened whole_kind (opening 2 two largest_allowance)) turns ≡ replies
