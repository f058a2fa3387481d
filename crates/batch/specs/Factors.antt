-- The monomial that factors spell. Assumes nothing.
use Rattle.std.specs.Prelude.{ℕ, ◌+◌, cond, List, [], ◌∷◌, Some, None, Ok, Err, Option, Result, ◌==◌, nat_le, slice_index, slice_set}
use Rattle.std.specs.Option.{ok_or, option_map}
use Rattle.interval.specs.declared.reason.Reason.TheVariants.{ExponentTooLarge}
use Rattle.interval.specs.Reason.{and_then}
use Rattle.table.specs.Monomial.{Monomial, constant_monomial, degree}
use Rattle.batch.specs.declared.factor.Factor.{Factor}
use Rattle.batch.specs.declared.fault.Mistake.TheVariants.{NotAFactor, NoInput, AboveOrder}
use Rattle.batch.specs.Faults.{Objection, mistaken, refused}
use Rattle.batch.specs.Inputs.{place_of}
use Rattle.batch.specs.Statements.{whole_number}
use Rattle.batch.specs.Words.{Text, Token}

-- a place and a power
abbrev pub factor_pair : Factor → ℕ × ℕ
factor_pair f = (f.place, f.power)

-- what stands before and after the first `^`
abbrev pub cut_at_caret : Text → Option (Text × Text)
cut_at_caret [] = None
cut_at_caret (c ∷ cs) = cond (c == 94) (Some ([], cs)) (option_map (λ p. (c ∷ p.0, p.1)) (cut_at_caret cs))

-- an exponent from 0 to 8
unfoldable pub power_of : Text → Text → Result ℕ Objection
power_of t word = and_then (ok_or (whole_number t) (mistaken NotAFactor word)) (λ k. cond (nat_le k 8) (Ok k) (Err (refused ExponentTooLarge word)))

-- the place of a name, beside a power
unfoldable pub placed : List Text → Text → ℕ → Result (ℕ × ℕ) Objection
placed names name k = and_then (ok_or (place_of names name) (mistaken NoInput name)) (λ i. Ok (i, k))

abbrev pub factored : List Text → Text → Option (Text × Text) → Result (ℕ × ℕ) Objection
factored names word None = placed names word 1
factored names word (Some p) = and_then (power_of p.1 word) (λ k. placed names p.0 k)

-- `NAME` or `NAME^K`
unfoldable pub factor_of : List Text → Text → Result (ℕ × ℕ) Objection
factor_of names word = factored names word (cut_at_caret word)

-- one factor more, where the degree does not pass the order
unfoldable pub raised : ℕ → Monomial → ℕ × ℕ → Option Monomial
raised order m f = cond (nat_le (degree m + f.1) order) (Some (slice_set m f.0 (slice_index m f.0 + f.1))) None

module _ (names : List Text) (order : ℕ) where
  -- the factors multiply one after the other
  abbrev pub monomial_from : Monomial → List Token → Result Monomial Objection
  monomial_from m [] = Ok m
  monomial_from m (w ∷ ws) = and_then (factor_of names w.text) (λ f. and_then (ok_or (raised order m f) (mistaken AboveOrder w.text)) (λ n. monomial_from n ws))

  abbrev pub monomial_of : List Token → Result Monomial Objection
  monomial_of ws = monomial_from constant_monomial ws
