-- Worked figures: a sheet is opened, one text is posted, and this is what stands. Assumes nothing.
use Rattle.std.specs.Prelude.{◌≡◌, ℕ, zero, suc, ◌/◌, ◌%◌, Bool, true, false, List, [], ◌∷◌, ◌++◌, map, ℤ, pos, negsuc, Ok, Err, Result, from_bits}
use Rattle.std.specs.Float.{binary64}
use Rattle.interval.specs.declared.marks.Interval.{Interval}
use Rattle.interval.specs.declared.reason.Reason.TheVariants.{DoesNotFit, ConstantDoesNotFit}
use Rattle.interval.specs.declared.refusal.Refusal.{Refusal}
use Rattle.interval.specs.Reason.{and_then}
use Rattle.interval.specs.Interval.{interval, zero_interval, plus}
use Rattle.interval.specs.Kind.{KindMeaning}
use Rattle.interval.specs.NamedKinds.{whole_kind, fixed_kind, interval_kind}
use Rattle.polynomial.specs.declared.term.Term.{Term}
use Rattle.polynomial.specs.Reach.{term}
use Rattle.polynomial.specs.Method.{plain}
use Rattle.polynomial.specs.Quadratic.{quadratic}
use Rattle.ranging.specs.NamedMethods.{plain_method}
use Rattle.taylor.specs.Model.{model}
use Rattle.taylor.specs.Product.{Worked, worked}
use Rattle.sheet.specs.State.{refusal, at_line}
use Rattle.sheet.specs.Box.{Ends}
use Rattle.sheet.specs.Opening.{opening, open_sheet, largest_allowance}
use Rattle.sheet.specs.Posting.{line_for}

-- ---- texts and ends, by bit patterns
-- so many bytes of a number, lowest first
abbrev pub bytes : ℕ → ℕ → List ℕ
bytes zero w = []
bytes (suc n) w = (w % 256) ∷ bytes n (w / 256)

-- a constant, the first variable, a power, a difference, a product
abbrev pub constant_text : ℕ → List ℕ
constant_text w = 99 ∷ bytes 8 w

abbrev pub v0 : List ℕ
v0 = 118 ∷ 0 ∷ []

abbrev pub to_power : ℕ → List ℕ
to_power n = 94 ∷ n ∷ []

abbrev pub minus : List ℕ
minus = 45 ∷ []

abbrev pub star : List ℕ
star = 42 ∷ []

-- one variable from the one to the other
abbrev pub ends : ℕ → ℕ → Ends
ends x y = (from_bits binary64 x, from_bits binary64 y) ∷ []

-- 0 to 6
abbrev pub zero_to_six : Ends
zero_to_six = ends 0 0x4018_0000_0000_0000

-- ---- what stands: the line, and its range by both methods
pub record Shown : Type 0 where
  pub line : Worked
  pub plain_range : Interval
  pub quadratic_range : Interval

-- point coefficients at powers of the first variable
abbrev pub at_power : ℕ → ℤ → Term
at_power n z = term (n ∷ 0 ∷ 0 ∷ 0 ∷ 0 ∷ 0 ∷ []) (interval z z)

abbrev pub shown : List Term → Interval → ℕ → Bool → Interval → Interval → Result Shown Refusal
shown ts r n c p q = Ok (record { line = worked (model ts r) n c; plain_range = p; quadratic_range = q })

-- the ranges of both methods, with the remainder
abbrev pub seen : Worked → Shown
seen w = record { line = w; plain_range = plus (plain w.model.terms) w.model.remainder; quadratic_range = plus (quadratic w.model.terms) w.model.remainder }

-- a kind, the ends of one variable, one text, and what then stands
pub record Figure : Type 0 where
  pub kind : KindMeaning
  pub given : Ends
  pub text : List ℕ
  pub stands : Result Shown Refusal

abbrev pub figure : KindMeaning → Ends → List ℕ → Result Shown Refusal → Figure
figure k es t r = record { kind = k; given = es; text = t; stands = r }

-- with order 2, the plain method and the largest allowance
unfoldable pub found : Figure → Result Shown Refusal
found f = and_then (open_sheet f.kind (opening 2 f.given largest_allowance)) (λ s. and_then (at_line 0 (line_for f.kind plain_method s 1 21 f.text)) (λ l. Ok (seen l.worked)))

-- ---- the table
abbrev pub figures : List Figure
figures =
    figure whole_kind zero_to_six v0
    (shown (at_power 0 (pos 3) ∷ at_power 1 (pos 3) ∷ []) zero_interval 0 true (interval (pos 0) (pos 6)) (interval (pos 0) (pos 6)))
    ∷ figure whole_kind zero_to_six (v0 ++ to_power 2)
    (shown (at_power 0 (pos 9) ∷ at_power 1 (pos 18) ∷ at_power 2 (pos 9) ∷ []) zero_interval 4 true (interval (negsuc 8) (pos 36)) (interval (pos 0) (pos 36)))
    ∷ figure whole_kind zero_to_six (v0 ++ to_power 3)
    (shown (at_power 0 (pos 27) ∷ at_power 1 (pos 81) ∷ at_power 2 (pos 81) ∷ []) (interval (negsuc 26) (pos 27)) 10 false (interval (negsuc 80) (pos 216)) (interval (negsuc 20) (pos 216)))
    ∷ figure whole_kind zero_to_six (v0 ++ v0 ++ minus)
    (shown [] zero_interval 0 true zero_interval zero_interval)
    ∷ figure whole_kind (ends 0 0x4014_0000_0000_0000) v0
    (shown (at_power 0 (pos 2) ∷ at_power 1 (pos 3) ∷ []) zero_interval 0 true (interval (negsuc 0) (pos 5)) (interval (negsuc 0) (pos 5)))
    ∷ figure fixed_kind zero_to_six (constant_text 0x3fb9_9999_9999_999a)
    (shown (at_power 0 (pos 6553) ∷ []) (interval (pos 0) (pos 1)) 0 true (interval (pos 6553) (pos 6554)) (interval (pos 6553) (pos 6554)))
    ∷ figure interval_kind zero_to_six (constant_text 0x3fb9_9999_9999_999a)
    (shown (term (0 ∷ 0 ∷ 0 ∷ 0 ∷ 0 ∷ 0 ∷ []) (interval (pos 6553) (pos 6554)) ∷ []) zero_interval 0 true (interval (pos 6553) (pos 6554)) (interval (pos 6553) (pos 6554)))
    ∷ figure fixed_kind zero_to_six (constant_text 0x3ef0_0000_0000_0000 ++ to_power 2)
    (shown [] (interval (pos 0) (pos 1)) 1 true (interval (pos 0) (pos 1)) (interval (pos 0) (pos 1)))
    ∷ figure fixed_kind zero_to_six (constant_text 0xbef0_0000_0000_0000 ++ constant_text 0x3ef0_0000_0000_0000 ++ star)
    (shown (at_power 0 (negsuc 0) ∷ []) (interval (pos 0) (pos 1)) 1 true (interval (negsuc 0) (pos 0)) (interval (negsuc 0) (pos 0)))
    ∷ figure whole_kind zero_to_six (constant_text 0x40e6_a080_0000_0000 ++ to_power 2)
    (shown (at_power 0 (pos 2147395600) ∷ []) zero_interval 1 true (interval (pos 2147395600) (pos 2147395600)) (interval (pos 2147395600) (pos 2147395600)))
    ∷ figure whole_kind zero_to_six (constant_text 0x40e6_a0a0_0000_0000 ++ to_power 2)
    (Err (refusal DoesNotFit 0 9))
    ∷ figure whole_kind zero_to_six (constant_text 0x41df_ffff_ffc0_0000)
    (shown (at_power 0 (pos 2147483647) ∷ []) zero_interval 0 true (interval (pos 2147483647) (pos 2147483647)) (interval (pos 2147483647) (pos 2147483647)))
    ∷ figure whole_kind zero_to_six (constant_text 0x41e0_0000_0000_0000)
    (Err (refusal ConstantDoesNotFit 0 0))
    ∷ []

-- each figure is found as it stands in the table
abbrev pub FiguresStand : Type 0
FiguresStand = map found figures ≡ map (λ f. f.stands) figures
