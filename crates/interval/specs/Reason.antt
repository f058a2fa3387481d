-- The number and the words of each reason, and results that may be refused. Assumes nothing.
use Rattle.std.specs.Prelude.{◌≡◌, ◌==◌, ℕ, Bool, true, false, List, Ok, Err, codes, Result, Decides}
use Rattle.interval.specs.declared.reason.Reason.{Reason}
use Rattle.interval.specs.declared.reason.Reason.TheVariants.{OrderOutOfRange, VariablesOutOfRange, AllowanceOutOfRange, EndNotFinite, EndsCrossed, EndDoesNotFit}
use Rattle.interval.specs.declared.reason.Reason.TheVariants.{OfficeOutOfRange, LinesFull, TooFewRecords, TextOutOfRange, AccountsFull}
use Rattle.interval.specs.declared.reason.Reason.TheVariants.{UnknownTag, TextEnds, NoSuchVariable, LineNotStanding, ExponentTooLarge, ConstantDoesNotFit}
use Rattle.interval.specs.declared.reason.Reason.TheVariants.{TooFewOperands, TooManyOperands, TooManyMonomials, DoesNotFit, OperandsLeft, AllowancePassed}
use Rattle.interval.specs.declared.reason.Reason.TheVariants.{NoVariableToNarrow, NewEndsUnsound, EndOutside}
use Rattle.interval.specs.declared.reason.Reason.TheVariants.{NoLineToStrike, PostedByAnother}
use Rattle.interval.specs.declared.reason.Reason.TheVariants.{NoLineToRead, NoAccount}

-- the number that is told
abbrev pub number : Reason → ℕ
number OrderOutOfRange = 1
number VariablesOutOfRange = 2
number AllowanceOutOfRange = 3
number EndNotFinite = 4
number EndsCrossed = 5
number EndDoesNotFit = 6
number OfficeOutOfRange = 10
number LinesFull = 11
number TooFewRecords = 12
number TextOutOfRange = 13
number AccountsFull = 14
number UnknownTag = 20
number TextEnds = 21
number NoSuchVariable = 23
number LineNotStanding = 24
number ExponentTooLarge = 25
number ConstantDoesNotFit = 26
number TooFewOperands = 30
number TooManyOperands = 31
number TooManyMonomials = 32
number DoesNotFit = 33
number OperandsLeft = 34
number AllowancePassed = 35
number NoVariableToNarrow = 40
number NewEndsUnsound = 41
number EndOutside = 42
number NoLineToStrike = 50
number PostedByAnother = 51
number NoLineToRead = 60
number NoAccount = 61

-- each reason has a number of its own, so that comparing numbers compares reasons
abbrev pub NumbersDistinct : Type 0
NumbersDistinct = (x y : Reason) → Decides (number x == number y) (x ≡ y)

-- an equality of reasons tells that their numbers are equal, and so that they are one reason
abbrev pub EqualByNumber : (Reason → Reason → Bool) → Type 0
EqualByNumber eq = (x y : Reason) → (eq x y ≡ (number x == number y)) × Decides (eq x y) (x ≡ y)

-- one clause of plain English
abbrev pub words : Reason → List ℕ
words OrderOutOfRange = codes "the order is not from 1 to 8"
words VariablesOutOfRange = codes "the number of variables is not from 1 to 6"
words AllowanceOutOfRange = codes "the allowance is not from 1 to 1000000000"
words EndNotFinite = codes "an end is not a finite number"
words EndsCrossed = codes "the lower end is above the upper end"
words EndDoesNotFit = codes "an end does not fit"
words OfficeOutOfRange = codes "the office is not from 1 to 255"
words LinesFull = codes "all lines are taken"
words TooFewRecords = codes "too few working records are lent"
words TextOutOfRange = codes "the text does not have 1 to 255 bytes"
words AccountsFull = codes "all accounts are taken"
words UnknownTag = codes "the tag is not known"
words TextEnds = codes "the text ends inside a token"
words NoSuchVariable = codes "there is no such variable"
words LineNotStanding = codes "the named line does not stand"
words ExponentTooLarge = codes "the exponent is above 8"
words ConstantDoesNotFit = codes "the constant is not finite or does not fit"
words TooFewOperands = codes "too few operands stand"
words TooManyOperands = codes "a ninth operand would stand"
words TooManyMonomials = codes "more than 40 monomials"
words DoesNotFit = codes "a product or a tested model does not fit"
words OperandsLeft = codes "more than one operand is left"
words AllowancePassed = codes "the allowance is passed"
words NoVariableToNarrow = codes "there is no such variable to narrow"
words NewEndsUnsound = codes "the new ends are not finite or are crossed"
words EndOutside = codes "a new end lies outside the standing ends"
words NoLineToStrike = codes "no line stands"
words PostedByAnother = codes "another office posted the newest line"
words NoLineToRead = codes "the line does not stand"
words NoAccount = codes "the office has no account"

-- on with the value, or the refusal
abbrev pub and_then : {A B E : Type 0} → Result A E → (A → Result B E) → Result B E
and_then (Ok x) f = f x
and_then (Err e) f = Err e

-- on where the test holds, else the refusal
abbrev pub require : {A E : Type 0} → Bool → E → Result A E → Result A E
require true e r = r
require false e r = Err e
