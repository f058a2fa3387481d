-- What can be wrong with a line, and its words. Assumes nothing.
use Rattle.std.specs.Prelude.{[], ◌∷◌, ◌++◌, codes, decimal}
use Rattle.interval.specs.declared.reason.Reason.{Reason}
use Rattle.interval.specs.Reason.{number, words}
use Rattle.batch.specs.declared.fault.Mistake.{Mistake}
use Rattle.batch.specs.declared.fault.Mistake.TheVariants.{UnknownStatement, KindForm, MethodForm, OrderForm, InputForm, TermForm, RangeForm}
use Rattle.batch.specs.declared.fault.Mistake.TheVariants.{NotANumber, NotAName, NotAFactor, NameTaken, NoInput, LateKind, AboveOrder, OutOfMemory}
use Rattle.batch.specs.declared.fault.Fault.{Fault}
use Rattle.batch.specs.declared.fault.Fault.TheVariants.{Mistaken, Refused}
use Rattle.batch.specs.Words.{Text}

-- a fault, with the text of the word that it is about
pub data Objection : Type 0 where
  mistaken : Mistake → Text → Objection
  refused : Reason → Text → Objection

abbrev pub objection : Fault → Objection
objection (Mistaken m w) = mistaken m w.now
objection (Refused r w) = refused r w.now

abbrev pub no_memory : Objection
no_memory = mistaken OutOfMemory []

-- each mistake in words
abbrev pub mistake_words : Mistake → Text
mistake_words UnknownStatement = codes "no statement is named"
mistake_words KindForm = codes "kind takes whole, fixed or interval"
mistake_words MethodForm = codes "method takes plain, quadratic, or meet and two methods"
mistake_words OrderForm = codes "order takes a whole number"
mistake_words InputForm = codes "input takes a name, a least and a greatest value"
mistake_words TermForm = codes "term takes a coefficient, then factors"
mistake_words RangeForm = codes "range takes nothing"
mistake_words NotANumber = codes "this is no decimal number:"
mistake_words NotAName = codes "this is no name:"
mistake_words NotAFactor = codes "this is no factor:"
mistake_words NameTaken = codes "there already is an input named"
mistake_words NoInput = codes "no input is named"
mistake_words LateKind = codes "the kind comes after an input"
mistake_words AboveOrder = codes "the degree is above the order"
mistake_words OutOfMemory = codes "no memory is left"

-- the word, if there is one, after a separator
abbrev pub after : Text → Text → Text
after separator [] = []
after separator (c ∷ cs) = separator ++ (c ∷ cs)

abbrev pub objection_words : Objection → Text
objection_words (mistaken m w) = mistake_words m ++ after (codes " ") w
objection_words (refused r w) = codes "refusal " ++ (decimal (number r) ++ (codes ": " ++ (words r ++ after (codes ": ") w)))

abbrev pub fault_words : Fault → Text
fault_words f = objection_words (objection f)
