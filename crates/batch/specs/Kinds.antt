-- The kinds of coefficient by name. Assumes nothing.
use Rattle.std.specs.Prelude.{ℕ, cond, List, Some, None, codes, Option}
use Rattle.std.specs.Str.{bytes_eq}
use Rattle.interval.specs.Kind.{KindMeaning}
use Rattle.interval.specs.NamedKinds.{whole_kind, fixed_kind, interval_kind}
use Rattle.batch.specs.declared.kind.KindChoice.{KindChoice}
use Rattle.batch.specs.declared.kind.KindChoice.TheVariants.{Whole, Fixed, Interval}

-- what a choice means
abbrev pub chosen_kind : KindChoice → KindMeaning
chosen_kind Whole = whole_kind
chosen_kind Fixed = fixed_kind
chosen_kind Interval = interval_kind

-- the word that names a choice
abbrev pub kind_text : KindChoice → List ℕ
kind_text Whole = codes "whole"
kind_text Fixed = codes "fixed"
kind_text Interval = codes "interval"

-- the choice that a word names
abbrev pub kind_named : List ℕ → Option KindChoice
kind_named w =
    cond (bytes_eq w (codes "whole")) (Some Whole)
    (cond (bytes_eq w (codes "fixed")) (Some Fixed)
    (cond (bytes_eq w (codes "interval")) (Some Interval) None))
