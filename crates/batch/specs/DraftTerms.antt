-- The terms of a draft. Assumes nothing.
use Rattle.std.specs.Prelude.{List, take}
use Rattle.polynomial.specs.declared.term.Term.{Term}
use Rattle.batch.specs.declared.draft.Draft.{Draft}

-- those in use
abbrev pub terms_of : Draft → List Term
terms_of d = take d.count d.terms
