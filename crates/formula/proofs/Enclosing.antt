-- A formula that is worked alone is enclosed: the two laws of work, over no lines. Assumes nothing.
use Rattle.std.proofs.Common.{◌≡◌, ℕ, ◌+◌, ◌≤◌, true, leb, List, [], ◌∷◌, length, Some, Ok, sym, refl, subst, arith}
use Rattle.std.specs.List.{AllByRecursion}
use Rattle.std.proofs.lemmas.List.{length-map}
use Rattle.std.proofs.lemmas.Bool.{and_parts, leb-true}
use Rattle.rational.specs.Fraction.{Fraction}
use Rattle.interval.specs.declared.variable.Variable.{Variable as Var}
use Rattle.interval.specs.Variable.{variable, variable_of, Sound}
use Rattle.interval.specs.Kind.{KindMeaning}
use Rattle.interval.proofs.GivenEnds.{accepted_tests, variable_sound}
use Rattle.polynomial.specs.Method.{MethodMeaning}
use Rattle.taylor.specs.Box.{InBox, units}
use Rattle.taylor.specs.Product.{Worked}
use Rattle.taylor.specs.Selection.{marks}
use Rattle.taylor.specs.Exactness.{Whole}
use Rattle.taylor.proofs.Coordinates.{points_hold}
use Rattle.taylor.proofs.Results.{and_then_ok, require_ok}
use Rattle.formula.specs.declared.token.Token.{Token}
use Rattle.formula.specs.declared.token.Token.TheVariants.{Constant, Variable, Line, Power, Add, Subtract, Multiply}
use Rattle.formula.specs.Fault.{at_place}
use Rattle.formula.specs.Inputs.{Ends, from_to, box_of, ends_tested, text_fits}
use Rattle.formula.specs.Token.{tokens}
use Rattle.formula.specs.Work.{ground, work}
use Rattle.formula.specs.Meaning.{all_named, exact_tokens}
use Rattle.formula.specs.WorkLaws.{SoundLine, InBounds, WholeToken, ExactModel}
use Rattle.formula.specs.Enclose.{worked_alone, formula_marks, FormulasEnclosed}
use Rattle.formula.proofs.Faults.{at_place_ok, at_line_ok}
use Rattle.formula.proofs.SoundWork.{work_sound}
use Rattle.formula.proofs.WholeWork.{work-whole}
use Rattle.formula.proofs.LineBounds.{in_marks, sound_bounds, sound_exact}

-- a variable that is accepted is the one that its ends make
pub accepted_is : (S : ℕ) (e : Ends) {v : Var} → variable_of S e.0 e.1 ≡ Ok v → v ≡ variable S e.0 e.1
accepted_is S e q = (accepted_tests S e.0 e.1 q).3

-- ends that pass their tests make a box of sound variables
pub tested_sound : (k : KindMeaning) (n : ℕ) (es : List Ends) → ends_tested k.scale n es ≡ Ok tt → AllByRecursion (Sound k.scale) (box_of k es)
tested_sound k n [] q = tt
tested_sound k n (e ∷ es) q =
    let one = variable_of k.scale e.0 e.1 in
    let (v, p, rest) = and_then_ok (at_place n one) (λ _. ends_tested k.scale (n + 1) es) q in
    let made = at_place_ok n one p in
    (subst (Sound k.scale) (accepted_is k.scale e made) (variable_sound k.scale e.0 e.1 v (sym made)), tested_sound k (n + 1) es rest)

-- with no lines below, a text is built from its own tokens
own_tokens : (P : Token → Type 0) (ts : List Token) → AllByRecursion P ts → AllByRecursion P (all_named [] ts)
own_tokens P [] h = tt
own_tokens P (Constant x ∷ ts) h = (h.0, own_tokens P ts h.1)
own_tokens P (Variable v ∷ ts) h = (h.0, own_tokens P ts h.1)
own_tokens P (Line n ∷ ts) h = (h.0, own_tokens P ts h.1)
own_tokens P (Power e ∷ ts) h = (h.0, own_tokens P ts h.1)
own_tokens P (Add ∷ ts) h = (h.0, own_tokens P ts h.1)
own_tokens P (Subtract ∷ ts) h = (h.0, own_tokens P ts h.1)
own_tokens P (Multiply ∷ ts) h = (h.0, own_tokens P ts h.1)

module _ (k : KindMeaning) (m : MethodMeaning) (order : ℕ) (ends : List Ends) (text : List ℕ) (w : Worked) (six : length (box_of k ends) ≤ 6)
    (q : work k m (ground order (box_of k ends) []) text ≡ Ok w) where
  sound_alone : (point : List Fraction) → InBox (box_of k ends) point → SoundLine k m (units (box_of k ends) point) w (exact_tokens k.scale point [] (tokens text))
  sound_alone point P = work_sound k m order (box_of k ends) point [] [] text w six P (record { as_many = refl; each = λ n h. absurd (omega arith) }) q

  alone-bounds : (point : List Fraction) → InBox (box_of k ends) point →
      (v : Fraction) × (formula_marks k.scale point text ≡ Some v) × InBounds m (units (box_of k ends) point) w.model v
  alone-bounds point P =
      let us = units (box_of k ends) point in
      let x = exact_tokens k.scale point [] (tokens text) in
      let L = sound_alone point P in
      (marks k.scale L.value, in_marks k m us w x L, sound_bounds k m us w x L (points_hold (box_of k ends) point P).coordinates)

  alone-exact : Whole k → w.clean ≡ true → AllByRecursion WholeToken (tokens text) → (point : List Fraction) → InBox (box_of k ends) point →
      (v : Fraction) × (formula_marks k.scale point text ≡ Some v) × ExactModel (units (box_of k ends) point) w.model v
  alone-exact K c h point P =
      let us = units (box_of k ends) point in
      let x = exact_tokens k.scale point [] (tokens text) in
      let L = sound_alone point P in
      let points = work-whole k m K order (box_of k ends) [] [] text w (λ n c h. record { coefficients = tt; remainder = refl }) q c (own_tokens WholeToken (tokens text) h) in
      (marks k.scale L.value, in_marks k m us w x L, sound_exact k m us w x L points)

pub formulas_enclosed : FormulasEnclosed
unfolding worked_alone
formulas_enclosed k m order ends text w q =
    let (a, q1) = require_ok (from_to 1 8 order) _ _ (at_line_ok 0 (worked_alone k m order ends text) q) in
    let (b, q2) = require_ok (from_to 1 6 (length ends)) _ _ q1 in
    let (u, e, q3) = and_then_ok (ends_tested k.scale 0 ends) _ q2 in
    let (d, q4) = require_ok (text_fits text) _ _ q3 in
    let few = leb-true (length ends) 6 (and_parts (leb 1 (length ends)) (leb (length ends) 6) b).1 in
    let six : length (box_of k ends) ≤ 6 = omega (arith, few, length-map ends (λ (e : Ends). variable k.scale e.0 e.1)) in
    record { spans = tested_sound k 0 ends e; bounds = alone-bounds k m order ends text w six q4; exact = alone-exact k m order ends text w six q4 }
