-- Exact in the whole kind: each clean line over whole constants has points for coefficients, since it is what `work` gives from such lines;
-- and a model of points that carries a value has that value. Assumes nothing.
use Rattle.std.proofs.Common.{◌≡◌, ℕ, zero, suc, ◌+◌, ◌<◌, true, List, [], ◌∷◌, ◌++◌, length, get_or, Some, None, sym, refl, ap, ◌∙◌, subst, subst₂, append_assoc, append-nil, arith}
use Rattle.std.specs.List.{AllByRecursion}
use Rattle.std.proofs.lemmas.List.{length_push, length-map, get_or-map}
use Rattle.rational.specs.Fraction.{Fraction}
use Rattle.interval.specs.declared.variable.Variable.{Variable}
use Rattle.interval.specs.Kind.{KindMeaning}
use Rattle.polynomial.specs.Method.{MethodMeaning}
use Rattle.taylor.specs.Box.{InBox, units}
use Rattle.taylor.specs.Product.{Worked}
use Rattle.taylor.specs.Selection.{marks}
use Rattle.taylor.specs.Exactness.{Whole}
use Rattle.formula.specs.declared.token.Token.{Token}
use Rattle.formula.specs.Token.{tokens}
use Rattle.formula.specs.Work.{no_line}
use Rattle.formula.specs.Meaning.{all_named, built_from, exact, exact_marks}
use Rattle.formula.specs.Inputs.{box_of}
use Rattle.formula.specs.WorkLaws.{WholeToken, ExactModel, WorkSound, WholeLine, WorkWhole}
use Rattle.formula.proofs.LineBounds.{in_marks, sound_exact}
use Rattle.sheet.specs.State.{Line, line, State, texts, workeds, line_at, model_at}
use Rattle.sheet.specs.Opening.{Opening}
use Rattle.sheet.specs.Standing.{Standing}
use Rattle.sheet.proofs.Following.{Follow}
use Rattle.sheet.proofs.Reworking.{entries, by_line_entries}
use Rattle.sheet.proofs.Invariant.{Invariant}
use Rattle.sheet.proofs.Sounding.{line_sound}

-- one such line more
whole-push : (ws : List Worked) (ms : List (List Token)) (w : Worked) (ts : List Token) → length ws ≡ length ms → ((n : ℕ) → WholeLine (get_or ws n no_line) (get_or ms n [])) → WholeLine w ts →
    (n : ℕ) → WholeLine (get_or (ws ++ (w ∷ [])) n no_line) (get_or (ms ++ (ts ∷ [])) n [])
whole-push [] [] w ts e L h zero = h
whole-push [] [] w ts e L h (suc n) = L 0
whole-push [] (t ∷ ms) w ts e L h n = absurd (omega arith)
whole-push (v ∷ ws) [] w ts e L h n = absurd (omega arith)
whole-push (v ∷ ws) (t ∷ ms) w ts e L h zero = L 0
whole-push (v ∷ ws) (t ∷ ms) w ts e L h (suc n) = whole-push ws ms w ts (omega arith) (λ i. L (suc i)) h n

module _ (W : WorkWhole) (k : KindMeaning) (m : MethodMeaning) (K : Whole k) (order : ℕ) (box : List Variable) where
  -- lines that follow from such lines are such lines
  whole-lines : (below : List Worked) (made : List (List Token)) (ls : List Line) → length below ≡ length made → ((n : ℕ) → WholeLine (get_or below n no_line) (get_or made n [])) →
      Follow k m order box below ls → (n : ℕ) → WholeLine (get_or (below ++ workeds ls) n no_line) (get_or (made ++ entries all_named made (texts ls)) n [])
  whole-lines below made [] e L F n = subst₂ (λ (ws : List Worked) (ms : List (List Token)). WholeLine (get_or ws n no_line) (get_or ms n [])) (sym (append-nil below)) (sym (append-nil made)) (L n)
  whole-lines below made (l ∷ ls) e L F n =
      let ts = all_named made (tokens l.text) in
      subst₂ (λ (ws : List Worked) (ms : List (List Token)). WholeLine (get_or ws n no_line) (get_or ms n []))
      (append_assoc below (l.worked ∷ []) (workeds ls)) (append_assoc made (ts ∷ []) (entries all_named (made ++ (ts ∷ [])) (texts ls)))
      (whole-lines (below ++ (l.worked ∷ [])) (made ++ (ts ∷ [])) ls (length_push below l.worked ∙ ap (λ i. i + 1) e ∙ sym (length_push made ts))
      (whole-push below made l.worked ts e L (W k m K order box below made l.text l.worked L F.0)) F.1 n)

  all_whole : (ls : List Line) → Follow k m order box [] ls → (n : ℕ) → WholeLine (get_or (workeds ls) n no_line) (get_or (built_from (texts ls)) n [])
  all_whole ls F n = subst (λ ms. WholeLine (get_or (workeds ls) n no_line) (get_or ms n [])) (sym (by_line_entries all_named (texts ls)))
      (whole-lines [] [] ls refl (λ i c h. record { coefficients = tt; remainder = refl }) F n)

module _ (S : WorkSound) (W : WorkWhole) (k : KindMeaning) (m : MethodMeaning) (given : Opening) (what : Standing) (s : State) (I : Invariant k m given what s) (K : Whole k)
    (point : List Fraction) (P : InBox (box_of k what.ends) point) (n : ℕ) (h : n < length what.texts) where
  pub line-exact : (line_at s n).worked.clean ≡ true → AllByRecursion WholeToken (get_or (built_from what.texts) n []) →
      (v : Fraction) × (exact_marks k.scale point what.texts n ≡ Some v) × ExactModel (units (box_of k what.ends) point) (model_at s n) v
  line-exact c built =
      let us = units (box_of k what.ends) point in
      let L = line_sound S k m given what s I point P n h in
      let long : length what.texts ≡ length s.lines = ap length (sym I.same-texts) ∙ length-map s.lines (λ (l : Line). l.text) in
      let is = get_or-map (λ (l : Line). l.worked) s.lines n (line 0 [] no_line) no_line (omega arith) in
      let points : WholeLine (line_at s n).worked (get_or (built_from what.texts) n []) =
      subst₂ (λ (w : Worked) (ts : List (List ℕ)). WholeLine w (get_or (built_from ts) n [])) is I.same-texts (all_whole W k m K s.order s.box s.lines I.follow n) in
      let w = (line_at s n).worked in
      let x = get_or (exact k.scale point what.texts) n None in
      (marks k.scale L.value, in_marks k m us w x L, sound_exact k m us w x L (points c built))
