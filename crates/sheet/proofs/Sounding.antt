-- Bounds hold: each line is sound over the lines below it, since it is what `work` gives from them; and what a tested model carries it
-- bounds. Assumes nothing.
use Rattle.std.proofs.Common.{◌≡◌, ℕ, ◌+◌, ◌<◌, ◌≤◌, leb, ◌⊎◌, List, [], ◌∷◌, ◌++◌, length, get_or, Some, None, Option, sym, refl, ap, ◌∙◌, subst, subst₂, inl, inr, append_assoc, append-nil, arith}
use lib.Ieee.{Float}
use Rattle.std.proofs.lemmas.List.{length_push, length-map, get_or-map, get_or_append_left, get_or_push}
use Rattle.std.proofs.lemmas.Bool.{and_parts, leb-true, cases_lt}
use Rattle.rational.specs.Fraction.{Fraction}
use Rattle.interval.specs.declared.variable.Variable.{Variable}
use Rattle.interval.specs.Variable.{variable}
use Rattle.interval.specs.Kind.{KindMeaning}
use Rattle.polynomial.specs.Method.{MethodMeaning}
use Rattle.taylor.specs.Box.{InBox, units}
use Rattle.taylor.specs.Product.{Worked}
use Rattle.taylor.specs.Selection.{marks}
use Rattle.taylor.proofs.Coordinates.{points_hold}
use Rattle.formula.specs.Token.{tokens}
use Rattle.formula.specs.Work.{no_line}
use Rattle.formula.specs.Meaning.{exact_tokens, exact, exact_marks}
use Rattle.formula.specs.Inputs.{box_of}
use Rattle.formula.specs.WorkLaws.{InBounds, SoundLine, SoundLines, WorkSound}
use Rattle.formula.proofs.LineBounds.{in_marks, sound_bounds}
use Rattle.sheet.specs.State.{Line, line, State, texts, workeds, line_at, model_at}
use Rattle.sheet.specs.Opening.{Opening}
use Rattle.sheet.specs.Standing.{Standing}
use Rattle.sheet.proofs.Following.{Follow}
use Rattle.sheet.proofs.Reworking.{entries, by_line_entries}
use Rattle.sheet.proofs.Invariant.{Invariant}

module _ (k : KindMeaning) (m : MethodMeaning) (us : List Fraction) where
  -- one sound line more
  sound_push : (ws : List Worked) (xs : List (Option Fraction)) (w : Worked) (x : Option Fraction) → SoundLines k m us ws xs → SoundLine k m us w x → SoundLines k m us (ws ++ (w ∷ [])) (xs ++ (x ∷ []))
  sound_push ws xs w x L s = record {
    as_many = length_push ws w ∙ ap (λ n. n + 1) L.as_many ∙ sym (length_push xs x);
    each = λ n h. go n (cases_lt n (length ws)) h;
  }
    where
      go : (n : ℕ) → (n < length ws) ⊎ (length ws ≤ n) → n < length (ws ++ (w ∷ [])) → SoundLine k m us (get_or (ws ++ (w ∷ [])) n no_line) (get_or (xs ++ (x ∷ [])) n None)
      go n (inl l) h =
          let e = L.as_many in
          subst₂ (SoundLine k m us) (sym (get_or_append_left ws (w ∷ []) no_line n l)) (sym (get_or_append_left xs (x ∷ []) None n (omega arith))) (L.each n l)
      go n (inr l) h =
          let e = L.as_many in
          let here : length ws ≡ n = omega (arith, length_push ws w) in
          subst₂ (SoundLine k m us) (sym (get_or_push ws w no_line n here)) (sym (get_or_push xs x None n (omega arith))) s

module _ (W : WorkSound) (k : KindMeaning) (m : MethodMeaning) (order : ℕ) (box : List Variable) (point : List Fraction) (six : length box ≤ 6) (P : InBox box point) where
  -- lines that follow from sound ones are sound
  sound_lines : (below : List Worked) (xs : List (Option Fraction)) (ls : List Line) → SoundLines k m (units box point) below xs → Follow k m order box below ls →
      SoundLines k m (units box point) (below ++ workeds ls) (xs ++ entries (exact_tokens k.scale point) xs (texts ls))
  sound_lines below xs [] L F = subst₂ (SoundLines k m (units box point)) (sym (append-nil below)) (sym (append-nil xs)) L
  sound_lines below xs (l ∷ ls) L F =
      let x = exact_tokens k.scale point xs (tokens l.text) in
      let here = sound_push k m (units box point) below xs l.worked x L (W k m order box point below xs l.text l.worked six P L F.0) in
      subst₂ (SoundLines k m (units box point)) (append_assoc below (l.worked ∷ []) (workeds ls)) (append_assoc xs (x ∷ []) (entries (exact_tokens k.scale point) (xs ++ (x ∷ [])) (texts ls)))
      (sound_lines (below ++ (l.worked ∷ [])) (xs ++ (x ∷ [])) ls here F.1)

  pub all_sound : (ls : List Line) → Follow k m order box [] ls → SoundLines k m (units box point) (workeds ls) (exact k.scale point (texts ls))
  all_sound ls F = subst (SoundLines k m (units box point) (workeds ls)) (sym (by_line_entries (exact_tokens k.scale point) (texts ls))) (sound_lines [] [] ls (record { as_many = refl; each = λ n h. absurd (omega arith) }) F)

module _ (W : WorkSound) (k : KindMeaning) (m : MethodMeaning) (given : Opening) (what : Standing) (s : State) (I : Invariant k m given what s) (point : List Fraction)
    (P : InBox (box_of k what.ends) point) (n : ℕ) (h : n < length what.texts) where
  -- line n of the sheet is sound
  pub line_sound : SoundLine k m (units (box_of k what.ends) point) (line_at s n).worked (get_or (exact k.scale point what.texts) n None)
  line_sound =
      let box = box_of k what.ends in
      let six : length box ≤ 6 = let b = and_parts (leb 1 (length what.ends)) (leb (length what.ends) 6) I.variables in
      omega (arith, leb-true (length what.ends) 6 b.1, length-map what.ends (λ (e : Float × Float). variable k.scale e.0 e.1)) in
      let L = all_sound W k m s.order box point six P s.lines (subst (λ (b : List Variable). Follow k m s.order b [] s.lines) I.box I.follow) in
      let long : length what.texts ≡ length s.lines = ap length (sym I.same-texts) ∙ length-map s.lines (λ (l : Line). l.text) in
      let there : n < length s.lines = omega arith in
      let is = get_or-map (λ (l : Line). l.worked) s.lines n (line 0 [] no_line) no_line there in
      subst₂ (λ (w : Worked) (ts : List (List ℕ)). SoundLine k m (units box point) w (get_or (exact k.scale point ts) n None)) is I.same-texts
      (L.each n (omega (arith, length-map s.lines (λ (l : Line). l.worked))))

  -- so its model bounds its exact value
  pub line_in_bounds : (v : Fraction) × (exact_marks k.scale point what.texts n ≡ Some v) × InBounds m (units (box_of k what.ends) point) (model_at s n) v
  line_in_bounds =
      let us = units (box_of k what.ends) point in
      let w = (line_at s n).worked in
      let x = get_or (exact k.scale point what.texts) n None in
      (marks k.scale line_sound.value, in_marks k m us w x line_sound, sound_bounds k m us w x line_sound (points_hold (box_of k what.ends) point P).coordinates)
