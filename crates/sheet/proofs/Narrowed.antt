-- A narrowing keeps the invariant: the lines that use its variable are worked again, the others stay, and the new ends lie inside the
-- old ones. Assumes nothing.
use Rattle.std.proofs.Common.{◌≡◌, ℕ, ◌<◌, true, [], length, get_or, set, Ok, sym, refl, ap, ◌∙◌, subst, arith}
use lib.Ieee.{Float}
use Rattle.std.specs.List.{AllByRecursion}
use Rattle.std.proofs.lemmas.List.{length-map, length-set, map-set, get_or-map, get_or-set_other}
use Rattle.std.proofs.ByRecursion.{All-set, All-get_or}
use Rattle.std.proofs.lemmas.Bool.{eqb-false}
use Rattle.interval.specs.Variable.{variable}
use Rattle.interval.specs.Kind.{KindMeaning}
use Rattle.polynomial.specs.Method.{MethodMeaning}
use Rattle.formula.specs.Work.{no_variable, no_line}
use Rattle.formula.specs.Meaning.{any_uses, uses}
use Rattle.formula.specs.Inputs.{box_of}
use Rattle.sheet.specs.State.{Line, line, State, texts}
use Rattle.sheet.specs.Opening.{Opening}
use Rattle.sheet.specs.Narrowing.{sound_ends, inside, no_rework, rework, narrowed}
use Rattle.sheet.specs.Turn.{Narrow}
use Rattle.sheet.specs.Standing.{Standing, changed}
use Rattle.sheet.proofs.Following.{Follow}
use Rattle.sheet.proofs.Reworking.{by_line_entries, Reworked, reworked}
use Rattle.sheet.proofs.Ends.{Good, narrowed_good}
use Rattle.sheet.proofs.Accepting.{Narrows, narrows}
use Rattle.sheet.proofs.Invariant.{Invariant}

module _ (k : KindMeaning) (m : MethodMeaning) where
  -- all lines follow from the new box, and the answer is true
  pub narrow_reworks : (s : State) (v : ℕ) (x y : Float) (new : State) (told : ℕ × ℕ) → Follow k m s.order s.box [] s.lines → (N : Narrows k m s v x y new told) →
      Reworked k m s.order (set s.box v (variable k.scale x y)) (line 0 [] no_line) no_rework s.lines (uses v (texts s.lines)) N.work
  narrow_reworks s v x y new told F N =
      let box = set s.box v (variable k.scale x y) in
      let marks = by_line_entries (any_uses v) (texts s.lines) in
      subst (λ bs. Reworked k m s.order box (line 0 [] no_line) no_rework s.lines bs N.work) (sym marks)
      (reworked k m s.order s.box box v (line 0 [] no_line) (length-set s.box v (variable k.scale x y))
      (λ w h. get_or-set_other s.box v w (variable k.scale x y) no_variable (λ p. eqb-false v w h (sym p)))
      no_rework [] [] (record { long = refl; marked = refl; agree = λ n u. refl }) s.lines F N.work
      (subst (λ bs. rework k m s.order box no_rework s.lines bs ≡ Ok N.work) marks N.works))

  -- the new ends are good, since they lie inside the old ones
  pub narrowed-ends : (what : Standing) (s : State) (v : ℕ) (x y : Float) → s.box ≡ box_of k what.ends → AllByRecursion (Good k.scale) what.ends →
      v < length s.box → sound_ends x y ≡ true → inside (get_or s.box v no_variable) x y ≡ true → Good k.scale (x, y)
  unfolding variable
  narrowed-ends what s v x y b G l f i =
      let d : Float × Float = (x, y) in
      let there : v < length what.ends = subst (λ n. v < n) (ap length b ∙ length-map what.ends (λ (e : Float × Float). variable k.scale e.0 e.1)) l in
      let e = get_or what.ends v d in
      let old : get_or s.box v no_variable ≡ variable k.scale e.0 e.1 =
      ap (λ bs. get_or bs v no_variable) b ∙ get_or-map (λ (e : Float × Float). variable k.scale e.0 e.1) what.ends v d no_variable there in
      narrowed_good k.scale e.0 e.1 x y (All-get_or (Good k.scale) what.ends v d there G) f (subst (λ w. inside w x y ≡ true) old i)

  pub narrowing_keeps : (given : Opening) (what : Standing) (s : State) (office records v : ℕ) (x y : Float) (new : State) (told : ℕ × ℕ) → Invariant k m given what s →
      narrowed k m s office records v x y ≡ Ok (new, told) → Invariant k m given (changed what (Narrow office records v x y)) new
  narrowing_keeps given what s office records v x y new told I q =
      let N = narrows k m s office records v x y new told q in
      let R = narrow_reworks s v x y new told I.follow N in
      let kept : texts N.work.lines ≡ texts s.lines = ap texts R.lines ∙ R.same-texts in
      let long : length N.work.lines ≡ length s.lines =
      sym (length-map N.work.lines (λ (l : Line). l.text)) ∙ ap length kept ∙ length-map s.lines (λ (l : Line). l.text) in
      subst (Invariant k m given (changed what (Narrow office records v x y))) (sym N.is) (record {
        order = I.order;
        box = ap (λ b. set b v (variable k.scale x y)) I.box ∙ sym (map-set (λ (e : Float × Float). variable k.scale e.0 e.1) what.ends v (x, y));
        same-texts = kept ∙ I.same-texts;
        follow = subst (Follow k m s.order (set s.box v (variable k.scale x y)) []) (sym R.lines) R.follow;
        few = let h = I.few in omega arith;
        proper = I.proper;
        orders = I.orders;
        variables = rw (length-set what.ends v (x, y)) I.variables;
        good = All-set (Good k.scale) what.ends v (x, y) (narrowed-ends what s v x y I.box I.good N.there N.sounds N.insides) I.good;
      })
