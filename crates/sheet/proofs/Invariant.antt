-- What every reached sheet keeps: it is what stands, its lines follow, and its ends still open a sheet. Assumes nothing.
use Rattle.std.proofs.Common.{◌≡◌, ℕ, ◌-◌, ◌≤◌, true, List, [], ◌∷◌, ◌++◌, length, take, Ok, sym, refl, ap, ◌∙◌, subst, ap₂, arith}
use Rattle.std.specs.List.{AllByRecursion}
use Rattle.std.proofs.lemmas.List.{length_push, length-map, length-take, map_push, take-map}
use Rattle.std.proofs.ByRecursion.{All-push, All-take}
use Rattle.interval.specs.Kind.{KindMeaning}
use Rattle.polynomial.specs.Method.{MethodMeaning}
use Rattle.taylor.proofs.Results.{same-value, and_then_ok, require_ok}
use Rattle.sheet.specs.Box.{box_of}
use Rattle.sheet.specs.State.{Line, line, State, texts, from_to}
use Rattle.sheet.specs.Opening.{Opening, largest_allowance, ends_tested, opened, open_sheet}
use Rattle.sheet.specs.Posting.{with_line, text_fits, line_for}
use Rattle.sheet.specs.Striking.{without_newest}
use Rattle.sheet.specs.Turn.{Post, Strike}
use Rattle.sheet.specs.Standing.{Standing, stand, changed}
use Rattle.sheet.proofs.Following.{Follow, follow_push, follow_take}
use Rattle.sheet.proofs.Ends.{Good, tested_good}
use Rattle.sheet.proofs.Accepting.{posts}

-- what a sheet keeps from its opening on
pub record Invariant (k : KindMeaning) (m : MethodMeaning) (given : Opening) (what : Standing) (s : State) : Type 0 where
  pub order : s.order ≡ given.order
  pub box : s.box ≡ box_of k what.ends
  pub same-texts : texts s.lines ≡ what.texts
  pub follow : Follow k m s.order s.box [] s.lines
  pub few : length s.lines ≤ 12
  pub proper : AllByRecursion (λ t. text_fits t ≡ true) what.texts
  pub orders : from_to 1 8 given.order ≡ true
  pub variables : from_to 1 6 (length what.ends) ≡ true
  pub good : AllByRecursion (Good k.scale) what.ends

module _ (k : KindMeaning) (m : MethodMeaning) (given : Opening) where
  pub opening_keeps : (s : State) → open_sheet k given ≡ Ok s → Invariant k m given (stand given.ends []) s
  unfolding open_sheet
  opening_keeps s q =
      let (a, q1) = require_ok (from_to 1 8 given.order) _ _ q in
      let (b, q2) = require_ok (from_to 1 6 (length given.ends)) _ _ q1 in
      let (c, q3) = require_ok (from_to 1 largest_allowance given.allowance) _ _ q2 in
      let (u, e, q4) = and_then_ok (ends_tested k.scale 0 given.ends) (λ _. Ok (opened k given)) q3 in
      subst (Invariant k m given (stand given.ends [])) (same-value q4) (record {
        order = refl;
        box = refl;
        same-texts = refl;
        follow = tt;
        few = omega arith;
        proper = tt;
        orders = a;
        variables = b;
        good = tested_good k.scale 0 given.ends e;
      })

  -- ---- posting
  pub posting_keeps : (what : Standing) (s : State) (office records : ℕ) (text : List ℕ) (l : Line) → Invariant k m given what s →
      line_for k m s office records text ≡ Ok l → Invariant k m given (changed what (Post office records text)) (with_line s l)
  posting_keeps what s office records text l I q =
      let P = posts k m s office records text l q in
      let L = line office text P.worked in
      subst (λ (x : Line). Invariant k m given (changed what (Post office records text)) (with_line s x)) (sym P.is) (record {
        order = I.order;
        box = I.box;
        same-texts = map_push (λ (x : Line). x.text) s.lines L ∙ ap (λ ts. ts ++ (text ∷ [])) I.same-texts;
        follow = follow_push k m s.order s.box [] s.lines L I.follow P.works;
        few = let h = P.space in rw (length_push s.lines L) (omega arith);
        proper = All-push (λ t. text_fits t ≡ true) what.texts text I.proper P.fits;
        orders = I.orders;
        variables = I.variables;
        good = I.good;
      })

  -- ---- striking
  pub striking_keeps : (what : Standing) (s : State) (office : ℕ) → Invariant k m given what s → Invariant k m given (changed what (Strike office)) (without_newest s)
  striking_keeps what s office I =
      let n = length s.lines - 1 in
      let long : length what.texts ≡ length s.lines = ap length (sym I.same-texts) ∙ length-map s.lines (λ (x : Line). x.text) in
      record {
        order = I.order;
        box = I.box;
        same-texts = sym (take-map (λ (x : Line). x.text) n s.lines) ∙ ap₂ (λ (i : ℕ) (ts : List (List ℕ)). take (i - 1) ts) (sym long) I.same-texts;
        follow = follow_take k m s.order s.box [] n s.lines I.follow;
        few = let h = I.few in rw (length-take n s.lines) (omega arith);
        proper = All-take (λ t. text_fits t ≡ true) (length what.texts - 1) what.texts I.proper;
        orders = I.orders;
        variables = I.variables;
        good = I.good;
      }
