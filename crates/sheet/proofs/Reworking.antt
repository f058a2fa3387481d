-- Reworking: with the lines that use the variable worked again, all lines follow from the new box, since `work` from the new box and the
-- new lines gives the same where nothing of both is used. Assumes nothing.
use Rattle.std.proofs.Common.{◌≡◌, ℕ, zero, suc, ◌+◌, Bool, true, false, cond, eqb, List, [], ◌∷◌, ◌++◌, length, get_or, Ok, fold, count_by, sym, refl, ap, ◌∙◌, subst, true≢false, append_assoc, append-nil, arith}
use Rattle.std.proofs.lemmas.List.{length_push, map_push}
use Rattle.std.proofs.lemmas.List.Sums.{sum_by-cons}
use Rattle.interval.specs.declared.variable.Variable.{Variable}
use Rattle.interval.specs.Kind.{KindMeaning}
use Rattle.polynomial.specs.Method.{MethodMeaning}
use Rattle.taylor.specs.Product.{Worked}
use Rattle.formula.specs.declared.token.Token.{Token}
use Rattle.formula.specs.Token.{tokens}
use Rattle.formula.specs.Work.{ground, no_variable, no_line, work}
use Rattle.formula.specs.Meaning.{by_line, any_uses}
use Rattle.sheet.specs.State.{Line, line, texts, workeds, at_line}
use Rattle.sheet.specs.Narrowing.{Rework, kept_line, worked_line, rework}
use Rattle.sheet.specs.Promise.{marked_pairs}
use Rattle.taylor.proofs.Results.{same-value, and_then_ok}
use Rattle.formula.proofs.Faults.{at_line_ok}
use Rattle.formula.proofs.Locality.{Agree, same_unused}
use Rattle.sheet.proofs.Following.{Follow}

-- ---- the entries of lines, one after the other
abbrev pub entries : {A : Type 0} → (List A → List Token → A) → List A → List (List ℕ) → List A
entries f below [] = []
entries f below (t ∷ ts) = f below (tokens t) ∷ entries f (below ++ (f below (tokens t) ∷ [])) ts

entries_behind : {A : Type 0} (f : List A → List Token → A) (below : List A) (ts : List (List ℕ)) →
    fold (λ b t. b ++ (f b (tokens t) ∷ [])) below ts ≡ below ++ entries f below ts
entries_behind f below [] = sym (append-nil below)
entries_behind f below (t ∷ ts) =
    entries_behind f (below ++ (f below (tokens t) ∷ [])) ts ∙ append_assoc below (f below (tokens t) ∷ []) (entries f (below ++ (f below (tokens t) ∷ [])) ts)

pub by_line_entries : {A : Type 0} (f : List A → List Token → A) (ts : List (List ℕ)) → by_line f ts ≡ entries f [] ts
unfolding by_line
by_line_entries f ts = entries_behind f [] ts

-- ---- what a rework of lines gives
pub record Reworked (k : KindMeaning) (m : MethodMeaning) (order : ℕ) (box : List Variable) (none : Line) (r : Rework) (ls : List Line) (marks : List Bool) (q : Rework) : Type 0 where
  pub rest : List Line
  pub lines : q.lines ≡ r.lines ++ rest
  pub same-texts : texts rest ≡ texts ls
  pub count : q.count ≡ r.count + count_by (λ b. b) marks
  pub pairs : q.pairs ≡ r.pairs + marked_pairs rest marks
  pub others : (n : ℕ) → get_or marks n false ≡ false → get_or rest n none ≡ get_or ls n none
  pub follow : Follow k m order box (workeds r.lines) rest

-- lists that agree where there is no mark still do with one entry more
agree_push : (d : Worked) (xs ys : List Worked) (bs : List Bool) → length xs ≡ length ys → length bs ≡ length ys →
    ((n : ℕ) → get_or bs n false ≡ false → get_or xs n d ≡ get_or ys n d) → (x y : Worked) (b : Bool) → (b ≡ false → x ≡ y) →
    (n : ℕ) → get_or (bs ++ (b ∷ [])) n false ≡ false → get_or (xs ++ (x ∷ [])) n d ≡ get_or (ys ++ (y ∷ [])) n d
agree_push d [] [] [] p q f x y b e zero u = e u
agree_push d [] [] [] p q f x y b e (suc n) u = refl
agree_push d [] [] (c ∷ bs) p q f x y b e n u = absurd (omega arith)
agree_push d [] (w ∷ ys) bs p q f x y b e n u = absurd (omega arith)
agree_push d (w ∷ xs) [] bs p q f x y b e n u = absurd (omega arith)
agree_push d (w ∷ xs) (z ∷ ys) [] p q f x y b e n u = absurd (omega arith)
agree_push d (w ∷ xs) (z ∷ ys) (c ∷ bs) p q f x y b e zero u = f 0 u
agree_push d (w ∷ xs) (z ∷ ys) (c ∷ bs) p q f x y b e (suc n) u = agree_push d xs ys bs (omega arith) (omega arith) (λ i. f (suc i)) x y b e n u

module _ (k : KindMeaning) (m : MethodMeaning) (order : ℕ) (box : List Variable) (none : Line) where
  -- a line that is kept, before those that were reworked
  kept_step : (r : Rework) (l : Line) (ls : List Line) (marks : List Bool) (q : Rework) →
      work k m (ground order box (workeds r.lines)) l.text ≡ Ok l.worked →
      Reworked k m order box none (kept_line r l) ls marks q → Reworked k m order box none r (l ∷ ls) (false ∷ marks) q
  kept_step r l ls marks q e R = record {
    rest = l ∷ R.rest;
    lines = R.lines ∙ append_assoc r.lines (l ∷ []) R.rest;
    same-texts = ap (λ ts. l.text ∷ ts) R.same-texts;
    count = let c = R.count in omega (arith, sum_by-cons (λ (b : Bool). cond b 1 0) false marks);
    pairs = R.pairs ∙ omega arith;
    others = elim [ zero ↦ λ u. refl | suc n ↦ λ u. R.others n u ];
    follow = (e, subst (λ b. Follow k m order box b R.rest) (map_push (λ (x : Line). x.worked) r.lines l) R.follow);
  }

  -- a line that is worked again
  worked-step : (r : Rework) (l : Line) (ls : List Line) (marks : List Bool) (q : Rework) (w : Worked) →
      work k m (ground order box (workeds r.lines)) l.text ≡ Ok w →
      Reworked k m order box none (worked_line r l w) ls marks q → Reworked k m order box none r (l ∷ ls) (true ∷ marks) q
  worked-step r l ls marks q w e R =
      let new = line l.office l.text w in
      record {
        rest = new ∷ R.rest;
        lines = R.lines ∙ append_assoc r.lines (new ∷ []) R.rest;
        same-texts = ap (λ ts. l.text ∷ ts) R.same-texts;
        count = let c = R.count in omega (arith, sum_by-cons (λ (b : Bool). cond b 1 0) true marks);
        pairs = R.pairs ∙ omega arith;
        others = elim [ zero ↦ λ u. absurd (true≢false u) | suc n ↦ λ u. R.others n u ];
        follow = (e, subst (λ b. Follow k m order box b R.rest) (map_push (λ (x : Line). x.worked) r.lines new) R.follow);
      }

module _ (k : KindMeaning) (m : MethodMeaning) (order : ℕ) (old-box box : List Variable) (v : ℕ) (none : Line)
    (size : length box ≡ length old-box) (elsewhere : (w : ℕ) → eqb v w ≡ false → get_or box w no_variable ≡ get_or old-box w no_variable) where
  -- the lines reworked so far, beside the old ones
  pub record Beside (new old : List Worked) (bs : List Bool) : Type 0 where
    pub long : length new ≡ length old
    pub marked : length bs ≡ length old
    pub agree : (n : ℕ) → get_or bs n false ≡ false → get_or new n no_line ≡ get_or old n no_line

  grounds_agree : {new old : List Worked} {bs : List Bool} → Beside new old bs → Agree v bs (ground order box new) (ground order old-box old)
  grounds_agree B = record {
    matches = record { order = refl; variables = size; lines = B.long };
    same-variable = elsewhere;
    same_line = λ n u. let e = B.agree n u in record { model = ap (λ (w : Worked). w.model) e; clean = ap (λ (w : Worked). w.clean) e };
  }

  beside_push : (r : List Line) (l : Line) {old : List Worked} {bs : List Bool} (y : Worked) (b : Bool) → Beside (workeds r) old bs → (b ≡ false → l.worked ≡ y) → Beside (workeds (r ++ (l ∷ []))) (old ++ (y ∷ [])) (bs ++ (b ∷ []))
  beside_push r l {old} {bs} y b B e = subst (λ new. Beside new (old ++ (y ∷ [])) (bs ++ (b ∷ []))) (sym (map_push (λ (x : Line). x.worked) r l)) (record {
    long = let p = B.long in length_push (workeds r) l.worked ∙ ap (λ n. n + 1) p ∙ sym (length_push old y);
    marked = length_push bs b ∙ ap (λ n. n + 1) B.marked ∙ sym (length_push old y);
    agree = agree_push no_line (workeds r) old bs B.long B.marked B.agree l.worked y b e;
  })

  pub reworked : (r : Rework) (old : List Worked) (bs : List Bool) → Beside (workeds r.lines) old bs → (ls : List Line) → Follow k m order old-box old ls →
      (q : Rework) → rework k m order box r ls (entries (any_uses v) bs (texts ls)) ≡ Ok q → Reworked k m order box none r ls (entries (any_uses v) bs (texts ls)) q
  unfolding rework
  reworked r old bs B [] F q e = let p = same-value e in record {
    rest = [];
    lines = sym (ap (λ x. x.lines) p) ∙ sym (append-nil r.lines);
    same-texts = refl;
    count = sym (ap (λ x. x.count) p) ∙ omega arith;
    pairs = sym (ap (λ x. x.pairs) p) ∙ omega arith;
    others = λ n u. refl;
    follow = tt;
  }
  reworked r old bs B (l ∷ ls) F q e = go (any_uses v bs (tokens l.text)) refl e (λ r old bs B F q e. reworked r old bs B ls F q e)
    where
      go : (b : Bool) → any_uses v bs (tokens l.text) ≡ b → rework k m order box r (l ∷ ls) (b ∷ entries (any_uses v) (bs ++ (b ∷ [])) (texts ls)) ≡ Ok q →
          ((r : Rework) (old : List Worked) (bs : List Bool) → Beside (workeds r.lines) old bs → Follow k m order old-box old ls →
          (q : Rework) → rework k m order box r ls (entries (any_uses v) bs (texts ls)) ≡ Ok q → Reworked k m order box none r ls (entries (any_uses v) bs (texts ls)) q) →
          Reworked k m order box none r (l ∷ ls) (b ∷ entries (any_uses v) (bs ++ (b ∷ [])) (texts ls)) q
      go false u e f =
          let here = same_unused k m v bs (ground order box (workeds r.lines)) (ground order old-box old) (grounds_agree B) l.text u in
          let more = f (kept_line r l) (old ++ (l.worked ∷ [])) (bs ++ (false ∷ [])) (beside_push r.lines l l.worked false B (λ _. refl)) F.1 q e in
          kept_step k m order box none r l ls (entries (any_uses v) (bs ++ (false ∷ [])) (texts ls)) q (here ∙ F.0) more
      go true u e f =
          let new = λ (w : Worked). line l.office l.text w in
          let (w, p, t) = and_then_ok (at_line (length r.lines) (work k m (ground order box (workeds r.lines)) l.text)) (λ w. rework k m order box (worked_line r l w) ls (entries (any_uses v) (bs ++ (true ∷ [])) (texts ls))) e in
          let more = f (worked_line r l w) (old ++ (l.worked ∷ [])) (bs ++ (true ∷ [])) (beside_push r.lines (new w) l.worked true B (λ u. absurd (true≢false u))) F.1 q t in
          worked-step k m order box none r l ls (entries (any_uses v) (bs ++ (true ∷ [])) (texts ls)) q w (at_line_ok (length r.lines) (work k m (ground order box (workeds r.lines)) l.text) p) more
