-- What an accepted posting or narrowing has passed, and what it leaves. Assumes nothing.
use Rattle.std.proofs.Common.{◌≡◌, ℕ, ◌<◌, Bool, true, ltb, List, length, get_or, set, Ok, sym, ap}
use lib.Ieee.{Float}
use Rattle.std.proofs.lemmas.Bool.{ltb-true}
use Rattle.interval.specs.declared.reason.Reason.TheVariants.{AllowancePassed}
use Rattle.interval.specs.Reason.{require}
use Rattle.interval.specs.Variable.{variable}
use Rattle.interval.specs.Kind.{KindMeaning}
use Rattle.polynomial.specs.Method.{MethodMeaning}
use Rattle.taylor.specs.Product.{Worked}
use Rattle.formula.specs.Work.{fault, ground, no_variable, work}
use Rattle.formula.specs.Meaning.{uses}
use Rattle.sheet.specs.State.{Line, line, State, texts, workeds, refusal, known_office, can_charge, affordable, enough_records}
use Rattle.sheet.specs.Posting.{text_fits, line_for}
use Rattle.sheet.specs.Narrowing.{sound_ends, inside, Rework, no_rework, rework, with_box, narrowed}
use Rattle.taylor.proofs.Results.{same-value, and_then_ok, require_ok}

-- what is answered behind the last test
passed : {A E : Type 0} (b : Bool) (e : E) (x : A) {y : A} → require b e (Ok x) ≡ Ok y → y ≡ x
passed b e x q = sym (same-value (require_ok b e (Ok x) q).1)

module _ (k : KindMeaning) (m : MethodMeaning) where
  -- ---- posting
  pub record Posts (s : State) (office : ℕ) (text : List ℕ) (l : Line) : Type 0 where
    pub space : length s.lines < 12
    pub fits : text_fits text ≡ true
    pub worked : Worked
    pub works : work k m (ground s.order s.box (workeds s.lines)) text ≡ Ok worked
    pub is : l ≡ line office text worked

  pub posts : (s : State) (office records : ℕ) (text : List ℕ) (l : Line) → line_for k m s office records text ≡ Ok l → Posts s office text l
  unfolding line_for
  posts s office records text l q =
      let (a, q1) = require_ok (known_office office) _ _ q in
      let (b, q2) = require_ok (ltb (length s.lines) 12) _ _ q1 in
      let (c, q3) = require_ok (enough_records records) _ _ q2 in
      let (d, q4) = require_ok (text_fits text) _ _ q3 in
      let (e, q5) = require_ok (can_charge s office) _ _ q4 in
      let (w, p, q6) = and_then_ok (work k m (ground s.order s.box (workeds s.lines)) text) _ q5 in
      record { space = ltb-true (length s.lines) 12 b; fits = d; worked = w; works = p; is = passed (affordable s w.pairs) (fault AllowancePassed 0) (line office text w) q6 }

  -- ---- narrowing
  pub record Narrows (s : State) (v : ℕ) (x y : Float) (new : State) (told : ℕ × ℕ) : Type 0 where
    pub there : v < length s.box
    pub sounds : sound_ends x y ≡ true
    pub insides : inside (get_or s.box v no_variable) x y ≡ true
    pub work : Rework
    pub works : rework k m s.order (set s.box v (variable k.scale x y)) no_rework s.lines (uses v (texts s.lines)) ≡ Ok work
    pub office : ℕ
    pub is : new ≡ with_box s (set s.box v (variable k.scale x y)) work.lines office work.pairs
    pub tells : told ≡ (work.count, work.pairs)

  narrows_by : (s : State) (office v : ℕ) (x y : Float) (new : State) (told : ℕ × ℕ) (r : Rework) → v < length s.box → sound_ends x y ≡ true → inside (get_or s.box v no_variable) x y ≡ true →
      let box = set s.box v (variable k.scale x y) in
      rework k m s.order box no_rework s.lines (uses v (texts s.lines)) ≡ Ok r →
      require {A = State × (ℕ × ℕ)} (affordable s r.pairs) (refusal AllowancePassed 0 0) (Ok (with_box s box r.lines office r.pairs, (r.count, r.pairs))) ≡ Ok (new, told) → Narrows s v x y new told
  narrows_by s office v x y new told r l f i p q =
      let same = passed (affordable s r.pairs) (refusal AllowancePassed 0 0) (with_box s (set s.box v (variable k.scale x y)) r.lines office r.pairs, (r.count, r.pairs)) q in
      record {
        there = l;
        sounds = f;
        insides = i;
        work = r;
        works = p;
        office = office;
        is = ap (λ (z : State × (ℕ × ℕ)). z.0) same;
        tells = ap (λ (z : State × (ℕ × ℕ)). z.1) same;
      }

  pub narrows : (s : State) (office records v : ℕ) (x y : Float) (new : State) (told : ℕ × ℕ) → narrowed k m s office records v x y ≡ Ok (new, told) → Narrows s v x y new told
  unfolding narrowed
  narrows s office records v x y new told q =
      let (a, q1) = require_ok (known_office office) _ _ q in
      let (b, q2) = require_ok (enough_records records) _ _ q1 in
      let (c, q3) = require_ok (can_charge s office) _ _ q2 in
      let (d, q4) = require_ok (ltb v (length s.box)) _ _ q3 in
      let (e, q5) = require_ok (sound_ends x y) _ _ q4 in
      let (f, q6) = require_ok (inside (get_or s.box v no_variable) x y) _ _ q5 in
      let (r, p, q7) = and_then_ok (rework k m s.order (set s.box v (variable k.scale x y)) no_rework s.lines (uses v (texts s.lines))) _ q6 in
      narrows_by s office v x y new told r (ltb-true v (length s.box) d) e f p q7
