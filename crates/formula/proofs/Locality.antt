-- The work of a text depends on what its tokens name alone: from two grounds of the same order and size that run each of its tokens
-- alike, it gives the same. Assumes nothing.
use Rattle.std.proofs.Common.{◌≡◌, ℕ, zero, suc, Bool, true, false, eqb, List, [], ◌∷◌, map, length, get_or, Ok, Err, Result, sym, refl, ap, ◌∙◌, ap₂}
use Rattle.std.specs.List.{AllByRecursion}
use Rattle.std.proofs.lemmas.List.{length-map}
use Rattle.std.proofs.lemmas.Bool.{or_parts}
use Rattle.interval.specs.declared.reason.Reason.{Reason}
use Rattle.interval.specs.declared.variable.Variable.{Variable as Var}
use Rattle.interval.specs.Reason.{and_then}
use Rattle.interval.specs.Kind.{KindMeaning}
use Rattle.polynomial.specs.Method.{MethodMeaning}
use Rattle.taylor.specs.Model.{Model}
use Rattle.taylor.specs.Arithmetic.{variable_model}
use Rattle.taylor.specs.Product.{Worked, worked, power, times_worked}
use Rattle.formula.specs.declared.token.Token.{Token}
use Rattle.formula.specs.declared.token.Token.TheVariants.{Constant, Variable, Line, Power, Add, Subtract, Multiply}
use Rattle.formula.specs.Token.{Item, items, added, read_tokens, tokens}
use Rattle.formula.specs.Fault.{at_place}
use Rattle.formula.specs.Admitted.{admitted}
use Rattle.formula.specs.Work.{Ground, ground, Stack, stack, no_variable, no_line, push, unary, binary, concluded, run_token, run_items, work}
use Rattle.formula.specs.Meaning.{token_uses, any_uses}

-- two grounds of the same order and size
pub record Matching (g h : Ground) : Type 0 where
  pub order : g.order ≡ h.order
  pub variables : length g.box ≡ length h.box
  pub lines : length g.lines ≡ length h.lines

-- the same variable is found at v, and a line with the same model and clean mark at n
abbrev pub SameVariable : Ground → Ground → ℕ → Type 0
SameVariable g h v = get_or g.box v no_variable ≡ get_or h.box v no_variable

pub record SameLine (g h : Ground) (n : ℕ) : Type 0 where
  pub model : (get_or g.lines n no_line).model ≡ (get_or h.lines n no_line).model
  pub clean : (get_or g.lines n no_line).clean ≡ (get_or h.lines n no_line).clean

-- what a token names is the same in both
abbrev pub NamesSame : Ground → Ground → Token → Type 0
NamesSame g h (Constant x) = Unit {0}
NamesSame g h (Variable v) = SameVariable g h v
NamesSame g h (Line n) = SameLine g h n
NamesSame g h (Power e) = Unit {0}
NamesSame g h Add = Unit {0}
NamesSame g h Subtract = Unit {0}
NamesSame g h Multiply = Unit {0}

module _ (k : KindMeaning) (m : MethodMeaning) (g h : Ground) (A : Matching g h) where
  same-run : (s : Stack) (t : Token) → NamesSame g h t → run_token k m g s t ≡ run_token k m h s t
  same-run s (Constant x) N = refl
  same-run s (Variable w) N = ap (λ x. push m s (variable_model w x) true) N
  same-run s (Line n) N = ap₂ (λ (M : Model) (b : Bool). push m s M b) N.model N.clean
  same-run s (Power e) N = ap (λ n. unary s s.operands (power k m n e)) A.order
  same-run s Add N = refl
  same-run s Subtract N = refl
  same-run s Multiply N = ap (λ n. binary s s.operands (λ x y. times_worked k m n (worked x 0 true) y)) A.order

  -- a token that is admitted and run
  same-token : (s : Stack) (t : Token) → NamesSame g h t →
      and_then (admitted k.scale (length g.box) (length g.lines) t) (λ _. run_token k m g s t)
      ≡ and_then (admitted k.scale (length h.box) (length h.lines) t) (λ _. run_token k m h s t)
  same-token s t N =
      ap₂ (λ (a b : ℕ). and_then (admitted k.scale a b t) (λ _. run_token k m g s t)) A.variables A.lines
      ∙ ap (λ r. and_then (admitted k.scale (length h.box) (length h.lines) t) (λ _. r)) (same-run s t N)

  -- an item that is run, and those behind it
  same_behind : (i : ℕ) (is : List Item) (r q : Result Stack Reason) → r ≡ q → ((t : Stack) → run_items k m g t is ≡ run_items k m h t is) →
      and_then (at_place i r) (λ t. run_items k m g t is) ≡ and_then (at_place i q) (λ t. run_items k m h t is)
  same_behind i is r q e f = ap (λ x. and_then (at_place i x) (λ t. run_items k m g t is)) e ∙ go q
    where
      go : (x : Result Stack Reason) → and_then (at_place i x) (λ t. run_items k m g t is) ≡ and_then (at_place i x) (λ t. run_items k m h t is)
      go (Ok t) = f t
      go (Err c) = refl

  same-items : (s : Stack) (is : List Item) → AllByRecursion (NamesSame g h) (read_tokens is) → run_items k m g s is ≡ run_items k m h s is
  unfolding run_items
  same-items s [] N = refl
  same-items s (i ∷ is) N = go i.token N (λ t p. same-items t is p)
    where
      go : (r : Result Token Reason) → AllByRecursion (NamesSame g h) (added r (read_tokens is)) → ((t : Stack) → AllByRecursion (NamesSame g h) (read_tokens is) → run_items k m g t is ≡ run_items k m h t is) →
          and_then (at_place i.place (and_then r (λ t. and_then (admitted k.scale (length g.box) (length g.lines) t) (λ _. run_token k m g s t)))) (λ t. run_items k m g t is)
          ≡ and_then (at_place i.place (and_then r (λ t. and_then (admitted k.scale (length h.box) (length h.lines) t) (λ _. run_token k m h s t)))) (λ t. run_items k m h t is)
      go (Ok t) N f = same_behind i.place is _ _ (same-token s t N.0) (λ u. f u N.1)
      go (Err e) N f = refl

  pub same-work : (text : List ℕ) → AllByRecursion (NamesSame g h) (tokens text) → work k m g text ≡ work k m h text
  unfolding work
  same-work text N = ap (λ r. and_then r (λ s. concluded (length text) s s.operands)) (same-items (stack [] 0 true) (items text) N)

-- ---- grounds that agree but in variable v and in marked lines
pub record Agree (v : ℕ) (marks : List Bool) (g h : Ground) : Type 0 where
  pub matches : Matching g h
  pub same-variable : (w : ℕ) → eqb v w ≡ false → SameVariable g h w
  pub same_line : (n : ℕ) → get_or marks n false ≡ false → SameLine g h n

module _ (k : KindMeaning) (m : MethodMeaning) (v : ℕ) (marks : List Bool) (g h : Ground) (A : Agree v marks g h) where
  names_same : (t : Token) → token_uses v marks t ≡ false → NamesSame g h t
  names_same (Constant x) u = tt
  names_same (Variable w) u = A.same-variable w u
  names_same (Line n) u = A.same_line n u
  names_same (Power e) u = tt
  names_same Add u = tt
  names_same Subtract u = tt
  names_same Multiply u = tt

  all_same : (ts : List Token) → any_uses v marks ts ≡ false → AllByRecursion (NamesSame g h) ts
  all_same [] u = tt
  all_same (t ∷ ts) u = let (a, b) = or_parts (token_uses v marks t) (any_uses v marks ts) u in (names_same t a, all_same ts b)

  -- a text that does not use the variable, through all lines, gives the same
  pub same_unused : (text : List ℕ) → any_uses v marks (tokens text) ≡ false → work k m g text ≡ work k m h text
  same_unused text u = same-work k m g h A.matches text (all_same (tokens text) u)

-- ---- lines with the same models and clean marks
pub record Alike (ls ns : List Worked) : Type 0 where
  pub models : map (λ w. w.model) ls ≡ map (λ w. w.model) ns
  pub cleans : map (λ w. w.clean) ls ≡ map (λ w. w.clean) ns

entry_mapped : {A : Type 0} (f : Worked → A) (ls : List Worked) (n : ℕ) (d : Worked) → get_or (map f ls) n (f d) ≡ f (get_or ls n d)
entry_mapped f [] n d = refl
entry_mapped f (l ∷ ls) zero d = refl
entry_mapped f (l ∷ ls) (suc n) d = entry_mapped f ls n d

module _ (k : KindMeaning) (m : MethodMeaning) (order : ℕ) (box : List Var) (ls ns : List Worked) (A : Alike ls ns) where
  lines_same : (n : ℕ) → SameLine (ground order box ls) (ground order box ns) n
  lines_same n = record {
    model = sym (entry_mapped (λ (w : Worked). w.model) ls n no_line) ∙ ap (λ (Ms : List Model). get_or Ms n no_line.model) A.models ∙ entry_mapped (λ (w : Worked). w.model) ns n no_line;
    clean = sym (entry_mapped (λ (w : Worked). w.clean) ls n no_line) ∙ ap (λ (bs : List Bool). get_or bs n no_line.clean) A.cleans ∙ entry_mapped (λ (w : Worked). w.clean) ns n no_line;
  }

  names-alike : (t : Token) → NamesSame (ground order box ls) (ground order box ns) t
  names-alike (Constant x) = tt
  names-alike (Variable w) = refl
  names-alike (Line n) = lines_same n
  names-alike (Power e) = tt
  names-alike Add = tt
  names-alike Subtract = tt
  names-alike Multiply = tt

  all_alike : (ts : List Token) → AllByRecursion (NamesSame (ground order box ls) (ground order box ns)) ts
  all_alike [] = tt
  all_alike (t ∷ ts) = (names-alike t, all_alike ts)

  -- the pairs of the lines below do not matter
  pub same_alike : (text : List ℕ) → work k m (ground order box ls) text ≡ work k m (ground order box ns) text
  same_alike text =
      let long = sym (length-map ls (λ (w : Worked). w.model)) ∙ ap length A.models ∙ length-map ns (λ (w : Worked). w.model) in
      same-work k m (ground order box ls) (ground order box ns) (record { order = refl; variables = refl; lines = long }) text (all_alike (tokens text))
