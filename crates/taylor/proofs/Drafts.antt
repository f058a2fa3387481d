-- Terms that are gathered into a table stay a draft, and a draft without its [0, 0] is the polynomial of a model.
-- Assumes nothing.
use Rattle.std.proofs.Common.{◌≡◌, ℕ, suc, ◌+◌, ◌*◌, ◌<◌, ◌≤◌, Bool, true, false, cond, not, List, [], ◌∷◌, length, ◌≤ℤ◌, fold, sym, refl, ap, ◌∙◌, suc-mul, arith, length-append}
use Rattle.std.specs.List.{AllByRecursion}
use Rattle.std.proofs.ByRecursion.{All-append, All-weaker, all_kept_by, kept_by_passes}
use Rattle.std.proofs.lemmas.Bool.{leb-true, not-true, and_parts}
use Rattle.interval.specs.declared.marks.Interval.{Interval}
use Rattle.interval.specs.Interval.{limit, Sized, Fits, fits, is_zero}
use Rattle.interval.specs.Kind.{KindMeaning, twice_limit}
use Rattle.interval.proofs.Sizes.{sized_weaken, sized-plus, fits-sized}
use Rattle.table.specs.Monomial.{degree}
use Rattle.table.specs.Order.{by_degree}
use Rattle.table.specs.Table.{entered}
use Rattle.table.proofs.Ascents.{entered-ascends, drops_ascend}
use Rattle.table.proofs.Monomials.{length-multiplied}
use Rattle.table.proofs.Growth.{all_entered}
use Rattle.polynomial.specs.declared.term.Term.{Term}
use Rattle.polynomial.specs.Reach.{term, joined, joins, dropped}
use Rattle.polynomial.specs.Terms.{all_fit}
use Rattle.polynomial.proofs.Coefficients.{dropped-length}
use Rattle.polynomial.proofs.Reaches.{sized-reach}
use Rattle.polynomial.proofs.Standing.{all_both}
use Rattle.taylor.specs.Model.{Model, model}
use Rattle.taylor.specs.Form.{NormalTerm, Formed, DraftTerm, Draft, Gathering}
use Rattle.taylor.specs.Product.{pair, row, pairs, kept, keep, cut, gather}
use Rattle.taylor.proofs.Sizes.{times-order}

-- six exponents each
abbrev pub Six : List Term → Type 0
Six ts = AllByRecursion (λ t. length t.monomial ≡ 6) ts

-- ---- one more term
draft_term_more : {d m : ℕ} (n : ℕ) {t : Term} → m ≤ n → DraftTerm d m t → DraftTerm d n t
draft_term_more n h s = record { six = s.six; low = s.low; sized = sized_weaken h s.sized }

pub draft_more : {d m : ℕ} (n : ℕ) {ts : List Term} → m ≤ n → Draft d m ts → Draft d n ts
draft_more {d} {m} n {ts} h D = record { ascends = D.ascends; each = All-weaker (DraftTerm d m) (DraftTerm d n) (λ t. draft_term_more n h) ts D.each }

pub draft-entered : {d a b : ℕ} (t : Term) (ts : List Term) → Draft d a ts → DraftTerm d b t → Draft d (a + b) (entered by_degree (λ u. u.monomial) joined ts t)
draft-entered {d} {a} {b} t ts D s = record {
  ascends = entered-ascends by_degree (λ u. u.monomial) joined (λ x e. refl) ts t D.ascends;
  each = all_entered by_degree (λ u. u.monomial) joined (DraftTerm d a) (DraftTerm d (a + b)) t
      (λ x. draft_term_more (a + b) (omega arith)) (draft_term_more (a + b) (omega arith) s)
      (λ x r. record { six = r.six; low = r.low; sized = sized-plus r.sized s.sized }) ts D.each;
}

pub draft-joins : {d : ℕ} (a b : ℕ) (ts qs : List Term) → Draft d a ts → AllByRecursion (DraftTerm d b) qs → Draft d (a + length qs * b) (joins ts qs)
draft-joins {d} a b ts [] D A = draft_more (a + 0 * b) (omega arith) D
draft-joins {d} a b ts (q ∷ qs) D A =
    draft_more (a + suc (length qs) * b) (omega (arith, suc-mul (length qs) b))
    (draft-joins (a + b) b (entered by_degree (λ u. u.monomial) joined ts q) qs (draft-entered q ts D A.0) A.1)

-- ---- pairs
module _ (S : ℕ) (P Q : Term → Type 0) (each : (p q : Term) → Q p → Q q → P (pair S p q)) where
  row-each : (p : Term) (qs : List Term) → Q p → AllByRecursion Q qs → AllByRecursion P (row S p qs)
  row-each p [] h A = tt
  row-each p (q ∷ qs) h A = (each p q h A.0, row-each p qs h A.1)

  -- what holds of the pair of any two terms holds of all pairs
  pub pairs-each : (ps qs : List Term) → AllByRecursion Q ps → AllByRecursion Q qs → AllByRecursion P (pairs S ps qs)
  unfolding pairs
  pairs-each [] qs A B = tt
  pairs-each (p ∷ ps) qs A B = All-append P (row S p qs) (pairs S ps qs) (row-each p qs A.0 B) (pairs-each ps qs A.1 B)

length-row : (S : ℕ) (p : Term) (qs : List Term) → length (row S p qs) ≡ length qs
length-row S p [] = refl
length-row S p (q ∷ qs) = ap suc (length-row S p qs)

pub length_pairs : (S : ℕ) (ps qs : List Term) → length (pairs S ps qs) ≡ length ps * length qs
unfolding pairs
length_pairs S [] qs = omega arith
length_pairs S (p ∷ ps) qs = omega (arith, length-append (row S p qs) (pairs S ps qs), length-row S p qs, length_pairs S ps qs, suc-mul (length ps) (length qs))

pub pairs-six : (S : ℕ) (ps qs : List Term) → Six ps → Six qs → Six (pairs S ps qs)
pairs-six S ps qs = pairs-each S (λ t. length t.monomial ≡ 6) (λ t. length t.monomial ≡ 6) (λ p q a b. length-multiplied p.monomial q.monomial (a ∙ sym b) ∙ a) ps qs

all_units : (ts : List Term) → AllByRecursion (λ t. Unit {0}) ts
all_units [] = tt
all_units (t ∷ ts) = (tt, all_units ts)

-- ends in order
abbrev pub Ordered : Term → Type 0
Ordered t = t.coefficient.lower ≤ℤ t.coefficient.upper

pub pairs_ordered : (S : ℕ) → 0 < S → (ps qs : List Term) → AllByRecursion Ordered (pairs S ps qs)
pairs_ordered S above ps qs = pairs-each S Ordered (λ t. Unit {0}) (λ p q a b. times-order S above p.coefficient q.coefficient) ps qs (all_units ps) (all_units qs)

-- the test of all
pub all_fit_in : (ts : List Term) → AllByRecursion Ordered ts → all_fit ts ≡ true → AllByRecursion (λ t. Fits t.coefficient) ts
all_fit_in [] A t = tt
all_fit_in (x ∷ xs) A t = let h = and_parts (fits x.coefficient) (all_fit xs) t in (fits-sized A.0 h.0, all_fit_in xs A.1 h.1)

-- ---- gathering
-- a pair that is kept, and one that is cut
module _ (k : KindMeaning) {d a r : ℕ} (M : Model) (t : Term) (f : Fits t.coefficient) (G : Gathering d a r M) where
  pub keep-one : length t.monomial ≡ 6 → degree t.monomial ≤ d → Gathering d (a + limit) (r + twice_limit) (keep k M t)
  keep-one six low =
      let s = k.splits t.coefficient f in
      record {
        draft = draft-entered (term t.monomial (k.split t.coefficient).0) M.terms G.draft (record { six = six; low = low; sized = s.coefficient });
        remainder = sized-plus G.remainder (sized-reach t.monomial s.leftover);
      }

  pub cut-one : Gathering d (a + limit) (r + twice_limit) (cut M t)
  cut-one = record {
    draft = draft_more (a + limit) (omega arith) G.draft;
    remainder = sized_weaken (omega arith) (sized-plus G.remainder (sized-reach t.monomial f));
  }

module _ (k : KindMeaning) (order : ℕ) where
  gather-one : {a r : ℕ} (M : Model) (t : Term) → length t.monomial ≡ 6 → Fits t.coefficient → Gathering order a r M
      → Gathering order (a + limit) (r + twice_limit) (gather k order M t)
  gather-one {a} {r} M t six f G = go (kept order t) refl
    where
      go : (b : Bool) → kept order t ≡ b → Gathering order (a + limit) (r + twice_limit) (cond b (keep k M t) (cut M t))
      go true q = keep-one k M t f G six (leb-true (degree t.monomial) order q)
      go false q = cut-one k M t f G

  pub gather_all : (a r : ℕ) (ts : List Term) (M : Model) → Six ts → AllByRecursion (λ t. Fits t.coefficient) ts → Gathering order a r M
      → Gathering order (a + length ts * limit) (r + length ts * twice_limit) (fold (gather k order) M ts)
  gather_all a r [] M A F G = record { draft = draft_more (a + 0 * limit) (omega arith) G.draft; remainder = sized_weaken (omega arith) G.remainder }
  gather_all a r (t ∷ ts) M A F G =
      let H = gather_all (a + limit) (r + twice_limit) ts (gather k order M t) A.1 F.1 (gather-one M t A.0 F.0 G) in
      record {
        draft = draft_more (a + suc (length ts) * limit) (omega arith) H.draft;
        remainder = sized_weaken (omega arith) H.remainder;
      }

-- ---- [0, 0] is dropped
pub draft_formed : {d n : ℕ} (ts : List Term) (r : Interval) → Draft d n ts → length ts ≤ 40 → Sized n r → Formed d n (model (dropped ts) r)
draft_formed {d} {n} ts r D few s =
    let test = λ (t : Term). not (is_zero t.coefficient) in
    let each = all_kept_by test (DraftTerm d n) ts D.each in
    record {
      normal = record {
        few = omega (arith, dropped-length ts);
        ascends = drops_ascend by_degree (λ u. u.monomial) test ts D.ascends;
        each = all_both (DraftTerm d n) (λ t. test t ≡ true) NormalTerm (λ t a b. record { six = a.six; order = a.sized.order; some = not-true (is_zero t.coefficient) b }) (dropped ts) each (kept_by_passes test ts);
        order = s.order;
      };
      degrees = All-weaker (DraftTerm d n) (λ t. degree t.monomial ≤ d) (λ t a. a.low) (dropped ts) each;
      sized = record { coefficients = All-weaker (DraftTerm d n) (λ t. Sized n t.coefficient) (λ t a. a.sized) (dropped ts) each; remainder = s };
    }
