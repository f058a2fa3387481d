-- The form of every result: normal, of bounded degree, and far below what 64 bits hold. Assumes nothing.
use Rattle.std.specs.Prelude.{◌≡◌, ℕ, ◌+◌, ◌*◌, ◌<◌, ◌≤◌, List, map, length, take, Ok}
use Rattle.std.specs.List.{AllByRecursion}
use Rattle.interval.specs.declared.marks.Interval.{Interval}
use Rattle.interval.specs.declared.variable.Variable.{Variable}
use Rattle.interval.specs.Interval.{limit, Bounded, Fits}
use Rattle.interval.specs.Kind.{KindMeaning, twice_limit}
use Rattle.polynomial.specs.declared.term.Term.{Term}
use Rattle.polynomial.specs.Reach.{joins}
use Rattle.polynomial.specs.Method.{MethodMeaning, Polynomial}
use Rattle.taylor.specs.declared.model.ModelRecord.{ModelRecord}
use Rattle.taylor.specs.Model.{Model, packed, unpacked, tested}
use Rattle.taylor.specs.Form.{Normal, Degrees, Formed, Canonical, Tested, DraftTerm, Draft, Gathering, greatest_order}
use Rattle.taylor.specs.Arithmetic.{constant, variable_model, negated_model, sum, difference}
use Rattle.taylor.specs.Product.{Worked, pairs, gathered, product, times_worked, power}

-- 2 to the power 44
abbrev pub room : ℕ
room = 17_592_186_044_416

-- terms that join a table one by one
abbrev pub JoinsKeep : Type 0
JoinsKeep = (d a b : ℕ) (ts us : List Term) → Draft d a ts → AllByRecursion (DraftTerm d b) us → Draft d (a + length us * b) (joins ts us)

-- how many pairs two polynomials make
abbrev pub PairsCounted : Type 0
PairsCounted = (S : ℕ) (ps qs : List Term) → length (pairs S ps qs) ≡ length ps * length qs

-- so many pairs that fit: a coefficient has at most the limit for each of them, the remainder twice that
abbrev pub GatheringKeeps : KindMeaning → ℕ → Type 0
GatheringKeeps k order = (ps : List Term) → AllByRecursion (λ t. length t.monomial ≡ 6) ps → AllByRecursion (λ t. Fits t.coefficient) ps →
    Gathering order (length ps * limit) (length ps * twice_limit) (gathered k order ps)

-- the monomials that are gathered depend on those of the pairs alone
abbrev pub MonomialsGathered : KindMeaning → ℕ → Type 0
MonomialsGathered k order = (ps qs : List Term) → map (λ t. t.monomial) ps ≡ map (λ t. t.monomial) qs →
    map (λ t. t.monomial) (gathered k order ps).terms ≡ map (λ t. t.monomial) (gathered k order qs).terms

-- the first of the pairs gather no more monomials than all of them
abbrev pub FrontsGathered : KindMeaning → ℕ → Type 0
FrontsGathered k order = (ps : List Term) (i : ℕ) → length (gathered k order (take i ps)).terms ≤ length (gathered k order ps).terms

-- the results of the operations, and of the test
pub record Keeping (k : KindMeaning) (m : MethodMeaning) (order : ℕ) : Type 0 where
  pub constants : (i : Interval) → Fits i → Formed 0 twice_limit (constant k i)
  pub variables : (n b : ℕ) (v : Variable) → n < 6 → Bounded b v.centre → Bounded b v.half → Formed 1 b (variable_model n v)
  pub negatives : (d n : ℕ) (M : Model) → Formed d n M → Formed d n (negated_model M)
  pub sums : (d : ℕ) (M N R : Model) → Formed d limit M → Formed d limit N → sum M N ≡ Ok R → Formed d room R
  pub differences : (d : ℕ) (M N R : Model) → Formed d limit M → Formed d limit N → difference M N ≡ Ok R → Formed d room R
  pub products : (M N R : Model) → Normal M → Normal N → product k m order M N ≡ Ok R → Formed order room R
  pub tests : (M R : Model) → Normal M → tested m M ≡ Ok R → (R ≡ M) × Tested m M
  pub passes : (M : Model) → Tested m M → tested m M ≡ Ok M
  pub polynomials : (M : Model) → Tested m M → Polynomial M.terms
  pub worked_products : (w v : Worked) (N : Model) → Normal w.model → Normal N → times_worked k m order w N ≡ Ok v → Tested m v.model × Degrees order v.model.terms
  pub powers : (d n : ℕ) (M : Model) (w : Worked) → order ≤ d → Tested m M → Degrees d M.terms → power k m order n M ≡ Ok w → Tested m w.model × Degrees d w.model.terms

abbrev pub FormsKept : Type 0
FormsKept = (k : KindMeaning) (m : MethodMeaning) (order : ℕ) → Keeping k m order

abbrev pub TablesKept : Type 0
TablesKept = (k : KindMeaning) (order : ℕ) → JoinsKeep × PairsCounted × GatheringKeeps k order × MonomialsGathered k order × FrontsGathered k order

-- between a model and its record
pub record Packing : Type 0 where
  pub back : (M : Model) → unpacked (packed M) ≡ M
  pub canonical : (n : ℕ) (M : Model) → Formed greatest_order n M → Canonical (packed M)
  pub same : (r : ModelRecord) → Canonical r → packed (unpacked r) ≡ r
