-- The pairs of a product as they come, in one pass: the model so far, and what is told of the pairs. Assumes nothing.
use Rattle.std.specs.Prelude.{◌≡◌, ℕ, ◌+◌, ◌-◌, ◌^◌, ◌≤◌, Bool, true, cond, ◌&&◌, List, length, OnOk, Ok, fold, Result, nat_le}
use Rattle.interval.specs.declared.marks.Interval.{Interval}
use Rattle.interval.specs.declared.reason.Reason.{Reason}
use Rattle.interval.specs.declared.reason.Reason.TheVariants.{TooManyMonomials, DoesNotFit}
use Rattle.interval.specs.Interval.{Fits, zero_interval, fits}
use Rattle.interval.specs.Kind.{KindMeaning}
use Rattle.interval.specs.Reason.{and_then, require}
use Rattle.table.specs.Monomial.{degree}
use Rattle.polynomial.specs.declared.term.Term.{Term}
use Rattle.polynomial.specs.Reach.{term, dropped}
use Rattle.polynomial.specs.Method.{MethodMeaning}
use Rattle.taylor.specs.declared.model.ModelRecord.{ModelRecord}
use Rattle.taylor.specs.declared.tally.TallyRecord.{TallyRecord}
use Rattle.taylor.specs.Model.{Model, model, zero_model, unpacked}
use Rattle.taylor.specs.Form.{greatest_order, SizedModel, InPlaces}
use Rattle.taylor.specs.Product.{kept, gather, product_pairs, three_fit, joint_remainder}

-- a hull that does not fit is held as [0, 0]
abbrev pub held_hull : Interval → Interval
held_hull i = cond (fits i) i zero_interval

abbrev pub held : Term → Term
held t = term t.monomial (held_hull t.coefficient)

-- the model that is gathered, how many pairs came, whether none was cut, and whether every hull fits
pub record Tally : Type 0 where
  pub model : Model
  pub pairs : ℕ
  pub clean : Bool
  pub fit : Bool

-- before the first pair
abbrev pub no_pairs : Tally
no_pairs = record { model = zero_model; pairs = 0; clean = true; fit = true }

-- one pair, and one after the other
abbrev pub tallied : KindMeaning → ℕ → Tally → Term → Tally
tallied k order y t = record {
  model = gather k order y.model (held t);
  pairs = y.pairs + 1;
  clean = y.clean && kept order t;
  fit = y.fit && fits t.coefficient;
}

abbrev pub tally : KindMeaning → ℕ → Tally → List Term → Tally
tally k order y ts = fold (tallied k order) y ts

-- all pairs of a product
abbrev pub product_tally : KindMeaning → ℕ → Model → Model → Tally
product_tally k order M N = tally k order no_pairs (product_pairs k M N)

-- at most 40 monomials, or the refusal
abbrev pub roomy : Model → Result Unit Reason
roomy M = require (nat_le (length M.terms) 40) TooManyMonomials (Ok tt)

-- the model of a product from its gathered pairs: its hulls and the three products fit, [0, 0] is dropped, the remainders are added
unfoldable pub completed : KindMeaning → MethodMeaning → Tally → Model → Model → Result Model Reason
completed k m y M N =
    require (y.fit && three_fit k m M N) DoesNotFit (Ok (model (dropped y.model.terms) (joint_remainder k m M N y.model.remainder)))

-- ---- records
-- a tally's record as the tally
abbrev pub tally_of : TallyRecord → Tally
tally_of r = record { model = unpacked r.model; pairs = r.pairs; clean = r.clean; fit = r.fit }

-- a tally of at most 40 monomials, or the refusal
abbrev pub counted : Tally → Result Tally Reason
counted y = require (nat_le (length y.model.terms) 40) TooManyMonomials (Ok y)

-- a tally's record that comes out, as the tally
abbrev pub told : Result TallyRecord Reason → Result Tally Reason
told r = and_then r (λ y. Ok (tally_of y))

-- packed terms, and ends so small that they can be added to
pub record Open (M : ModelRecord) : Type 0 where
  pub packs : InPlaces M
  pub sized : SizedModel (2 ^ 62 - 1) (unpacked M)

-- a term of an operand: its coefficient fits, and its degree is at most the greatest order
pub record Factor (t : Term) : Type 0 where
  pub fit : Fits t.coefficient
  pub low : degree t.monomial ≤ greatest_order

-- what the pairs ts make of the record Y: a refusal at more than 40 monomials, else the tally with them
pub record Took (k : KindMeaning) (order : ℕ) (Y : TallyRecord) (ts : List Term) (r : Result Unit Reason) (Z : TallyRecord) : Type 0 where
  pub value : r ≡ roomy (tally k order (tally_of Y) ts).model
  pub after : OnOk r (tally_of Z ≡ tally k order (tally_of Y) ts)
