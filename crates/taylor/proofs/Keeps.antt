-- The form of results, and the way between a model and its record. Assumes nothing.
use Rattle.std.proofs.Common.{◌≡◌, ℕ, ◌-◌, length, replicate, sym, refl, ap}
use Rattle.std.proofs.lemmas.List.{take_at}
use Rattle.polynomial.specs.Reach.{zero_term}
use Rattle.taylor.specs.declared.model.ModelRecord.{ModelRecord}
use Rattle.taylor.specs.Model.{Model, model, packed_terms, packed, unpacked}
use Rattle.taylor.specs.Form.{Formed, Canonical, greatest_order}
use Rattle.taylor.specs.Keeping.{FormsKept, TablesKept, Packing}
use Rattle.taylor.proofs.Drafts.{length_pairs}
use Rattle.taylor.proofs.Counting.{monomials_gathered, fronts_gathered}
use Rattle.taylor.proofs.Forms.{constant_formed, variable_formed, negated_formed, sum_formed, difference_formed, joins-keep, gathering_keeps, product_formed}
use Rattle.taylor.proofs.Tests.{test_passed, test_passes, tested_polynomial, times-kept, power-kept}

pub forms_kept : FormsKept
forms_kept k m order = record {
  constants = constant_formed k;
  variables = variable_formed;
  negatives = negated_formed;
  sums = sum_formed;
  differences = difference_formed;
  products = product_formed k m order;
  tests = test_passed m;
  passes = test_passes m;
  polynomials = tested_polynomial m;
  worked_products = times-kept k m order;
  powers = power-kept k m order;
}

pub tables_kept : TablesKept
tables_kept k order = (joins-keep, length_pairs, gathering_keeps k order, monomials_gathered k order, fronts_gathered k order)

-- ---- records
unpacked-packed : (M : Model) → unpacked (packed M) ≡ M
unpacked-packed M = ap (λ ts. model ts M.remainder) (take_at M.terms (replicate (40 - length M.terms) zero_term) (length M.terms) refl)

packed-canonical : (n : ℕ) (M : Model) → Formed greatest_order n M → Canonical (packed M)
packed-canonical n M F =
    let same = sym (ap (λ (N : Model). N.terms) (unpacked-packed M)) in
    record {
      packs = record { whole = ap packed_terms same; size = ap length same; fits = rw (← same) F.normal.few };
      normal = rw (unpacked-packed M) F.normal;
      degrees = rw (← same) F.degrees;
    }

packed-unpacked : (r : ModelRecord) → Canonical r → packed (unpacked r) ≡ r
packed-unpacked r c = λ i. record { count = sym c.packs.size i; terms = sym c.packs.whole i; remainder = r.remainder }

pub packing : Packing
packing = record { back = unpacked-packed; canonical = packed-canonical; same = packed-unpacked }
