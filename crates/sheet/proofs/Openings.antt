-- Each way out of opening a sheet. Assumes nothing.
use Rattle.std.proofs.Common.{◌≡◌, ℕ, true, false, leb, List, [], length, IsErrAnd, Ok, Err, Result, sym, refl, ap, ◌∙◌, arith}
use lib.Ieee.{Float}
use Rattle.std.specs.List.{AllByRecursion}
use Rattle.std.proofs.lemmas.List.{length-map}
use Rattle.std.proofs.lemmas.Bool.{and_parts, leb-true}
use Rattle.interval.specs.declared.reason.Reason.TheVariants.{OrderOutOfRange, VariablesOutOfRange, AllowanceOutOfRange}
use Rattle.interval.specs.declared.refusal.Refusal.{Refusal}
use Rattle.interval.specs.declared.variable.Variable.{Variable}
use Rattle.interval.specs.Reason.{and_then}
use Rattle.interval.specs.Kind.{KindMeaning}
use Rattle.table.specs.Slice.{packed, Packs}
use Rattle.table.proofs.Packing.{packs_front}
use Rattle.taylor.proofs.Results.{same-value, not_refused, and_then_ok, require_yes}
use Rattle.formula.specs.Work.{no_variable}
use Rattle.sheet.specs.State.{State, from_to, refusal}
use Rattle.sheet.specs.Opening.{opening, largest_allowance, opened, ends_tested, open_sheet}
use Rattle.sheet.specs.Boxes.{boxed, made_box}
use Rattle.sheet.specs.Records.{state_of, opened_record}
use Rattle.sheet.specs.Shape.{FromTo, FitVariable, Shape}
use Rattle.sheet.proofs.Requires.{require_no}
use Rattle.sheet.proofs.Slices.{packs_own}

-- what was refused before an answer is refused before any other
refused-before : {A B C E : Type 0} (r : Result A E) (x : B) (y : C) (e : E) → Err e ≡ and_then r (λ _. Ok x) → Err e ≡ and_then r (λ _. Ok y)
refused-before (Ok a) x y e q = absurd (not_refused q)
refused-before (Err f) x y e q = cc

from_to_in : (a b n : ℕ) → true ≡ from_to a b n → FromTo a b n
from_to_in a b n t = let p = and_parts (leb a n) (leb n b) (sym t) in record { low = leb-true a n p.0; high = leb-true n b p.1 }

module _ (k : KindMeaning) (order : ℕ) (ends : List (Float × Float)) (allowance : ℕ) where
  pub opens_no_order : false ≡ from_to 1 8 order → (e : Refusal) → e ≡ refusal OrderOutOfRange 0 0 → Err e ≡ open_sheet k (opening order ends allowance)
  unfolding open_sheet
  opens_no_order a e is = ap Err is ∙ sym (require_no _ _ _ (sym a))

  module _ (a : true ≡ from_to 1 8 order) where
    pub opens_no_box : false ≡ from_to 1 6 (length ends) → (e : Refusal) → e ≡ refusal VariablesOutOfRange 0 0 → Err e ≡ open_sheet k (opening order ends allowance)
    unfolding open_sheet
    opens_no_box b e is = ap Err is ∙ sym (require_yes _ _ _ (sym a) ∙ require_no _ _ _ (sym b))

    module _ (b : true ≡ from_to 1 6 (length ends)) where
      pub opens_no_allowance : false ≡ from_to 1 largest_allowance allowance → (e : Refusal) → e ≡ refusal AllowanceOutOfRange 0 0 → Err e ≡ open_sheet k (opening order ends allowance)
      unfolding open_sheet
      opens_no_allowance c e is = ap Err is ∙ sym (require_yes _ _ _ (sym a) ∙ require_yes _ _ _ (sym b) ∙ require_no _ _ _ (sym c))

      module _ (c : true ≡ from_to 1 largest_allowance allowance) (S : ℕ) (scale : S ≡ k.scale) where
        -- all three tests are passed
        passed : open_sheet k (opening order ends allowance) ≡ and_then (ends_tested S 0 ends) (λ _. Ok (opened k (opening order ends allowance)))
        unfolding open_sheet
        passed = require_yes _ _ _ (sym a) ∙ require_yes _ _ _ (sym b) ∙ require_yes _ _ _ (sym c) ∙ rw scale refl

        pub opens-refused : (e : Refusal) → Err e ≡ made_box S ends → (r : Result State Refusal) → IsErrAnd r (λ f. f ≡ e) → r ≡ open_sheet k (opening order ends allowance)
        opens-refused e is (Ok s) q = elim q [ ]
        opens-refused e is (Err f) q = ap Err q ∙ refused-before (ends_tested S 0 ends) _ (opened k (opening order ends allowance)) e is ∙ sym passed

        module _ (vs : List Variable) (is : Ok vs ≡ made_box S ends) where
          made : (ends_tested S 0 ends ≡ Ok tt) × (vs ≡ packed 6 no_variable (boxed S ends))
          made = let (x, p, q) = and_then_ok (ends_tested S 0 ends) (λ _. Ok (packed 6 no_variable (boxed S ends))) (sym is) in (p, sym (same-value q))

          packs : Packs 6 no_variable vs (length ends) (boxed S ends)
          packs = let f = (from_to_in 1 6 (length ends) b).high in record { whole = made.1; size = sym (length-map ends _); fits = rw length-map f }

          pub opens-value : Ok (state_of (opened_record order allowance (length ends) vs)) ≡ open_sheet k (opening order ends allowance)
          opens-value =
              ap (λ box. Ok (record { order = order; box = box; allowance = allowance; lines = []; accounts = [] })) (packs_front 6 no_variable vs (length ends) (boxed S ends) packs ∙ ap (λ n. boxed n ends) scale)
              ∙ sym (passed ∙ ap (λ r. and_then r (λ _. Ok (opened k (opening order ends allowance)))) made.0)

          pub opens_shape : AllByRecursion FitVariable (boxed S ends) → Shape (opened_record order allowance (length ends) vs)
          opens_shape fit = record {
            order = from_to_in 1 8 order a;
            allowance = from_to_in 1 largest_allowance allowance c;
            box = record {
              size = from_to_in 1 6 (length ends) b;
              packs = packs_own 6 no_variable vs (length ends) (boxed S ends) packs;
              each = rw (packs_front 6 no_variable vs (length ends) (boxed S ends) packs) fit;
            };
            lines = record { packs = record { whole = refl; size = refl; fits = omega arith }; each = tt };
            accounts = record { packs = record { whole = refl; size = refl; fits = omega arith }; ascends = tt; paid = omega arith };
          }
