-- What reading a line gives, by whether it stands. Assumes nothing.
use Rattle.std.proofs.Common.{◌≡◌, ℕ, ltb, List, [], length, get_or, IsErrAnd, Some, None, Ok, Err, Option, Result, sym, ap, ◌∙◌, ⊎_elim}
use Rattle.std.specs.Option.{option_map, ok_or}
use Rattle.std.specs.List.{slice_get}
use Rattle.std.proofs.lemmas.Option.{slice_get-get_or, slice_get_past}
use Rattle.std.proofs.lemmas.Bool.{cases_lt, lt-ltb, le-ltb}
use Rattle.interval.specs.declared.reason.Reason.TheVariants.{NoLineToRead}
use Rattle.interval.specs.declared.refusal.Refusal.{Refusal}
use Rattle.interval.specs.Reason.{require}
use Rattle.polynomial.specs.Method.{MethodMeaning}
use Rattle.taylor.specs.Model.{unpacked, full_range}
use Rattle.taylor.proofs.Results.{require_yes}
use Rattle.formula.specs.Work.{no_line}
use Rattle.sheet.specs.declared.line.LineRecord.{LineRecord}
use Rattle.sheet.specs.State.{Line, line, State, refusal}
use Rattle.sheet.specs.Reading.{read_model, read_range}
use Rattle.sheet.specs.Records.{line_of}
use Rattle.sheet.proofs.Requires.{require_no}

-- an entry that is asked for by its number
asked : {X Y E : Type 0} (f : X → Y) (xs : List X) (n : ℕ) (d : X) (e : E) → require (ltb n (length xs)) e (Ok (f (get_or xs n d))) ≡ ok_or (option_map f (slice_get xs n)) e
asked f xs n d e = ⊎_elim
    (λ h. require_yes _ _ _ (lt-ltb n (length xs) h) ∙ ap (λ o. ok_or (option_map f o) e) (sym (slice_get-get_or xs n d h)))
    (λ h. require_no _ _ _ (le-ltb n (length xs) h) ∙ ap (λ o. ok_or (option_map f o) e) (sym (slice_get_past xs n h)))
    (cases_lt n (length xs))

module _ (s : State) (n : ℕ) where
  model_as : (o : Option Line) → o ≡ slice_get s.lines n → read_model s n ≡ ok_or (option_map (λ l. l.worked.model) o) (refusal NoLineToRead n 0)
  unfolding read_model
  model_as o is = rw is (asked (λ l. l.worked.model) s.lines n (line 0 [] no_line) (refusal NoLineToRead n 0))

  range_as : (m : MethodMeaning) (o : Option Line) → o ≡ slice_get s.lines n → read_range m s n ≡ ok_or (option_map (λ l. full_range m l.worked.model) o) (refusal NoLineToRead n 0)
  unfolding read_range
  range_as m o is = rw is (asked (λ l. full_range m l.worked.model) s.lines n (line 0 [] no_line) (refusal NoLineToRead n 0))

  -- no such line stands
  module _ (none : None ≡ slice_get s.lines n) where
    pub no_model : read_model s n ≡ Err (refusal NoLineToRead n 0)
    no_model = model_as None none

    pub no_range : (m : MethodMeaning) → read_range m s n ≡ Err (refusal NoLineToRead n 0)
    no_range m = range_as m None none

  -- it does
  module _ (l : LineRecord) (some : Some (line_of l) ≡ slice_get s.lines n) where
    pub model-is : read_model s n ≡ Ok (unpacked l.worked.model)
    model-is = model_as (Some (line_of l)) some

    pub range-is : (m : MethodMeaning) → read_range m s n ≡ Ok (full_range m (unpacked l.worked.model))
    range-is m = range_as m (Some (line_of l)) some

-- what is handed on is the refusal of a line that does not stand
pub handed_on : {A B : Type 0} (o : Option B) (e f g : Refusal) → o ≡ None → Err e ≡ ok_or o f → f ≡ g → (r : Result A Refusal) → IsErrAnd r (λ x. x ≡ e) → r ≡ Err g
handed_on (Some x) e f g none q is r h = cc
handed_on None e f g none q is (Ok x) h = elim h [ ]
handed_on None e f g none q is (Err x) h = cc
