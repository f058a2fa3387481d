-- What the standard library reads as a whole number is what a test of digits and bound says.
use Rattle.std.proofs.Common.{◌≡◌, ℕ, ◌^◌, ◌<◌, Bool, true, false, cond, ◌&&◌, ltb, [], ◌∷◌, length, Some, None, Ok, Err, Decides, Result, sym, refl, ap, true≢false, arith, rules}
use Rattle.std.specs.Result.{OkIff, result_ok}
use Rattle.std.specs.Str.Parse.{IsNumeral, ParsesUnsigned, digits_value, without_leading_plus}
use Rattle.std.specs.Str.{all_ascii_digits}
use Rattle.std.proofs.lemmas.Str.Parse.{IsNumeralModel, numerals_by_value, tells_all_ascii_digits}
use Rattle.std.proofs.lemmas.Bool.Decides.{Decides-and, Decides-ltb}
use Rattle.batch.specs.Words.{Text, some}
use Rattle.batch.specs.Statements.{whole_number}

own : IsNumeralModel (λ ds. all_ascii_digits ds ≡ true) (digits_value 10)
own = numerals_by_value (λ ds. all_ascii_digits ds ≡ true) tells_all_ascii_digits

decides_some : (ds : Text) → Decides (some ds) (0 < length ds)
decides_some [] = (λ e. absurd (search rules), λ h. absurd (omega arith))
decides_some (c ∷ ds) = (λ e. omega arith, λ h. refl)

abbrev small : Text → Type 0
small ds = IsNumeral 10 ds × (digits_value 10 ds < 2 ^ 64)

decides_small : (ds : Text) → Decides ((some ds && all_ascii_digits ds) && ltb (digits_value 10 ds) (2 ^ 64)) (small ds)
decides_small ds = Decides-and (some ds && all_ascii_digits ds) (ltb (digits_value 10 ds) (2 ^ 64)) (Decides-and (some ds) (all_ascii_digits ds) (decides_some ds) (own.to ds, own.from ds)) (Decides-ltb (digits_value 10 ds) (2 ^ 64))

chosen : (t : Bool) (P : Type 0) (v : ℕ) {E : Type 0} (r : Result ℕ E) → Decides t P → OkIff r P v → result_ok r ≡ cond t (Some v) None
chosen true P v (Ok x) d h = ap Some h.1
chosen true P v (Err e) d h = absurd (h (d.0 refl))
chosen false P v (Ok x) d h = absurd (true≢false (sym (d.1 h.0)))
chosen false P v (Err e) d h = refl

pub reads_whole : {E : Type 0} (t : Text) (r : Result ℕ E) → ParsesUnsigned 64 10 t r → result_ok r ≡ whole_number t
unfolding whole_number
reads_whole t r h = chosen _ (small (without_leading_plus t)) (digits_value 10 (without_leading_plus t)) r (decides_small (without_leading_plus t)) h
