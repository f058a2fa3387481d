-- A decimal number is written with a point where it has a fraction.
use Rattle.std.proofs.Common.{◌≡◌, false, eqb, ◌++◌, codes, decimal, sym, ap, append-nil, ne_eqb}
use Rattle.std.specs.Fmt.{sign_text}
use Rattle.batch.specs.declared.decimal.Decimal.{Decimal}
use Rattle.batch.specs.Decimals.{fraction_digits, decimal_text}
use Rattle.batch.specs.Words.{Text}

pub text-whole : (d : Decimal) (s : Text) → s ≡ sign_text d.negative → d.fraction ≡ 0 → s ++ decimal d.whole ≡ decimal_text d
unfolding decimal_text
text-whole d s e z = rw (e, z) (ap (λ t. sign_text d.negative ++ t) (sym (append-nil (decimal d.whole))))

pub text_parted : (d : Decimal) (s : Text) → s ≡ sign_text d.negative → (d.fraction ≡ 0 → ⊥) → s ++ (decimal d.whole ++ (codes "." ++ fraction_digits 16 d.fraction)) ≡ decimal_text d
unfolding decimal_text
text_parted d s e z =
    let some : eqb d.fraction 0 ≡ false = ne_eqb d.fraction 0 z in
    rw (e, some)
