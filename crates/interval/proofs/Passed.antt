-- A number that is passed to a call goes through its 64 bits. Ends that fit, their products, and the least and the greatest
-- of four products come out as they went in. Assumes nothing.
use Rattle.std.proofs.Common.{◌≡◌, ℕ, ◌^◌, ℤ, ◌*ℤ◌, ◌∙◌, ap₂, arith, w64, to_z, of_z}
use borrow.Author.Differences.{ints}
use Rattle.std.specs.Int.{int_min, int_max}
use Rattle.std.proofs.lemmas.Int.{clamps, to_z-of_z}
use Rattle.interval.specs.declared.marks.Interval.{Interval}
use Rattle.interval.specs.Interval.{limit, interval, Bounded, floor_div, ceil_div}

abbrev pub Small : ℤ → Type 0
Small z = Bounded (2 ^ 62) z

-- as a number is passed
abbrev pub passed : ℤ → ℤ
passed z = to_z w64 (of_z w64 z)

pub same : {z : ℤ} → Small z → passed z ≡ z
same {z} h = to_z-of_z w64 z (omega (arith, ints))

pub passed_small : {z : ℤ} → Small z → Small (passed z)
passed_small h = record { low = omega (arith, ints); high = omega (arith, ints) }

-- ---- an end, and a product of two
pub end : {z : ℤ} → Bounded limit z → Bounded limit (passed z)
end h = record { low = omega (arith, ints); high = omega (arith, ints) }

pub end_same : {z : ℤ} → Bounded limit z → passed z ≡ z
end_same h = same (record { low = omega (arith, ints); high = omega (arith, ints) })

pub product_is : {a b z : ℤ} → Bounded limit a → Bounded limit b → z ≡ passed a *ℤ passed b → z ≡ a *ℤ b
product_is h k e = e ∙ ap₂ ◌*ℤ◌ (end_same h) (end_same k)

-- ---- the least and the greatest of four
min_is : {x y z : ℤ} → Small x → Small y → z ≡ int_min (passed x) (passed y) → (z ≡ int_min x y) × Small z
min_is h k e = let m = e ∙ ap₂ int_min (same h) (same k) in (m, record { low = omega (arith, ints, clamps); high = omega (arith, ints, clamps) })

max_is : {x y z : ℤ} → Small x → Small y → z ≡ int_max (passed x) (passed y) → (z ≡ int_max x y) × Small z
max_is h k e = let m = e ∙ ap₂ int_max (same h) (same k) in (m, record { low = omega (arith, ints, clamps); high = omega (arith, ints, clamps) })

pub least_is : {p q r s m n z : ℤ} → Small p → Small q → Small r → Small s → m ≡ int_min (passed p) (passed q) → n ≡ int_min (passed r) (passed s) → z ≡ int_min (passed m) (passed n)
    → (z ≡ int_min (int_min p q) (int_min r s)) × Small z
least_is p q r s e f g =
    let a = min_is p q e in
    let b = min_is r s f in
    let c = min_is a.1 b.1 g in
    (c.0 ∙ ap₂ int_min a.0 b.0, c.1)

pub greatest_is : {p q r s m n z : ℤ} → Small p → Small q → Small r → Small s → m ≡ int_max (passed p) (passed q) → n ≡ int_max (passed r) (passed s) → z ≡ int_max (passed m) (passed n)
    → (z ≡ int_max (int_max p q) (int_max r s)) × Small z
greatest_is p q r s e f g =
    let a = max_is p q e in
    let b = max_is r s f in
    let c = max_is a.1 b.1 g in
    (c.0 ∙ ap₂ int_max a.0 b.0, c.1)

-- ---- both, rounded outward
pub rounded_is : {l g x y : ℤ} {r : Interval} (S : ℕ) → Small l → Small g → l ≡ x → g ≡ y → r ≡ interval (floor_div (passed l) S) (ceil_div (passed g) S) → r ≡ interval (floor_div x S) (ceil_div y S)
rounded_is S h k p q e = e ∙ ap₂ (λ a b. interval (floor_div a S) (ceil_div b S)) (same h ∙ p) (same k ∙ q)
