-- A unit's marks divide 10^16, so that the quotient and the rest of a division by them write a decimal number without error.
use Rattle.std.proofs.Common.{◌≡◌, ℕ, zero, suc, ◌+◌, ◌-◌, ◌*◌, ◌/◌, ◌%◌, ◌^◌, ◌<◌, ◌≤◌, sym, ap, ◌∙◌, subst, mod-lt, mul_assoc, mul_comm, add-mul, mul-lt-mul_of_pos_right, div-add-mod', zero-mul, mul-div_cancel, arith, pow_pos, pow-add}
use Rattle.batch.specs.Decimals.{sixteen_places}

-- the parts of 10^16 that a mark has
abbrev pub parts : ℕ → ℕ
parts k = sixteen_places / 2 ^ k

split-power : (k : ℕ) → k ≤ 16 → sixteen_places ≡ (152_587_890_625 * 2 ^ (16 - k)) * 2 ^ k
split-power k h =
    let all : (16 - k) + k ≡ 16 = omega arith in
    let whole : 2 ^ (16 - k) * 2 ^ k ≡ 65_536 = sym (pow-add 2 (16 - k) k) ∙ ap (λ n. 2 ^ n) all in
    sym (mul_assoc 152_587_890_625 (2 ^ (16 - k)) (2 ^ k) ∙ ap (λ n. 152_587_890_625 * n) whole)

pub parts_whole : (k : ℕ) → k ≤ 16 → parts k * 2 ^ k ≡ sixteen_places
parts_whole k h =
    let e = split-power k h in
    ap (λ n. n / 2 ^ k * 2 ^ k) e ∙ ap (λ n. n * 2 ^ k) (mul-div_cancel (152_587_890_625 * 2 ^ (16 - k)) (pow_pos k)) ∙ sym e

above_zero : (m n : ℕ) → m * n ≡ sixteen_places → 0 < m
above_zero zero n e = absurd (omega (arith, sym (zero-mul n) ∙ e))
above_zero (suc m) n e = omega arith

joined : (q r K T S : ℕ) → T * K ≡ S → (q * S + r * T) * K ≡ (q * K + r) * S
joined q r K T S e =
    add-mul (q * S) (r * T) K
    ∙ ap (λ n. n + r * T * K) (mul_assoc q S K ∙ ap (λ n. q * n) (mul_comm S K) ∙ sym (mul_assoc q K S))
    ∙ ap (λ n. q * K * S + n) (mul_assoc r T K ∙ ap (λ n. r * n) e)
    ∙ sym (add-mul (q * K) r S)

pub exact : (n k : ℕ) → k ≤ 16 → (n / 2 ^ k * sixteen_places + n % 2 ^ k * parts k) * 2 ^ k ≡ n * sixteen_places
exact n k h = joined (n / 2 ^ k) (n % 2 ^ k) (2 ^ k) (parts k) sixteen_places (parts_whole k h) ∙ ap (λ m. m * sixteen_places) (div-add-mod' n (2 ^ k))

pub small : (n k : ℕ) → k ≤ 16 → n % 2 ^ k * parts k < sixteen_places
small n k h =
    let some : 0 < parts k = above_zero (parts k) (2 ^ k) (parts_whole k h) in
    subst (λ m. n % 2 ^ k * parts k < m) (mul_comm (2 ^ k) (parts k) ∙ parts_whole k h) (mul-lt-mul_of_pos_right (mod-lt n (pow_pos k)) some)
