-- Monomials place by place: products add exponents and degrees. Assumes nothing.
use Rattle.std.proofs.Common.{◌≡◌, ℕ, zero, suc, ◌+◌, ◌%◌, ◌<◌, true, eqb, [], ◌∷◌, length, get_or, sym, refl, ap, ◌∙◌, ap₂, arith}
use Rattle.std.proofs.lemmas.List.{ext_get_or}
use Rattle.std.proofs.lemmas.List.Sums.{sum_by-cons}
use Rattle.std.proofs.lemmas.Bool.{eqb-true, eq-eqb, and_parts, and_from}
use Rattle.table.specs.Monomial.{Monomial, degree, even, multiplied, root}

pub length-multiplied : (m n : Monomial) → length m ≡ length n → length (multiplied m n) ≡ length m
length-multiplied [] n e = refl
length-multiplied (a ∷ m) [] e = omega arith
length-multiplied (a ∷ m) (b ∷ n) e = ap suc (length-multiplied m n (omega arith))

pub get_or-multiplied : (m n : Monomial) (k : ℕ) → length m ≡ length n → k < length m → get_or (multiplied m n) k 0 ≡ get_or m k 0 + get_or n k 0
get_or-multiplied [] n k e h = absurd (omega arith)
get_or-multiplied (a ∷ m) [] k e h = absurd (omega arith)
get_or-multiplied (a ∷ m) (b ∷ n) zero e h = refl
get_or-multiplied (a ∷ m) (b ∷ n) (suc k) e h = get_or-multiplied m n k (omega arith) (omega arith)

-- degrees add
pub degree-product : (m n : Monomial) → length m ≡ length n → degree (multiplied m n) ≡ degree m + degree n
degree-product [] [] e = refl
degree-product [] (b ∷ n) e = absurd (omega arith)
degree-product (a ∷ m) [] e = absurd (omega arith)
degree-product (a ∷ m) (b ∷ n) e =
    let id : ℕ → ℕ = λ x. x in
    omega (
      arith,
      sum_by-cons id a m,
      sum_by-cons id b n,
      sum_by-cons id (a + b) (multiplied m n),
      degree-product m n (omega arith),
    )

-- ---- squares and roots
pub even-square : (m : Monomial) → even (multiplied m m) ≡ true
even-square [] = refl
even-square (e ∷ m) = and_from (eqb ((e + e) % 2) 0) (even (multiplied m m)) (eq-eqb ((e + e) % 2) 0 (omega arith)) (even-square m)

pub root-square : (m : Monomial) → root (multiplied m m) ≡ m
root-square [] = refl
root-square (e ∷ m) = ap₂ (λ (x : ℕ) (y : Monomial). x ∷ y) (omega arith) (root-square m)

pub square-root : (m : Monomial) → even m ≡ true → multiplied (root m) (root m) ≡ m
square-root [] t = refl
square-root (e ∷ m) t =
    let h = and_parts (eqb (e % 2) 0) (even m) t in
    let two = eqb-true (e % 2) 0 h.0 in
    ap₂ (λ (x : ℕ) (y : Monomial). x ∷ y) (omega arith) (square-root m h.1)

-- ---- place by place

-- what is the sum at every place is the product
pub is_multiplied : (m n s : Monomial) → length s ≡ length m → length m ≡ length n → ((k : ℕ) → k < length m → get_or s k 0 ≡ get_or m k 0 + get_or n k 0) → s ≡ multiplied m n
is_multiplied m n s l e h =
    ext_get_or 0 s (multiplied m n) (l ∙ sym (length-multiplied m n e))
    (λ k b. let low : k < length m = omega arith in h k low ∙ sym (get_or-multiplied m n k e low))
