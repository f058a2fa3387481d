-- The closure reads both at a place below six, and no exponent is above its degree.
use Rattle.std.proofs.Common.{◌≡◌, ◌+◌, ◌<◌, ℕ, List, [], ◌∷◌, get_or, sym, ap, ◌∙◌, Bor, arith, rules}
use Rattle.std.specs.List.{FoldsTo}
use Rattle.std.proofs.lemmas.List.Sums.{get_or-le-sum_by}
use Rattle.table.proofs.Monomials.{is_multiplied}
use Rattle.table.proofs.exponents.product.Goals as goal

kept : {P A : Type 0} (R : P → A → P → Type 0) → ((p : P) (x : A) (q : P) → R p x q → q ≡ p) → (p : P) (xs : List A) (q : P) → FoldsTo R p xs q → q ≡ p
kept R same p [] q f = sym f
kept R same p (x ∷ xs) q f = kept R same f.0 xs q f.2 ∙ same p x f.0 f.1

pub from_fn-requires : goal.from_fn-requires
from_fn-requires c = (
  omega arith,
  record {
    at = λ xs t q x u y f s.
        let low : x < 6 = search rules in
        let same = kept _ (λ p x q k. search rules) _ xs q f in
        let id : ℕ → ℕ = λ n. n in
        let a_is : get_or q.0.now x 0 ≡ get_or c.args.a x 0 = ap (λ (z : Bor (List ℕ) × Bor (List ℕ)). get_or z.0.now x 0) same in
        let b_is : get_or q.1.now x 0 ≡ get_or c.args.b x 0 = ap (λ (z : Bor (List ℕ) × Bor (List ℕ)). get_or z.1.now x 0) same in
        let of_a = get_or-le-sum_by id c.args.a x 0 (omega arith) in
        let of_b = get_or-le-sum_by id c.args.b x 0 (omega arith) in
        (λ κ r g w d l. low, λ κ r g w d l m n o. low, λ κ r g w d l m n o v z. omega arith);
  },
)

pub returns : goal.returns
returns c = record { value = is_multiplied c.args.a c.args.b c.from_fn.result (omega arith) (omega arith) (λ k h. let w = c.from_fn.ensures.items.at k 0 (omega arith) in let e : get_or c.from_fn.result k 0 ≡ get_or c.args.a k 0 + get_or c.args.b k 0 = search rules in e) }
