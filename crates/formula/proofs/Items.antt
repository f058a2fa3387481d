-- A text item by item: a token that is read ends further on, so the items left are those from its end on. Assumes nothing.
use Rattle.std.proofs.Common.{◌≡◌, ℕ, zero, suc, ◌+◌, ◌-◌, ◌<◌, ◌≤◌, Bool, true, false, cond, eqb, leb, List, [], ◌∷◌, length, Ok, Err, sym, refl, ap, ◌∙◌, subst, inl, inr, arith}
use Rattle.std.proofs.lemmas.Bool.{lt-ltb, le-ltb, leb-true, cases_lt}
use Rattle.interval.specs.declared.reason.Reason.{Reason}
use Rattle.interval.specs.declared.reason.Reason.TheVariants.{TextEnds}
use Rattle.interval.specs.Reason.{require}
use Rattle.formula.specs.declared.token.Token.{Token}
use Rattle.formula.specs.declared.token.Token.TheVariants.{Constant, Variable, Line, Power, Add, Subtract, Multiply}
use Rattle.formula.specs.Token.{byte, real, Reading, taking, tagged, token_at, item, followed, items_from, items_at}

-- ---- what is read ends further on, within the text
data Forward (t : List ℕ) (i : ℕ) : Reading → Type 0 where
  found : {x : Token} {j : ℕ} → i < j → j ≤ length t → Forward t i (Ok (x, j))
  refused : {e : Reason} → Forward t i (Err e)

either : {t : List ℕ} {i : ℕ} {r s : Reading} (b : Bool) → Forward t i r → Forward t i s → Forward t i (cond b r s)
either true h k = h
either false h k = k

taking_forward : (n : ℕ) (t : List ℕ) (i : ℕ) (x : Token) → 0 < n → i < length t → Forward t i (taking n t i x)
taking_forward n t i x p h = go (leb n (length t - i)) refl
  where
    go : (b : Bool) → leb n (length t - i) ≡ b → Forward t i (require b TextEnds (Ok (x, i + n)))
    go true e = found (omega arith) (omega (arith, leb-true n (length t - i) e))
    go false e = refused

tagged_forward : (t : List ℕ) (i tag : ℕ) → i < length t → Forward t i (tagged t i tag)
tagged_forward t i tag h =
    either (eqb tag 99) (taking_forward 9 t i (Constant (real t (i + 1))) (omega arith) h)
    (either (eqb tag 118) (taking_forward 2 t i (Variable (byte t (i + 1))) (omega arith) h)
    (either (eqb tag 108) (taking_forward 2 t i (Line (byte t (i + 1))) (omega arith) h)
    (either (eqb tag 94) (taking_forward 2 t i (Power (byte t (i + 1))) (omega arith) h)
    (either (eqb tag 43) (taking_forward 1 t i Add (omega arith) h)
    (either (eqb tag 45) (taking_forward 1 t i Subtract (omega arith) h)
    (either (eqb tag 42) (taking_forward 1 t i Multiply (omega arith) h) refused))))))

-- within the text, the tag decides
pub by_tag : (t : List ℕ) (i : ℕ) → i < length t → token_at t i ≡ tagged t i (byte t i)
by_tag t i h = ap (λ (b : Bool). require b TextEnds (tagged t i (byte t i))) (lt-ltb i (length t) h)

ends : {t : List ℕ} {i : ℕ} {x : Token} {j : ℕ} → Forward t i (Ok (x, j)) → (i < j) × (j ≤ length t)
ends (found h k) = (h, k)

pub forward : (t : List ℕ) (i : ℕ) {x : Token} {j : ℕ} → i < length t → token_at t i ≡ Ok (x, j) → (i < j) × (j ≤ length t)
forward t i h e = ends (subst (Forward t i) (sym (by_tag t i h) ∙ e) (tagged_forward t i (byte t i) h))

-- ---- the items from a place on
pub items_end : (t : List ℕ) (n i : ℕ) → length t ≤ i → items_from t n i ≡ []
unfolding items_from
items_end t zero i h = refl
items_end t (suc n) i h = ap (λ (b : Bool). cond b (followed i (token_at t i) (λ next. items_from t n next)) []) (le-ltb i (length t) h)

-- within the text, what is read decides
here : (t : List ℕ) (n i : ℕ) → i < length t → items_from t (suc n) i ≡ followed i (token_at t i) (λ next. items_from t n next)
unfolding items_from
here t n i h = ap (λ (b : Bool). cond b (followed i (token_at t i) (λ next. items_from t n next)) []) (lt-ltb i (length t) h)

-- any two numbers of items that reach the end are enough
enough : (t : List ℕ) (n m i : ℕ) → length t ≤ i + n → length t ≤ i + m → items_from t n i ≡ items_from t m i
enough t zero m i h k = items_end t zero i (omega arith) ∙ sym (items_end t m i (omega arith))
enough t (suc n) zero i h k = items_end t (suc n) i (omega arith) ∙ sym (items_end t zero i (omega arith))
enough t (suc n) (suc m) i h k =
    elim (cases_lt i (length t)) [
      | inl l ↦ here t n i l ∙ after (token_at t i) (λ x j e. enough t n m j (omega (arith, forward t i l e)) (omega (arith, forward t i l e))) ∙ sym (here t m i l)
      | inr l ↦ items_end t (suc n) i l ∙ sym (items_end t (suc m) i l)
    ]
  where
    after : (r : Reading) → ((x : Token) (j : ℕ) → r ≡ Ok (x, j) → items_from t n j ≡ items_from t m j)
        → followed i r (λ next. items_from t n next) ≡ followed i r (λ next. items_from t m next)
    after (Ok (x, j)) same = ap (◌∷◌ (item i (Ok x))) (same x j refl)
    after (Err e) same = refl

all_here : (t : List ℕ) (i : ℕ) → i < length t → items_at t i ≡ followed i (token_at t i) (λ next. items_at t next)
all_here t i h = enough t (length t) (suc (length t)) i (omega arith) (omega arith) ∙ here t (length t) i h

-- a token that is read is an item, and the rest follows from its end on
pub items_read : (t : List ℕ) (i : ℕ) {x : Token} {j : ℕ} → i < length t → token_at t i ≡ Ok (x, j) → items_at t i ≡ item i (Ok x) ∷ items_at t j
items_read t i h e = all_here t i h ∙ ap (λ (r : Reading). followed i r (λ next. items_at t next)) e

-- a refusal is the last item
pub items_refused : (t : List ℕ) (i : ℕ) {e : Reason} → i < length t → token_at t i ≡ Err e → items_at t i ≡ item i (Err e) ∷ []
items_refused t i h e = all_here t i h ∙ ap (λ (r : Reading). followed i r (λ next. items_at t next)) e
