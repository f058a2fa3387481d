-- A row ascends exactly where every key is below the next one, place by place. Assumes nothing.
use Rattle.std.proofs.Common.{◌≡◌, ℕ, zero, suc, ◌<◌, Bool, true, false, List, [], ◌∷◌, length, get_or, Less, Decides, sym, refl, ap, ◌∙◌, true≢false, add-one, arith}
use Rattle.std.specs.List.{IsAllAdjacentAnswer}
use Rattle.std.specs.Ordering.{is_lt}
use Rattle.table.specs.Order.{Order}
use Rattle.table.specs.Table.{Next, Ascending}
use Rattle.table.proofs.Ascents.{is_less}

module _ {E K : Type 0} (o : Order K) (key : E → K) where
  -- whether x's key is below y's
  abbrev pub is_below : E → E → Bool
  is_below x y = is_lt (o.rank (key x) (key y))

  -- the key at place i is below the next one
  abbrev pub Rises : List E → E → ℕ → Type 0
  Rises es d i = o.rank (key (get_or es i d)) (key (get_or es (suc i) d)) ≡ Less

  -- it is so at each place whose next one is below n
  abbrev pub Rising : List E → ℕ → Type 0
  Rising es n = (d : E) (i : ℕ) → suc i < n → Rises es d i

  next : (x d : E) (xs : List E) → (1 < length (x ∷ xs) → Rises (x ∷ xs) d 0) → Next o key (key x) xs
  next x d [] h = tt
  next x d (y ∷ ys) h = h (omega arith)

  pub ascending : (es : List E) → Rising es (length es) → Ascending o key es
  ascending [] h = tt
  ascending (x ∷ xs) h = (next x x xs (h x 0), ascending xs (λ d i below. h d (suc i) (omega arith)))

  first : (x d : E) (xs : List E) → Next o key (key x) xs → 1 < length (x ∷ xs) → Rises (x ∷ xs) d 0
  first x d [] h below = absurd (omega arith)
  first x d (y ∷ ys) h below = h

  pub rising : (es : List E) → Ascending o key es → Rising es (length es)
  rising [] h d i below = absurd (omega arith)
  rising (x ∷ xs) h d zero below = first x d xs h.0 below
  rising (x ∷ xs) h d (suc i) below = rising xs h.1 d i (omega arith)

  -- what a test of all neighbours answers
  pub decided : (es : List E) (r : Bool) → IsAllAdjacentAnswer (λ x y b. b ≡ is_below x y) es r → Decides r (Ascending o key es)
  decided es true h = (λ e. ascending es (λ d i below. is_less _ (sym (rw add-one at (h i d (omega arith))))), λ a. refl)
  decided [] false (k, below, h) = absurd (omega arith)
  decided (x ∷ xs) false (k, below, h) =
      let apart : false ≡ is_lt (o.rank (key (get_or (x ∷ xs) k x)) (key (get_or (x ∷ xs) (suc k) x))) = rw add-one at (h x) in
      (λ e. absurd (true≢false (sym e)), λ a. apart ∙ ap is_lt (rising (x ∷ xs) a x k (omega arith)))
