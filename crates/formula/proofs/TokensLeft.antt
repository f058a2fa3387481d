-- The tokens that are left of a text, from the one that is read on. Assumes nothing.
use Rattle.std.proofs.Common.{◌≡◌, ℕ, ◌<◌, Bool, true, false, List, [], ◌∷◌, length, ltb, Some, None, Ok, Err, sym, ap, ⊎_elim}
use Rattle.std.specs.Bool.{MatchBool}
use Rattle.std.specs.List.{list_any, AllWithin, HoldsAt}
use Rattle.std.specs.Result.{result_ok}
use Rattle.std.proofs.lemmas.List.Elements.{All-from_all_within}
use Rattle.std.proofs.lemmas.List.Folds.{list_any_at, list_any_none}
use Rattle.std.proofs.lemmas.Bool.{cases_lt, ltb-true}
use Rattle.interval.specs.declared.reason.Reason.TheVariants.{TextEnds}
use Rattle.taylor.proofs.Results.{require_ok}
use Rattle.formula.specs.declared.token.Token.{Token}
use Rattle.formula.specs.declared.token.Token.TheVariants.{Add}
use Rattle.formula.specs.Token.{Reading, token_at, items_at, read_tokens}
use Rattle.formula.proofs.Items.{items_end, items_read, items_refused}

module _ (t : List ℕ) (i : ℕ) where
  -- a token that is read comes first, and the others from its end on
  pub tokens_read : (r : Reading) {x : Token} {j : ℕ} → r ≡ token_at t i → Some (x, j) ≡ result_ok r → read_tokens (items_at t i) ≡ x ∷ read_tokens (items_at t j)
  tokens_read (Err e) is q = cc
  tokens_read (Ok p) {x} {j} is q =
      let e : token_at t i ≡ Ok (x, j) = cc in
      ap read_tokens (items_read t i (ltb-true i (length t) (require_ok (ltb i (length t)) TextEnds _ e).0) e)

  -- where none is read, none is left
  pub tokens_refused : (r : Reading) → r ≡ token_at t i → None ≡ result_ok r → read_tokens (items_at t i) ≡ []
  tokens_refused (Ok p) is q = cc
  tokens_refused (Err e) is q = ⊎_elim
      (λ h. ap read_tokens (items_refused t i h (sym is)))
      (λ h. ap read_tokens (items_end t (length t) i h))
      (cases_lt i (length t))

-- whether a token passes, by the first that does or by all that do not
pub settled : (p : Token → Bool) (ts : List Token) (r : Bool) → MatchBool r ((k : ℕ) × (k < length ts) × HoldsAt (λ t. p t ≡ true) ts k) (AllWithin (λ t. p t ≡ false) ts 0 (length ts)) → r ≡ list_any p ts
settled p ts true h = sym (list_any_at p ts h.0 Add h.1 (h.2 Add))
settled p ts false h = sym (list_any_none p ts (All-from_all_within (λ t. p t ≡ false) ts h))
