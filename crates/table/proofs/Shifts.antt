-- What a shift by one place and a row of blanks leave in a slice. Assumes nothing.
use Rattle.std.proofs.Common.{◌≡◌, ℕ, ◌+◌, ◌-◌, ◌<◌, ◌≤◌, List, ◌++◌, length, take, drop, set, arith, rules}
use Rattle.std.proofs.lemmas.List.{places, same_lists, get_or-set_same}
use Rattle.std.proofs.lemmas.Bool.{cases_eq}
use Rattle.std.specs.List.{insert, CopiedTo, SameBelow, SameFrom}

module _ {X : Type 0} where
  -- each entry from `at` up to the count has come one place up
  pub shifted_up : (xs ys : List X) (count at : ℕ) (e : X) → at ≤ count → count < length xs → length ys ≡ length xs
      → CopiedTo xs ys at (at + 1) (count - at) → SameBelow xs ys (at + 1) → SameFrom xs ys (at + 1 + (count - at))
      → set ys at e ≡ insert (take count xs) at e ++ drop (count + 1) xs
  shifted_up xs ys count at e in' room long mid low high =
      same_lists _ _ (search (rules, places))
      (λ k d h. grind (arith, places, get_or-set_same, cases_eq k at, low k d, mid k d, high k d))
