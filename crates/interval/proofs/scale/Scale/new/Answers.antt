-- The one power of two that a number lies at or above, and below the next.
use Rattle.std.proofs.Common.{◌≡◌, ℕ, suc, Bool, true, false, MatchOption, eqb, refl, sym, true≢false, ◌∙◌, ◌^◌, ◌*◌, ◌≤◌, ◌<◌, ap, inl, inr, arith}
use Rattle.std.specs.Bool.{then_some}
use Rattle.std.proofs.lemmas.Bool.{eqb-true, eq-eqb}
use Rattle.interval.specs.declared.scale.Scale.{Scale}
use Rattle.interval.specs.Kind.{IsScale}
use Rattle.std.proofs.Math.Pow.{pow_mono}
use Rattle.std.proofs.lemmas.Nat.{pow_pos}
use Rattle.std.proofs.Math.Nat.{pow-succ'}
use Rattle.std.proofs.lemmas.Bool.{cases_lt, cases_order}
use Rattle.interval.proofs.scale.Scale.new.Goals as goal

-- a larger exponent gives at least twice the power
doubled : (k n : ℕ) → k < n → 2 * 2 ^ k ≤ 2 ^ n
doubled k n h = let m : 2 ^ suc k ≤ 2 ^ n = pow_mono h in rw (← pow-succ' 2 k) m

-- a power that lies from 2 to the k up to the next one is 2 to the k
the_power : (k n : ℕ) → 2 ^ k ≤ 2 ^ n → 2 ^ n < 2 * 2 ^ k → 2 ^ n ≡ 2 ^ k
the_power k n low high =
    elim (cases_order k n) [
      | inl same ↦ ap (λ e. 2 ^ e) (omega arith)
      | inr (inl below) ↦ let d = doubled k n below in absurd (omega arith)
      | inr (inr above) ↦ let d = doubled n k above in absurd (omega arith)
    ]

-- the exponent of a power that is at most 2 to the n is at most n
at_most : (k n : ℕ) → 2 ^ k ≤ 2 ^ n → k ≤ n
at_most k n h = elim (cases_lt n k) [ inl above ↦ let d = doubled n k above in absurd (omega (arith, pow_pos n)) | inr at ↦ at ]

-- what the test of the power's marks chooses
chosen : (m n : ℕ) (x : Scale) → n ≡ 2 ^ x.bits → (IsScale m → m ≡ 2 ^ x.bits) → MatchOption (then_some (eqb n m) x) (IsScale m → ⊥) (λ s. 2 ^ s.bits ≡ m)
chosen m n x is only = go (eqb n m) refl
  where
    go : (b : Bool) → eqb n m ≡ b → MatchOption (then_some b x) (IsScale m → ⊥) (λ s. 2 ^ s.bits ≡ m)
    go true e = let same = eqb-true n m e in omega arith
    go false e = λ s. let p = only s in absurd (true≢false (sym (eq-eqb n m (omega arith)) ∙ e))

pub invariant_of-scale : goal.invariant_of-scale
invariant_of-scale c = record { small = at_most c.ilog2.result 16 (omega arith) }

pub returns : goal.returns
returns c = record {
  value = rw c.then_some.ensures (chosen c.args.marks c.marks.result _ c.marks.ensures.value (λ s. let p = the_power c.ilog2.result s.0 (omega arith) (omega arith) in omega (arith, s.2)));
}
