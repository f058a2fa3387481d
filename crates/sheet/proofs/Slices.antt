-- A packed slice as its last entry comes or goes. Assumes nothing.
use Rattle.std.proofs.Common.{◌≡◌, ℕ, suc, ◌+◌, ◌-◌, ◌<◌, List, [], ◌∷◌, ◌++◌, length, get_or, take, set, replicate, sym, refl, ap, ◌∙◌, subst, arith}
use Rattle.std.proofs.lemmas.List.{append_assoc, length_push, length-take-le, set_at, take_more}
use Rattle.table.specs.Slice.{packed, Packs}
use Rattle.table.proofs.Packing.{packs_long, packs_front}

module _ {E : Type 0} (n : ℕ) (blank : E) where
  -- the first blank is overwritten
  packed-push : (ts : List E) (x : E) → length ts < n → set (packed n blank ts) (length ts) x ≡ packed n blank (ts ++ (x ∷ []))
  packed-push ts x h =
      let more : n - length ts ≡ suc (n - (length ts + 1)) = omega arith in
      ap (λ m. set (ts ++ replicate m blank) (length ts) x) more
      ∙ set_at ts blank (replicate (n - (length ts + 1)) blank) x (length ts) refl
      ∙ sym (append_assoc ts (x ∷ []) (replicate (n - (length ts + 1)) blank))
      ∙ ap (λ m. (ts ++ (x ∷ [])) ++ replicate (n - m) blank) (sym (length_push ts x))

  -- the last entry is blanked
  packed_pop : (ts : List E) (x : E) → length ts < n → set (packed n blank (ts ++ (x ∷ []))) (length ts) blank ≡ packed n blank ts
  packed_pop ts x h =
      let more : suc (n - (length ts + 1)) ≡ n - length ts = omega arith in
      ap (λ m. set ((ts ++ (x ∷ [])) ++ replicate (n - m) blank) (length ts) blank) (length_push ts x)
      ∙ ap (λ xs. set xs (length ts) blank) (append_assoc ts (x ∷ []) (replicate (n - (length ts + 1)) blank))
      ∙ set_at ts x (replicate (n - (length ts + 1)) blank) blank (length ts) refl
      ∙ ap (λ m. ts ++ replicate m blank) more

  module _ (slice : List E) (count : ℕ) where
    -- the entries in use are those at the front
    pub packs_own : (ts : List E) → Packs n blank slice count ts → Packs n blank slice count (take count slice)
    packs_own ts p = subst (Packs n blank slice count) (sym (packs_front n blank slice count ts p)) p

    -- an entry comes, last
    pub packs-push : (ts : List E) (x : E) → Packs n blank slice count ts → count < n → Packs n blank (set slice count x) (count + 1) (ts ++ (x ∷ []))
    packs-push ts x p h =
        let z = p.size in
        record {
          whole = rw (p.whole, p.size) (packed-push ts x (omega arith));
          size = rw length_push (omega arith);
          fits = rw length_push (omega arith);
        }

    -- the last entry goes
    pub packs_pop : Packs n blank slice count (take count slice) → 0 < count → Packs n blank (set slice (count - 1) blank) (count - 1) (take (count - 1) slice)
    packs_pop p h =
        let long = packs_long n blank slice count (take count slice) p in
        let s = p.size in
        let f = p.fits in
        let ts = take (count - 1) slice in
        let x = get_or slice (count - 1) blank in
        let size : length ts ≡ count - 1 = length-take-le (count - 1) slice (omega arith) in
        let split : take count slice ≡ ts ++ (x ∷ []) = ap (λ m. take m slice) (omega arith) ∙ take_more slice (count - 1) blank (omega arith) in
        record {
          whole = ap (λ xs. set xs (count - 1) blank) (p.whole ∙ ap (packed n blank) split) ∙ subst (λ m. set (packed n blank (ts ++ (x ∷ []))) m blank ≡ packed n blank ts) size (packed_pop ts x (omega arith));
          size = sym size;
          fits = omega arith;
        }
