-- A packed slice stays packed as an entry comes or entries go. Assumes nothing.
use Rattle.std.proofs.Common.{◌≡◌, ℕ, ◌-◌, ◌≤◌, Bool, List, ◌++◌, length, take, drop, replicate, filter, sym, refl, ap, ◌∙◌, arith}
use Rattle.std.proofs.lemmas.List.{append_assoc, replicate-append-replicate, length-append, length-replicate, take_at, drop_at, drop-drop, drop-replicate}
use Rattle.std.proofs.lemmas.List.Sums.{length-filter, count_by-le-length}
use Rattle.table.specs.Order.{Order}
use Rattle.table.specs.Table.{entered}
use Rattle.table.specs.Slice.{over, packed, Packs}
use Rattle.table.proofs.Growth.{entered_grows}

module _ {E : Type 0} where
  pub length-packed : (n : ℕ) (blank : E) (ts : List E) → length ts ≤ n → length (packed n blank ts) ≡ n
  length-packed n blank ts h = omega (arith, length-append ts (replicate (n - length ts) blank), length-replicate (n - length ts) blank)

  -- blanks after blanks
  pub packed-packed : (n m : ℕ) (blank : E) (ts : List E) → length ts ≤ m → m ≤ n → packed n blank (packed m blank ts) ≡ packed n blank ts
  packed-packed n m blank ts low high =
      ap (λ k. packed m blank ts ++ replicate (n - k) blank) (length-packed m blank ts low)
      ∙ append_assoc ts (replicate (m - length ts) blank) (replicate (n - m) blank)
      ∙ ap (λ xs. ts ++ xs) (replicate-append-replicate (m - length ts) (n - m) blank ∙ ap (λ k. replicate k blank) (omega arith))

module _ {E : Type 0} (n : ℕ) (blank : E) where
  -- a larger table over the front of a smaller one
  pub over-packed : (ts us : List E) → length ts ≤ length us → over us (packed n blank ts) ≡ packed n blank us
  over-packed ts us h =
      let past : drop (length us) (packed n blank ts) ≡ replicate (n - length us) blank =
      ap (λ m. drop m (packed n blank ts)) (omega arith)
      ∙ sym (drop-drop (length us - length ts) (length ts) (packed n blank ts))
      ∙ ap (drop (length us - length ts)) (drop_at ts (replicate (n - length ts) blank) (length ts) refl)
      ∙ drop-replicate (length us - length ts) (n - length ts) blank
      ∙ ap (λ m. replicate m blank) (omega arith) in
      ap (λ xs. us ++ xs) past

  module _ (slice : List E) (count : ℕ) (ts : List E) (p : Packs n blank slice count ts) where
    pub packs_long : length slice ≡ n
    packs_long = ap length p.whole ∙ length-packed n blank ts p.fits

    pub packs_front : take count slice ≡ ts
    packs_front = rw (p.whole, p.size) (take_at ts (replicate (n - length ts) blank) (length ts) refl)

    -- the entries that fail a test are dropped, and their places blanked
    pub packs-kept : (test : E → Bool) (after : List E) (count' : ℕ) → after ≡ over (packed count blank (filter test (take count slice))) slice → count' ≡ length (filter test (take count slice)) → Packs n blank after count' (filter test ts)
    packs-kept test after count' is size =
        let us = filter test ts in
        let fewer : length us ≤ length ts = omega (arith, length-filter test ts, count_by-le-length test ts) in
        let inner : length (packed (length ts) blank us) ≡ length ts = length-packed (length ts) blank us fewer in
        record {
          whole = is ∙ rw (packs_front, p.size, p.whole) (over-packed ts (packed (length ts) blank us) (omega arith) ∙ packed-packed n (length ts) blank us fewer p.fits);
          size = size ∙ ap (λ fs. length (filter test fs)) packs_front;
          fits = omega (arith, p.fits);
        }

    module _ {K : Type 0} (o : Order K) (key : E → K) (join : E → E → E) (e : E) where
      abbrev table : List E
      table = entered o key join (take count slice) e

      pub packs_table : table ≡ entered o key join ts e
      packs_table = ap (λ us. entered o key join us e) packs_front

      -- an entry comes, for which there was room
      pub packs-entered : (after : List E) (count' : ℕ) → length table ≤ n → after ≡ over table slice → count' ≡ length table → Packs n blank after count' (entered o key join ts e)
      packs-entered after count' room is size = record {
        whole = is ∙ rw (packs_table, p.whole) (over-packed ts (entered o key join ts e) (entered_grows o key join ts e));
        size = size ∙ ap length packs_table;
        fits = rw packs_table at room;
      }
