-- Charging an office: its account grows or is opened, and the accounts keep their shape. Assumes nothing.
use Rattle.std.proofs.Common.{◌≡◌, ℕ, ◌+◌, ◌^◌, ◌<◌, ◌≤◌, Bool, true, cond, ◌||◌, ltb, leb, List, [], ◌∷◌, length, sum_by, Ordering, Less, Equal, Greater, sym, refl, ap, ◌∙◌, subst, ⊎_elim, arith}
use Rattle.std.specs.List.{AllByRecursion}
use Rattle.std.proofs.ByRecursion.{All-from_get_or}
use Rattle.std.proofs.lemmas.List.{take_at}
use Rattle.std.proofs.lemmas.List.Sums.{sum_by-cons, get_or-le-sum_by}
use Rattle.std.proofs.lemmas.Bool.{le-leb, leb-true, ltb-true, or_cases}
use Rattle.table.specs.Order.{by_number}
use Rattle.table.specs.Slice.{over}
use Rattle.table.specs.Table.{by_rank}
use Rattle.table.proofs.Ascents.{entered-ascends}
use Rattle.table.proofs.Growth.{length-entered, entered_by_one}
use Rattle.table.proofs.Packing.{packs_long, packs-entered}
use Rattle.sheet.specs.declared.account.Account.{Account}
use Rattle.sheet.specs.declared.record.SheetRecord.TheInside.{Inside}
use Rattle.sheet.specs.State.{account, has_account, can_charge, State, affordable, charged, charged_state}
use Rattle.sheet.specs.Records.{state_of, with_accounts, charged_record}
use Rattle.sheet.specs.Shape.{Shape}
use Rattle.sheet.proofs.Slices.{packs_own}

abbrev joined : Account → Account → Account
joined a b = account a.office (a.pairs + b.pairs)

abbrev total : List Account → ℕ
total es = sum_by (λ a. a.pairs) es

-- the pairs are added to those of all accounts
total-charged : (es : List Account) (o n : ℕ) → total (charged es o n) ≡ total es + n
total-charged [] o n = refl
total-charged (x ∷ xs) o n = go (by_number.rank x.office o) (total-charged xs o n)
  where
    go : (r : Ordering) → total (charged xs o n) ≡ total xs + n → total (by_rank r (x ∷ charged xs o n) (joined x (account o n) ∷ xs) (account o n ∷ x ∷ xs)) ≡ total (x ∷ xs) + n
    go Less h = omega (arith, sum_by-cons (λ (a : Account). a.pairs) x (charged xs o n), sum_by-cons (λ (a : Account). a.pairs) x xs)
    go Equal h = omega (arith, sum_by-cons (λ (a : Account). a.pairs) (joined x (account o n)) xs, sum_by-cons (λ (a : Account). a.pairs) x xs)
    go Greater h = omega (arith, sum_by-cons (λ (a : Account). a.pairs) (account o n) (x ∷ xs))

-- an office that can be charged has room for its account
charged-fits : (es : List Account) (o n : ℕ) → length es ≤ 8 → (has_account es o || ltb (length es) 8) ≡ true → length (charged es o n) ≤ 8
charged-fits es o n few c = ⊎_elim
    (λ (t : has_account es o ≡ true). rw (length-entered by_number (λ a. a.office) joined es (account o n), t) (omega arith))
    (λ (t : ltb (length es) 8 ≡ true). omega (arith, ltb-true (length es) 8 t, entered_by_one by_number (λ a. a.office) joined es (account o n)))
    (or_cases (has_account es o) (ltb (length es) 8) c)

-- of the record of a sheet t
module _ (s : Inside) (shape : Shape s) (t : State) (seen : state_of s ≡ t) (o n : ℕ) (room : can_charge t o ≡ true) (paid : affordable t n ≡ true) where
  abbrev es : List Account
  es = (state_of s).accounts

  within : n + total es ≤ s.allowance
  within = leb-true (n + total es) s.allowance (subst (λ u. affordable u n ≡ true) (sym seen) paid)

  few : length es ≤ 8
  few = shape.accounts.packs.fits

  -- no sum leaves 64 bits
  pub charge_joins : AllByRecursion (λ a. a.pairs + n < 2 ^ 64) es
  charge_joins = All-from_get_or (λ a. a.pairs + n < 2 ^ 64) es (account 0 0) (λ i h.
      let w = within in
      let high = shape.allowance.high in
      omega (arith, get_or-le-sum_by (λ (a : Account). a.pairs) es i (account 0 0) h))

  fits : length (charged es o n) ≤ 8
  fits = charged-fits es o n few (subst (λ u. can_charge u o ≡ true) (sym seen) room)

  -- by the table's answer
  after-charged : (entered : Bool) (after : List Account) (count : ℕ) → entered ≡ leb (length (charged es o n)) (length s.accounts)
      → after ≡ cond entered (over (charged es o n) s.accounts) s.accounts → count ≡ cond entered (length (charged es o n)) s.offices → with_accounts s count after ≡ charged_record s o n
  after-charged entered after count is slice size =
      let p = shape.accounts.packs in
      let long = packs_long 8 (account 0 0) s.accounts s.offices es p in
      let f = fits in
      let yes : entered ≡ true = is ∙ le-leb (length (charged es o n)) (length s.accounts) (omega arith) in
      let q = packs-entered 8 (account 0 0) s.accounts s.offices es p by_number (λ a. a.office) joined (account o n) after count f (rw yes at slice) (rw yes at size) in
      λ i. with_accounts s (q.size i) (q.whole i)

  -- what stands in the record then
  pub charged-accounts : (state_of (charged_record s o n)).accounts ≡ charged es o n
  charged-accounts = take_at (charged es o n) _ (length (charged es o n)) refl

  charged-shape : Shape (charged_record s o n)
  charged-shape = record {
    order = shape.order;
    allowance = shape.allowance;
    box = shape.box;
    lines = shape.lines;
    accounts = record {
      packs = packs_own 8 (account 0 0) _ _ (charged es o n) (record { whole = refl; size = refl; fits = fits });
      ascends = rw charged-accounts (entered-ascends by_number (λ a. a.office) joined (λ a b. refl) es (account o n) shape.accounts.ascends);
      paid = rw charged-accounts (let w = within in omega (arith, total-charged es o n));
    };
  }

  module _ (entered : Bool) (after : List Account) (count : ℕ) (is : entered ≡ leb (length (charged es o n)) (length s.accounts))
      (slice : after ≡ cond entered (over (charged es o n) s.accounts) s.accounts) (size : count ≡ cond entered (length (charged es o n)) s.offices) where
    pub charge_shape : Shape (with_accounts s count after)
    charge_shape = subst Shape (sym (after-charged entered after count is slice size)) charged-shape

    pub charge-state : state_of (with_accounts s count after) ≡ charged_state t o n
    charge-state =
        ap state_of (after-charged entered after count is slice size)
        ∙ ap (λ accounts. record { order = s.order; box = (state_of s).box; allowance = s.allowance; lines = (state_of s).lines; accounts = accounts }) charged-accounts
        ∙ ap (λ u. charged_state u o n) seen
