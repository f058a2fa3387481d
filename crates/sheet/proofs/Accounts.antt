-- The accounts of a record: how an office's account is found. Assumes nothing.
use Rattle.std.proofs.Common.{◌≡◌, ℕ, ◌-◌, ◌<◌, false, List, length, get_or, take, is_ok, Ok, Err, Result, sym, ap, ◌∙◌}
use native.Mathlib.Nat.{sub-zero}
use Rattle.std.proofs.lemmas.List.{get_or_default}
use Rattle.std.proofs.lemmas.Bool.{cond-true}
use Rattle.interval.specs.declared.reason.Reason.TheVariants.{NoAccount}
use Rattle.interval.specs.declared.refusal.Refusal.{Refusal}
use Rattle.table.specs.Order.{by_number}
use Rattle.table.specs.Table.{sought}
use Rattle.table.proofs.Searches.{there, missing}
use Rattle.table.proofs.Readings.{reads}
use Rattle.taylor.proofs.Results.{require_yes}
use Rattle.sheet.specs.declared.account.Account.{Account}
use Rattle.sheet.specs.declared.record.SheetRecord.TheInside.{Inside}
use Rattle.sheet.specs.State.{account, refusal, has_account}
use Rattle.sheet.specs.Reading.{read_account}
use Rattle.sheet.specs.Records.{state_of}
use Rattle.sheet.proofs.Requires.{require_no}

module _ (s : Inside) (office : ℕ) where
  -- the accounts as they are lent
  abbrev lent : List Account
  lent = take (s.offices - 0) s.accounts

  lent_all : lent ≡ (state_of s).accounts
  lent_all = ap (λ n. take n s.accounts) (sub-zero s.offices)

  seen : has_account lent office ≡ has_account (state_of s).accounts office
  seen = ap (λ es. has_account es office) lent_all

  -- by one search
  pub account_missing : (r : Result ℕ ℕ) → r ≡ sought by_number (λ a. a.office) lent office → is_ok r ≡ false → (out : Result ℕ Refusal) → out ≡ Err (refusal NoAccount 0 0) → out ≡ read_account (state_of s) office
  unfolding read_account
  account_missing (Ok i) is none out q = cc
  account_missing (Err i) is none out q = q ∙ sym (require_no _ _ _ (sym seen ∙ missing by_number (λ (a : Account). a.office) lent office i is))

  module _ (i : ℕ) where
    pub account-found : ◌≡◌ {A = Result ℕ ℕ} (Ok i) (sought by_number (λ a. a.office) lent office) → i < length lent → (d : Account) → Ok (get_or lent i d).pairs ≡ read_account (state_of s) office
    unfolding read_account
    account-found is h d =
        let t = there by_number (λ (a : Account). a.office) lent office i is in
        ap Ok (ap (λ a. a.pairs) (
        get_or_default lent i d (account office 0) h
        ∙ ap (λ j. get_or lent j (account office 0)) t.0
        ∙ sym (reads by_number (λ a. a.office) (account office 0) lent office ∙ cond-true _ _ _ t.1)))
        ∙ rw lent_all (sym (require_yes _ _ _ (sym seen ∙ t.1)))
