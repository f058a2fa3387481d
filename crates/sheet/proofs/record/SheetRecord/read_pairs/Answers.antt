use Rattle.std.proofs.Common.{◌≡◌, Ok, Err, is_ok, false, rules, sym, ◌∙◌}
use Rattle.interval.specs.declared.reason.Reason.TheVariants.{NoAccount}
use Rattle.sheet.specs.State.{refusal}
use Rattle.sheet.proofs.Accounts.{account_missing, account-found}
use Rattle.sheet.proofs.record.SheetRecord.read_pairs.Goals as goal

pub returns-in_err-at : goal.returns-in_err-at
returns-in_err-at c =
    let not_there : is_ok c.search.result ≡ false = search rules in
    let out : c.from_residual.result ≡ Err (refusal NoAccount 0 0) = search rules in
    rw (← c.self.view_is) (record { value = account_missing c.self.inside c.args.office c.search.result c.search.ensures.value not_there c.from_residual.result out })

pub returns : goal.returns
returns c =
    let at = c.in_ok-at.at in
    let is : c.search.result ≡ Ok at = search rules in
    let there = rw is at c.search.ensures.there in
    rw (← c.self.view_is) (record { value = account-found c.self.inside c.args.office at (sym is ∙ c.search.ensures.value) there _ })
