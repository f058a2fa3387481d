use Rattle.sheet.proofs.Reaching.{runs_reach, reached_once}
use Rattle.sheet.proofs.laws.logs_lead_to_sheets.Goals as goal

pub returns : goal.returns
returns c = record { laws = (runs_reach, reached_once) }
