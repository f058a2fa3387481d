use Rattle.sheet.proofs.FiguresStand.{figures-stand, larger_figures_stand}
use Rattle.sheet.proofs.laws.figures_stand.Goals as goal

pub returns : goal.returns
returns c = record { laws = (figures-stand, larger_figures_stand) }
