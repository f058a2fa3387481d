use Rattle.polynomial.proofs.Joint.{joint_narrows}
use Rattle.polynomial.proofs.Values.{joint-encloses}
use Rattle.polynomial.proofs.laws.joint_ranges_hold.Goals as goal

pub returns : goal.returns
returns c = record { laws = (joint-encloses, joint_narrows) }
