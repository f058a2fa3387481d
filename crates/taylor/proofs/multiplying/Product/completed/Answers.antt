use Rattle.taylor.specs.Model.{unpacked}
use Rattle.taylor.proofs.Results.{passed_on}
use Rattle.taylor.proofs.Operands.{places_room}
use Rattle.taylor.proofs.Tallying.{tallied_kept}
use Rattle.taylor.proofs.Multiplied.{tally_left, rest_unfit, completed_made}
use Rattle.taylor.proofs.multiplying.Product.completed.Goals as goal

pub returns-in_err-remainder : goal.returns-in_err-remainder
returns-in_err-remainder g c =
    let p = passed_on c.from_residual.result c.from_residual.ensures.1 in
    rw p
    (record {
      value = rest_unfit (g.K.Kind.meaning c.args.self.now.by.now.kind.now) (g.M.Ranging.meaning c.args.self.now.by.now.method.now) c.args.tally.now (unpacked c.args.self.now.a.now) (unpacked c.args.self.now.b.now) c.if-not-tally.false
          c.in_err-remainder.field-0.0 c.in_err-remainder.ensures.value;
    })

pub joint_remainder-requires : goal.joint_remainder-requires
joint_remainder-requires g c = tally_left c.args.tally.now

pub drop_zeros-count-requires : goal.drop_zeros-count-requires
drop_zeros-count-requires g c = places_room (tallied_kept c.args.tally.now.form).packs

pub returns : goal.returns
returns g c = record {
  value = completed_made (g.K.Kind.meaning c.args.self.now.by.now.kind.now) (g.M.Ranging.meaning c.args.self.now.by.now.method.now) c.args.tally.now (unpacked c.args.self.now.a.now) (unpacked c.args.self.now.b.now) c.if-not-tally.false
      c.in_ok-remainder.remainder c.in_ok-remainder.ensures.value c.drop_zeros-count.new.terms c.drop_zeros-count.result c.drop_zeros-count.ensures.value c.drop_zeros-count.ensures.after;
}
