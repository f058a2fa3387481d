use Rattle.sheet.proofs.Strikes.{strikes_unknown, strikes_none, strikes_another, strikes_own, strikes_shape}
use Rattle.sheet.proofs.record.SheetRecord.strike.Goals as goal

pub returns-then-not-is_known_office : goal.returns-then-not-is_known_office
returns-then-not-is_known_office c =
    record { value = strikes_unknown c.args.self.now c.args.office _ c.refuse.ensures.value c.if-not-is_known_office.ensures.value }

pub returns-then-self-eq0 : goal.returns-then-self-eq0
returns-then-self-eq0 c = rw (← c.self.view_is) (record {
  value = strikes_none c.self.inside c.self.invariant c.args.office c.if-not-is_known_office.ensures.value _ c.refuse-then-self-eq0.ensures.value c.if-self-eq0.true;
})

pub returns-then-self-newest : goal.returns-then-self-newest
returns-then-self-newest c = rw (← c.self.view_is) (record {
  value = strikes_another c.self.inside c.self.invariant c.args.office c.if-not-is_known_office.ensures.value c.if-self-eq0.false _ _
      c.refuse-then-self-newest.ensures.value c.if-self-newest.true;
})

pub invariant_of-self : goal.invariant_of-self
invariant_of-self c = rw c.zero.ensures.value (strikes_shape c.self.inside c.self.invariant c.if-self-eq0.false)

pub returns : goal.returns
returns c = rw (c.zero.ensures.value, ← c.self.view_is) (record {
  value = strikes_own c.self.inside c.self.invariant c.args.office c.if-not-is_known_office.ensures.value c.if-self-eq0.false _ c.if-self-newest.false;
})
