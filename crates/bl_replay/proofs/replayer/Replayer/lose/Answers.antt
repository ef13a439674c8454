use Rattle.bl_replay.proofs.replayer.Replayer.lose.Goals as goal

pub drop_place-requires : goal.drop_place-requires
drop_place-requires c = (c.requires.0, c.requires.2.keeps, (c.may_lose.ensures c.requires.0 c.requires.2.keeps).0 c.if-not-may_lose.false)

pub returns-clause-right : goal.returns-clause-right
returns-clause-right c is x keeps = record {
  needs = (c.may_lose.ensures x keeps).0 c.if-not-may_lose.false;
  has = tt;
  text = c.is_loss.ensures.0 c.if-not-is_loss.false;
  keeps = c.drop_place.ensures.keeps x keeps ((c.may_lose.ensures x keeps).0 c.if-not-may_lose.false);
}
