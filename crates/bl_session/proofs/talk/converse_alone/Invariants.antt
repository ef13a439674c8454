use Rattle.std.proofs.Common.{◌≡◌, false}
use Rattle.bl_engine.specs.Conversations.{waits_left}
use Rattle.bl_engine.specs.View.{ends}
use Rattle.bl_session.specs.Reaching.{IsReachedTo}
use Rattle.bl_session.specs.Talks.{IsUnderWay}
use Rattle.bl_session.proofs.talk.converse_alone.Given as goal

abbrev pub invariant-waits : goal.invariant-waits
invariant-waits g l = record {
  fine : (l.reader.failed ≡ false) × (l.writer.failed ≡ false);
  names : l.talk.names.now ≡ l.behind.setup.names;
  under : IsUnderWay l.behind.setup l.initial.pages.hall (ends (g.R.Read.remaining l.initial.reader.inner) (g.R.Read.remaining l.reader.inner) (g.W.Write.contents l.initial.writer.inner) (g.W.Write.contents l.writer.inner)) l.talk.conv l.pages;
  reached : IsReachedTo (g.K.Keep.reached l.keep) l.initial.pages.hall l.talk.conv.after l.pages;
}

abbrev pub decreases-waits : goal.decreases-waits
decreases-waits g l = waits_left l.talk.conv
