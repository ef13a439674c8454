use Rattle.std.proofs.Common.{◌∙◌, sym, true≢false}
use Rattle.bl_folder.specs.Names.{trail_part_of}
use Rattle.bl_chain.proofs.Exits.{ok-so}
use Rattle.bl_chain.proofs.Spans.{none-where}
use Rattle.bl_chain_run.proofs.start.journal_of.Goals as goal

pub returns-then-is_begun : goal.returns-then-is_begun
returns-then-is_begun g c = record {
  sound = c.open_journal.ensures.sound;
  empty = λ new. absurd (true≢false (sym c.if-is_begun.true ∙ new));
  begun = ok-so c.open_journal.result c.open_journal.ensures.begun (λ journal f before is begun. f before is);
  fault = c.open_journal.ensures.fault;
}

pub returns : goal.returns
returns g c = record {
  sound = c.make_journal.ensures.sound;
  empty = λ new. c.make_journal.ensures.empty;
  begun = ok-so c.make_journal.result c.make_journal.ensures.begun (λ journal f before is begun.
      f before is (none-where (before.seen (trail_part_of c.args.run)) (λ some. true≢false (sym (begun.1 some) ∙ c.if-is_begun.false))));
  fault = c.make_journal.ensures.fault;
}
