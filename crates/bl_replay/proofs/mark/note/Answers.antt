use Rattle.std.proofs.Common.{sym, ◌∙◌}
use Rattle.std.proofs.lemmas.List.{get_or_read}
use Rattle.bl_replay.specs.declared.mark.Mark.TheVariants.{Open}
use Rattle.bl_replay.proofs.Noting.{ended-open, lost-open, note-closed, note-open}
use Rattle.bl_replay.proofs.mark.note.Goals as goal

pub returns-in-Open : goal.returns-in-Open
returns-in-Open c =
    note-open c.args.marks.now.items c.grow.new.marks.items c.args.n c.args.lost c.ended.result c.in_ok-grow.ensures.same c.in_ok-grow.ensures.there
    (sym (get_or_read c.grow.new.marks.items c.args.n c.index.result.now c.in_ok-grow.ensures.there c.index.ensures Open) ∙ c.in-Open.is) c.ended.ensures

pub returns-in-Ended : goal.returns-in-Ended
returns-in-Ended c =
    note-closed c.args.marks.now.items c.grow.new.marks.items c.args.n c.args.lost c.in_ok-grow.ensures.same
    (λ open_yet. ended-open (sym c.in-Ended.is ∙ get_or_read c.grow.new.marks.items c.args.n c.index.result.now c.in_ok-grow.ensures.there c.index.ensures Open ∙ open_yet))

pub returns-in-Lost : goal.returns-in-Lost
returns-in-Lost c =
    note-closed c.args.marks.now.items c.grow.new.marks.items c.args.n c.args.lost c.in_ok-grow.ensures.same
    (λ open_yet. lost-open (sym c.in-Lost.is ∙ get_or_read c.grow.new.marks.items c.args.n c.index.result.now c.in_ok-grow.ensures.there c.index.ensures Open ∙ open_yet))
