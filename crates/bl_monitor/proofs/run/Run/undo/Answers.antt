use Rattle.std.proofs.Common.{◌≡◌, length, set, take, ◌∙◌, ap}
use Rattle.bl_monitor.specs.declared.run.Undo.TheVariants.{Cut, Put}
use Rattle.bl_monitor.specs.Undoing.{content_listed}
use Rattle.bl_monitor.proofs.Runs.{read_content}
use Rattle.bl_monitor.proofs.Undoes.{last_is_of, undone_by}
use Rattle.bl_monitor.proofs.run.Run.undo.Goals as goal

pub loop-undo-preserved-in-Cut : goal.loop-undo-preserved-in-Cut
loop-undo-preserved-in-Cut c =
    let contents = c.loop-undo.contents in
    let there = last_is_of (length contents) c.loop-undo.undos.items c.pop.new.self.items (Cut c.in-Cut.doc c.in-Cut.len) c.in-Some.undo c.in-Some.ensures.items c.in-Cut.is c.loop-undo.invariant.1 in
    let at : c.index-contents-position.result ≡ content_listed contents c.in-Cut.doc = read_content contents c.in-Cut.doc c.position.result c.index-contents-position.result c.index-contents-position.is c.position.ensures there in
    let cut : c.truncate.new.self ≡ take c.in-Cut.len (content_listed contents c.in-Cut.doc) = cc (c.truncate.ensures, at, c.index-contents-position.is) in
    undone_by contents _ _ c.loop-undo.undos.items c.pop.new.self.items (Cut c.in-Cut.doc c.in-Cut.len) c.in-Some.undo c.in-Some.ensures.items c.in-Cut.is
    (ap (λ i. set contents i c.truncate.new.self) c.position.ensures ∙ ap (set contents c.in-Cut.doc) cut) c.loop-undo.invariant.0 c.loop-undo.invariant.1

pub loop-undo-preserved : goal.loop-undo-preserved
loop-undo-preserved c =
    undone_by c.loop-undo.contents _ _ c.loop-undo.undos.items c.pop.new.self.items (Put c.in-Put.doc c.in-Put.content) c.in-Some.undo c.in-Some.ensures.items c.in-Put.is
    (ap (λ i. set c.loop-undo.contents i c.in-Put.content) c.position-in-Put.ensures) c.loop-undo.invariant.0 c.loop-undo.invariant.1
