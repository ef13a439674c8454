use Rattle.std.proofs.Common.{Bool, [], refl, subst, sym}
use Rattle.std.specs.Prelude.{if◌then◌else◌}
use Rattle.bl_wire.specs.Watch.{Puts, end_state}
use Rattle.bl_wire.proofs.PutLaws.{puts-nil}
use Rattle.bl_clock.proofs.clock.tell_if.Goals as goal

pub returns-then-is_so : goal.returns-then-is_so
returns-then-is_so g c =
    let old = end_state g.E.Write.contents c.args.errors.now in
    let new = end_state g.E.Write.contents c.put_out.new.writer in
    subst (λ (so : Bool). Puts (if so then c.args.words.now else []) old new) (sym c.if-is_so.true) c.put_out.ensures.puts

pub returns-else-is_so : goal.returns-else-is_so
returns-else-is_so g c =
    let old = end_state g.E.Write.contents c.args.errors.now in
    subst (λ (so : Bool). Puts (if so then c.args.words.now else []) old old) (sym c.if-is_so.false) (puts-nil old old refl)
