use Rattle.std.proofs.Common.{rules, ◌≡◌, ◌++◌, refl, subst, sym, codes}
use Rattle.bl_wire.proofs.PutLaws.{puts-line}
use Rattle.bl_log.specs.Lines.{IsTimeText, note_text}
use Rattle.bl_log.proofs.log.Log.note.Goals as goal

pub returns-then-not-failed-clause-noted : goal.returns-then-not-failed-clause-noted
returns-then-not-failed-clause-noted g c =
    let note = c.args.note.now in
    let time = c.as_bytes.result.now in
    let is : time ≡ c.time_text.result.bytes = search rules in (
      ((time ++ codes " ") ++ note_text note) ++ codes "\n",
      (time, subst (IsTimeText note.time) (sym is) c.time_text.ensures, refl),
      puts-line time (codes " ") (note_text note) (codes "\n") _ _ _ _ _ c.put.ensures.puts c.put-2.ensures.puts c.put_note.ensures c.put_out.ensures.puts,
    )

pub returns-else-not-failed-clause-noted : goal.returns-else-not-failed-clause-noted
returns-else-not-failed-clause-noted g c =
    let note = c.args.note.now in
    let time = c.as_bytes.result.now in
    let is : time ≡ c.time_text.result.bytes = search rules in (
      ((time ++ codes " ") ++ note_text note) ++ codes "\n",
      (time, subst (IsTimeText note.time) (sym is) c.time_text.ensures, refl),
      puts-line time (codes " ") (note_text note) (codes "\n") _ _ _ _ _ c.put.ensures.puts c.put-2.ensures.puts c.put_note.ensures c.put_out.ensures.puts,
    )
