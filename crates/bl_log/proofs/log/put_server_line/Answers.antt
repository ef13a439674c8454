use Rattle.std.proofs.Common.{rules, ◌≡◌, ◌++◌, refl, subst, sym, codes}
use Rattle.bl_wire.proofs.PutLaws.{puts-line}
use Rattle.bl_log.specs.Lines.{IsTimeText, server_text}
use Rattle.bl_log.proofs.log.put_server_line.Goals as goal

pub returns : goal.returns
returns g c =
    let note = c.args.note.now in
    let time = c.as_bytes.result.now in
    let is : time ≡ c.time_text.result.bytes = search rules in (
      ((time ++ codes " server ") ++ server_text note.event) ++ codes "\n",
      (time, subst (IsTimeText note.time) (sym is) c.time_text.ensures, refl),
      puts-line time (codes " server ") (server_text note.event) (codes "\n") _ _ _ _ _ c.put.ensures.puts c.put-2.ensures.puts c.put_server_event.ensures c.put_out.ensures.puts,
    )
