use Rattle.std.proofs.Common.{rules, ◌≡◌, ◌∙◌, ap, sym}
use Rattle.std.specs.Prelude.{string_bytes}
use Rattle.bl_wire.proofs.PutLaws.{puts-is}
use Rattle.bl_status.specs.Places.{about_line, file_line, wanted_line}
use Rattle.bl_status.proofs.told.tell_about.Goals as goal

-- the file's name is told
pub returns-in-File : goal.returns-in-File
returns-in-File g c =
    let name = c.as_str.result.now in
    let named : name ≡ string_bytes c.in-File.name = search rules in
    record { puts = puts-is (file_line name) (about_line c.args.about.now) _ _ (ap file_line named ∙ sym (ap about_line c.in-File.is)) c.tell_file.ensures.puts }

-- and so is the trail's
pub returns-in-Trail : goal.returns-in-Trail
returns-in-Trail g c =
    let name = c.as_str-in-Trail.result.now in
    let named : name ≡ string_bytes c.in-Trail.name = search rules in
    record { puts = puts-is (wanted_line name) (about_line c.args.about.now) _ _ (ap wanted_line named ∙ sym (ap about_line c.in-Trail.is)) c.tell_wanted.ensures.puts }
