use Rattle.std.proofs.Common.{◌≡◌, false, ap, sym, ◌∙◌}
use Rattle.bl_level.specs.Lexing.{front}
use Rattle.bl_walk.specs.Takes.{word_goes_on}
use Rattle.bl_walk.proofs.Placings.{access_taken}
use Rattle.bl_walk.proofs.unread.Unread.access.Goals as goal

pub returns-in-Some-document : goal.returns-in-Some-document
returns-in-Some-document c =
    let word = c.split_at.result.0.now in
    let rest = c.split_at.result.1.now in
    let ends : word_goes_on rest ≡ false = cc (c.goes_on.ensures) in
    access_taken c.args.names.now c.in-Some.mode c.in-Some-document.doc c.args.self.now.bytes.now c.in-Some.behind.now word rest c.documents.ensures.names
    (ap front (sym c.past_blanks.ensures) ∙ c.in-Some.ensures)
    (record { split = sym c.past_blanks-from.ensures ∙ c.split_at.ensures.by_index.0; ends = ends })
    (sym c.in-Some-document.ensures.value)
