use Rattle.std.proofs.Common.{ap, sym, subst, ◌∙◌}
use Rattle.bl_level.specs.Lexing.{front}
use Rattle.bl_level.specs.Token.{name}
use Rattle.bl_walk.specs.Takes.{IsCut}
use Rattle.bl_walk.proofs.Cuts.{name_front}
use Rattle.bl_walk.proofs.Takings.{takes_one}
use Rattle.bl_walk.proofs.unread.Unread.takes_name.Goals as goal

pub returns-in-Some : goal.returns-in-Some
returns-in-Some c =
    let word = c.args.name.now in
    let rest = c.in-Some.rest.now in
    takes_one (name word) c.args.self.now.bytes.now rest
    (ap front (sym c.past_blanks.ensures)
    ∙ name_front word c.past_blanks.result.now rest c.bytes.ensures.name (subst (λ w. IsCut c.past_blanks.result.now w rest) c.bytes.ensures.value c.in-Some.ensures))
