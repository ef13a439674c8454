use Rattle.std.proofs.Common.{◌≡◌, List, ℕ, sym, ◌∙◌, ap, subst}
use Rattle.std.specs.Prelude.{Some, option_copied}
use Rattle.bl_trail.specs.Asks.{behind}
use Rattle.bl_trail.specs.Follow.{IsLine}
use Rattle.bl_trail.proofs.Words.{cut-some, cut-none}
use Rattle.bl_trail.proofs.follow.first_line.Goals as goal

pub returns-in-Some : goal.returns-in-Some
returns-in-Some c =
    let text : List ℕ = c.args.text.now in
    let rest : List ℕ = c.in-Some.rest.now in
    let found : behind 10 text ≡ Some rest = sym c.split_word.ensures.behind ∙ ap option_copied c.in-Some.is in
    subst (λ line. IsLine text line rest) (sym c.split_word.ensures.before) (record { plain = (cut-some 10 text rest found).0; split = (cut-some 10 text rest found).1 })

pub returns-in-None : goal.returns-in-None
returns-in-None c = cut-none 10 c.args.text.now (sym c.split_word.ensures.behind ∙ ap option_copied c.in-None.is)
