use Rattle.std.proofs.Common.{◌≡◌, ◌++◌, ◌∷◌, [], IfSome, codes, decimal, subst, sym}
use Rattle.bl_work.specs.Names.{KnownNames}
use Rattle.bl_work.specs.declared.answer.Answer.{Answer}
use Rattle.bl_wire.specs.Replies.{answer_text}
use Rattle.bl_trail.proofs.text.short_end_of.Goals as goal

pub returns-in-Done : goal.returns-in-Done
returns-in-Done c =
    subst (λ (a : Answer). IfSome c.short_end.result (λ line. (names : KnownNames) → line.items ≡ (codes "end " ++ (decimal c.args.n ++ answer_text names a)) ++ 10 ∷ []))
    (sym c.in-Done.is) c.short_end.ensures
