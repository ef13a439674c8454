use Rattle.std.proofs.Common.{◌++◌, List, ℕ, sym, ◌∙◌, ap, true≢false, get_or, []}
use Rattle.std.specs.Prelude.{codes}
use Rattle.bl_level.specs.Table.{place_of}
use Rattle.bl_work.specs.Names.{KnownNames}
use Rattle.bl_work.proofs.Widths.{name_is}
use Rattle.bl_replay.proofs.replayer.Replayer.open.Goals as goal

pub returns-then-not-is_open-clause-wrong : goal.returns-then-not-is_open-clause-wrong
returns-then-not-is_open-clause-wrong c is x keeps subject named needs has text =
    true≢false (sym (c.is_open.ensures.1
    (text
    ∙ ap (λ (n : List ℕ). codes "open " ++ n) (sym named ∙ name_is c.args.self.now.setup.names.subjects c.args.name.now c.in-Some.subject
    (sym (sym c.in-Some.is ∙ c.subject.ensures.value ∙ ap (λ (k : KnownNames). place_of c.args.name.now k.subjects) c.names.ensures.value)))
    ∙ ap (λ (k : KnownNames). codes "open " ++ get_or k.subjects c.in-Some.subject []) (sym c.names-2.ensures.value)
    )) ∙ c.if-not-is_open.true)
