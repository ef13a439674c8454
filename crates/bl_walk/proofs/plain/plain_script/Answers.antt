use Rattle.std.proofs.Common.{List, [], ◌∷◌, ap, sym, subst, ◌∙◌}
use Rattle.bl_name.specs.declared.token.Keyword.TheVariants.{When}
use Rattle.bl_level.specs.Token.{reserved}
use Rattle.bl_work.specs.LineGrammar.{LineOf}
use Rattle.bl_work.specs.Statements.{Part}
use Rattle.bl_work.specs.declared.asked.Line.TheVariants.{Work}
use Rattle.bl_work.specs.declared.work.Work.TheVariants.{Behaviour}
use Rattle.bl_walk.specs.Takes.{Takes}
use Rattle.bl_walk.proofs.Bodies.{walked_line}
use Rattle.bl_walk.proofs.plain.plain_script.Goals as goal

pub new-requires-3 : goal.new-requires-3
new-requires-3 c =
    let bytes = c.args.bytes.now in
    let outermost = c.in_ok-outermost.outermost in
    let line = walked_line c.args.names.now bytes c.key.new.self.bytes.now c.when.new.self.unread.bytes.now c.new-2.result.items c.when.new.self.spawned.items outermost
    c.requires (subst (λ b. Takes b (reserved When ∷ []) c.key.new.self.bytes.now) c.new.ensures c.in_ok-key.ensures) c.new-2.ensures.items c.in_ok-outermost.ensures
    (c.is_over.ensures c.if-not-is_over.false) in
    c.lines_ask_scripts.ensures c.args.names.now bytes (outermost ∷ c.shrink_to_fit.new.self.items)
    (subst (λ (l : List Part). LineOf c.args.names.now bytes (Work (Behaviour (outermost ∷ l)))) (sym c.shrink_to_fit.ensures.items) line)

pub returns : goal.returns
returns c =
    let bytes = c.args.bytes.now in
    let outermost = c.in_ok-outermost.outermost in
    let line = walked_line c.args.names.now bytes c.key.new.self.bytes.now c.when.new.self.unread.bytes.now c.new-2.result.items c.when.new.self.spawned.items outermost
    c.requires (subst (λ b. Takes b (reserved When ∷ []) c.key.new.self.bytes.now) c.new.ensures c.in_ok-key.ensures) c.new-2.ensures.items c.in_ok-outermost.ensures
    (c.is_over.ensures c.if-not-is_over.false) in
    subst (λ (l : List Part). LineOf c.args.names.now bytes (Work (Behaviour l))) (sym (c.in_ok-new.ensures ∙ ap (λ (l : List Part). outermost ∷ l) c.shrink_to_fit.ensures.items)) line
