use Rattle.std.proofs.Common.{rules, ap, ◌++◌, ◌∙◌, codes}
use Rattle.bl_wire.specs.Texts.{fault_words}
use Rattle.bl_wire.proofs.PutLaws.{puts-two}
use Rattle.bl_question.proofs.told.put_fault.Goals as goal

pub returns-in-Syntax : goal.returns-in-Syntax
returns-in-Syntax g c = puts-two (fault_words c.args.fault.now) _ _ _ _ _ (ap fault_words c.in-Syntax.is) c.put-in-Syntax.ensures.puts c.put_number.ensures.puts

pub returns-in-Unknown : goal.returns-in-Unknown
returns-in-Unknown g c =
    puts-two (fault_words c.args.fault.now) _ _ _ _ _ (ap fault_words c.in-Unknown.is ∙ ap (λ l. codes "unknown " ++ l) (search rules)) c.put-in-Unknown.ensures.puts c.put-in-Unknown-2.ensures.puts

pub returns-in-Twice : goal.returns-in-Twice
returns-in-Twice g c =
    puts-two (fault_words c.args.fault.now) _ _ _ _ _ (ap fault_words c.in-Twice.is ∙ ap (λ l. codes "twice " ++ l) (search rules)) c.put-in-Twice.ensures.puts c.put-in-Twice-2.ensures.puts

pub returns-in-Mode : goal.returns-in-Mode
returns-in-Mode g c =
    puts-two (fault_words c.args.fault.now) _ _ _ _ _ (ap fault_words c.in-Mode.is ∙ ap (λ l. codes "mode " ++ l) (search rules)) c.put-in-Mode.ensures.puts c.put-in-Mode-2.ensures.puts
