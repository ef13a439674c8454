use Rattle.std.proofs.Common.{◌∙◌}
use Rattle.bl_name.specs.declared.token.Keyword.TheVariants.{Greatest, Current, Trusted, Admin}
use Rattle.bl_declare.proofs.Parts.{name_passes, name_fails, key_passes, key_fails, flag_reads, ended_at, ended_not, of_syntax, exits}
use Rattle.bl_declare.proofs.parser.Cursor.subject.Goals as goal

pub returns-in_err-name : goal.returns-in_err-name
returns-in_err-name c =
    exits _ _ _ _ c.from_residual.ensures.1
    (of_syntax (λ f. name_fails _ _ f) c.in_err-name.ensures)

pub returns-in_err-key : goal.returns-in_err-key
returns-in_err-key c =
    exits _ _ _ _ c.from_residual-in_err-key.ensures.1
    (of_syntax (λ f. name_passes _ _ _ _ c.in_ok-name.ensures ∙ key_fails Greatest _ _ f) c.in_err-key.ensures)

pub returns-in_err-greatest : goal.returns-in_err-greatest
returns-in_err-greatest c =
    exits _ _ _ _ c.from_residual-in_err-greatest.ensures.1
    (of_syntax (λ f. name_passes _ _ _ _ c.in_ok-name.ensures ∙ key_passes Greatest _ _ _ c.in_ok-key.ensures ∙ f _) c.in_err-greatest.ensures)

pub returns-in_err-key-2 : goal.returns-in_err-key-2
returns-in_err-key-2 c =
    exits _ _ _ _ c.from_residual-in_err-key-2.ensures.1
    (of_syntax (λ f. name_passes _ _ _ _ c.in_ok-name.ensures ∙ key_passes Greatest _ _ _ c.in_ok-key.ensures ∙ c.in_ok-greatest.ensures _ ∙ key_fails Current _ _ f) c.in_err-key-2.ensures)

pub returns-in_err-current : goal.returns-in_err-current
returns-in_err-current c =
    exits _ _ _ _ c.from_residual-in_err-current.ensures.1
    (of_syntax (λ f. name_passes _ _ _ _ c.in_ok-name.ensures ∙ key_passes Greatest _ _ _ c.in_ok-key.ensures ∙ c.in_ok-greatest.ensures _ ∙ key_passes Current _ _ _ c.in_ok-key-2.ensures ∙ f _) c.in_err-current.ensures)

pub returns-in_err-end : goal.returns-in_err-end
returns-in_err-end c =
    exits _ _ _ _ c.from_residual-in_err-end.ensures.1
    (of_syntax (λ f. name_passes _ _ _ _ c.in_ok-name.ensures ∙ key_passes Greatest _ _ _ c.in_ok-key.ensures ∙ c.in_ok-greatest.ensures _ ∙ key_passes Current _ _ _ c.in_ok-key-2.ensures ∙ c.in_ok-current.ensures _ ∙ flag_reads Trusted _ _ _ _ c.takes-trusted.ensures ∙ flag_reads Admin _ _ _ _ c.takes-admin.ensures ∙ ended_not _ _ f) c.in_err-end.ensures)

pub returns : goal.returns
returns c = name_passes _ _ _ _ c.in_ok-name.ensures ∙ key_passes Greatest _ _ _ c.in_ok-key.ensures ∙ c.in_ok-greatest.ensures _ ∙ key_passes Current _ _ _ c.in_ok-key-2.ensures ∙ c.in_ok-current.ensures _ ∙ flag_reads Trusted _ _ _ _ c.takes-trusted.ensures ∙ flag_reads Admin _ _ _ _ c.takes-admin.ensures ∙ ended_at _ _ c.in_ok-end.ensures
