use Rattle.std.proofs.Common.{◌∙◌, Some, ap, sym}
use Rattle.clap.specs.Facts.{explicit_source}
use Rattle.bl_options.proofs.Given.{said_by, said_there}
use Rattle.bl_options.proofs.number.is_said.Goals as goal

pub returns-in-Some-CommandLine : goal.returns-in-Some-CommandLine
returns-in-Some-CommandLine c =
    sym (ap (λ source. explicit_source (Some source)) c.in-Some-CommandLine.field-0-is) ∙ said_by _ c.in-Some-CommandLine.field-0 c.in-Some-CommandLine.ensures

pub returns-in-Some-DefaultValue : goal.returns-in-Some-DefaultValue
returns-in-Some-DefaultValue c =
    sym (ap (λ source. explicit_source (Some source)) c.in-Some-DefaultValue.field-0-is) ∙ said_by _ c.in-Some-DefaultValue.field-0 c.in-Some-DefaultValue.ensures

pub returns-in-None : goal.returns-in-None
returns-in-None c = c.contains_id.ensures ∙ said_there _ c.in-None.ensures
