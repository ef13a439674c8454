-- The line that a line as it was read stands for.
use Rattle.std.specs.Prelude.{map}
use Rattle.bl_work.specs.Grammar.{SpelledLine, hello, wait, when, rule}
use Rattle.bl_syntax.specs.RawBodies.{raw_access}
use Rattle.bl_syntax.specs.RawRules.{raw_rule}
use Rattle.bl_syntax.specs.declared.raw.RawLine.{RawLine}
use Rattle.bl_syntax.specs.declared.raw.RawLine.TheVariants as raw

abbrev pub raw_view : RawLine → SpelledLine
raw_view (raw.Hello subject) = hello subject.now
raw_view raw.Wait = wait
raw_view (raw.When w) = when (raw_access w.first) (map raw_access w.more.items) w.body
raw_view (raw.Rule asked) = rule (raw_rule asked)
