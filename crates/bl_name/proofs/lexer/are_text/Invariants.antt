use Rattle.std.proofs.Common.{◌≡◌, ◌&&◌, drop}
use Rattle.std.specs.List.{list_all}
use Rattle.bl_name.specs.declared.lexer.Class.TheVariants as class
use Rattle.bl_name.specs.Lexing.{is_in}
use Rattle.bl_name.proofs.lexer.are_text.Given as goal

-- whether all bytes are of a text is said by those seen and those to come
abbrev pub invariant-loop-b : goal.invariant-loop-b
invariant-loop-b l = (l.all && list_all (is_in class.Text) (drop l.b-index l.bytes)) ≡ list_all (is_in class.Text) l.bytes
