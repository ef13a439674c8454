-- The statements that stand in blocks of their own, seen as they are spelled.
use Rattle.std.proofs.Common.{◌≡◌, [], ◌∷◌, ap, sym, ◌∙◌, map, Box, Global}
use Rattle.bl_work.specs.Spelled as spelled
use Rattle.bl_syntax.specs.RawBodies.{raw_access, raw_body}
use Rattle.bl_syntax.specs.declared.raw.RawIfThen.{RawIfThen}
use Rattle.bl_syntax.specs.declared.raw.RawIfElse.{RawIfElse}
use Rattle.bl_syntax.specs.declared.raw.RawWhen.{RawWhen}
use Rattle.bl_syntax.specs.declared.raw.RawStatement.{RawStatement}
use Rattle.bl_syntax.specs.declared.raw.RawStatement.TheVariants.{IfThen, IfElse, Spawn}

pub raw_if_then : (s : RawStatement) (b : Box RawIfThen Global) (v : RawIfThen) → s ≡ IfThen b → v ≡ b.value
    → raw_body (s ∷ []) ≡ spelled.if_then v.document.now v.test v.text.now v.then_body spelled.empty
raw_if_then s b v e f =
    ap (λ (x : RawStatement). raw_body (x ∷ [])) e
    ∙ ap (λ (x : RawIfThen). spelled.if_then x.document.now x.test x.text.now x.then_body spelled.empty) (sym f)

pub raw_if_else : (s : RawStatement) (b : Box RawIfElse Global) (v : RawIfElse) → s ≡ IfElse b → v ≡ b.value
    → raw_body (s ∷ []) ≡ spelled.if_else v.document.now v.test v.text.now v.then_body v.else_body spelled.empty
raw_if_else s b v e f =
    ap (λ (x : RawStatement). raw_body (x ∷ [])) e
    ∙ ap (λ (x : RawIfElse). spelled.if_else x.document.now x.test x.text.now x.then_body x.else_body spelled.empty) (sym f)

pub raw_spawn : (s : RawStatement) (b : Box RawWhen Global) (v : RawWhen) → s ≡ Spawn b → v ≡ b.value
    → raw_body (s ∷ []) ≡ spelled.spawn (raw_access v.first) (map raw_access v.more.items) v.body spelled.empty
raw_spawn s b v e f =
    ap (λ (x : RawStatement). raw_body (x ∷ [])) e
    ∙ ap (λ (x : RawWhen). spelled.spawn (raw_access x.first) (map raw_access x.more.items) x.body spelled.empty) (sym f)
