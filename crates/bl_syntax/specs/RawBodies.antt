-- The parts of a `when` as they were read, seen as they are spelled.
use Rattle.std.specs.Prelude.{List, [], ◌∷◌, map}
use Rattle.bl_work.specs.Spelled as spelled
use Rattle.bl_work.specs.Spelled.{SpelledAccess, SpelledBody}
use Rattle.bl_syntax.specs.declared.raw.RawAccess.{RawAccess}
use Rattle.bl_syntax.specs.declared.raw.RawStatement.{RawStatement}
use Rattle.bl_syntax.specs.declared.raw.RawStatement.TheVariants.{Show, Say, Add, Set, Copy, Pour, IfThen, IfElse, Spawn}

abbrev pub raw_access : RawAccess → SpelledAccess
raw_access a = record { mode = a.mode; document = a.document.now }

abbrev pub raw_body : List RawStatement → SpelledBody
raw_body [] = spelled.empty
raw_body (Show document ∷ rest) = spelled.show document.now (raw_body rest)
raw_body (Say words ∷ rest) = spelled.say words.now (raw_body rest)
raw_body (Add document words ∷ rest) = spelled.add document.now words.now (raw_body rest)
raw_body (Set document words ∷ rest) = spelled.set document.now words.now (raw_body rest)
raw_body (Copy from to ∷ rest) = spelled.copy from.now to.now (raw_body rest)
raw_body (Pour from to ∷ rest) = spelled.pour from.now to.now (raw_body rest)
raw_body (IfThen choice ∷ rest) =
    let c = choice.value in spelled.if_then c.document.now c.test c.text.now c.then_body (raw_body rest)
raw_body (IfElse choice ∷ rest) =
    let c = choice.value in spelled.if_else c.document.now c.test c.text.now c.then_body c.else_body (raw_body rest)
raw_body (Spawn spawned ∷ rest) =
    let w = spawned.value in spelled.spawn (raw_access w.first) (map raw_access w.more.items) w.body (raw_body rest)
