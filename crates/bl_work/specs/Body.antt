-- A list of statements of the code, seen as one body.
use Rattle.std.specs.Prelude.{ℕ, ◌+◌, max, List, [], ◌∷◌}
use Rattle.bl_work.specs.Statements.{Statements}
use Rattle.bl_work.specs.declared.script.Stmt.{Stmt}
use Rattle.bl_work.specs.declared.script.Stmt.TheVariants.{Show, Say, Add, Set, Copy, Pour, If, Spawn}

abbrev pub statements_of : List Stmt → Statements
statements_of [] = Statements.Nothing
statements_of (Show doc ∷ rest) = Statements.Show doc (statements_of rest)
statements_of (Say text ∷ rest) = Statements.Say text (statements_of rest)
statements_of (Add doc text ∷ rest) = Statements.Add doc text (statements_of rest)
statements_of (Set doc text ∷ rest) = Statements.Set doc text (statements_of rest)
statements_of (Copy from to ∷ rest) = Statements.Copy from to (statements_of rest)
statements_of (Pour from to ∷ rest) = Statements.Pour from to (statements_of rest)
statements_of (If choice ∷ rest) =
    let c = choice.value in Statements.If c.doc c.test c.text c.then_body c.else_body (statements_of rest)
statements_of (Spawn behaviour ∷ rest) = Statements.Spawn behaviour (statements_of rest)

-- how many `if` stand in one another
abbrev pub depth : Statements → ℕ
depth Statements.Nothing = 0
depth (Statements.Show doc rest) = depth rest
depth (Statements.Say text rest) = depth rest
depth (Statements.Add doc text rest) = depth rest
depth (Statements.Set doc text rest) = depth rest
depth (Statements.Copy from to rest) = depth rest
depth (Statements.Pour from to rest) = depth rest
depth (Statements.If doc asks text then_body else_body rest) = max (max (depth then_body) (depth else_body) + 1) (depth rest)
depth (Statements.Spawn behaviour rest) = depth rest
