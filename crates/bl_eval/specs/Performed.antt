-- What a whole body did.
use Rattle.std.specs.Prelude.{◌≡◌, List}
use Rattle.bl_work.specs.Statements.{Statements}
use Rattle.bl_work.specs.Effects.{effects_of, outputs, children}
use Rattle.bl_grant.specs.Loaned.{Loaned}
use Rattle.bl_grant.specs.Loans.{content_of}
use Rattle.bl_eval.specs.Told.{changed_by}
use Rattle.bl_eval.specs.declared.evaluate.Performed.{Performed}

-- it left, showed and spawned what the body's effects on these grants say
pub record HasPerformed (body : Statements) (grants grants_then : List Loaned) (performed : Performed) : Type 0 where
  pub outputs : performed.outputs ≡ outputs (effects_of (content_of grants) body)
  pub spawned : performed.spawned.items ≡ children (effects_of (content_of grants) body)
  pub left : grants_then ≡ changed_by grants (effects_of (content_of grants) body)
