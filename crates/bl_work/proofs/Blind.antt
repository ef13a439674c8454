-- What a body does rests on the contents that its accesses let it look at, and on no other.
use Rattle.std.proofs.Common.{◌≡◌, ℕ, cond, IsTrue, List, [], ◌∷◌, ◌++◌, refl, ◌∙◌, ap}
use Rattle.bl_policy.specs.declared.access.Access.{Access}
use Rattle.bl_work.specs.Statements as statement
use Rattle.bl_work.specs.Statements.{Statements}
use Rattle.bl_work.specs.Effects.{Effect, Out, Put, Add, Child, after, holds_of, effects_from, seen}
use Rattle.bl_work.specs.Modes.{declares, observes, KeepsModes}

module _ (accesses : List Access) (c d : ℕ → List ℕ) (same : (o : ℕ) → IsTrue (declares observes accesses o) → c o ≡ d o) where
  -- a document that may be looked at is seen the same after the same effects
  seen-same : (so_far : List Effect) (o : ℕ) → IsTrue (declares observes accesses o) → seen c so_far o ≡ seen d so_far o
  seen-same so_far o looks = ap (λ content. after content so_far o) (same o looks)

  -- statements that keep to the accesses have the same effects
  pub effects_from-same : (body : Statements) (so_far : List Effect) → KeepsModes accesses body → effects_from c so_far body ≡ effects_from d so_far body
  effects_from-same statement.Nothing so_far keeps = refl
  effects_from-same (statement.Show o rest) so_far keeps =
      effects_from-same rest (so_far ++ Out (seen c so_far o) ∷ []) keeps.1
      ∙ ap (λ text. effects_from d (so_far ++ Out text ∷ []) rest) (seen-same so_far o keeps.0)
  effects_from-same (statement.Say text rest) so_far keeps = effects_from-same rest (so_far ++ Out text ∷ []) keeps
  effects_from-same (statement.Add o text rest) so_far keeps = effects_from-same rest (so_far ++ Add o text ∷ []) keeps.1
  effects_from-same (statement.Set o text rest) so_far keeps = effects_from-same rest (so_far ++ Put o text ∷ []) keeps.1
  effects_from-same (statement.Copy from to rest) so_far keeps =
      effects_from-same rest (so_far ++ Put to (seen c so_far from) ∷ []) keeps.2
      ∙ ap (λ text. effects_from d (so_far ++ Put to text ∷ []) rest) (seen-same so_far from keeps.0)
  effects_from-same (statement.Pour from to rest) so_far keeps =
      effects_from-same rest (so_far ++ Add to (seen c so_far from) ∷ []) keeps.2
      ∙ ap (λ text. effects_from d (so_far ++ Add to text ∷ []) rest) (seen-same so_far from keeps.0)
  effects_from-same (statement.If o asks text then_body else_body rest) so_far keeps =
      effects_from-same rest (cond (holds_of asks (seen c so_far o) text) (effects_from c so_far then_body) (effects_from c so_far else_body)) keeps.3
      ∙ ap (λ es. effects_from d es rest) (ap (λ content. cond (holds_of asks content text) (effects_from c so_far then_body) (effects_from c so_far else_body)) (seen-same so_far o keeps.0))
      ∙ ap (λ es. effects_from d (cond (holds_of asks (seen d so_far o) text) es (effects_from c so_far else_body)) rest) (effects_from-same then_body so_far keeps.1)
      ∙ ap (λ es. effects_from d (cond (holds_of asks (seen d so_far o) text) (effects_from d so_far then_body) es) rest) (effects_from-same else_body so_far keeps.2)
  effects_from-same (statement.Spawn behaviour rest) so_far keeps = effects_from-same rest (so_far ++ Child behaviour ∷ []) keeps
