-- What is said of effects, whoever runs the body.
use Rattle.std.specs.Prelude.{◌≡◌, ℕ, ◌<◌, ◌≤◌, false, IsTrue, All, List, ◌++◌, length}
use Rattle.bl_policy.specs.declared.access.Access.{Access}
use Rattle.bl_document.specs.Content.{IsContent, most_bytes, added}
use Rattle.bl_work.specs.Statements.{Statements}
use Rattle.bl_work.specs.Effects.{after, effects_of, outputs}
use Rattle.bl_work.specs.Modes.{alters, declares, observes}

-- the contents are the same wherever the accesses let a body look
abbrev pub LookAlike : List Access → (ℕ → List ℕ) → (ℕ → List ℕ) → Type 0
LookAlike accesses contents others = (doc : ℕ) → IsTrue (declares observes accesses doc) → contents doc ≡ others doc

-- an addition stands at the end of the content, and what is cut off is what a full content has no room for
pub record IsAdded (content text : List ℕ) : Type 0 where
  pub cut : List ℕ
  pub split : content ++ text ≡ added content text ++ cut
  pub short : length (added content text) ≤ most_bytes
  pub full : 0 < length cut → length (added content text) ≡ most_bytes

-- what the body shows and what it leaves in each document are contents
pub record StaysContent (contents : ℕ → List ℕ) (body : Statements) : Type 0 where
  pub shown : All IsContent (outputs (effects_of contents body))
  pub left : (doc : ℕ) → IsContent (after (contents doc) (effects_of contents body) doc)

-- a document that the accesses let nobody alter has the content that it had
abbrev pub AltersOnlyDeclared : List Access → (ℕ → List ℕ) → Statements → Type 0
AltersOnlyDeclared accesses contents body =
    (doc : ℕ) → declares alters accesses doc ≡ false → after (contents doc) (effects_of contents body) doc ≡ contents doc
