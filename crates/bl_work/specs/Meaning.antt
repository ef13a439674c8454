-- The script that a `when` stands for: its behaviours in the order of the text.
use Rattle.std.specs.Prelude.{ℕ, ◌+◌, List, [], ◌∷◌, ◌++◌, map, unwrap_or}
use Rattle.bl_level.specs.Table.{place_of}
use Rattle.bl_policy.specs.declared.access.Access.{Access}
use Rattle.bl_work.specs.Names.{KnownNames}
use Rattle.bl_work.specs.Spelled.{SpelledAccess, SpelledBody, empty, show, say, add, set, copy, pour, if_then, if_else, spawn}
use Rattle.bl_work.specs.Statements.{Statements, Nothing, Show, Say, Add, Set, Copy, Pour, If, Spawn, Part}

-- how many `when` stand in a body
abbrev pub whens : SpelledBody → ℕ
whens empty = 0
whens (show document rest) = whens rest
whens (say words rest) = whens rest
whens (add document words rest) = whens rest
whens (set document words rest) = whens rest
whens (copy from to rest) = whens rest
whens (pour from to rest) = whens rest
whens (if_then document asks words then_body rest) = whens then_body + whens rest
whens (if_else document asks words then_body else_body rest) = whens then_body + (whens else_body + whens rest)
whens (spawn first more body rest) = 1 + (whens body + whens rest)

module _ (names : KnownNames) where
  -- a document by its place; of a name that is no document's nothing is asked
  abbrev pub document_of : List ℕ → ℕ
  document_of name = unwrap_or (place_of name names.documents) 0

  abbrev pub access_of : SpelledAccess → Access
  access_of access = record { mode = access.mode; doc = document_of access.document }

  -- own choice: The statements of a body. The behaviours that it spawns are numbered from this number on in the order of the
  -- text, and behind each stand those within it. An `else` of no statements is as none.
  abbrev pub numbered : ℕ → SpelledBody → Statements
  numbered next empty = Nothing
  numbered next (show document rest) = Show (document_of document) (numbered next rest)
  numbered next (say words rest) = Say words (numbered next rest)
  numbered next (add document words rest) = Add (document_of document) words (numbered next rest)
  numbered next (set document words rest) = Set (document_of document) words (numbered next rest)
  numbered next (copy from to rest) = Copy (document_of from) (document_of to) (numbered next rest)
  numbered next (pour from to rest) = Pour (document_of from) (document_of to) (numbered next rest)
  numbered next (if_then document asks words then_body rest) =
      If (document_of document) asks words (numbered next then_body) Nothing (numbered (next + whens then_body) rest)
  numbered next (if_else document asks words then_body else_body rest) =
      If (document_of document) asks words (numbered next then_body) (numbered (next + whens then_body) else_body)
      (numbered (next + whens then_body + whens else_body) rest)
  numbered next (spawn first more body rest) = Spawn next (numbered (next + 1 + whens body) rest)

  -- the behaviours that a body spawns, the first of them having this number
  abbrev pub spawned_from : ℕ → SpelledBody → List Part
  spawned_from next empty = []
  spawned_from next (show document rest) = spawned_from next rest
  spawned_from next (say words rest) = spawned_from next rest
  spawned_from next (add document words rest) = spawned_from next rest
  spawned_from next (set document words rest) = spawned_from next rest
  spawned_from next (copy from to rest) = spawned_from next rest
  spawned_from next (pour from to rest) = spawned_from next rest
  spawned_from next (if_then document asks words then_body rest) =
      spawned_from next then_body ++ spawned_from (next + whens then_body) rest
  spawned_from next (if_else document asks words then_body else_body rest) =
      spawned_from next then_body
      ++ (spawned_from (next + whens then_body) else_body ++ spawned_from (next + whens then_body + whens else_body) rest)
  spawned_from next (spawn first more body rest) =
      record { accesses = map access_of (first ∷ more); body = numbered (next + 1) body }
      ∷ (spawned_from (next + 1) body ++ spawned_from (next + 1 + whens body) rest)

  -- The script of a `when`: its own behaviour has number 0.
  abbrev pub script_of : SpelledAccess → List SpelledAccess → SpelledBody → List Part
  script_of first more body = record { accesses = map access_of (first ∷ more); body = numbered 1 body } ∷ spawned_from 1 body
