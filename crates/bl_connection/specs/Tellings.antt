-- What is told of a block into a list of bytes.
use Rattle.std.specs.Prelude.{◌≡◌, ℕ, List, ◌++◌, take}
use Rattle.bl_engine.specs.Conversations.{Says, last_ordinal}
use Rattle.bl_engine.specs.declared.conversation.Conversation.{Conversation}

-- so much more was told, and stands after the bytes
pub record ToldOn (was left : ℕ → List ℕ) (old new : Conversation) (before after : List ℕ) : Type 0 where
  pub more : List ℕ
  pub put : after ≡ before ++ more
  pub says : Says was left old new more
  pub ended : new.ended ≡ old.ended
  pub last : last_ordinal new ≡ last_ordinal old

-- so much more was told, and there was no memory for all of it
pub record ToldShort (was : ℕ → List ℕ) (old new : Conversation) (before after : List ℕ) : Type 0 where
  pub left : ℕ → List ℕ
  pub more : List ℕ
  pub much : ℕ
  pub put : after ≡ before ++ take much more
  pub says : Says was left old new more
  pub ended : new.ended ≡ old.ended
