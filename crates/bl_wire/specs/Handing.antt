-- What was handed over of the bytes that a reader showed.
use Rattle.std.specs.Prelude.{◌≡◌, ◌<◌, ◌≤◌, ℕ, Bool, true, false, List, length, nat_lt, take, Option, Some, None}
use Rattle.std.specs.Prelude.{OnSome, Result, Ok, Err}
use Rattle.std.specs.Io.KnownBytes.{Consumes, IsAtEnd, Keeps}
use Rattle.bl_wire.specs.Faults.{is_read}
use Rattle.bl_wire.specs.Reads.{HasMore}
use Rattle.bl_wire.specs.declared.ear.Handed.{Handed}
use Rattle.bl_wire.specs.declared.fault.SessionFault.{SessionFault}

-- of the bytes that were shown so many were heard, or none were shown
abbrev pub HearsAt : {E : Type 0} → (E → List ℕ → Result ℕ SessionFault → E → Type 0) → (ended : Bool) → (count : ℕ)
    → (shown : List ℕ) → (old new : E) → Type 0
HearsAt Hears true count shown old new = (new ≡ old) × (count ≡ 0) × (length shown ≡ 0)
HearsAt Hears false count shown old new = Hears old shown (Ok count) new × (count ≤ length shown) × (0 < length shown)

abbrev pub HearsShown : {E : Type 0} → (E → List ℕ → Result ℕ SessionFault → E → Type 0) → Handed → (shown : List ℕ)
    → (old new : E) → Type 0
HearsShown Hears handed shown old new = HearsAt Hears handed.ended handed.bytes shown old new

-- The reader showed bytes, and what was heard is what it gave; more are at hand exactly where it showed more. At the
-- end of the input it gave nothing and has nothing left.
pub record HandsOver {E : Type 0} (Shows : Option (List ℕ) → Type 0)
    (Hears : E → List ℕ → Result ℕ SessionFault → E → Type 0) (handed : Handed) (before after : Option (List ℕ))
    (old new : E) : Type 0 where
  pub shown : List ℕ
  pub asked : Shows (Some shown)
  pub at_hand : handed.at_hand ≡ nat_lt handed.bytes (length shown)
  pub took : Consumes before after (take handed.bytes shown)
  pub heard : HearsShown Hears handed shown old new
  pub end : handed.ended ≡ true → OnSome before (IsAtEnd after)

-- A fault, and nothing was taken: the reader failed, and nothing was heard; or it showed bytes, and hearing them
-- failed.
pub record HandsNone {E : Type 0} (Shows : Option (List ℕ) → Type 0)
    (Hears : E → List ℕ → Result ℕ SessionFault → E → Type 0) (fault : SessionFault) (before after : Option (List ℕ))
    (old new : E) : Type 0 where
  pub bytes : Keeps before after
  pub reader : is_read fault ≡ true → (new ≡ old) × Shows None
  pub ear : is_read fault ≡ false → (shown : List ℕ) × Shows (Some shown) × Hears old shown (Err fault) new
  pub more : is_read fault ≡ false → OnSome before (HasMore after)
