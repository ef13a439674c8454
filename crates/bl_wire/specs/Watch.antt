-- What is known of a reader or a writer.
use Rattle.std.specs.Prelude.{◌≡◌, ◌≤◌, ℕ, Bool, true, false, List, length, take, Option, Result, refl}
use Rattle.std.specs.Coded.{Coded, code_by, coded×, coded_bool}
use Rattle.std.specs.Option.{option_map}
use Rattle.std.specs.Result.{result_ok}
use Rattle.std.specs.Borrow.{Bor}
use Rattle.std.specs.Io.KnownBytes.{Appends}

-- a reader or a writer, whether a call of it failed, whether something was written to it that was not handed on, and
-- whether it showed more bytes than were taken
pub record Watch (T : Type 0) : Type 0 where
  pub inner : T
  pub failed : Bool
  pub unflushed : Bool
  pub at_hand : Bool

abbrev pub watch_code : {T : Type 0} → Coded T → Coded (Watch T)
watch_code {T} code =
    code_by (T × (Bool × (Bool × Bool))) (coded× code (coded× coded_bool (coded× coded_bool coded_bool)))
    (λ w. (w.inner, (w.failed, (w.unflushed, w.at_hand))))
    (λ p. record { inner = p.0; failed = p.1.0; unflushed = p.1.1.0; at_hand = p.1.1.1 }) (λ _. refl)

-- what was done to an end: what is known of its bytes before and after, and whether a call of it failed
pub record Use : Type 0 where
  pub before : Option (List ℕ)
  pub after : Option (List ℕ)
  pub failed : Bool

-- what was done from one moment to another
abbrev pub used : {T : Type 0} → (T → Option (List ℕ)) → Watch T → Watch T → Use
used known old new = record { before = known old.inner; after = known new.inner; failed = new.failed }

-- an end at one moment: what is known of its bytes, and whether a call of it failed
pub record EndState : Type 0 where
  pub bytes : Option (List ℕ)
  pub failed : Bool

abbrev pub end_state : {T : Type 0} → (T → Option (List ℕ)) → Watch T → EndState
end_state known end = record { bytes = known end.inner; failed = end.failed }

-- Own choice: a text was put, all of it unless the writer failed; then a first part of it, and none where it had failed
-- before.
pub record Puts (text : List ℕ) (old new : EndState) : Type 0 where
  pub much : ℕ
  pub bytes : Appends old.bytes new.bytes (take much text)
  pub all : new.failed ≡ false → length text ≤ much
  pub none : old.failed ≡ true → (much ≡ 0) × (new.failed ≡ true)

-- the bytes that were shown, or nothing where the reader failed
abbrev pub shown_by : {E : Type 0} → Result (Bor (List ℕ)) E → Option (List ℕ)
shown_by result = option_map (λ (shown : Bor (List ℕ)). shown.now) (result_ok result)
