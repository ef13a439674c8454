-- A journal through many crashes.
use Rattle.std.specs.Prelude.{ℕ, List, [], ◌∷◌}
use Rattle.bl_disk.specs.File.{Begins}
use Rattle.bl_setup.specs.Setup.{Setup}
use Rattle.bl_journal.specs.Journals.{GoesOnFrom, IsHistory, IsRecovered, Journal, journal_text}

-- One life of a journal, from where it was recovered to a crash: what was kept when the crash came, the file that the
-- crash left, and the journal that was recovered of that.
pub record Life : Type 0 where
  pub kept : Journal
  pub file : List ℕ
  pub found : Journal

-- It goes on from this journal; and the crash left what was kept at the front of the file, and anything behind it.
pub record IsLife (setup : Setup) (from : Journal) (life : Life) : Type 0 where
  pub history : IsHistory setup life.kept
  pub goes_on : GoesOnFrom from life.kept
  pub left : Begins (journal_text setup life.kept) life.file
  pub recovered : IsRecovered setup life.file life.found

-- each life goes on from what was recovered of the one before
abbrev pub AreLives : Setup → Journal → List Life → Type 0
AreLives setup from [] = Unit {0}
AreLives setup from (life ∷ lives) = IsLife setup from life × AreLives setup life.found lives

-- what is recovered after all of them
abbrev pub found_after : Journal → List Life → Journal
found_after from [] = from
found_after from (life ∷ lives) = found_after life.found lives

-- the journal goes on from all that was kept in some life
abbrev pub GoesOnFromAll : List Life → Journal → Type 0
GoesOnFromAll [] journal = Unit {0}
GoesOnFromAll (life ∷ lives) journal = GoesOnFrom life.kept journal × GoesOnFromAll lives journal
