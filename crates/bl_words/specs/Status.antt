-- The status of a run whose words name no command.
use Rattle.std.specs.Prelude.{ℕ}
use Rattle.clap.specs.declared.error.kind.ErrorKind.{ErrorKind}
use Rattle.clap.specs.declared.error.kind.ErrorKind.TheVariants.{OutOfMemory, DisplayHelp, DisplayVersion}

-- 4 when out of memory, 0 for a call for help or for the version, and 2 for anything else
abbrev pub status_for : ErrorKind → ℕ
status_for OutOfMemory = 4
status_for DisplayHelp = 0
status_for DisplayVersion = 0
status_for _ = 2
