-- A grant of the code, seen as what it is in each mode.
use Rattle.bl_grant.specs.Loaned.{Loaned}
use Rattle.bl_grant.specs.declared.grant.Grant.{Grant}
use Rattle.bl_grant.specs.declared.grant.Grant.TheVariants.{Read, Append, Write}

abbrev pub loaned_of : Grant → Loaned
loaned_of (Read g) = g
loaned_of (Append g) = g
loaned_of (Write g) = g
