use Rattle.std.proofs.Common.{arith}
use Rattle.bl_audit.proofs.Lines.{lines-of-trail}
use Rattle.bl_audit.proofs.bookmark.Bookmark.first.Goals as goal

pub returns-clause-bookmark : goal.returns-clause-bookmark
returns-clause-bookmark c hall =
    record { written = omega arith; place = omega arith; lines = lines-of-trail hall.setup hall.limit hall.trail }
