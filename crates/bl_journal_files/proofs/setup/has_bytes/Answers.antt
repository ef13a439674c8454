use Rattle.std.proofs.Common.{rules, ◌≡◌, ◌↔◌, ◌+◌, IsTrue, arith, length}
use Rattle.bl_journal_files.proofs.Reading.{has_just}
use Rattle.bl_journal_files.proofs.setup.has_bytes.Goals as goal

pub returns : goal.returns
returns g c =
    let found = c.in_ok-found.found.items in
    let bytes = c.args.bytes.now in
    let same : IsTrue c.eq.result ↔ (found ≡ bytes) = search rules in
    has_just (g.F.Read.remaining c.args.file) found bytes (length bytes + 1) c.eq.result (omega arith) c.in_ok-found.ensures same
