use Rattle.std.proofs.Common.{rules, ◌≡◌, ◌∙◌, ◌++◌, ap, codes, decimal}
use Rattle.bl_wire.proofs.PutLaws.{puts-append, puts-is}
use Rattle.bl_log.specs.Lines.{bound_word}
use Rattle.bl_log.proofs.Noting.{puts-counted, started}
use Rattle.bl_log.proofs.log.put_server_event.Goals as goal

pub returns-in-Started : goal.returns-in-Started
returns-in-Started g c =
    let said = c.as_bytes.result.now in
    let version : said ≡ c.in-Started.version.now = search rules in
    let limit : c.from.result ≡ c.in-Started.limit = search rules in
    let sessions : c.from-in-Started.result ≡ c.in-Started.sessions = search rules in
    let clients : c.from-in-Started-2.result ≡ c.in-Started.clients = search rules in
    let most : c.from-in-Started-3.result ≡ c.in-Started.trail_limit = search rules in
    let same =
    ap (λ v. started v c.from.result c.from-in-Started.result c.from-in-Started-2.result c.from-in-Started-3.result) version
    ∙ ap (λ n. started c.in-Started.version.now n c.from-in-Started.result c.from-in-Started-2.result c.from-in-Started-3.result) limit
    ∙ ap (λ n. started c.in-Started.version.now c.in-Started.limit n c.from-in-Started-2.result c.from-in-Started-3.result) sessions
    ∙ ap (λ n. started c.in-Started.version.now c.in-Started.limit c.in-Started.sessions n c.from-in-Started-3.result) clients
    ∙ ap (started c.in-Started.version.now c.in-Started.limit c.in-Started.sessions c.in-Started.clients) most in
    let front = puts-append (codes "started ") said _ _ _ c.put.ensures.puts c.put-in-Started.ensures.puts in
    let one = puts-counted (codes "started " ++ said) (codes " limit ") (decimal c.from.result) _ _ _ front c.put_counted.ensures in
    let two = puts-counted _ (codes " sessions ") (decimal c.from-in-Started.result) _ _ _ one c.put_counted-in-Started.ensures in
    let three = puts-counted _ (codes " clients ") (decimal c.from-in-Started-2.result) _ _ _ two c.put_counted-in-Started-2.ensures in
    rw c.in-Started.is (puts-is _ _ _ _ same (puts-counted _ (codes " trail-limit ") (decimal c.from-in-Started-3.result) _ _ _ three c.put_counted-in-Started-3.ensures))

pub returns-in-Resumed : goal.returns-in-Resumed
returns-in-Resumed g c =
    rw c.in-Resumed.is (puts-counted (codes "resumed events " ++ decimal c.in-Resumed.events) (codes " cut ") (decimal c.in-Resumed.cut) _ _ _
    c.put_counted-in-Resumed.ensures c.put_counted-in-Resumed-2.ensures)

pub returns-in-Full : goal.returns-in-Full
returns-in-Full g c =
    let word : c.word.result.now ≡ bound_word c.in-Full.bound = search rules in
    rw c.in-Full.is (puts-is (codes "full " ++ c.word.result.now) _ _ _ (ap (λ l. codes "full " ++ l) word)
    (puts-append (codes "full ") c.word.result.now _ _ _ c.put-in-Full.ensures.puts c.put-in-Full-2.ensures.puts))

pub returns-in-Ended : goal.returns-in-Ended
returns-in-Ended g c =
    let said = c.as_bytes-in-Ended.result.now in
    let why : said ≡ c.in-Ended.why.now = search rules in
    rw c.in-Ended.is (puts-is (codes "ended " ++ said) _ _ _ (ap (λ l. codes "ended " ++ l) why)
    (puts-append (codes "ended ") said _ _ _ c.put-in-Ended.ensures.puts c.put-in-Ended-2.ensures.puts))
