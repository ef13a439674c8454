use Rattle.std.proofs.Common.{rules, ◌≡◌, ◌-◌, take, drop, length, take_all, arith, length-drop}
use Rattle.bl_wire.proofs.PutLaws.{puts-rest}
use Rattle.bl_wire.proofs.put.put.Goals as goal

pub returns-else-taken-bytes-clause-puts : goal.returns-else-taken-bytes-clause-puts
returns-else-taken-bytes-clause-puts g c =
    let bytes = c.args.bytes.now in
    let n = c.write-taken.result in
    let all : take (length bytes - n) (drop n bytes) ≡ drop n bytes = take_all (length bytes - n) (drop n bytes) (omega (arith, length-drop n bytes)) in
    puts-rest n bytes (take (length bytes - n) (drop n bytes)) _ _ _ all (search rules) c.write-taken.ensures.bytes c.put_rest.ensures.puts

pub returns-else-taken-bytes-clause-some : goal.returns-else-taken-bytes-clause-some
returns-else-taken-bytes-clause-some g c =
    let puts = returns-else-taken-bytes-clause-puts g c in
    (puts.much, puts.bytes)
