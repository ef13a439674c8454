use Rattle.std.proofs.Common.{rules, ◌≡◌, ◌++◌, ◌∷◌, [], ◌∙◌, ap, sym, refl, append_assoc, codes, decimal}
use Rattle.std.specs.Prelude.{not}
use Rattle.bl_wire.specs.Watch.{Puts}
use Rattle.bl_wire.proofs.PutLaws.{puts-three}
use Rattle.bl_replaying.specs.Replays.{verdict_line, verdict_text}
use Rattle.bl_replaying.proofs.replay.tell_verdict.Goals as goal

-- a first part of the line was written
pub returns-else-put_out-clause-failed : goal.returns-else-put_out-clause-failed
returns-else-put_out-clause-failed g c =
    let word = c.as_bytes.result.now in
    let number = c.as_bytes-2.result.now in
    let first : word ≡ c.told_as-number.result.0.now = search rules in
    let second : number ≡ decimal c.told_as-number.result.1 = search rules in
    let text : verdict_text c.args.verdict ≡ word ++ number =
    sym c.told_as-number.ensures.text ∙ ap (λ t. t ++ decimal c.told_as-number.result.1) (sym first) ∙ ap (λ t. word ++ t) (sym second) in
    let line : verdict_line c.args.verdict ≡ word ++ (number ++ codes "\n") = ap (λ t. t ++ 10 ∷ []) text ∙ append_assoc word number (codes "\n") in
    let put : Puts (verdict_line c.args.verdict) _ _ = puts-three (verdict_line c.args.verdict) word number (codes "\n") _ _ _ _ line c.put.ensures.puts c.put-2.ensures.puts c.put_out.ensures.puts in
    (refl, c.put_out.ensures.failed ∙ ap not c.if-put_out.false, (put.much, put.bytes))
