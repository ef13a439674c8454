use Rattle.std.proofs.Common.{rules, ◌≡◌, ◌++◌, ◌∙◌, ap, sym, refl, subst, codes, decimal}
use Rattle.bl_wire.specs.Watch.{Puts, end_state}
use Rattle.bl_wire.proofs.PutLaws.{puts-nil, puts-three}
use Rattle.bl_replaying.specs.Open.{torn_text}
use Rattle.bl_replaying.proofs.Opening.{torn-some}
use Rattle.bl_replaying.proofs.open.tell_torn.Goals as goal

pub returns-then-torn-eq0 : goal.returns-then-torn-eq0
returns-then-torn-eq0 g c =
    let here = end_state g.E.Write.contents c.args.errors.now in
    record { puts = subst (λ n. Puts (torn_text n) here here) (sym c.if-torn-eq0.true) (puts-nil here here refl) }

pub returns : goal.returns
returns g c =
    let number = c.as_bytes.result.now in
    let is : number ≡ decimal c.args.torn = search rules in
    let line : torn_text c.args.torn ≡ codes "left out " ++ (number ++ codes " bytes\n") = torn-some c.args.torn c.if-torn-eq0.false ∙ ap (λ t. codes "left out " ++ (t ++ codes " bytes\n")) (sym is) in
    record {
      puts = puts-three (torn_text c.args.torn) (codes "left out ") number (codes " bytes\n") _ _ _ _ line c.put.ensures.puts c.put-2.ensures.puts c.put_out.ensures.puts;
    }
