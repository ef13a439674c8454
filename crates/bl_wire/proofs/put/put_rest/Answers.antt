use Rattle.std.proofs.Common.{rules, sym, ap, subst, ◌≡◌, ◌∙◌, ◌++◌, ◌-◌, ◌≤◌, take, drop, length, take-take}
use Rattle.std.proofs.Math.Seq.{take-add}
use Rattle.std.specs.Io.KnownBytes.{Appends}
use Rattle.std.proofs.KnownBytes.{Appends-trans}
use Rattle.bl_wire.proofs.PutLaws.{clash}
use Rattle.bl_wire.proofs.put.put_rest.Goals as goal

pub loop-at-preserved : goal.loop-at-preserved
loop-at-preserved g c =
    let bytes = c.args.bytes.now in
    let at = c.loop-at.at in
    let n = c.write-at.result in
    let within : n ≤ length bytes - at = search rules in
    let part : take n (take (length bytes - at) (drop at bytes)) ≡ take n (drop at bytes) = take-take n (length bytes - at) (drop at bytes) within in
    let both = Appends-trans _ _ _ _ _ c.loop-at.invariant.1 c.write-at.ensures.bytes in
    (search rules, subst (Appends _ _) (ap (λ l. take at bytes ++ l) part ∙ sym (take-add at n bytes)) both, λ was. absurd (clash _ (c.loop-at.invariant.2 was).1 (search rules)))
