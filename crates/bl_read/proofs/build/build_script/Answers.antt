use Rattle.std.proofs.Common.{◌≡◌, [], ◌∷◌, length, ap, sym, ◌∙◌, subst, arith}
use Rattle.std.specs.Prelude.{List, IfOk, map}
use Rattle.std.proofs.lemmas.List.{length-map}
use Rattle.std.proofs.lemmas.List.Elements.{All-head, All-tail}
use Rattle.bl_work.specs.Building.{IsBuilt}
use Rattle.bl_work.specs.FirstWhenFault.{HasFewAccesses}
use Rattle.bl_work.specs.Names.{KnownNames}
use Rattle.bl_work.specs.Script.{IsScript}
use Rattle.bl_work.specs.Statements.{Part}
use Rattle.bl_work.specs.WhenFaults.{lists_in}
use Rattle.bl_syntax.specs.RawBodies.{raw_access}
use Rattle.bl_work.proofs.Behaviours.{when_is_script}
use Rattle.bl_walk.specs.Spawned.{with_outermost}
use Rattle.bl_walk.proofs.Built.{built_script}
use Rattle.bl_read.proofs.build.build_script.Goals as goal

pub body_of-requires : goal.body_of-requires
body_of-requires c =
    let first = raw_access c.args.first in
    let more = map raw_access c.args.more.now in
    record {
      few = omega (arith, c.requires.faultless.few.whens, ap length c.in_ok-spawned.ensures.items);
      accesses = All-tail HasFewAccesses (first ∷ more) (lists_in c.args.body.now) c.requires.faultless.few.accesses;
      texts = c.requires.texts;
    }

pub new-requires : goal.new-requires
new-requires c =
    let names = c.args.names.now in
    let first = raw_access c.args.first in
    let more = map raw_access c.args.more.now in
    let built = subst (λ (n : KnownNames). IsBuilt n c.args.body.now (with_outermost c.in_ok-spawned.spawned.items) (with_outermost c.body_of.new.spawned.items) c.in_ok-body.body)
    c.over-lookup.ensures.names c.in_ok-body.ensures in
    let is = built_script names first more c.args.body.now c.in_ok-spawned.spawned.items c.body_of.new.spawned.items c.into_accesses.result c.in_ok-body.body c.new-outermost.result
    c.new-outermost.ensures (c.into_accesses.ensures ∙ c.over-lookup.ensures.accesses ∙ c.requires.checked.accesses) c.in_ok-spawned.ensures.items built in
    subst (λ (l : List Part). IsScript l) (sym is) (when_is_script names first more c.args.body.now c.requires.faultless c.requires.texts)

pub returns : goal.returns
returns c =
    let names = c.args.names.now in
    let first = raw_access c.args.first in
    let more = map raw_access c.args.more.now in
    let built = subst (λ (n : KnownNames). IsBuilt n c.args.body.now (with_outermost c.in_ok-spawned.spawned.items) (with_outermost c.body_of.new.spawned.items) c.in_ok-body.body)
    c.over-lookup.ensures.names c.in_ok-body.ensures in
    let is = built_script names first more c.args.body.now c.in_ok-spawned.spawned.items c.body_of.new.spawned.items c.into_accesses.result c.in_ok-body.body c.new-outermost.result
    c.new-outermost.ensures (c.into_accesses.ensures ∙ c.over-lookup.ensures.accesses ∙ c.requires.checked.accesses) c.in_ok-spawned.ensures.items built in
    subst (λ (l : List Part). IfOk c.new.result (λ script. script ≡ l)) is c.new.ensures
