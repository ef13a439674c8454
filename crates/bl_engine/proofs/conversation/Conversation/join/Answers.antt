use Rattle.std.proofs.Common.{◌≡◌, ◌+◌, ◌++◌, ◌∷◌, [], List, None, Some, refl, ap, arith, length, length-append}
use Rattle.bl_wire.specs.declared.turn.Pending.{Pending}
use Rattle.bl_wire.specs.declared.turn.Pending.TheVariants.{Again, Refused, Asked}
use Rattle.bl_wire.specs.declared.turn.Turn.TheVariants.{Greets, Bad, Ask}
use Rattle.bl_engine.specs.Requests.{Admits}
use Rattle.bl_engine.specs.Conversations.{Talk}
use Rattle.bl_engine.proofs.Turnings.{joins_skip, joins_wait, joins_line}
use Rattle.bl_engine.proofs.conversation.Conversation.join.Goals as goal

pub returns-in-Skip-clause-takes : goal.returns-in-Skip-clause-takes
returns-in-Skip-clause-takes c = joins_skip c.args.self.now c.args.self.now c.args.turn refl refl refl c.in-Skip.is c.requires.stage c.requires.stage

pub returns-in-Wait-clause-takes : goal.returns-in-Wait-clause-takes
returns-in-Wait-clause-takes c = joins_wait c.args.self.now _ c.args.turn refl refl refl c.in-Wait.is c.requires.stage refl

pub returns-in_ok-keep-in-Greets-clause-takes : goal.returns-in_ok-keep-in-Greets-clause-takes
returns-in_ok-keep-in-Greets-clause-takes c =
    joins_line c.args.self.now c.keep.new.self c.args.turn (Greets c.in-Greets.field-0) Again None c.in-Greets.is tt refl refl tt c.requires.stage c.in_ok-keep-in-Greets.ensures

pub returns-in_ok-keep-in-Bad-clause-takes : goal.returns-in_ok-keep-in-Bad-clause-takes
returns-in_ok-keep-in-Bad-clause-takes c =
    joins_line c.args.self.now c.keep-in-Bad.new.self c.args.turn (Bad c.in-Bad.fault) (Refused c.in-Bad.fault) None c.in-Bad.is tt refl refl tt c.requires.stage c.in_ok-keep-in-Bad.ensures

pub returns-in_ok-keep-in-Ask-clause-takes : goal.returns-in_ok-keep-in-Ask-clause-takes
returns-in_ok-keep-in-Ask-clause-takes c =
    let old = c.args.self.now in
    let new = c.keep-in-Ask.new.self in
    let kept = c.in_ok-keep-in-Ask.ensures in
    let after : new.after ≡ old.after = ap (λ (t : Talk). t.after) kept.talk in
    let pending : new.pending.items ≡ old.pending.items ++ Asked ∷ [] = ap (λ (t : Talk). t.pending) kept.talk in
    let number : c.ordinal-ordinal.result ≡ (old.after + length old.pending.items) + 1 =
    omega (arith, c.ordinal-ordinal.ensures, after, ap (λ (l : List Pending). length l) pending, length-append old.pending.items (Asked ∷ [])) in
    joins_line old new c.args.turn (Ask c.in-Ask.work) Asked (Some (Admits c.ordinal-ordinal.result c.in-Ask.work)) c.in-Ask.is tt refl
    (ap (λ n. Admits n c.in-Ask.work ∷ []) number) c.in-Ask.is c.requires.stage kept
