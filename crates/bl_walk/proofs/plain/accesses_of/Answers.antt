use Rattle.std.proofs.Common.{◌≢◌, ◌<◌, List, [], length, arith, sym, subst}
use Rattle.std.specs.Prelude.{All}
use Rattle.bl_name.specs.declared.token.Sign.TheVariants.{Comma}
use Rattle.bl_level.specs.Token.{sign}
use Rattle.bl_policy.specs.declared.access.Access.{Access}
use Rattle.bl_work.specs.Script.{most_accesses}
use Rattle.bl_work.specs.Spelled.{spell_access}
use Rattle.bl_walk.specs.Placed.{spelled_access, TakesAccesses}
use Rattle.bl_walk.proofs.Placings.{accesses_more}
use Rattle.bl_walk.proofs.Takings.{takes_less, takes_within}
use Rattle.bl_walk.proofs.plain.accesses_of.Goals as goal

pub loop-unread-smaller : goal.loop-unread-smaller
loop-unread-smaller c =
    let behind = c.takes_comma.new.self.bytes.now in
    let rest = c.access-in-loop-unread.new.self.bytes.now in
    omega (
      arith,
      takes_less (sign Comma) [] c.loop-unread.unread.bytes.now behind c.loop-unread-test.ensures,
      takes_within (spell_access (spelled_access c.args.names.now c.in_ok-access-2.access) []) behind rest c.in_ok-access-2.ensures.takes,
    )

pub loop-unread-preserved : goal.loop-unread-preserved
loop-unread-preserved c =
    let names = c.args.names.now in
    let rest = c.access-in-loop-unread.new.self.bytes.now in
    subst (λ l. TakesAccesses names c.args.unread.now.bytes.now rest l) (sym c.push.ensures)
    (accesses_more names c.args.unread.now.bytes.now c.loop-unread.unread.bytes.now c.takes_comma.new.self.bytes.now rest c.loop-unread.accesses c.in_ok-access-2.access
    c.loop-unread.invariant c.loop-unread-test.ensures c.in_ok-access-2.ensures
    (subst (λ (l : List Access). length l < most_accesses) c.as_slice-others.ensures c.if-others-ge-MOST_ACCESSES.false)
    (subst (λ (l : List Access). All (λ (b : Access). b.doc ≢ c.in_ok-access-2.access.doc) l) c.as_slice-others.ensures (c.are_others.ensures c.if-not-are_others.false)))
