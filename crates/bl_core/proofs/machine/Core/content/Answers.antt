use Rattle.std.proofs.Common.{◌≡◌, ◌<◌, ℕ, length, subst, sym}
use Rattle.bl_order.specs.Machine.{State}
use Rattle.bl_order.specs.Now.{IsFirstToAlter, content_at}
use Rattle.bl_core.specs.Keeps.{IsAway}
use Rattle.bl_core.proofs.Reading.{away-at, content-first}
use Rattle.bl_core.proofs.machine.Core.content.Goals as goal

pub returns-then-shelf-clause-none : goal.returns-then-shelf-clause-none
returns-then-shelf-clause-none c =
    subst (λ (x : State). IsAway x c.args.doc) c.self.view_is
    (away-at c.self.inside c.self.invariant c.position.result c.args.doc c.index-shelf.result.now c.position.ensures
    (subst (λ (x : State). c.args.doc < length x.setup.contents) (sym c.self.view_is) c.requires) c.index-shelf.ensures c.if-shelf.true)

pub returns-else-shelf-clause-first : goal.returns-else-shelf-clause-first
returns-else-shelf-clause-first c =
    subst (λ (x : State). (n : ℕ) → IsFirstToAlter x c.args.doc n → c.index-shelf.result.now.content ≡ content_at x c.args.doc n) c.self.view_is
    (λ n first. content-first c.self.inside c.self.invariant c.position.result c.args.doc n c.index-shelf.result.now c.position.ensures
    (subst (λ (x : State). c.args.doc < length x.setup.contents) (sym c.self.view_is) c.requires) c.index-shelf.ensures first)
