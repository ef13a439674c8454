use Rattle.std.proofs.Common.{◌∙◌, inl, inr, subst, sym, Bool}
use Rattle.bl_options.specs.Said.{HasKeeping, HasSyncing}
use Rattle.bl_options.specs.declared.trail.TrailKeeping.TheVariants.{Written, Synced}
use Rattle.bl_options.proofs.Given.{at_none, syncing_at_end, syncing_none}
use Rattle.bl_options.proofs.trail.syncing_of.Goals as goal

pub returns-then-not-is_said-clause-written : goal.returns-then-not-is_said-clause-written
returns-then-not-is_said-clause-written c = inl (sym c.if-not-is_said.true ∙ c.is_said.ensures)

pub returns-in_err-keeping_of-clause-none : goal.returns-in_err-keeping_of-clause-none
returns-in_err-keeping_of-clause-none c =
    at_none _ ((synced : Bool) → HasSyncing c.args.options.now synced → ⊥)
    (syncing_none c.args.options.now (sym c.if-not-is_said.false ∙ c.is_said.ensures) (c.in_err-keeping_of.ensures.none Written)
    (c.in_err-keeping_of.ensures.none Synced))

pub returns-in-AtEnd-clause-none : goal.returns-in-AtEnd-clause-none
returns-in-AtEnd-clause-none c =
    syncing_at_end c.args.options.now (sym c.if-not-is_said.false ∙ c.is_said.ensures)
    (subst (HasKeeping c.args.options.now) c.in-AtEnd.is c.in_ok-keeping_of.ensures.written)

pub returns-in-Written-clause-written : goal.returns-in-Written-clause-written
returns-in-Written-clause-written c =
    (sym c.if-not-is_said.false ∙ c.is_said.ensures, subst (HasKeeping c.args.options.now) c.in-Written.is c.in_ok-keeping_of.ensures.written)

pub returns-in-Synced-clause-written : goal.returns-in-Synced-clause-written
returns-in-Synced-clause-written c =
    inr (sym c.if-not-is_said.false ∙ c.is_said.ensures, subst (HasKeeping c.args.options.now) c.in-Synced.is c.in_ok-keeping_of.ensures.written)
