use Rattle.bl_options.specs.Ranges.{IsChainHostingInRange}
use Rattle.bl_options.specs.Said.{HasChainHosting}
use Rattle.bl_options.specs.declared.hosting.ChainHosting.{ChainHosting}
use Rattle.bl_options.proofs.Given.{at_none}
use Rattle.bl_options.proofs.hosting.chain_hosting_of.Goals as goal

pub returns-in_err-limit-clause-none : goal.returns-in_err-limit-clause-none
returns-in_err-limit-clause-none c =
    at_none _ ((hosting : ChainHosting) → HasChainHosting c.args.options.now hosting → IsChainHostingInRange hosting → ⊥) (λ hosting has range. c.in_err-limit.ensures.none hosting.limit has.limit range.limit.0 range.limit.1)

pub returns-in_err-entrance-clause-none : goal.returns-in_err-entrance-clause-none
returns-in_err-entrance-clause-none c =
    at_none _ ((hosting : ChainHosting) → HasChainHosting c.args.options.now hosting → IsChainHostingInRange hosting → ⊥) (λ hosting has range. c.in_err-entrance.ensures.none hosting.entrance has.entrance range.entrance)

pub returns-in_err-trail_limit-clause-none : goal.returns-in_err-trail_limit-clause-none
returns-in_err-trail_limit-clause-none c =
    at_none _ ((hosting : ChainHosting) → HasChainHosting c.args.options.now hosting → IsChainHostingInRange hosting → ⊥) (λ hosting has range. c.in_err-trail_limit.ensures.none hosting.options.trail_limit has.trail_limit range.trail_limit)

pub returns-in_err-workers-clause-none : goal.returns-in_err-workers-clause-none
returns-in_err-workers-clause-none c =
    at_none _ ((hosting : ChainHosting) → HasChainHosting c.args.options.now hosting → IsChainHostingInRange hosting → ⊥) (λ hosting has range. c.in_err-workers.ensures.none hosting.options.workers has.workers range.workers.0 range.workers.1)

pub returns-in_err-session_threads-clause-none : goal.returns-in_err-session_threads-clause-none
returns-in_err-session_threads-clause-none c =
    at_none _ ((hosting : ChainHosting) → HasChainHosting c.args.options.now hosting → IsChainHostingInRange hosting → ⊥) (λ hosting has range. c.in_err-session_threads.ensures.none hosting.options.session_threads has.threads range.threads.0 range.threads.1)

pub returns-in_err-clients-clause-none : goal.returns-in_err-clients-clause-none
returns-in_err-clients-clause-none c =
    at_none _ ((hosting : ChainHosting) → HasChainHosting c.args.options.now hosting → IsChainHostingInRange hosting → ⊥) (λ hosting has range. c.in_err-clients.ensures.none hosting.options.clients has.clients range.clients.0 range.clients.1)

pub returns-in_err-is_synced-clause-none : goal.returns-in_err-is_synced-clause-none
returns-in_err-is_synced-clause-none c =
    at_none _ ((hosting : ChainHosting) → HasChainHosting c.args.options.now hosting → IsChainHostingInRange hosting → ⊥) (λ hosting has range. c.in_err-is_synced.ensures.none hosting.is_synced has.syncs)
