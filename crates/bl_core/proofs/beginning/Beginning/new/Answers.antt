use Rattle.std.proofs.Common.{ℕ, ◌+◌, [], length, ap, ◌∙◌}
use Rattle.std.specs.Prelude.{map}
use Rattle.bl_policy.specs.Policy.{SecurityPolicy}
use Rattle.bl_place.specs.Shelves.{new_shelf}
use Rattle.bl_core.proofs.beginning.Beginning.new.Goals as goal

pub returns : goal.returns
returns c =
    record {
      agree = c.policy.ensures.agree;
      two = c.version-version.ensures.two;
      policy = c.in_ok-policy.ensures ∙ c.policy.ensures.value;
      sessions = c.in_ok-sessions.ensures.items;
      places = c.in_ok-places.ensures.items;
      shelves = c.in_ok-shelves.ensures ∙ ap (map new_shelf) c.contents.ensures.value;
      queues = c.in_ok-queues.ensures ∙ ap (λ (m : ℕ). record { cowns = m + 1; limit = c.args.limit; entries = [] }) (c.documents.ensures.value ∙ ap (λ (p : SecurityPolicy). length p.documents) (c.in_ok-policy.ensures ∙ c.policy.ensures.value));
      reserved = c.in_ok-places.ensures.capacity;
      rooms = c.in_ok-sessions.ensures.capacity;
    }
