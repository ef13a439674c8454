-- A quota of a state is one of what the run comes to from there.
use Rattle.std.proofs.Common.{◌≡◌, ◌∙◌, sym, ap, subst, refl, List, [], ◌∷◌, ◌++◌}
use Rattle.bl_order.specs.Machine.{State, Event, IsTrail, change, state_after}
use Rattle.bl_sizes.specs.Counts.{LeadsOn}
use Rattle.bl_quota.specs.Quotas.{WasQuota}
use Rattle.bl_quota.specs.declared.quota.Quota.{Quota}

trail_parts : (x : State) (es fs : List Event) → IsTrail x es → IsTrail (state_after x es) fs → IsTrail x (es ++ fs)
trail_parts x [] fs front back = back
trail_parts x (e ∷ es) fs front back = (front.0, trail_parts (change x e) es fs front.1 back)

state_parts : (x : State) (es fs : List Event) → state_after x (es ++ fs) ≡ state_after (state_after x es) fs
state_parts x [] fs = refl
state_parts x (e ∷ es) fs = state_parts (change x e) es fs

leads_then : (x y z : State) → LeadsOn x y → LeadsOn y z → LeadsOn x z
leads_then x y z one other = record {
  events = one.events ++ other.events;
  steps = trail_parts x one.events other.events one.steps (subst (λ s. IsTrail s other.events) one.leads other.steps);
  leads = other.leads ∙ (ap (λ s. state_after s other.events) one.leads ∙ sym (state_parts x one.events other.events));
}

pub quota_goes_on : (quota : Quota) (x y : State) → WasQuota quota x → LeadsOn x y → WasQuota quota y
quota_goes_on quota x y was on = record {
  before = was.before;
  reached = was.reached;
  was = was.was;
  on = leads_then was.before x y was.on on;
}
