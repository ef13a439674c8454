-- What stands at the end of an order: that all of it has ended, and the setup that it leaves. The policy and the contents are the
-- model's, PolicyAt and ContentAt behind the last place; own choice: who and what there is, and the version, stay as they were, so that
-- another run may begin with what stands.
use Rattle.std.specs.Prelude.{ℕ, zero, suc, ◌<◌, Bool, IsTrue, List, [], ◌∷◌, length}
use Rattle.bl_setup.specs.Setup.{Setup}
use Rattle.bl_order.specs.Machine.{State, has_ended}
use Rattle.bl_order.specs.Now.{policy_now, content_now}
use Rattle.bl_order.specs.Order.{Entry}
use Rattle.bl_order.specs.Past.{policy_before, content_before}

-- nothing is left that has not ended
abbrev pub HaveAllEnded : State → Type 0
HaveAllEnded x = (n : ℕ) → n < length x.order → IsTrue (has_ended x n)

-- so many values of a function, from a number on
abbrev pub tabled : {A : Type 0} → ℕ → ℕ → (ℕ → A) → List A
tabled k zero f = []
tabled k (suc n) f = f k ∷ tabled (suc k) n f

-- the setup of a state: its names, and the policy and the contents now
abbrev pub setup_now : State → Setup
setup_now x = record {
  names = x.setup.names;
  policy = policy_now x;
  contents = tabled 0 (length x.setup.contents) (content_now x);
  version = x.setup.version;
}

-- the setup that an order makes of another one
abbrev pub setup_after : Setup → (ℕ → Bool) → List Entry → Setup
setup_after setup lost order = record {
  names = setup.names;
  policy = policy_before setup lost order (length order);
  contents = tabled 0 (length setup.contents) (λ doc. content_before setup lost order doc (length order));
  version = setup.version;
}
