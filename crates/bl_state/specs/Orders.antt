-- One order behind another, as one.
use Rattle.std.specs.Prelude.{◌≡◌, ℕ, ◌+◌, ◌-◌, ◌<◌, ◌≤◌, Bool, if◌then◌else◌, nat_lt, List, [], ◌++◌, length, map}
use Rattle.bl_setup.specs.Setup.{Setup}
use Rattle.bl_order.specs.Order.{Entry, Line, Child}
use Rattle.bl_order.specs.Past.{place, policy_before, content_before}
use Rattle.bl_order.specs.Standing.{setup_after}

-- an entry of an order that stands so many places later
abbrev pub later : ℕ → Entry → Entry
later k (Line session ordinal subject work) = Line session ordinal subject work
later k (Child parent which) = Child (k + parent) which

-- one order after another, as one
abbrev pub both : List Entry → List Entry → List Entry
both first second = first ++ map (later (length first)) second

-- the places that are lost in both
abbrev pub lost_in : ℕ → (ℕ → Bool) → (ℕ → Bool) → ℕ → Bool
lost_in len first second n = if nat_lt n len then first n else second (n - len)

-- what is no document of the setup stays empty
abbrev pub IsEmptyBeyond : Setup → (ℕ → Bool) → List Entry → Type 0
IsEmptyBeyond setup lost order =
    (doc : ℕ) → length setup.contents ≤ doc → content_before setup lost order doc (length order) ≡ []

-- The second order goes on from the setup that the first one makes just as it does behind the first one: what is said of each place, the
-- policy there and each content there are the same.
pub record GoesOnAlike (setup : Setup) (lost : ℕ → Bool) (order : List Entry) (lost2 : ℕ → Bool) (order2 : List Entry) : Type 0 where
  pub before : (n : ℕ) → n < length order
      → place setup (lost_in (length order) lost lost2) (both order order2) n ≡ place setup lost order n
  pub places : (n : ℕ) → n < length order2
      → place setup (lost_in (length order) lost lost2) (both order order2) (length order + n)
      ≡ place (setup_after setup lost order) lost2 order2 n
  pub policies : (n : ℕ) → n ≤ length order2
      → policy_before setup (lost_in (length order) lost lost2) (both order order2) (length order + n)
      ≡ policy_before (setup_after setup lost order) lost2 order2 n
  pub contents : (doc n : ℕ) → n ≤ length order2
      → content_before setup (lost_in (length order) lost lost2) (both order order2) doc (length order + n)
      ≡ content_before (setup_after setup lost order) lost2 order2 doc n
