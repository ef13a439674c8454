-- What a start that is done is granted.
use Rattle.std.specs.Prelude.{◌≡◌, ℕ, map, All, Option}
use Rattle.bl_policy.specs.declared.access.Access.{Access}
use Rattle.bl_policy.specs.Properties.{IsGranted}
use Rattle.bl_order.specs.Order.{accesses_of}
use Rattle.bl_order.specs.Machine.{State, Starts, past_at}
use Rattle.bl_order.specs.Now.{policy_now}
use Rattle.bl_explain.specs.Grounds.{grounds_of}
use Rattle.bl_report.specs.Items.{items_at}
use Rattle.bl_report.specs.declared.item.Happening.TheVariants.{Held}
use Rattle.bl_report.specs.declared.item.ReportItem.{ReportItem}

module _ (until : ℕ → Option ℕ) (since : ℕ → Access → Option ℕ) (x : State) (number n : ℕ) where
  -- an access of a place, as what decides it by the policy that the start finds
  abbrev pub held_item : Access → ReportItem
  held_item access =
      record {
        event = number;
        subject = (past_at x n).subject;
        happening =
            Held n
            (record {
              access = access;
              grounds = grounds_of (policy_now x) (past_at x n).subject (past_at x n).carried access;
              right_since = since (past_at x n).subject access;
            })
            (until n);
      }

  -- Each declared access is told, and each is granted by the policy that the start finds.
  pub record TellsGranted : Type 0 where
    pub items : items_at until since x number (Starts n) ≡ map held_item (accesses_of (past_at x n).task)
    pub granted : All (λ (access : Access). IsGranted (policy_now x) (past_at x n).subject (past_at x n).carried access.doc access.mode) (accesses_of (past_at x n).task)
