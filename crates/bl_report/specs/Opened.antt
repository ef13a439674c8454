-- What is held at a moment, as the items tell it.
use Rattle.std.specs.Prelude.{ℕ, zero, suc, Bool, true, ◌&&◌, ◌==◌, if◌then◌else◌, nat_le, nat_lt, List, [], ◌∷◌, ◌++◌, map, Option, Some, None}
use Rattle.bl_policy.specs.declared.access.Access.{Access}
use Rattle.bl_order.specs.Machine.{Hold, State, past_at, runs}
use Rattle.bl_order.specs.Order.{accesses_of}
use Rattle.bl_report.specs.declared.item.Happening.{Happening}
use Rattle.bl_report.specs.declared.item.Happening.TheVariants.{Opened, Admitted, Held, Denied, Changed, Altered, Done, Lost}
use Rattle.bl_report.specs.declared.item.ReportItem.{ReportItem}

-- what is held until some event is still held after p events
abbrev pub is_before : ℕ → Option ℕ → Bool
is_before p None = true
is_before p (Some until) = nat_lt p until

-- what is held from one event on, and until another, is held after p events
abbrev pub is_within : ℕ → ℕ → Option ℕ → Bool
is_within p from until = nat_le from p && is_before p until

-- what a happening of a subject tells to be held by place n after p events
abbrev pub opened_by : ℕ → ℕ → ℕ → ℕ → Happening → List Hold
opened_by p n from subject (Opened session) = []
opened_by p n from subject (Admitted place origin weight) = []
opened_by p n from subject (Held place judged until) =
    if (n == place) && is_within p from until
    then record { subject = subject; doc = judged.access.doc; mode = judged.access.mode } ∷ []
    else []
opened_by p n from subject (Denied place clause blame) = []
opened_by p n from subject (Changed place rule before) = []
opened_by p n from subject (Altered place access before after) = []
opened_by p n from subject (Done place) = []
opened_by p n from subject (Lost place ran) = []

-- what items tell to be held by place n after p events, in their order
abbrev pub open_of : ℕ → ℕ → List ReportItem → List Hold
open_of p n [] = []
open_of p n (item ∷ items) = opened_by p n item.event item.subject item.happening ++ open_of p n items

-- and by the places below n, place by place
abbrev pub open_below : ℕ → ℕ → List ReportItem → List Hold
open_below p zero items = []
open_below p (suc n) items = open_below p n items ++ open_of p n items

-- what a place holds
abbrev pub held_at : State → ℕ → List Hold
held_at x n =
    if runs x n
    then map (λ (a : Access). record { subject = (past_at x n).subject; doc = a.doc; mode = a.mode }) (accesses_of (past_at x n).task)
    else []
