-- That the items leave nothing out.
use Rattle.std.specs.Prelude.{◌≤◌, ℕ, Bool, true, false, ◌==◌, List, [], ◌∷◌}
use Rattle.std.specs.List.{list_any}
use Rattle.bl_order.specs.Past.{deletes}
use Rattle.bl_report.specs.declared.item.Happening.{Happening}
use Rattle.bl_report.specs.declared.item.Happening.TheVariants.{Opened, Admitted, Held, Denied, Changed, Altered, Done, Lost}
use Rattle.bl_report.specs.declared.item.ReportItem.{ReportItem}

-- a rule is told to be done
abbrev pub is_change : Happening → Bool
is_change (Opened session) = false
is_change (Admitted place origin weight) = false
is_change (Held place judged until) = false
is_change (Denied place clause blame) = false
is_change (Changed place rule before) = true
is_change (Altered place access before after) = false
is_change (Done place) = false
is_change (Lost place ran) = false

-- the document is told to be altered, or deleted
abbrev pub is_touch : ℕ → Happening → Bool
is_touch doc (Opened session) = false
is_touch doc (Admitted place origin weight) = false
is_touch doc (Held place judged until) = false
is_touch doc (Denied place clause blame) = false
is_touch doc (Changed place rule before) = deletes rule doc
is_touch doc (Altered place access before after) = access.doc == doc
is_touch doc (Done place) = false
is_touch doc (Lost place ran) = false

-- one of the items tells so
abbrev pub tells : (Happening → Bool) → List ReportItem → Bool
tells test items = list_any (λ (item : ReportItem). test item.happening) items

-- the items are of events above this number, in their order, and of none above that one
abbrev pub RiseBetween : ℕ → ℕ → List ReportItem → Type 0
RiseBetween low high [] = Unit {0}
RiseBetween low high (item ∷ items) = (low ≤ item.event) × (item.event ≤ high) × RiseBetween item.event high items
