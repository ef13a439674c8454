-- The order, as the items tell it.
use Rattle.std.specs.Prelude.{ℕ, suc, List, [], ◌∷◌, ◌++◌}
use Rattle.bl_order.specs.Order.{Entry}
use Rattle.bl_core.specs.Origins.{origin_of}
use Rattle.bl_core.specs.declared.origin.Origin.{Origin}
use Rattle.bl_report.specs.declared.item.Happening.{Happening}
use Rattle.bl_report.specs.declared.item.Happening.TheVariants.{Opened, Admitted, Held, Denied, Changed, Altered, Done, Lost}
use Rattle.bl_report.specs.declared.item.ReportItem.{ReportItem}

-- the place that a happening tells to be entered, and where its entry comes from
abbrev pub admission_of : Happening → List (ℕ × Origin)
admission_of (Opened session) = []
admission_of (Admitted place origin weight) = (place, origin) ∷ []
admission_of (Held place judged until) = []
admission_of (Denied place clause blame) = []
admission_of (Changed place rule before) = []
admission_of (Altered place access before after) = []
admission_of (Done place) = []
admission_of (Lost place ran) = []

-- those of items, in their order
abbrev pub admissions : List ReportItem → List (ℕ × Origin)
admissions [] = []
admissions (item ∷ items) = admission_of item.happening ++ admissions items

-- entries, each at the next place from this one on
abbrev pub entries_from : ℕ → List Entry → List (ℕ × Origin)
entries_from place [] = []
entries_from place (entry ∷ entries) = (place, origin_of entry) ∷ entries_from (suc place) entries
