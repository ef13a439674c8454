-- What the versions of a trail have: version 2 has every setup and every work, version 1 knows of no document that
-- comes or goes.
use Rattle.std.specs.Prelude.{ℕ, ◌<◌, List, length}
use Rattle.std.specs.List.{AllByRecursion}
use Rattle.bl_policy.specs.Properties.{IsPresent}
use Rattle.bl_policy.specs.declared.rule.Rule.{Rule}
use Rattle.bl_policy.specs.declared.rule.Rule.TheVariants.{Give, Rescind, Current, Classify, Create, Delete}
use Rattle.bl_work.specs.declared.work.Work.{Work}
use Rattle.bl_work.specs.declared.work.Work.TheVariants as work
use Rattle.bl_setup.specs.Setup.{Setup}
use Rattle.bl_setup.specs.declared.version.Version.{Version}
use Rattle.bl_setup.specs.declared.version.Version.TheVariants.{One, Two}
use Rattle.bl_order.specs.Machine.{Event, Opens, Admits, Starts, Ends, Loses}

-- version 1 has runs over setups in which every document is present
abbrev pub HasSetup : Version → Setup → Type 0
HasSetup One setup = (o : ℕ) → o < length setup.policy.documents → IsPresent setup.policy o
HasSetup Two setup = Unit {0}

-- the rule neither creates nor deletes a document
abbrev pub KeepsDocuments : Rule → Type 0
KeepsDocuments (Give subject doc mode) = Unit {0}
KeepsDocuments (Rescind subject doc mode) = Unit {0}
KeepsDocuments (Current level) = Unit {0}
KeepsDocuments (Classify doc level) = Unit {0}
KeepsDocuments (Create doc) = ⊥
KeepsDocuments (Delete doc) = ⊥

-- version 1 has behaviours, and the rules that neither create nor delete
abbrev pub HasWork : Version → Work → Type 0
HasWork One (work.Behaviour script) = Unit {0}
HasWork One (work.Rule rule) = KeepsDocuments rule
HasWork Two asked = Unit {0}

-- a version has the line of each work that it has, and every other event
abbrev pub HasEvent : Version → Event → Type 0
HasEvent version (Opens subject) = Unit {0}
HasEvent version (Admits session ordinal asked) = HasWork version asked
HasEvent version (Starts n) = Unit {0}
HasEvent version (Ends n) = Unit {0}
HasEvent version (Loses n) = Unit {0}

abbrev pub HasEvents : Version → List Event → Type 0
HasEvents version = AllByRecursion (HasEvent version)
