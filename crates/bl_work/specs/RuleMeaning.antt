-- What a rule as it is spelled asks.
use Rattle.std.specs.Prelude.{◌≡◌, Some}
use Rattle.bl_level.specs.LevelText as of_level
use Rattle.bl_level.specs.Table.{place_of}
use Rattle.bl_policy.specs.declared.rule.Rule.{Rule}
use Rattle.bl_policy.specs.declared.rule.Rule.TheVariants as asked
use Rattle.bl_work.specs.Names.{KnownNames}
use Rattle.bl_work.specs.SpelledRules.{SpelledRule, give, rescind, current, classify, create, delete}

-- By these names: subjects and documents go by their places, and a level is what its text means in the scheme.
abbrev pub MeansRule : KnownNames → SpelledRule → Rule → Type 0
MeansRule names (give subject document mode) (asked.Give t o m) =
    (place_of subject names.subjects ≡ Some t) × (place_of document names.documents ≡ Some o) × (mode ≡ m)
MeansRule names (rescind subject document mode) (asked.Rescind t o m) =
    (place_of subject names.subjects ≡ Some t) × (place_of document names.documents ≡ Some o) × (mode ≡ m)
MeansRule names (current level) (asked.Current l) = of_level.Means names.scheme level l
MeansRule names (classify document level) (asked.Classify o l) =
    (place_of document names.documents ≡ Some o) × of_level.Means names.scheme level l
MeansRule names (create document) (asked.Create o) = place_of document names.documents ≡ Some o
MeansRule names (delete document) (asked.Delete o) = place_of document names.documents ≡ Some o
MeansRule names _ _ = ⊥
