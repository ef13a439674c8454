-- The rules that are explained over a setting.
use Rattle.std.specs.Prelude.{length}
use Rattle.bl_policy.specs.RuleEffect.{HasIdsBelow}
use Rattle.bl_policy.specs.declared.rule.Rule.{Rule}
use Rattle.bl_explain_text.specs.RuleReasons.{HoldsAsked}
use Rattle.bl_explaining.specs.Explained.{IsSetting}
use Rattle.bl_explaining.specs.declared.setting.Setting.{Setting}

-- what a rule names is in the setup, and the level that it asks for has a name there
pub record IsRuleOfSetting (t : Setting) (rule : Rule) : Type 0 where
  pub setting : IsSetting t
  pub there : HasIdsBelow (length t.moment.setup.now.names.subjects) (length t.moment.setup.now.names.documents) rule
  pub asked : HoldsAsked t.moment.setup.now.names.scheme rule
