use Rattle.std.proofs.Common.{refl, sym, subst, arith}
use Rattle.std.specs.Prelude.{Contains}
use Rattle.std.proofs.lemmas.List.{take_all}
use Rattle.bl_syntax.specs.RawRules.{raw_names}
use Rattle.bl_check.proofs.Declared.{is_same, is_other}
use Rattle.bl_read.proofs.RuleNames.{no_name, name_there, not_more}
use Rattle.bl_read.proofs.rules.has_name.Goals as goal

pub returns-then-eq : goal.returns-then-eq
returns-then-eq c = (
  λ h. subst (Contains (raw_names c.args.names.now)) (is_same _ _ c.if-eq.ensures) (name_there c.args.names.now c.loop-other.other-index no_name (omega arith)),
  λ there. refl,
)

pub loop-other-preserved : goal.loop-other-preserved
loop-other-preserved c =
    not_more c.args.names.now c.loop-other.other-index no_name c.args.name.now (omega arith) c.loop-other.invariant (is_other _ _ c.if-eq.ensures)

pub returns : goal.returns
returns c = (
  λ h. cc,
  λ there. absurd (c.loop-other.invariant (subst (λ l. Contains (raw_names l) c.args.name.now) (sym (take_all c.loop-other.other-index c.args.names.now (omega arith))) there)),
)
