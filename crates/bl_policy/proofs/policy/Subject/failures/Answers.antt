use Rattle.std.proofs.Common.{◌∙◌, ap, sym, true, false, refl}
use Rattle.std.specs.Prelude.{◌||◌}
use Rattle.bl_level.specs.Level.{dominates}
use Rattle.bl_policy.specs.Cells.{clearance_from}
use Rattle.bl_policy.proofs.FailuresRows.{are_failures}
use Rattle.bl_policy.proofs.policy.Subject.failures.Goals as goal

pub returns-then-observes : goal.returns-then-observes
returns-then-observes c =
    let subject = clearance_from c.args.self.now in
    let level = c.args.level.now in
    are_failures subject level true true true _ refl (sym c.dominates-observes.ensures.test ∙ c.if-observes.true) (ap (λ b. b || dominates subject.current level) c.if-self.true) (ap (λ b. b || dominates level subject.current) c.if-self.true)

pub returns-else-observes : goal.returns-else-observes
returns-else-observes c =
    let subject = clearance_from c.args.self.now in
    let level = c.args.level.now in
    are_failures subject level false true true _ refl (sym c.dominates-observes.ensures.test ∙ c.if-observes.false) (ap (λ b. b || dominates subject.current level) c.if-self.true) (ap (λ b. b || dominates level subject.current) c.if-self.true)

pub returns-then-alters : goal.returns-then-alters
returns-then-alters c =
    let subject = clearance_from c.args.self.now in
    let level = c.args.level.now in
    are_failures subject level false (dominates subject.current level) true _ refl (sym c.dominates-observes.ensures.test ∙ c.if-not-observes.true) (ap (λ b. b || dominates subject.current level) c.if-self.false) (ap (λ b. b || dominates level subject.current) c.if-self.false ∙ sym c.dominates-alters.ensures.test ∙ c.if-alters.true)

pub returns-else-alters : goal.returns-else-alters
returns-else-alters c =
    let subject = clearance_from c.args.self.now in
    let level = c.args.level.now in
    are_failures subject level false (dominates subject.current level) false _ refl (sym c.dominates-observes.ensures.test ∙ c.if-not-observes.true) (ap (λ b. b || dominates subject.current level) c.if-self.false) (ap (λ b. b || dominates level subject.current) c.if-self.false ∙ sym c.dominates-alters.ensures.test ∙ c.if-alters.false)

pub returns-then-alters-2 : goal.returns-then-alters-2
returns-then-alters-2 c =
    let subject = clearance_from c.args.self.now in
    let level = c.args.level.now in
    are_failures subject level true true true _ refl (sym c.dominates-observes.ensures.test ∙ c.if-not-observes.false) (ap (λ b. b || dominates subject.current level) c.if-self.false ∙ sym c.dominates.ensures.test ∙ c.if-dominates.true) (ap (λ b. b || dominates level subject.current) c.if-self.false ∙ sym c.dominates-alters.ensures.test ∙ c.if-alters-2.true)

pub returns-else-alters-2 : goal.returns-else-alters-2
returns-else-alters-2 c =
    let subject = clearance_from c.args.self.now in
    let level = c.args.level.now in
    are_failures subject level true true false _ refl (sym c.dominates-observes.ensures.test ∙ c.if-not-observes.false) (ap (λ b. b || dominates subject.current level) c.if-self.false ∙ sym c.dominates.ensures.test ∙ c.if-dominates.true) (ap (λ b. b || dominates level subject.current) c.if-self.false ∙ sym c.dominates-alters.ensures.test ∙ c.if-alters-2.false)

pub returns-then-alters-3 : goal.returns-then-alters-3
returns-then-alters-3 c =
    let subject = clearance_from c.args.self.now in
    let level = c.args.level.now in
    are_failures subject level true false true _ refl (sym c.dominates-observes.ensures.test ∙ c.if-not-observes.false) (ap (λ b. b || dominates subject.current level) c.if-self.false ∙ sym c.dominates.ensures.test ∙ c.if-dominates.false) (ap (λ b. b || dominates level subject.current) c.if-self.false ∙ sym c.dominates-alters.ensures.test ∙ c.if-alters-3.true)

pub returns-else-alters-3 : goal.returns-else-alters-3
returns-else-alters-3 c =
    let subject = clearance_from c.args.self.now in
    let level = c.args.level.now in
    are_failures subject level true false false _ refl (sym c.dominates-observes.ensures.test ∙ c.if-not-observes.false) (ap (λ b. b || dominates subject.current level) c.if-self.false ∙ sym c.dominates.ensures.test ∙ c.if-dominates.false) (ap (λ b. b || dominates level subject.current) c.if-self.false ∙ sym c.dominates-alters.ensures.test ∙ c.if-alters-3.false)
