use Rattle.std.proofs.Common.{◌≡◌, List, ℕ, ◌++◌, ◌∷◌, ap, sym, ◌∙◌, subst, true≢false}
use Rattle.std.specs.Prelude.{IfSome, codes, decimal}
use Rattle.bl_write.specs.CanonicalLine.{canonical_line}
use Rattle.bl_work.specs.Names.{KnownNames}
use Rattle.bl_work.specs.Readable.{IsReadable}
use Rattle.bl_work.specs.declared.asked.Line.TheVariants as asked
use Rattle.bl_work.specs.declared.work.Work.{Work}
use Rattle.bl_setup.specs.Setup.{Setup}
use Rattle.bl_trail.specs.Versions.{HasWork}
use Rattle.bl_trail.specs.WorkText.{IsWorkText}
use Rattle.bl_replay.specs.Keeps.{KeepsAt}
use Rattle.bl_replay.proofs.replayer.Replayer.line.Goals as goal

pub add_line-requires : goal.add_line-requires
add_line-requires c =
    let keeps : KeepsAt c.requires.0 c.args.self.now = c.requires.2.keeps in
    let is : IsWorkText c.names.result.now c.args.text.now c.in-Some.work = subst (λ o. IfSome o (IsWorkText c.names.result.now c.args.text.now)) c.in-Some.is c.in_ok-work.ensures.some in
    let readable : IsReadable c.requires.0.setup.names c.in-Some.work =
    subst (λ (k : KnownNames). IsReadable k c.in-Some.work) (c.names.ensures.value ∙ ap (λ (s : Setup). s.names) keeps.setup) is.readable in
    (c.requires.0, keeps, (c.may_admit.ensures c.requires.0 keeps readable).0 c.if-not-may_admit.false)

pub returns-then-not-has_work-clause-wrong : goal.returns-then-not-has_work-clause-wrong
returns-then-not-has_work-clause-wrong c is x keeps work text needs has line =
    let names : c.names.result.now ≡ x.setup.names = c.names.ensures.value ∙ ap (λ (s : Setup). s.names) keeps.setup in
    let said : IsWorkText c.names.result.now c.args.text.now work =
    record {
      readable = subst (λ (k : KnownNames). IsReadable k work) (sym names) needs.1;
      canonical = text ∙ ap (λ (k : KnownNames). canonical_line k (asked.Work work)) (sym names);
    } in
    let same : work ≡ c.in-Some.work =
    subst (λ o. IfSome o (λ (found : Work). (other : Work) → IsWorkText c.names.result.now c.args.text.now other → other ≡ found)) c.in-Some.is c.in_ok-work.ensures.one work said in
    let kept : HasWork c.args.self.now.version c.in-Some.work =
    subst (λ (s : Setup). HasWork s.version c.in-Some.work) (sym keeps.setup) (subst (HasWork x.setup.version) same has) in
    true≢false (sym (c.has_work.ensures.1 kept) ∙ c.if-not-has_work.true)

pub returns-clause-right : goal.returns-clause-right
returns-clause-right c is x keeps =
    let names : c.names.result.now ≡ x.setup.names = c.names.ensures.value ∙ ap (λ (s : Setup). s.names) keeps.setup in
    let said : IsWorkText c.names.result.now c.args.text.now c.in-Some.work =
    subst (λ o. IfSome o (IsWorkText c.names.result.now c.args.text.now)) c.in-Some.is c.in_ok-work.ensures.some in
    let may = (c.may_admit.ensures x keeps (subst (λ (k : KnownNames). IsReadable k c.in-Some.work) names said.readable)).0 c.if-not-may_admit.false in (
      c.in-Some.work,
      record {
        needs = may;
        has = subst (λ (s : Setup). HasWork s.version c.in-Some.work) keeps.setup (c.has_work.ensures.0 c.if-not-has_work.false);
        text = c.is_line.ensures.0 c.if-not-is_line.false
            ∙ ap (λ (t : List ℕ). codes "line " ++ (decimal c.args.session ++ (32 ∷ (decimal c.args.ordinal ++ (32 ∷ t)))))
            (said.canonical ∙ ap (λ (k : KnownNames). canonical_line k (asked.Work c.in-Some.work)) names);
        keeps = c.in_ok-add_line.ensures.keeps x keeps may;
      },
    )
