use Rattle.std.proofs.Common.{◌≡◌, ◌<◌, Some, length, refl, subst, sym}
use Rattle.std.specs.Prelude.{Contains}
use Rattle.std.proofs.lemmas.Result.{IfErr-weaker, IfOk-weaker}
use Rattle.bl_level.specs.Table.{place_of}
use Rattle.bl_work.specs.Names.{KnownNames}
use Rattle.bl_question.specs.Asked.{IsCarried, IsUnasked, spaced}
use Rattle.bl_explaining.specs.Explained.{IsExplainedAt, TellsWords}
use Rattle.bl_question.specs.Wishes.{HasNoWish}
use Rattle.bl_explaining.proofs.Unasked.{carried-held, no-level-is, no-wish-is}
use Rattle.bl_explaining.specs.declared.setting.Setting.{Setting}
use Rattle.bl_explaining.proofs.explained.explain_at.Goals as goal

pub returns-in-Err-clause-fault : goal.returns-in-Err-clause-fault
returns-in-Err-clause-fault c =
    let q = c.args.question.now in
    subst (λ (n : KnownNames). IsUnasked n q c.in-Err.fault) c.names-names.ensures.value
    (no-level-is c.names-names.result.now q c.in-Some.ensures.there c.in-Err.fault c.in-Err.ensures.fault)

pub explain_wish-requires : goal.explain_wish-requires
explain_wish-requires c =
    let setup = c.args.moment.now.setup.now in
    record {
      moment = c.requires;
      known = subst (λ (n : KnownNames). c.in-Some.subject < length n.subjects) c.names-names.ensures.value c.in-Some.ensures.known;
      held = carried-held setup.names (c.read_lines_are_known.ensures setup.names) c.requires.whole.names.scheme c.args.question.now.carried
          c.in-Ok.carried
          (subst (λ (n : KnownNames). IsCarried n c.args.question.now.carried c.in-Ok.carried) c.names-names.ensures.value c.in-Ok.ensures.level);
    }

pub returns-in-Ok-clause-explained : goal.returns-in-Ok-clause-explained
returns-in-Ok-clause-explained c =
    let setup = c.args.moment.now.setup.now in
    let q = c.args.question.now in
    let t : Setting = record {
      alloc = c.args.alloc;
      path = q.path;
      moment = c.args.moment.now;
      subject = c.in-Some.subject;
      carried = c.in-Ok.carried;
    } in
    IfOk-weaker c.explain_wish.result (λ told. TellsWords t (spaced q.wish.now) told.text.items told.granted)
    (λ told. IsExplainedAt c.args.moment.now q told.text.items told.granted)
    (λ told tells. record {
      t = t;
      moment_is = refl;
      path_is = refl;
      subject = subst (λ (n : KnownNames). place_of q.subject.now n.subjects ≡ Some c.in-Some.subject) c.names-names.ensures.value
          (sym c.in-Some.ensures.value);
      carried = subst (λ (n : KnownNames). IsCarried n q.carried c.in-Ok.carried) c.names-names.ensures.value c.in-Ok.ensures.level;
      tells = tells;
    })
    c.explain_wish.ensures.told

pub returns-in-Ok-clause-fault : goal.returns-in-Ok-clause-fault
returns-in-Ok-clause-fault c =
    let names = c.args.moment.now.setup.now.names in
    let q = c.args.question.now in
    let there = subst (λ (n : KnownNames). Contains n.subjects q.subject.now) c.names-names.ensures.value c.in-Some.ensures.there in
    let carried = subst (λ (n : KnownNames). IsCarried n q.carried c.in-Ok.carried) c.names-names.ensures.value c.in-Ok.ensures.level in
    IfErr-weaker c.explain_wish.result (HasNoWish names (spaced q.wish.now)) (IsUnasked names q)
    (no-wish-is names q there c.in-Ok.carried carried) c.explain_wish.ensures.fault
