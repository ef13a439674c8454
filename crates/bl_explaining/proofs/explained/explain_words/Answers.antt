use Rattle.std.proofs.Common.{◌≡◌, refl, subst, sym}
use Rattle.std.proofs.lemmas.Result.{IfErr-weaker, IfOk-weaker}
use Rattle.bl_status.specs.declared.fault.ProgramFault.TheVariants.{NoMemory}
use Rattle.bl_work.specs.Names.{KnownNames}
use Rattle.bl_work.specs.declared.asked.Line.TheVariants as line
use Rattle.bl_question.specs.Asked.{IsWish, line_of}
use Rattle.bl_explaining.specs.Explained.{TellsWords, TellsWork}
use Rattle.bl_question.specs.Wishes.{HasNoWish}
use Rattle.bl_question.specs.declared.fault.ExplainFault.TheVariants.{Program}
use Rattle.bl_explaining.proofs.Unasked.{work-of-line}
use Rattle.bl_explaining.proofs.explained.explain_words.Goals as goal

pub returns-in-Err-clause-fault : goal.returns-in-Err-clause-fault
returns-in-Err-clause-fault c = subst (λ (n : KnownNames). HasNoWish n c.args.words.now c.in-Err.fault) c.names.ensures c.in-Err.ensures.fault

pub explain_work-requires-clause-known : goal.explain_work-requires-clause-known
explain_work-requires-clause-known c =
    let names = c.args.setting.now.moment.setup.now.names in
    let words = c.args.words.now in
    let work = c.in-Ok.work in
    c.read_lines_are_known.ensures names (line_of words) (line.Work work)
    (subst (λ (n : KnownNames). IsWish n words work) c.names.ensures c.in-Ok.ensures.wish)

pub explain_work-requires-clause-held : goal.explain_work-requires-clause-held
explain_work-requires-clause-held c =
    let names = c.args.setting.now.moment.setup.now.names in
    let words = c.args.words.now in
    let work = c.in-Ok.work in
    work-of-line names (c.read_lines_are_known.ensures names) (line_of words) work
    (subst (λ (n : KnownNames). IsWish n words work) c.names.ensures c.in-Ok.ensures.wish)

pub returns-in-Ok-clause-told : goal.returns-in-Ok-clause-told
returns-in-Ok-clause-told c =
    let t = c.args.setting.now in
    let words = c.args.words.now in
    let work = c.in-Ok.work in
    let wish = subst (λ (n : KnownNames). IsWish n words work) c.names.ensures c.in-Ok.ensures.wish in
    IfOk-weaker c.explain_work.result (λ told. TellsWork t words work told.text.items told.granted)
    (λ told. TellsWords t words told.text.items told.granted) (λ told tells. (work, wish, tells)) c.explain_work.ensures.told

pub returns-in-Ok-clause-fault : goal.returns-in-Ok-clause-fault
returns-in-Ok-clause-fault c =
    let names = c.args.setting.now.moment.setup.now.names in
    let words = c.args.words.now in
    IfErr-weaker c.explain_work.result (λ fault. fault ≡ Program NoMemory) (HasNoWish names words)
    (λ fault is. subst (HasNoWish names words) (sym is) refl) c.explain_work.ensures.fault
