use Rattle.std.proofs.Common.{rules, ◌≡◌, ◌<◌, ◌∙◌, ◌++◌, ap, length, subst, sym}
use Rattle.bl_order.specs.Labels.{tag}
use Rattle.bl_order.specs.Machine.{Starts, State, past_at}
use Rattle.bl_order.specs.Past.{Past}
use Rattle.bl_hall.specs.Chronicle.{state_now}
use Rattle.bl_explaining_event.specs.Decisions.{TellsTask, start_line}
use Rattle.bl_explaining_event.specs.Starts.{IsTaskFor}
use Rattle.bl_explaining_event.proofs.Noted.{happened-is}
use Rattle.bl_explaining_event.proofs.decision.tell_start.Goals as goal

pub tell_entry-requires-clause-task : goal.tell_entry-requires-clause-task
tell_entry-requires-clause-task c =
    let x = c.requires.0 in
    let s = c.requires.1 in
    let n = c.args.n in
    let y = c.core.ensures.value ∙ happened-is c.args.hall.now x (Starts n) s.happened in
    let past : past_at c.core.result.now n ≡ past_at x n =
    ap (λ (z : State). past_at z n) y ∙ (c.headline.ensures.state x s.happened.reached).start_leaves n n s.happened.needs in
    subst (λ (p : Past). IsTaskFor c.args.setting.now.moment.setup.now.names p.task) (sym past) s.task

pub tell_entry-requires-clause-names : goal.tell_entry-requires-clause-names
tell_entry-requires-clause-names c =
    let s = c.requires.1 in
    ap (λ (z : State). z.setup) (c.core.ensures.value ∙ happened-is c.args.hall.now c.requires.0 (Starts c.args.n) s.happened) ∙ s.setup_is

pub tell_entry-requires-clause-there : goal.tell_entry-requires-clause-there
tell_entry-requires-clause-there c =
    let s = c.requires.1 in
    subst (λ (z : State). c.args.n < length z.order) (sym (c.core.ensures.value ∙ happened-is c.args.hall.now c.requires.0 (Starts c.args.n) s.happened))
    s.happened.needs.there

pub start_line-requires : goal.start_line-requires
start_line-requires c =
    let s = c.requires.1 in
    subst (λ (z : State). c.args.n < length z.order) (sym (happened-is c.args.hall.now c.requires.0 (Starts c.args.n) s.happened)) s.happened.needs.there

pub returns : goal.returns
returns c x s =
    let n = c.args.n in
    let event = c.args.event in
    let y = happened-is c.args.hall.now x (Starts n) s.happened in
    let past : past_at c.core.result.now n ≡ past_at x n =
    ap (λ (z : State). past_at z n) (c.core.ensures.value ∙ y) ∙ (c.headline.ensures.state x s.happened.reached).start_leaves n n s.happened.needs in
    let own = c.in_ok-text.field-0 in
    let told : c.deref.result.now ≡ own.text.items = search rules in
    record {
      subject = s.subject;
      carried = s.carried;
      told = own.text.items;
      tells = subst (λ (p : Past). TellsTask c.args.setting.now p.task own.text.items own.granted) past c.in_ok-text.ensures;
      text_is = c.in_ok-extend_from_slice.ensures.items ∙ ap (λ l. l ++ c.deref.result.now) (c.in_ok-start_line.ensures
          ∙ ap (λ l. l ++ start_line event n (tag (state_now c.args.hall.now).order n)) c.new-told.ensures.items ∙ ap (λ (z : State). start_line event n (tag z.order n)) y)
          ∙ ap (λ l. start_line event n (tag x.order n) ++ l) told;
    }
