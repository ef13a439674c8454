use Rattle.std.proofs.Common.{◌≡◌, ◌≤◌, ◌∙◌, ap, arith, length}
use Rattle.std.specs.Prelude.{count_by}
use Rattle.bl_order.specs.Machine.{most_sessions}
use Rattle.bl_hall.specs.Chronicle.{state_now}
use Rattle.bl_session.specs.Openings.{is_opening}
use Rattle.bl_session.proofs.OpeningLaws.{few_in, opened_in}
use Rattle.bl_session.proofs.entries.sessions_in.Goals as goal

pub overflow_cast-result : goal.overflow_cast-result
overflow_cast-result c =
    let h = c.args.hall.now in
    let count : c.openings.result ≡ length (state_now h).sessions = c.openings.ensures ∙ ap (count_by is_opening) c.trail.ensures.value ∙ opened_in h in
    let few : length (state_now h).sessions ≤ most_sessions = few_in h c.trail.ensures.trail in
    omega (arith, count, few)

pub returns : goal.returns
returns c = c.openings.ensures ∙ ap (count_by is_opening) c.trail.ensures.value ∙ opened_in c.args.hall.now
