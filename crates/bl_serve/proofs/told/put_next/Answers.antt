use Rattle.std.proofs.Common.{not, sym, ap, ◌∙◌}
use Rattle.bl_serve.proofs.Taking.{none_part, one_part, one_there, others, stands_now}
use Rattle.bl_serve.proofs.told.put_next.Goals as goal

pub returns-then-not-is_to-clause-part : goal.returns-then-not-is_to-clause-part
returns-then-not-is_to-clause-part g c =
    let page = c.seek_line-at.ensures.page in
    none_part c.args.names.now c.args.told.now c.seek_line-at.result c.args.ordinal page.0 _ _ page.2 page.1 c.seek_line-at.ensures.begins
    (sym c.is_to.ensures ∙ c.if-not-is_to.true) c.put_refused.ensures

pub returns-clause-part : goal.returns-clause-part
returns-clause-part g c =
    let told = c.args.told.now in
    let page = c.seek_line-at.ensures.page in
    let at = c.seek_line-at.result in
    let here = sym c.is_to.ensures ∙ c.if-not-is_to.false in
    let taken = c.take_reply-reply in
    one_part told taken.new.told taken.result at c.args.ordinal page.0 (one_there c.args.ordinal at told here) taken.ensures.reply taken.ensures.left page.2 page.1 here
    c.args.names.now (not c.is_to-2.result) _ _ (ap not c.is_to-2.ensures) c.put_told.ensures

pub returns-clause-others : goal.returns-clause-others
returns-clause-others g c =
    let told = c.args.told.now in
    let page = c.seek_line-at.ensures.page in
    let at = c.seek_line-at.result in
    let here = sym c.is_to.ensures ∙ c.if-not-is_to.false in
    let taken = c.take_reply-reply in
    others told taken.new.told taken.result at c.args.ordinal page.0 (one_there c.args.ordinal at told here) taken.ensures.reply taken.ensures.left page.2 page.1 here c.args.names.now

pub returns-clause-page : goal.returns-clause-page
returns-clause-page g c =
    let told = c.args.told.now in
    let page = c.seek_line-at.ensures.page in
    let at = c.seek_line-at.result in
    let here = sym c.is_to.ensures ∙ c.if-not-is_to.false in
    let taken = c.take_reply-reply in
    stands_now told taken.new.told taken.result at c.args.ordinal page.0 (one_there c.args.ordinal at told here) taken.ensures.reply taken.ensures.left page.2 page.1 here
    (not c.is_to-2.result)
