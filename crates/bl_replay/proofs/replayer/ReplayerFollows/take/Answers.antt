use Rattle.std.proofs.Common.{rules, ◌≡◌, ◌∙◌, ap, subst}
use Rattle.bl_order.specs.Machine.{Needs, Starts, Ends, Loses}
use Rattle.bl_trail.specs.EventText.{event_text}
use Rattle.bl_trail.specs.Versions.{HasEvent}
use Rattle.bl_replay.proofs.Taking.{asked-admits, asked-ends, asked-loses, asked-nothing, asked-opens, asked-starts, comes, if-ok, if-ok-both, small}
use Rattle.bl_replay.proofs.replayer.ReplayerFollows.take.Goals as goal

pub returns-in-Starts-clause-right : goal.returns-in-Starts-clause-right
returns-in-Starts-clause-right c =
    if-ok-both c.start.result _ _ _ c.start.ensures.right c.start.ensures.marks
    (λ v right marks is x rest replays. comes c.the_order_has_room.ensures.order x c.args.self.now c.start.new.self c.args.line.now rest (Starts c.in-Starts.n) c.requires.plain replays (right is x rest replays) (marks is))

pub returns-in-Starts-clause-wrong : goal.returns-in-Starts-clause-wrong
returns-in-Starts-clause-wrong c =
    if-ok c.start.result _ _ c.start.ensures.wrong
    (λ v wrong is x rest replays event needs has text.
    let same : event ≡ Starts c.in-Starts.n = asked-starts x event c.in-Starts.n _ (c.in-Starts.ensures x event (small c.the_order_has_room.ensures.order x c.args.self.now replays.keeps) needs text) in
    wrong is x rest replays (subst (Needs x) same needs) tt (text ∙ ap (event_text x) same))

pub returns-in-Ends-clause-right : goal.returns-in-Ends-clause-right
returns-in-Ends-clause-right c =
    if-ok-both c.end.result _ _ _ c.end.ensures.right c.end.ensures.marks
    (λ v right marks is x rest replays. comes c.the_order_has_room.ensures.order x c.args.self.now c.end.new.self c.args.line.now rest (Ends c.in-Ends.n) c.requires.plain replays (right is x rest replays) (marks is))

pub returns-in-Ends-clause-wrong : goal.returns-in-Ends-clause-wrong
returns-in-Ends-clause-wrong c =
    if-ok c.end.result _ _ c.end.ensures.wrong
    (λ v wrong is x rest replays event needs has text.
    let same : event ≡ Ends c.in-Ends.n = asked-ends x event c.in-Ends.n (c.in-Ends.ensures x event (small c.the_order_has_room.ensures.order x c.args.self.now replays.keeps) needs text) in
    wrong is x rest replays (subst (Needs x) same needs) tt (text ∙ ap (event_text x) same))

pub returns-in-Loses-clause-right : goal.returns-in-Loses-clause-right
returns-in-Loses-clause-right c =
    if-ok-both c.lose.result _ _ _ c.lose.ensures.right c.lose.ensures.marks
    (λ v right marks is x rest replays. comes c.the_order_has_room.ensures.order x c.args.self.now c.lose.new.self c.args.line.now rest (Loses c.in-Loses.n) c.requires.plain replays (right is x replays.keeps) (marks is))

pub returns-in-Loses-clause-wrong : goal.returns-in-Loses-clause-wrong
returns-in-Loses-clause-wrong c =
    if-ok c.lose.result _ _ c.lose.ensures.wrong
    (λ v wrong is x rest replays event needs has text.
    let same : event ≡ Loses c.in-Loses.n = asked-loses x event c.in-Loses.n (c.in-Loses.ensures x event (small c.the_order_has_room.ensures.order x c.args.self.now replays.keeps) needs text) in
    wrong is x replays.keeps (subst (Needs x) same needs) tt (text ∙ ap (event_text x) same))

pub returns-in-Opens-clause-right : goal.returns-in-Opens-clause-right
returns-in-Opens-clause-right c =
    if-ok-both c.open.result _ _ _ c.open.ensures.right c.open.ensures.marks
    (λ v right marks is x rest replays.
    let come = right is x replays.keeps in
    comes c.the_order_has_room.ensures.order x c.args.self.now c.open.new.self c.args.line.now rest _ c.requires.plain replays come.1 (marks is))

pub returns-in-Opens-clause-wrong : goal.returns-in-Opens-clause-wrong
returns-in-Opens-clause-wrong c =
    if-ok c.open.result _ _ c.open.ensures.wrong
    (λ v wrong is x rest replays event needs has text.
    let asked = asked-opens x event c.in-Opens.name.now (c.in-Opens.ensures x event (small c.the_order_has_room.ensures.order x c.args.self.now replays.keeps) needs text) in
    wrong is x replays.keeps asked.0 asked.2 (subst (Needs x) asked.1 needs) (subst (HasEvent x.setup.version) asked.1 has) (text ∙ ap (event_text x) asked.1))

pub returns-in-Admits-clause-right : goal.returns-in-Admits-clause-right
returns-in-Admits-clause-right c =
    if-ok-both c.line.result _ _ _ c.line.ensures.right c.line.ensures.marks
    (λ v right marks is x rest replays.
    let come = right is x replays.keeps in
    comes c.the_order_has_room.ensures.order x c.args.self.now c.line.new.self c.args.line.now rest _ c.requires.plain replays come.1 (marks is))

pub returns-in-Admits-clause-wrong : goal.returns-in-Admits-clause-wrong
returns-in-Admits-clause-wrong c =
    if-ok c.line.result _ _ c.line.ensures.wrong
    (λ v wrong is x rest replays event needs has text.
    let asked = asked-admits x event c.in-Admits.session c.in-Admits.ordinal c.in-Admits.text.now (c.in-Admits.ensures x event (small c.the_order_has_room.ensures.order x c.args.self.now replays.keeps) needs text) in
    wrong is x replays.keeps asked.0 asked.2 (subst (Needs x) asked.1 needs) (subst (HasEvent x.setup.version) asked.1 has) (text ∙ ap (event_text x) asked.1))

pub returns-in-Nothing-clause-wrong : goal.returns-in-Nothing-clause-wrong
returns-in-Nothing-clause-wrong c is x rest replays event needs has text =
    asked-nothing x event (c.in-Nothing.ensures x event (small c.the_order_has_room.ensures.order x c.args.self.now replays.keeps) needs text)

pub returns-in-Nothing-clause-right : goal.returns-in-Nothing-clause-right
returns-in-Nothing-clause-right c = search rules
