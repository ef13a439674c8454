use Rattle.std.proofs.Common.{rules, ◌≡◌, ◌∙◌, ◌++◌, ◌⊎◌, inl, inr, [], false, true≢false, refl, sym, ap, subst, take, take-append-drop}
use Rattle.std.proofs.KnownBytes.{Keeps-refl}
use Rattle.std.proofs.lemmas.List.{drop-drop}
use Rattle.bl_wire.specs.Faults.{is_read, is_write}
use Rattle.bl_engine.specs.Conversations.{Hears, KeepsBlock, need_of}
use Rattle.bl_engine.specs.Outcome.{Stopped}
use Rattle.bl_engine.specs.View.{ends}
use Rattle.bl_engine.specs.declared.conversation.Need.TheVariants as needs
use Rattle.bl_engine.proofs.Driving.{has_ended}
use Rattle.bl_connection.specs.Connections.{to_hear, unheard, view_of}
use Rattle.bl_connection.proofs.Connecting.{heard_more}
use Rattle.bl_connection.proofs.Ending.{has_more, stops_long, stops_memory}
use Rattle.bl_connection.proofs.Faults.{memory_alone, passes_on, rest_whole}
use Rattle.bl_connection.proofs.States.{hears_at, some_left}
use Rattle.bl_connection.proofs.connection.Connection.hear.Goals as goal

pub returns-in_err-end-clause-err : goal.returns-in_err-end-clause-err
returns-in_err-end-clause-err g c =
    let R = g.S.Stream.remaining in
    let W = g.S.Stream.contents in
    let old = c.args.self.now in
    let need : (need_of old.conv ≡ needs.Input) ⊎ (need_of old.conv ≡ needs.End) = elim (c.is_heard.ensures.all c.if-is_heard.true) [ inl end ↦ inr end | inr all ↦ inl all.0 ] in
    memory_alone c.from_residual.result _ c.from_residual.ensures.1
    (λ left. (refl, λ names replies upto x was. stops_memory R W names replies upto left old x (to_hear R old) (W old.stream) (hears_at old c.requires).0 (Keeps-refl (to_hear R old)) (Keeps-refl (W old.stream)) was need))

pub returns-then-is_heard-clause-heard : goal.returns-then-is_heard-clause-heard
returns-then-is_heard-clause-heard g c =
    let old = c.args.self.now in
    let none = (hears_at old c.requires).0 in (
      refl,
      λ x cut. heard_more g.S.Stream.remaining g.S.Stream.contents c.args.names.now old _ x [] c.in_ok-end.field-0 refl refl refl none none refl
          (λ is. elim (c.is_heard.ensures.all c.if-is_heard.true) [ inl end ↦ inl (has_ended old.conv.ended old.conv.stage end, refl) | inr all ↦ inr (all.1, all.2) ])
          c.in_ok-end.ensures.ok c.in_ok-end.ensures.block cut,
    )

pub returns-in_err-heard-clause-err : goal.returns-in_err-heard-clause-err
returns-in_err-heard-clause-err g c =
    let R = g.S.Stream.remaining in
    let W = g.S.Stream.contents in
    let old = c.args.self.now in
    let fault = c.in_err-heard.field-0.0 in
    let some = c.is_heard.ensures.some c.if-is_heard.false in
    let none = (hears_at old c.requires).0 in
    passes_on c.from_residual-in_err-heard.result fault _ c.from_residual-in_err-heard.ensures.1
    (λ left. (
      refl,
      λ names replies upto x was. elim c.in_err-heard.ensures.long [
        | inl is ↦ subst (λ f. Stopped f names (ends old.first.remaining (to_hear R old) old.first.contents (W old.stream)) (is_read f) (is_write f) (view_of replies upto x.asked)) (sym is)
            (stops_memory R W names replies upto left old x (to_hear R old) (W old.stream) none (Keeps-refl (to_hear R old)) (Keeps-refl (W old.stream)) was (inl some.0))
        | inr is ↦ subst (λ f. Stopped f names (ends old.first.remaining (to_hear R old) old.first.contents (W old.stream)) (is_read f) (is_write f) (view_of replies upto x.asked)) (sym is.0)
            (stops_long R W names replies upto left old x (to_hear R old) (W old.stream) none (Keeps-refl (to_hear R old)) (Keeps-refl (W old.stream)) was some.0 is.1
            (has_more (R old.stream) (unheard old) (some_left old.heard old.input.items some.1)))
      ],
    ))

pub returns-clause-heard : goal.returns-clause-heard
returns-clause-heard g c =
    let old = c.args.self.now in
    let new = c.forget_heard.new.self in
    let taken = c.in_ok-heard.heard.taken in
    let request = c.in_ok-heard.heard.request in
    let same : c.deref.result.now ≡ old.input.items = search rules in
    let whole = rest_whole old.heard c.deref.result.now old.input.items same in
    let none = (hears_at old c.requires).0 in
    let split : unheard old ≡ take taken (unheard old) ++ unheard new =
    sym (take-append-drop taken (unheard old)) ∙ ap (λ l. take taken (unheard old) ++ l) (drop-drop taken old.heard old.input.items ∙ sym c.forget_heard.ensures.unheard_is) in
    let open_end : new.conv.ended ≡ false = ap (λ v. v.ended) c.forget_heard.ensures.conv ∙ c.in_ok-heard.ensures.more in (
      c.forget_heard.ensures.first,
      λ x cut. heard_more g.S.Stream.remaining g.S.Stream.contents c.args.names.now old new x (take taken (unheard old)) request
          c.forget_heard.ensures.first c.forget_heard.ensures.stream c.forget_heard.ensures.ended (c.forget_heard.ensures.unwritten_is ∙ none) none split
          (λ is. absurd (true≢false (sym is ∙ open_end)))
          (subst (λ v. Hears c.args.names.now old.conv v (take taken (unheard old)) request) (sym c.forget_heard.ensures.conv)
          (subst (λ l. Hears c.args.names.now old.conv c.hear.new.self (take taken l) request) whole c.in_ok-heard.ensures.ok))
          (subst (λ v. KeepsBlock old.conv v request) (sym c.forget_heard.ensures.conv) c.in_ok-heard.ensures.block) cut,
    )
