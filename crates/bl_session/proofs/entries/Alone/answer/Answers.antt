use Rattle.std.proofs.Common.{◌≡◌, ◌+◌, ◌∷◌, [], ◌++◌, List, length, refl, sym, ap, subst, ◌∙◌, arith, append-nil, append_assoc}
use Rattle.std.specs.Prelude.{All, IsTrue}
use Rattle.std.specs.List.{flat_map}
use Rattle.std.proofs.lemmas.Grind.{flat_map-append}
use Rattle.bl_setup.specs.Setup.{Setup}
use Rattle.bl_order.specs.Labels.{Reply, replies_to}
use Rattle.bl_order.specs.Machine.{has_ended, start}
use Rattle.bl_hall.specs.Chronicle.{state_now}
use Rattle.bl_hall.specs.Told.{reply_in}
use Rattle.bl_wire.specs.Replies.{line_or_full, reply_text}
use Rattle.bl_wire.proofs.PutLaws.{puts-is, puts-nil, puts-two}
use Rattle.bl_session.specs.Blocks.{left_in, up_to}
use Rattle.bl_session.specs.declared.block.Block.{Block}
use Rattle.bl_session.proofs.BlockLaws.{line_is, rest_is, front_first, front_behind, none_in_front, some_in_front, some_text}
use Rattle.bl_session.proofs.RunLaws.{setup_after}
use Rattle.bl_session.proofs.entries.Alone.answer.Goals as goal

pub returns-then-is_none-clause-text : goal.returns-then-is_none-clause-text
returns-then-is_none-clause-text g c =
    let x = state_now c.args.pages.now.hall in
    let k = c.args.ordinal in
    let gives = c.requires.gives in
    let line = line_is c.replies_go_by_lines.ensures x c.args.pages.now.session c.args.block.now c.pass.new.self gives.0 k gives.1 gives.2 c.pass.ensures.left in
    let none = none_in_front x c.pass.new.self k c.front.result c.front.ensures c.if-is_none.ensures in
    puts-is _ _ _ _ (sym (ap (line_or_full x.setup.names k) (sym line ∙ none))) c.put_refused.ensures

pub returns-then-is_none-clause-gives : goal.returns-then-is_none-clause-gives
returns-then-is_none-clause-gives g c =
    let x = state_now c.args.pages.now.hall in
    let k = c.args.ordinal in
    let gives = c.requires.gives in
    record {
      ended = subst (All (λ p. IsTrue (has_ended x p))) (sym c.pass.ensures.places) gives.2.ended;
      within = c.pass.ensures.within;
      replies = rest_is c.replies_go_by_lines.ensures x c.args.pages.now.session c.args.block.now c.pass.new.self gives.0 k gives.1 gives.2 c.pass.ensures.left;
    }

pub replies-init : goal.replies-init
replies-init g c =
    let x = state_now c.args.pages.now.hall in
    let k = c.args.ordinal in
    let gives = c.requires.gives in (
      [],
      puts-nil _ _ refl,
      sym (line_is c.replies_go_by_lines.ensures x c.args.pages.now.session c.args.block.now c.pass.new.self gives.0 k gives.1 gives.2 c.pass.ensures.left),
      rest_is c.replies_go_by_lines.ensures x c.args.pages.now.session c.args.block.now c.pass.new.self gives.0 k gives.1 gives.2 c.pass.ensures.left,
      c.pass.ensures.places,
      c.pass.ensures.within,
    )

pub put_reply-requires-clause-setup : goal.put_reply-requires-clause-setup
put_reply-requires-clause-setup g c =
    let h = c.args.pages.now.hall in
    sym (setup_after (start h.setup h.limit) h.trail ∙ c.requires.opened.stands.setup_is)

pub replies-preserved : goal.replies-preserved
replies-preserved g c =
    let x = state_now c.args.pages.now.hall in
    let k = c.args.ordinal in
    let names = c.args.self.now.setup.names in
    let f = rw c.in-Some.is at c.front-in-replies.ensures in
    let inv = c.replies.invariant in
    let n = c.in-Some.n in
    let said : List Reply = inv.0 in
    let later : Block = record { places = c.replies.block.places; next = c.replies.block.next + 1 } in (
      said ++ reply_in x n ∷ [],
      puts-two (flat_map (reply_text names) (said ++ reply_in x n ∷ [])) (flat_map (reply_text names) said) (reply_text names (reply_in x n)) _ _ _
          (flat_map-append (reply_text names) said (reply_in x n ∷ []) ∙ ap (λ l. flat_map (reply_text names) said ++ l) (append-nil (reply_text names (reply_in x n))))
          inv.1 c.put_reply.ensures,
      inv.2 ∙ ap (λ l. said ++ l) (front_first x c.replies.block later k n f refl refl) ∙ sym (append_assoc said (reply_in x n ∷ []) (up_to k (left_in x later))),
      sym (front_behind x c.replies.block later k n f refl refl) ∙ inv.3,
      inv.4,
      omega (arith, f.0),
    )

pub returns-clause-text : goal.returns-clause-text
returns-clause-text g c =
    let h = c.args.pages.now.hall in
    let x = state_now h in
    let k = c.args.ordinal in
    let gives = c.requires.gives in
    let inv = c.replies.invariant in
    let said : List Reply = inv.0 in
    let none = rw c.in_default.is at c.front-in-replies.ensures in
    let line = line_is c.replies_go_by_lines.ensures x c.args.pages.now.session c.args.block.now c.pass.new.self gives.0 k gives.1 gives.2 c.pass.ensures.left in
    let same : c.args.self.now.setup ≡ x.setup = sym (setup_after (start h.setup h.limit) h.trail ∙ c.requires.opened.stands.setup_is) in
    puts-is _ _ _ _
    (ap (λ (s : Setup). flat_map (reply_text s.names) said) same
    ∙ ap (flat_map (reply_text x.setup.names)) (sym (inv.2 ∙ ap (λ l. said ++ l) none ∙ append-nil said))
    ∙ sym (some_text x.setup.names k (replies_to x c.args.pages.now.session k (length x.order)) (λ e. some_in_front x c.pass.new.self k c.front.result c.front.ensures c.if-is_none.ensures (line ∙ e))))
    inv.1
