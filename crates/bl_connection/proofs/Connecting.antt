-- How a connection goes on.
use Rattle.std.proofs.Common.{◌≡◌, ℕ, ◌≤◌, ◌⊎◌, inl, inr, Bool, true, false, List, [], ◌++◌, refl, sym, ap, subst, ◌∙◌, append_assoc, append-nil, arith, Option, Some, None, OnSome, take, drop, take-append-drop}
use Rattle.std.specs.Io.KnownBytes.{Appends, Consumes, IsAtEnd, Keeps, prepend_known}
use Rattle.std.proofs.KnownBytes.{Appends-nil, Appends-trans, Appends-kept, Consumes-nil, Consumes-trans, Consumes-kept}
use Rattle.bl_work.specs.Names.{KnownNames}
use Rattle.bl_wire.specs.declared.turn.Turn.{Turn}
use Rattle.bl_engine.specs.Conversations.{Given, HasHeard, Hears, IsAt, IsOpenedAs, KeepsBlock, Says, Spoke, Talk, TellsWhole, asks, last_ordinal, need_at, need_of, talk_of}
use Rattle.bl_engine.specs.Conversations.{IsAnswered as IsAnsweredOf}
use Rattle.bl_engine.specs.Driving.{Exchange, nothing_yet, with_line}
use Rattle.bl_engine.specs.Parts.{SameWithin}
use Rattle.bl_engine.specs.Requests.{SameUpTo}
use Rattle.bl_engine.specs.declared.request.Request.{Request}
use Rattle.bl_engine.specs.declared.conversation.Need.TheVariants as needs
use Rattle.bl_engine.specs.declared.conversation.Opening.{Opening}
use Rattle.bl_engine.specs.declared.conversation.Stage.{Stage}
use Rattle.bl_engine.specs.declared.conversation.Stage.TheVariants as stages
use Rattle.bl_engine.proofs.Endings.{so_far_at}
use Rattle.bl_engine.proofs.Hearings.{no_input}
use Rattle.bl_connection.specs.Connections.{Answers, HasBegun, HasHeardMore, IsConnected, IsKnownOf, to_hear, unheard, unwritten, with_said}
use Rattle.bl_connection.specs.declared.connection.Connection.{Connection}
use Rattle.bl_connection.proofs.Passing.{at_end, begins_on, consumes_heard, keeps_read, keeps_unread, on_some, stream_end_stays, end_stays}

-- where no lines are told, nothing is said of what is left of replies
pub free_at : (ended : Bool) (stage : Stage) → (need_at ended stage ≡ needs.Room → ⊥) → (given : Given) (left other : ℕ → List ℕ) (talk : Talk) (turns : List Turn) (asked : List Request) (said : List ℕ)
    → IsAt stage given left talk turns asked said → IsAt stage given other talk turns asked said
free_at ended stages.Greets quiet given left other talk turns asked said at = at
free_at ended stages.Opens quiet given left other talk turns asked said at = at
free_at ended stages.Listens quiet given left other talk turns asked said at = at
free_at ended (stages.Settles closing) quiet given left other talk turns asked said at = at
free_at ended (stages.Tells closing) quiet given left other talk turns asked said at = absurd (quiet refl)
free_at ended stages.Over quiet given left other talk turns asked said at = at

module _ {S : Type 0} (remaining contents : S → Option (List ℕ)) where
  -- nothing was read or said yet
  pub connected_new : (stream : S) (conn : Connection S) → conn.stream ≡ stream → IsKnownOf remaining contents stream conn.first → unheard conn ≡ [] → unwritten conn ≡ [] → conn.ended ≡ false
      → need_of conn.conv ≡ needs.Input → ((names : KnownNames) (given : Given) (left : ℕ → List ℕ) → Spoke names given left conn.conv [] [] [] [])
      → (names : KnownNames) (opening : Opening) (replies : ℕ → List ℕ) (upto : ℕ) (left : ℕ → List ℕ)
      → IsConnected remaining contents names (Answers opening replies upto) left conn nothing_yet
  connected_new stream conn here first none quiet open_end need spoke names opening replies upto left = record {
    written = [];
    passed = record {
      begun = (stream, first);
      took = subst (λ a. Consumes conn.first.remaining a []) (first.0 ∙ ap remaining (sym here) ∙ same_known (remaining conn.stream) (unheard conn) none) (Consumes-nil conn.first.remaining);
      put = subst (λ a. Appends conn.first.contents a []) (first.1 ∙ ap contents (sym here)) (Appends-nil conn.first.contents);
      said = sym quiet;
      read_end = λ is. absurd (clash conn.ended is open_end);
      heard_end = λ is. absurd (no_input conn.conv.ended conn.conv.stage is need);
    };
    spoke = λ given may. spoke names given left;
    whole = λ given may. (so_far_at given left conn.conv [] [] [] (spoke names given left).point).blocks;
  }
    where
      clash : (b : Bool) → b ≡ true → b ≡ false → ⊥
      clash b one other = cc

      same_known : (a : Option (List ℕ)) (u : List ℕ) → u ≡ [] → a ≡ prepend_known u a
      same_known None u is = refl
      same_known (Some x) u is = ap (λ l. Some (l ++ x)) (sym is)

  -- it began so, whatever came since
  pub begun_still : (old new : Connection S) → new.first ≡ old.first → HasBegun remaining contents old → HasBegun remaining contents new
  begun_still old new first begun = (begun.0, subst (IsKnownOf remaining contents begun.0) (sym first) begun.1)

  -- the stream was read or written, and nothing was heard or told meanwhile
  pub connected_moved : (names : KnownNames) (M : Given → Type 0) (left : ℕ → List ℕ) (old new : Connection S) (x : Exchange) (more : List ℕ)
      → new.first ≡ old.first → new.conv ≡ old.conv
      → Keeps (to_hear remaining old) (to_hear remaining new)
      → Appends (contents old.stream) (contents new.stream) more → unwritten old ≡ more ++ unwritten new
      → ((start : Option (List ℕ)) (bytes : List ℕ) → Consumes start (to_hear remaining old) bytes → (old.ended ≡ true → OnSome start (IsAtEnd (remaining old.stream))) → new.ended ≡ true → OnSome start (IsAtEnd (remaining new.stream)))
      → IsConnected remaining contents names M left old x → IsConnected remaining contents names M left new x
  connected_moved names M left old new x more first conv rest put output read_end was =
      let p = was.passed in
      let start = old.first.remaining in
      let from : start ≡ new.first.remaining = ap (λ f. f.remaining) (sym first) in
      record {
        written = was.written ++ more;
        passed = record {
          begun = begun_still old new first p.begun;
          took = subst (λ a. Consumes a (to_hear remaining new) x.heard) from (Consumes-kept start (to_hear remaining old) (to_hear remaining new) x.heard p.took rest);
          put = subst (λ a. Appends a (contents new.stream) (was.written ++ more)) (ap (λ f. f.contents) (sym first))
              (Appends-trans old.first.contents (contents old.stream) (contents new.stream) was.written more p.put put);
          said = p.said ∙ ap (λ l. was.written ++ l) output ∙ sym (append_assoc was.written more (unwritten new));
          read_end = λ is. subst (λ a. OnSome a (IsAtEnd (remaining new.stream))) from (read_end start x.heard p.took p.read_end is);
          heard_end = λ is. subst (λ a. OnSome a (IsAtEnd (to_hear remaining new))) from
              (end_stays start (to_hear remaining old) (to_hear remaining new) x.heard p.took rest (p.heard_end (ap (λ v. v.ended) (sym conv) ∙ is)));
        };
        spoke = λ given may. subst (λ v. Spoke names given left v x.turns x.asked x.heard x.said) (sym conv) (was.spoke given may);
        whole = λ given may. let w = was.whole given may in (w.0, w.1, begins_on w.0 was.written more w.2);
      }

  -- The conversation went on, and the stream stayed. Of what was kept these bytes were heard.
  pub connected_heard : (names : KnownNames) (M : Given → Type 0) (left : ℕ → List ℕ) (old new : Connection S) (x : Exchange) (bytes : List ℕ) (request : Option Request)
      → new.first ≡ old.first → new.stream ≡ old.stream → new.ended ≡ old.ended → unwritten new ≡ [] → unwritten old ≡ [] → unheard old ≡ bytes ++ unheard new
      → (new.conv.ended ≡ true → ((old.conv.ended ≡ true) × (unheard old ≡ unheard new)) ⊎ ((unheard new ≡ []) × (new.ended ≡ true)))
      → (cut : HasHeard names old.conv x.turns x.heard) → (hears : Hears names old.conv new.conv bytes request)
      → IsConnected remaining contents names M left old x → IsConnected remaining contents names M left new (with_line x bytes (hears x.turns x.heard cut).more (asks request))
  connected_heard names M left old new x bytes request first stream ended quiet before split end cut hears was =
      let p = was.passed in
      let h = hears x.turns x.heard cut in
      let start = old.first.remaining in
      let from : start ≡ new.first.remaining = ap (λ f. f.remaining) (sym first) in
      let all : x.said ≡ was.written = p.said ∙ ap (λ l. was.written ++ l) before ∙ append-nil was.written in
      let one : Consumes (to_hear remaining old) (prepend_known (unheard new) (remaining old.stream)) bytes = consumes_heard (remaining old.stream) (unheard old) bytes (unheard new) split in
      let read_end : new.ended ≡ true → OnSome start (IsAtEnd (remaining old.stream)) = λ is. p.read_end (sym ended ∙ is) in
      let spoke : (given : Given) → M given → Spoke names given left new.conv (x.turns ++ h.more) (x.asked ++ asks request) (x.heard ++ bytes) x.said =
      λ given may. record { cut = h.cut; point = h.point given left x.asked x.said (was.spoke given may).point } in
      record {
        written = was.written;
        passed = record {
          begun = begun_still old new first p.begun;
          took = subst (λ a. Consumes a (to_hear remaining new) (x.heard ++ bytes)) from
              (subst (λ s. Consumes start (prepend_known (unheard new) (remaining s)) (x.heard ++ bytes)) (sym stream)
              (Consumes-trans start (to_hear remaining old) (prepend_known (unheard new) (remaining old.stream)) x.heard bytes p.took one));
          put = subst (λ a. Appends a (contents new.stream) was.written) (ap (λ f. f.contents) (sym first))
              (subst (λ s. Appends old.first.contents (contents s) was.written) (sym stream) p.put);
          said = all ∙ sym (append-nil was.written) ∙ ap (λ l. was.written ++ l) (sym quiet);
          read_end = λ is. subst (λ a. OnSome a (IsAtEnd (remaining new.stream))) from (subst (λ s. OnSome start (IsAtEnd (remaining s))) (sym stream) (read_end is));
          heard_end = λ is. subst (λ a. OnSome a (IsAtEnd (to_hear remaining new))) from (elim (end is) [
            | inl was ↦ subst (λ b. OnSome start (IsAtEnd b)) (ap (λ l. prepend_known l (remaining old.stream)) was.1 ∙ ap (λ s. prepend_known (unheard new) (remaining s)) (sym stream)) (p.heard_end was.0)
            | inr now ↦ at_end start (remaining new.stream) (unheard new) now.0 (subst (λ s. OnSome start (IsAtEnd (remaining s))) (sym stream) (read_end now.1))
          ]);
        };
        spoke = spoke;
        whole = λ given may. subst (λ l. TellsWhole given.replies (x.turns ++ h.more) l) all (so_far_at given left new.conv (x.turns ++ h.more) (x.asked ++ asks request) x.said (spoke given may).point).blocks;
      }

  pub heard_more : (names : KnownNames) (old new : Connection S) (x : Exchange) (bytes : List ℕ) (request : Option Request)
      → new.first ≡ old.first → new.stream ≡ old.stream → new.ended ≡ old.ended → unwritten new ≡ [] → unwritten old ≡ [] → unheard old ≡ bytes ++ unheard new
      → (new.conv.ended ≡ true → ((old.conv.ended ≡ true) × (unheard old ≡ unheard new)) ⊎ ((unheard new ≡ []) × (new.ended ≡ true)))
      → Hears names old.conv new.conv bytes request → KeepsBlock old.conv new.conv request
      → HasHeard names old.conv x.turns x.heard → HasHeardMore remaining contents names old new request x
  heard_more names old new x bytes request first stream ended quiet before split end hears block cut = record {
    bytes = bytes;
    more = (hears x.turns x.heard cut).more;
    few = (hears x.turns x.heard cut).few;
    origin = (hears x.turns x.heard cut).origin;
    block = block;
    connected = λ opening replies upto left was.
        connected_heard names (Answers opening replies upto) left old new x bytes request first stream ended quiet before split end cut hears was;
  }

  -- The conversation went on, and nothing was heard.
  pub connected_on : (names : KnownNames) (M : Given → Type 0) (was left : ℕ → List ℕ) (old new : Connection S) (x : Exchange) (more : List ℕ)
      → new.first ≡ old.first → new.stream ≡ old.stream → new.ended ≡ old.ended → unheard new ≡ unheard old → new.conv.ended ≡ old.conv.ended → unwritten new ≡ unwritten old ++ more
      → ((given : Given) → M given → Spoke names given was old.conv x.turns x.asked x.heard x.said → Spoke names given left new.conv x.turns x.asked x.heard (x.said ++ more))
      → IsConnected remaining contents names M was old x → IsConnected remaining contents names M left new (with_said x more)
  connected_on names M was left old new x more first stream ended input talks output spoke on =
      let p = on.passed in
      let start = old.first.remaining in
      let from : start ≡ new.first.remaining = ap (λ f. f.remaining) (sym first) in
      let same : to_hear remaining old ≡ to_hear remaining new = ap (λ l. prepend_known l (remaining old.stream)) (sym input) ∙ ap (λ s. prepend_known (unheard new) (remaining s)) (sym stream) in
      record {
        written = on.written;
        passed = record {
          begun = begun_still old new first p.begun;
          took = subst (λ a. Consumes a (to_hear remaining new) x.heard) from (subst (λ b. Consumes start b x.heard) same p.took);
          put = subst (λ a. Appends a (contents new.stream) on.written) (ap (λ f. f.contents) (sym first))
              (subst (λ s. Appends old.first.contents (contents s) on.written) (sym stream) p.put);
          said = ap (λ l. l ++ more) p.said ∙ append_assoc on.written (unwritten old) more ∙ ap (λ l. on.written ++ l) (sym output);
          read_end = λ is. subst (λ a. OnSome a (IsAtEnd (remaining new.stream))) from (subst (λ s. OnSome start (IsAtEnd (remaining s))) (sym stream) (p.read_end (sym ended ∙ is)));
          heard_end = λ is. subst (λ a. OnSome a (IsAtEnd (to_hear remaining new))) from (subst (λ b. OnSome start (IsAtEnd b)) same (p.heard_end (sym talks ∙ is)));
        };
        spoke = λ given may. spoke given may (on.spoke given may);
        whole = on.whole;
      }

  -- the same, where nothing was said
  pub connected_same : (names : KnownNames) (M : Given → Type 0) (was left : ℕ → List ℕ) (old new : Connection S) (x : Exchange)
      → new.first ≡ old.first → new.stream ≡ old.stream → new.ended ≡ old.ended → unheard new ≡ unheard old → new.conv.ended ≡ old.conv.ended → unwritten new ≡ unwritten old
      → ((given : Given) → M given → Spoke names given was old.conv x.turns x.asked x.heard x.said → Spoke names given left new.conv x.turns x.asked x.heard x.said)
      → IsConnected remaining contents names M was old x → IsConnected remaining contents names M left new x
  connected_same names M was left old new x first stream ended input talks output spoke on =
      subst (λ l. IsConnected remaining contents names M left new (record { heard = x.heard; turns = x.turns; asked = x.asked; said = l })) (append-nil x.said)
      (connected_on names M was left old new x [] first stream ended input talks (output ∙ sym (append-nil (unwritten old)))
      (λ given may s. subst (λ l. Spoke names given left new.conv x.turns x.asked x.heard l) (sym (append-nil x.said)) (spoke given may s)) on)

  pub connected_opened : (opening : Opening) (old new : Connection S) → new.first ≡ old.first → new.stream ≡ old.stream → new.ended ≡ old.ended → unheard new ≡ unheard old
      → new.conv.ended ≡ old.conv.ended → unwritten new ≡ unwritten old → IsOpenedAs opening old.conv new.conv
      → (names : KnownNames) (replies : ℕ → List ℕ) (upto : ℕ) (left : ℕ → List ℕ) (x : Exchange)
      → IsConnected remaining contents names (Answers opening replies upto) left old x → IsConnected remaining contents names (Answers opening replies upto) left new x
  connected_opened opening old new first stream ended input talks output opens names replies upto left x =
      connected_same names (Answers opening replies upto) left left old new x first stream ended input talks output
      (λ given may s. opens names given left x.turns x.asked x.heard x.said may.0 s)

  pub connected_answered : (old new : Connection S) → new.first ≡ old.first → new.stream ≡ old.stream → new.ended ≡ old.ended → unheard new ≡ unheard old
      → new.conv.ended ≡ old.conv.ended → unwritten new ≡ unwritten old → IsAnsweredOf old.conv new.conv
      → (names : KnownNames) (opening : Opening) (replies : ℕ → List ℕ) (upto : ℕ) (was left : ℕ → List ℕ) (x : Exchange)
      → last_ordinal old.conv ≤ upto → SameWithin old.conv.after (last_ordinal old.conv) replies left
      → IsConnected remaining contents names (Answers opening replies upto) was old x → IsConnected remaining contents names (Answers opening replies upto) left new x
  connected_answered old new first stream ended input talks output answers names opening replies upto was left x within same =
      connected_same names (Answers opening replies upto) was left old new x first stream ended input talks output
      (λ given may s. answers names given was left x.turns x.asked x.heard x.said
      (λ k low high. same k low high ∙ sym (may.1 k (omega (arith, low)) (omega (arith, high, within)))) s)

  pub connected_told : (was left : ℕ → List ℕ) (old new : Connection S) (more : List ℕ) → new.first ≡ old.first → new.stream ≡ old.stream → new.ended ≡ old.ended → unheard new ≡ unheard old
      → new.conv.ended ≡ old.conv.ended → unwritten new ≡ unwritten old ++ more → Says was left old.conv new.conv more
      → (names : KnownNames) (opening : Opening) (replies : ℕ → List ℕ) (upto : ℕ) (x : Exchange)
      → IsConnected remaining contents names (Answers opening replies upto) was old x → IsConnected remaining contents names (Answers opening replies upto) left new (with_said x more)
  connected_told was left old new more first stream ended input talks output says names opening replies upto x =
      connected_on names (Answers opening replies upto) was left old new x more first stream ended input talks output
      (λ given may s. says names given x.turns x.asked x.heard x.said s)

  -- once a block is told, nothing is said of what is left
  pub connected_free : (names : KnownNames) (M : Given → Type 0) (left other : ℕ → List ℕ) (conn : Connection S) (x : Exchange) → (need_of conn.conv ≡ needs.Room → ⊥)
      → IsConnected remaining contents names M left conn x → IsConnected remaining contents names M other conn x
  connected_free names M left other conn x quiet was = record {
    written = was.written;
    passed = was.passed;
    spoke = λ given may. let s = was.spoke given may in
        record { cut = s.cut; point = free_at conn.conv.ended conn.conv.stage quiet given left other (talk_of conn.conv) x.turns x.asked x.said s.point };
    whole = was.whole;
  }

  -- more was answered
  pub connected_still : (names : KnownNames) (opening : Opening) (before after : ℕ → List ℕ) (upto more : ℕ) (left : ℕ → List ℕ) (conn : Connection S) (x : Exchange)
      → upto ≤ more → SameUpTo upto before after → IsConnected remaining contents names (Answers opening before upto) left conn x
      → IsConnected remaining contents names (Answers opening after more) left conn x
  connected_still names opening before after upto more left conn x le same was =
      let less : (given : Given) → Answers opening after more given → Answers opening before upto given =
      λ given may. (may.0, λ k low high. may.1 k low (omega (arith, le, high)) ∙ same k high) in
      record {
        written = was.written;
        passed = was.passed;
        spoke = λ given may. was.spoke given (less given may);
        whole = λ given may. was.whole given (less given may);
      }

  -- bytes were read where all that was read before was heard, or the stream was found at its end
  pub connected_read : (names : KnownNames) (M : Given → Type 0) (left : ℕ → List ℕ) (old new : Connection S) (x : Exchange) → new.first ≡ old.first → new.conv ≡ old.conv
      → unwritten new ≡ unwritten old → unheard old ≡ [] → Consumes (remaining old.stream) (remaining new.stream) (unheard new) → Keeps (contents old.stream) (contents new.stream)
      → (new.ended ≡ true → IsAtEnd (remaining new.stream))
      → IsConnected remaining contents names M left old x → IsConnected remaining contents names M left new x
  connected_read names M left old new x first conv output none took kept end =
      connected_moved names M left old new x [] first conv (keeps_read (remaining old.stream) (remaining new.stream) (unheard old) (unheard new) none took)
      (Appends-kept (contents old.stream) (contents old.stream) (contents new.stream) [] (Appends-nil (contents old.stream)) kept) (sym output)
      (λ start bytes before at is. on_some start (end is))

  -- the stream was asked, and nothing went through
  pub connected_blocked : (names : KnownNames) (M : Given → Type 0) (left : ℕ → List ℕ) (old new : Connection S) (x : Exchange) → new.first ≡ old.first → new.conv ≡ old.conv
      → unwritten new ≡ unwritten old → unheard new ≡ unheard old → new.ended ≡ old.ended → Keeps (remaining old.stream) (remaining new.stream) → Keeps (contents old.stream) (contents new.stream)
      → IsConnected remaining contents names M left old x → IsConnected remaining contents names M left new x
  connected_blocked names M left old new x first conv output input ended rest kept =
      connected_moved names M left old new x [] first conv
      (subst (λ u. Keeps (to_hear remaining old) (prepend_known u (remaining new.stream))) (sym input) (keeps_unread (remaining old.stream) (remaining new.stream) (unheard old) rest))
      (Appends-kept (contents old.stream) (contents old.stream) (contents new.stream) [] (Appends-nil (contents old.stream)) kept) (sym output)
      (λ start bytes before at is. stream_end_stays start (remaining old.stream) (remaining new.stream) (unheard old) bytes before rest (at (sym ended ∙ is)))

  -- a front of what was to be written was taken
  pub connected_written : (names : KnownNames) (M : Given → Type 0) (left : ℕ → List ℕ) (old new : Connection S) (x : Exchange) (n : ℕ) → new.first ≡ old.first → new.conv ≡ old.conv
      → unwritten new ≡ drop n (unwritten old) → unheard new ≡ unheard old → new.ended ≡ old.ended → Keeps (remaining old.stream) (remaining new.stream)
      → Appends (contents old.stream) (contents new.stream) (take n (unwritten old))
      → IsConnected remaining contents names M left old x → IsConnected remaining contents names M left new x
  connected_written names M left old new x n first conv output input ended rest put =
      connected_moved names M left old new x (take n (unwritten old)) first conv
      (subst (λ u. Keeps (to_hear remaining old) (prepend_known u (remaining new.stream))) (sym input) (keeps_unread (remaining old.stream) (remaining new.stream) (unheard old) rest))
      put (sym (take-append-drop n (unwritten old)) ∙ ap (λ l. take n (unwritten old) ++ l) (sym output))
      (λ start bytes before at is. stream_end_stays start (remaining old.stream) (remaining new.stream) (unheard old) bytes before rest (at (sym ended ∙ is)))
