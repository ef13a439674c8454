use Rattle.std.proofs.Common.{◌≡◌, ◌≤◌, ◌++◌, ◌∙◌, inl, inr, false, ℕ, List, sym, subst, append_assoc, arith}
use Rattle.std.proofs.KnownBytes.{Appends-trans}
use Rattle.bl_wire.proofs.PutLaws.{puts-all}
use Rattle.bl_engine.specs.declared.conversation.Conversation.{Conversation}
use Rattle.bl_engine.specs.Conversations.{Says, Spoke, need_of, waits_left}
use Rattle.bl_engine.specs.declared.conversation.Need.TheVariants as needs
use Rattle.bl_engine.proofs.driver.tell_all.Goals as goal

-- more was said, and then more
says_trans : (a b d : ℕ → List ℕ) (x y z : Conversation) (one two : List ℕ) → Says a b x y one → Says b d y z two → Says a d x z (one ++ two)
says_trans a b d x y z one two first second names given turns asked heard said s =
    subst (λ l. Spoke names given d z turns asked heard l) (append_assoc said one two) (second names given turns asked heard (said ++ one) (first names given turns asked heard said s))

pub returns-then-failed-clause-part : goal.returns-then-failed-clause-part
returns-then-failed-clause-part g c =
    let told = c.parts.invariant.told in
    let said = c.tell.ensures.said in
    record {
      new = c.tell.new.self;
      ended = c.tell.ensures.ended ∙ c.parts.invariant.ended;
      left = g.B.Replies.left c.tell.new.block;
      before_more = told.0;
      middle = c.parts.conv;
      middle_left = g.B.Replies.left c.parts.block;
      told = told.2;
      more = said.0;
      much = said.1.much;
      says = said.2;
      put = Appends-trans _ _ _ told.0 _ told.1 said.1.bytes;
    }

pub returns-in_default-clause-ok : goal.returns-in_default-clause-ok
returns-in_default-clause-ok g c =
    let told = c.parts.invariant.told in
    let said = c.tell.ensures.said in
    let fine : c.tell.new.writer.failed ≡ false = sym c.failed.ensures ∙ c.if-failed.false in
    let other : need_of c.tell.new.self ≡ needs.Room → ⊥ = λ room. c.in_default.not-Room (c.need.ensures ∙ room) in
    let waits : waits_left c.parts.conv ≤ waits_left c.args.conv.now = c.parts.invariant.waits in
    record {
      more = told.0 ++ said.0;
      put = Appends-trans _ _ _ told.0 said.0 told.1 (puts-all said.0 _ _ said.1 fine);
      says = says_trans _ _ _ c.args.conv.now c.parts.conv c.tell.new.self told.0 said.0 told.2 said.2;
      ended = c.tell.ensures.ended ∙ c.parts.invariant.ended;
      last = c.tell.ensures.last ∙ c.parts.invariant.last;
      none = (c.tell.ensures.done other).0;
      alone = (c.tell.ensures.done other).1;
      nearer = elim c.tell.ensures.on [ inl room ↦ absurd (other room.0) | inr less ↦ omega (arith, less, waits) ];
    }

pub parts-preserved : goal.parts-preserved
parts-preserved g c =
    let told = c.parts.invariant.told in
    let said = c.tell.ensures.said in
    let fine : c.tell.new.writer.failed ≡ false = sym c.failed.ensures ∙ c.if-failed.false in
    let room : need_of c.tell.new.self ≡ needs.Room = sym c.need.ensures ∙ c.in-Room.is in
    let waits : waits_left c.parts.conv ≤ waits_left c.args.conv.now = c.parts.invariant.waits in
    record {
      fine = fine;
      need = room;
      stands = c.tell.ensures.stands room;
      told = (
        told.0 ++ said.0,
        Appends-trans _ _ _ told.0 said.0 told.1 (puts-all said.0 _ _ said.1 fine),
        says_trans _ _ _ c.args.conv.now c.parts.conv c.tell.new.self told.0 said.0 told.2 said.2,
      );
      ended = c.tell.ensures.ended ∙ c.parts.invariant.ended;
      last = c.tell.ensures.last ∙ c.parts.invariant.last;
      waits = elim c.tell.ensures.on [ inl same ↦ omega (arith, same.1, waits) | inr less ↦ omega (arith, less, waits) ];
    }
