use Rattle.std.proofs.Common.{◌≡◌, ◌++◌, ◌∙◌, sym, ap, false, take}
use Rattle.bl_wire.proofs.PutLaws.{puts-all}
use Rattle.bl_connection.proofs.telling.tell_part.Goals as goal

pub returns-then-failed-clause-err : goal.returns-then-failed-clause-err
returns-then-failed-clause-err g c =
    let said = c.tell.ensures.said in
    record {
      left = g.B.Replies.left c.tell.new.block;
      more = said.0;
      much = said.1.much;
      put = ap (λ v. v.items) c.into_inner.ensures ∙ said.1.bytes
          ∙ ap (λ v. v.items ++ take said.1.much said.0) (ap (λ w. w.inner) c.new-writer.ensures ∙ c.replace.ensures.value);
      says = said.2;
      ended = c.tell.ensures.ended;
    }

pub returns-else-failed-clause-ok : goal.returns-else-failed-clause-ok
returns-else-failed-clause-ok g c =
    let said = c.tell.ensures.said in
    let fine : c.tell.new.writer.failed ≡ false = sym c.failed-failed.ensures ∙ c.if-failed.false in
    record {
      more = said.0;
      put = ap (λ v. v.items) c.into_inner.ensures ∙ puts-all said.0 _ _ said.1 fine
          ∙ ap (λ v. v.items ++ said.0) (ap (λ w. w.inner) c.new-writer.ensures ∙ c.replace.ensures.value);
      says = said.2;
      ended = c.tell.ensures.ended;
      last = c.tell.ensures.last;
    }
