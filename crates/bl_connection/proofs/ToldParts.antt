-- Parts that are told one after the other.
use Rattle.std.proofs.Common.{ℕ, ◌+◌, List, [], ◌++◌, length, refl, sym, ap, subst, ◌∙◌, append_assoc, append-nil, take}
use Rattle.std.proofs.Math.Seq.{take-append-add}
use Rattle.bl_engine.specs.Conversations.{Says, Spoke}
use Rattle.bl_engine.specs.declared.conversation.Conversation.{Conversation}
use Rattle.bl_connection.specs.Tellings.{ToldOn, ToldShort}

says_trans : (a b d : ℕ → List ℕ) (x y z : Conversation) (one two : List ℕ) → Says a b x y one → Says b d y z two → Says a d x z (one ++ two)
says_trans a b d x y z one two first second names given turns asked heard said s =
    subst (λ l. Spoke names given d z turns asked heard l) (append_assoc said one two) (second names given turns asked heard (said ++ one) (first names given turns asked heard said s))

pub told_none : (left : ℕ → List ℕ) (conv : Conversation) (bytes : List ℕ) → ToldOn left left conv conv bytes bytes
told_none left conv bytes = record {
  more = [];
  put = sym (append-nil bytes);
  says = λ names given turns asked heard said s. subst (λ l. Spoke names given left conv turns asked heard l) (sym (append-nil said)) s;
  ended = refl;
  last = refl;
}

pub told_then : (a b d : ℕ → List ℕ) (x y z : Conversation) (p q r : List ℕ) → ToldOn a b x y p q → ToldOn b d y z q r → ToldOn a d x z p r
told_then a b d x y z p q r one two = record {
  more = one.more ++ two.more;
  put = two.put ∙ ap (λ l. l ++ two.more) one.put ∙ append_assoc p one.more two.more;
  says = says_trans a b d x y z one.more two.more one.says two.says;
  ended = two.ended ∙ one.ended;
  last = two.last ∙ one.last;
}

-- The second part was told short. All that was told is as much of both parts.
pub told_then_short : (a b : ℕ → List ℕ) (x y z : Conversation) (p q r : List ℕ) → ToldOn a b x y p q → ToldShort b y z q r → ToldShort a x z p r
told_then_short a b x y z p q r one two = record {
  left = two.left;
  more = one.more ++ two.more;
  much = length one.more + two.much;
  put = two.put ∙ ap (λ l. l ++ take two.much two.more) one.put ∙ append_assoc p one.more (take two.much two.more) ∙ ap (λ l. p ++ l) (sym (take-append-add one.more two.more two.much));
  says = says_trans a b two.left x y z one.more two.more one.says two.says;
  ended = two.ended ∙ one.ended;
}
