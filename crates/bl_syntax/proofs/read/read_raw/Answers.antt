use Rattle.std.proofs.Common.{◌≡◌, ◌≤◌, ◌∷◌, [], length, List, refl, ap, subst, ◌∙◌, suc, arith}
use Rattle.bl_level.specs.Token.{toks}
use Rattle.bl_name.specs.declared.token.Token.{Token}
use Rattle.bl_work.specs.Fault.{FirstTokenAtFault, SyntaxFault}
use Rattle.bl_syntax.specs.Tokens.{tokens_of}
use Rattle.bl_syntax.specs.Parsing.{IsFirstFault}
use Rattle.bl_syntax.specs.RawView.{raw_view}
use Rattle.bl_syntax.proofs.Places.{cut_long, left_within, fault_of}
use Rattle.bl_syntax.proofs.Whole.{cut_tokens, reads_one, reads_proper, reads_no_stop, reads_not_broken}
use Rattle.bl_work.proofs.Texts.{line_contents}
use Rattle.bl_syntax.proofs.read.read_raw.Goals as goal

toks_long : (ts : List Token) → length (toks ts) ≡ length ts
toks_long [] = refl
toks_long (t ∷ ts) = ap suc (toks_long ts)

pub returns-in-Ok-clause-only : goal.returns-in-Ok-clause-only
returns-in-Ok-clause-only c = λ l reads. reads_one c.args.bytes.now (raw_view c.in-Ok.line) l c.in-Ok.ensures reads

pub returns-in-Ok-clause-proper : goal.returns-in-Ok-clause-proper
returns-in-Ok-clause-proper c = reads_proper c.args.bytes.now (raw_view c.in-Ok.line) c.in-Ok.ensures

pub returns-in-Ok-clause-texts : goal.returns-in-Ok-clause-texts
returns-in-Ok-clause-texts c = λ short.
    line_contents (raw_view c.in-Ok.line) (length c.args.bytes.now) short (reads_proper c.args.bytes.now (raw_view c.in-Ok.line) c.in-Ok.ensures) (c.canonical_is_shortest.ensures _ _ [] c.in-Ok.ensures)

pub returns-in-Err-Broken-clause-only : goal.returns-in-Err-Broken-clause-only
returns-in-Err-Broken-clause-only c = λ l reads.
    let fault : SyntaxFault c.args.bytes.now c.in-Err-Broken.place = subst (IsFirstFault c.args.bytes.now) c.in-Err-Broken.field-0-is c.in-Err-Broken.ensures in
    absurd (reads_not_broken c.args.bytes.now l c.in-Err-Broken.place reads fault)

pub place_of-requires-clause-cut : goal.place_of-requires-clause-cut
place_of-requires-clause-cut c = cut_long _ _ _ _ _ c.in_ok-lexed-in-Err-At.ensures.cut ∙ toks_long c.in_ok-lexed-in-Err-At.lexed.tokens.items

pub place_of-requires-clause-within : goal.place_of-requires-clause-within
place_of-requires-clause-within c =
    let fault : FirstTokenAtFault (tokens_of c.args.bytes.now) c.in-Err-At.left = subst (IsFirstFault c.args.bytes.now) c.in-Err-At.field-0-is c.in-Err-At.ensures in
    let few : c.in-Err-At.left ≤ length (tokens_of c.args.bytes.now) = left_within (tokens_of c.args.bytes.now) c.in-Err-At.left fault in
    let same = ap length (cut_tokens _ _ _ _ _ c.in_ok-lexed-in-Err-At.ensures.cut) in
    let long = toks_long c.in_ok-lexed-in-Err-At.lexed.tokens.items in
    omega arith

pub returns-in_ok-lexed-in-Err-At-clause-only : goal.returns-in_ok-lexed-in-Err-At-clause-only
returns-in_ok-lexed-in-Err-At-clause-only c = λ l reads.
    let fault : FirstTokenAtFault (tokens_of c.args.bytes.now) c.in-Err-At.left = subst (IsFirstFault c.args.bytes.now) c.in-Err-At.field-0-is c.in-Err-At.ensures in
    absurd (reads_no_stop c.args.bytes.now l c.in-Err-At.left reads fault)

pub returns-in_ok-lexed-in-Err-At-clause-fault : goal.returns-in_ok-lexed-in-Err-At-clause-fault
returns-in_ok-lexed-in-Err-At-clause-fault c =
    let fault : FirstTokenAtFault (tokens_of c.args.bytes.now) c.in-Err-At.left = subst (IsFirstFault c.args.bytes.now) c.in-Err-At.field-0-is c.in-Err-At.ensures in
    rw c.place_of.ensures (fault_of _ _ _ _ _ _ refl c.in_ok-lexed-in-Err-At.ensures.cut (rw (cut_tokens _ _ _ _ _ c.in_ok-lexed-in-Err-At.ensures.cut) fault))
