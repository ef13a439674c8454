use Rattle.std.proofs.Common.{rules, refl, ap, ◌∙◌, ◌++◌, ◌≡◌, [], codes, slice_index_or}
use Rattle.std.proofs.lemmas.Option.{gets}
use Rattle.bl_policy.specs.Denial.{word_of}
use Rattle.bl_wire.specs.Replies.{object_text, answer_text}
use Rattle.bl_work.specs.declared.answer.Answer.TheVariants.{Denied}
use Rattle.bl_trail.proofs.Comparing.{left-two, left-four}
use Rattle.bl_trail.proofs.compare.after_denied.Goals as goal

pub returns : goal.returns
returns c =
    let clause = word_of c.args.denial.now.clause in
    let subject = slice_index_or c.args.names.now.subjects c.args.denial.now.subject [] in
    let object = object_text c.args.names.now c.args.denial.now.object in
    let word : clause ≡ c.as_bytes.result.now = search rules in
    let name : subject ≡ c.bytes.result.now = search (rules, gets) in
    let text : clause ++ (codes " " ++ (subject ++ object)) ≡ c.as_bytes.result.now ++ (codes " " ++ (c.bytes.result.now ++ object)) =
    ap (λ l. l ++ (codes " " ++ (subject ++ object))) word ∙ ap (λ l. c.as_bytes.result.now ++ (codes " " ++ (l ++ object))) name in
    left-two (answer_text c.args.names.now (Denied c.args.denial.now)) (codes " denied ") (clause ++ (codes " " ++ (subject ++ object))) _ _ _ refl c.after-rest.ensures
    (left-four (clause ++ (codes " " ++ (subject ++ object))) c.as_bytes.result.now (codes " ") c.bytes.result.now object _ _ _ _ _ text
    c.after-rest-2.ensures c.after-rest-3.ensures c.after-rest-4.ensures c.after_object.ensures)
