use Rattle.std.proofs.Common.{◌≡◌, ◌∙◌, ap}
use Rattle.bl_policy.specs.declared.access.Mode.TheVariants.{Read, Append, Write}
use Rattle.bl_policy.specs.Matrix.{is_in, triple}
use Rattle.bl_policy.specs.Policy.{SecurityPolicy, allows}
use Rattle.bl_policy.proofs.ModeLemmas.{flag-has_mode}
use Rattle.bl_state.specs.Texts.{modes_where}
use Rattle.bl_state.proofs.line.Modes.of.Goals as goal

pub returns : goal.returns
returns c =
    let policy : c.policy.result.now ≡ c.args.setup.now.policy = c.policy.ensures.value in
    let read : c.contains-read.result ≡ is_in c.args.setup.now.policy.matrix (triple c.args.subject c.args.doc Read) =
    c.contains-read.ensures tt ∙ flag-has_mode c.cell-modes.result Read ∙ c.cell-modes.ensures.modes Read
    ∙ ap (λ (p : SecurityPolicy). allows p c.args.subject c.args.doc Read) policy in
    let append : c.contains-append.result ≡ is_in c.args.setup.now.policy.matrix (triple c.args.subject c.args.doc Append) =
    c.contains-append.ensures tt ∙ flag-has_mode c.cell-modes.result Append ∙ c.cell-modes.ensures.modes Append
    ∙ ap (λ (p : SecurityPolicy). allows p c.args.subject c.args.doc Append) policy in
    let write : c.contains-write.result ≡ is_in c.args.setup.now.policy.matrix (triple c.args.subject c.args.doc Write) =
    c.contains-write.ensures tt ∙ flag-has_mode c.cell-modes.result Write ∙ c.cell-modes.ensures.modes Write
    ∙ ap (λ (p : SecurityPolicy). allows p c.args.subject c.args.doc Write) policy in
    λ i. modes_where (read i) (append i) (write i)
