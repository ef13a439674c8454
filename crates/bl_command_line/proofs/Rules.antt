-- The options of the program's command line, and its commands.
use Rattle.std.proofs.Common.{◌≡◌, is_some, not, Bool, ◌<◌, ◌∙◌, ◌++◌, ℕ, ℤ, List, [], ◌∷◌, Option, Some, pos, arith, ap, rules, refl, map, true, false, append-nil, append_assoc, sym, w64, to_z, of_z}
use Rattle.std.specs.List.{list_all}
use Rattle.std.proofs.lemmas.Int.{ints}
use Rattle.std.proofs.Math.Facts.{to_z-of_z}
use Rattle.clap.proofs.WalkLemmas.{both}
use Rattle.clap.specs.Built.{AddsArg, AddsInTurn}
use Rattle.clap.specs.Walk.{is_empty, is_simple_arg}
use Rattle.clap.specs.Words.{NarrowsTo, App, app_of, rule_of, Rule}
use Rattle.clap.specs.Simple.{has_plain_fields, new_app, on_top, with_subcommand}
use Rattle.clap.specs.declared.builder.command.Command.TheViews.{out-Command}
use Rattle.std.specs.Prelude.{IfOk, Result}
use Rattle.std.proofs.lemmas.Result.{IfOk-weaker}
use Rattle.clap.specs.declared.builder.arg.Arg.{Arg}
use Rattle.clap.specs.declared.builder.command.Command.{Command}
use Rattle.clap.specs.declared.builder.value_parser.ValueParser.{ValueParser}
use Rattle.clap.specs.declared.builder.value_parser.ValueParser.TheVariants.{Signed}
use Rattle.bl_command_line.specs.CommandLine.{IsLocal, app_with, number_rule, text_rule}

-- a bound of 32 bits is read as it is written
pub bound_is : (n : ℕ) (written read : ℤ) → n < 4294967296 → written ≡ pos n → read ≡ to_z w64 (of_z w64 written) → read ≡ pos n
bound_is n written read small is same = same ∙ (ap (λ (z : ℤ). to_z w64 (of_z w64 z)) is ∙ to_z-of_z {w = w64} {z = pos n} (search (rules, small)))

-- bounds of 32 bits narrow the numbers of 32 bits to those between them
narrowed : (least most : ℕ) (r : ValueParser) → least < 4294967296 → most < 4294967296
    → NarrowsTo (Signed (pos 0) (pos 4294967295)) (Some (pos least)) (Some (pos most)) r → r ≡ Signed (pos least) (pos most)
narrowed least most r smaller small narrow = grind (arith, ints)

-- a text's option that takes a number between them instead
pub number_is : (name : List ℕ) (least most : ℕ) (first last : ℤ) (p q : ValueParser) (old new : Arg) → least < 4294967296 → most < 4294967296
    → p ≡ Signed (pos 0) (pos 4294967295) → first ≡ pos least → last ≡ pos most → NarrowsTo p (Some first) (Some last) q
    → rule_of old ≡ text_rule name → new ≡ record old { value_parser = new.value_parser } → new.value_parser ≡ Some q
    → rule_of new ≡ number_rule name least most
number_is name least most first last p q old new smaller small p_is first_is last_is narrow old_is new_is value_is =
    let q_is = narrowed least most q smaller small (rw (p_is, first_is, last_is) at narrow) in
    ap rule_of new_is ∙ (ap (λ (r : Rule). record r { parser = new.value_parser }) old_is
    ∙ ap (λ (v : Option ValueParser). record (text_rule name) { parser = v }) (value_is ∙ ap Some q_is))

-- a command's rules with those of more options
abbrev pub with_rules : App → List Rule → App
with_rules app rules = on_top (λ s. record s { rules = s.rules ++ rules }) app

not_true : (b : Bool) → not b ≡ true → b ≡ false
not_true true is = sym is
not_true false is = refl

-- a simple option is not global
local : (option : Arg) → is_simple_arg option ≡ true → option.global ≡ false
local option simple =
    let after0 = (both (is_empty option.overrides.items) _ simple).1 in
    let after1 = (both (is_empty option.default_vals_ifs.items) _ after0).1 in
    let after2 = (both (is_empty option.groups.items) _ after1).1 in
    let after3 = (both (not (is_some option.val_delim)) _ after2).1 in
    let after4 = (both (not (is_some option.terminator)) _ after3).1 in
    let after5 = (both (not option.allow_hyphen_values) _ after4).1 in
    let after6 = (both (not option.allow_negative_numbers) _ after5).1 in
    let after7 = (both (not option.require_equals) _ after6).1 in
    let after8 = (both (not option.last) _ after7).1 in
    not_true option.global after8

-- options that are added in turn, none of them global, add their rules
pub adds_rules : (old new : Command) (options : List Arg) → list_all (λ (r : Rule). r.is_simple) (map rule_of options) ≡ true
    → AddsInTurn AddsArg old options new → app_of new ≡ with_rules (app_of old) (map rule_of options)
adds_rules old new [] simple same = ap app_of (sym same) ∙ ap (λ (rules : List Rule). on_top (λ s. record s { rules = rules }) (app_of old)) (sym (append-nil _))
adds_rules old new (option ∷ more) simple (middle, step, rest) =
    let simples = both _ _ simple in
    adds_rules middle new more simples.1 rest ∙ (ap (λ (app : App). with_rules app (map rule_of more)) (step.shape (local option simples.0))
    ∙ ap (λ (rules : List Rule). on_top (λ s. record s { rules = rules }) (app_of old)) (append_assoc (app_of old).top.rules (rule_of option ∷ []) (map rule_of more)))

-- a command with no options that these were added to in turn is the command with their rules, and has no global option
pub made_with : {E : Type 0} (made : Result Command E) (old : Command) (items : List Arg) (name : List ℕ) (rules : List Rule)
    → app_of old ≡ new_app name → map rule_of items ≡ rules → list_all (λ (r : Rule). r.is_simple) rules ≡ true
    → IfOk made (AddsInTurn AddsArg old items) → IfOk made (IsLocal (app_with name rules))
made_with made old items name rules new_is rules_are simple =
    IfOk-weaker made (AddsInTurn AddsArg old items) (IsLocal (app_with name rules)) (λ parser added.
    let is : app_of parser ≡ app_with name rules = adds_rules old parser items (rw rules_are simple) added
    ∙ (ap (λ (app : App). with_rules app (map rule_of items)) new_is ∙ ap (λ (rs : List Rule). app_with name rs) rules_are) in
    let plain : has_plain_fields (out-Command parser) ≡ true = ap (λ (app : App). app.top.is_plain) is in
    let after0 = (both (is_empty (out-Command parser).groups.items) _ plain).1 in
    let after1 = (both (not (out-Command parser).allow_external_subcommands) _ after0).1 in
    record { app_is = is; own = not_true (out-Command parser).has_globals (both (not (out-Command parser).has_globals) _ after1).0 })

-- a command that is added last
pub added_last : {E : Type 0} (made : Result Command E) (old : Command) (app last : App) → app_of old ≡ app
    → IfOk made (λ new. app_of new ≡ with_subcommand (app_of old) last.top) → IfOk made (λ new. app_of new ≡ with_subcommand app last.top)
added_last made old app last is =
    IfOk-weaker made (λ new. app_of new ≡ with_subcommand (app_of old) last.top) (λ new. app_of new ≡ with_subcommand app last.top)
    (λ new added. added ∙ ap (λ (a : App). with_subcommand a last.top) is)
