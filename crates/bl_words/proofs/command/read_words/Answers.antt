use Rattle.std.proofs.Common.{inl, inr, subst, sym, ◌∙◌, Option}
use Rattle.std.specs.Prelude.{IfNone, IfSome}
use Rattle.std.proofs.lemmas.Result.{err_from_is_err_and}
use Rattle.bl_words.specs.Words.{IsInRange, IsOf}
use Rattle.bl_words.specs.declared.command.Command.{Command}
use Rattle.bl_words.proofs.CommandLine.{matches_are_entered, faultless, has_fault}
use Rattle.bl_words.proofs.command.read_words.Goals as goal

-- the matches are those that the words have, and the command is theirs
pub returns-in-Some-clause-written : goal.returns-in-Some-clause-written
returns-in-Some-clause-written c =
    let matches = c.in_ok-matches in
    let of = subst (λ (o : Option Command). IfSome o (IsOf matches.matches)) c.in-Some.is c.in_ok-command.ensures.written in
    (of.0, sym (matches_are_entered _ _ matches.matches c.in_ok-parser.ensures matches.ensures.matches) ∙ of.1, of.2)

pub returns-in-Some-clause-range : goal.returns-in-Some-clause-range
returns-in-Some-clause-range c = subst (λ (o : Option Command). IfSome o IsInRange) c.in-Some.is c.in_ok-command.ensures.range

pub returns-in-Some-clause-faultless : goal.returns-in-Some-clause-faultless
returns-in-Some-clause-faultless c = faultless _ _ c.in_ok-parser.ensures c.in_ok-matches.ensures.kinds

pub returns-in_err-matches-clause-faults : goal.returns-in_err-matches-clause-faults
returns-in_err-matches-clause-faults c =
    let p = err_from_is_err_and c.from_residual-in_err-matches.result c.from_residual-in_err-matches.ensures.1 in
    rw p.1 (inl (has_fault _ _ c.in_ok-parser.ensures _ _ p.2 c.in_err-matches.ensures.kinds))

-- matches that are of no command are of words that name none
pub returns-in_ok-refusal-in-None-clause-faults : goal.returns-in_ok-refusal-in-None-clause-faults
returns-in_ok-refusal-in-None-clause-faults c =
    let matches = c.in_ok-matches in
    let same = matches_are_entered _ _ matches.matches c.in_ok-parser.ensures matches.ensures.matches in
    let none' = subst (λ (o : Option Command). IfNone o ((command : Command) → IsOf matches.matches command → IsInRange command → ⊥)) c.in-None.is
    c.in_ok-command.ensures.none in
    inr (c.in_ok-refusal-in-None.ensures, λ command named range. none' command (named.0, same ∙ named.1, named.2) range)
