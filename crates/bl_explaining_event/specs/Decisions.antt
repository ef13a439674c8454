-- The decision at the start that is an event of a trail, and what is told of it.
use Rattle.std.specs.Prelude.{◌≡◌, ◌⊎◌, ◌+◌, ◌<◌, ◌≤◌, ℕ, suc, Bool, List, [], ◌∷◌, ◌++◌, codes, decimal}
use Rattle.bl_policy.specs.declared.rule.Rule.{Rule}
use Rattle.bl_work.specs.Names.{KnownNames}
use Rattle.bl_work.specs.declared.asked.Line.TheVariants as line
use Rattle.bl_work.specs.declared.work.Work.TheVariants as work
use Rattle.bl_write.specs.CanonicalLine.{canonical_line}
use Rattle.bl_setup.specs.Setup.{Setup}
use Rattle.bl_order.specs.Labels.{Tag, tag}
use Rattle.bl_order.specs.Machine.{Event, Needs, Opens, Admits, Starts, Ends, Loses, State, past_at}
use Rattle.bl_order.specs.Now.{policy_now}
use Rattle.bl_order.specs.Order.{Task, Runs, Applies, accesses_of}
use Rattle.bl_trail.specs.EventText.{event_text}
use Rattle.bl_trail.specs.TrueText.{FirstWrong, IsTrueText}
use Rattle.bl_wire.specs.Replies.{label_text}
use Rattle.bl_status.specs.declared.fault.ProgramFault.TheVariants as program
use Rattle.bl_rebuild.specs.Rebuilds.{IsOld}
use Rattle.bl_explain_text.specs.Reasons.{joined}
use Rattle.bl_ruled.specs.Ruled.{IsBehindStop, IsFront, front_end, front_rules}
use Rattle.bl_explaining.specs.Explained.{TellsAccesses, TellsRule}
use Rattle.bl_explaining.specs.declared.setting.Setting.{Setting}
use Rattle.bl_explaining_event.specs.declared.fault.EventFault.{EventFault}
use Rattle.bl_explaining_event.specs.declared.fault.EventFault.TheVariants as failing

-- the trail is right up to this event, which may come next behind the events before it
pub record HasEventAt (setup : Setup) (trail : List ℕ) (number : ℕ) (event : Event) : Type 0 where
  pub before : ℕ
  pub counted : number ≡ suc before
  pub front : IsFront setup trail before
  pub needs : Needs (front_end setup trail before front) event
  pub more : List ℕ
  pub line : front.rest ≡ event_text (front_end setup trail before front) event ++ 10 ∷ more

-- own choice: which start it is: the event, the place that starts, and whose line that is or descends from, with its label
abbrev pub start_line : ℕ → ℕ → Tag → List ℕ
start_line number n tag =
    joined (
    codes "event "
    ∷ decimal number
    ∷ codes ", start of entry "
    ∷ decimal n
    ∷ codes ", line "
    ∷ decimal tag.session
    ∷ codes ":"
    ∷ label_text tag.label
    ∷ codes "\n"
    ∷ []
    )

-- the words of a rule behind a blank, as they were asked
abbrev pub rule_words : KnownNames → Rule → List ℕ
rule_words names rule = 32 ∷ canonical_line names (line.Work (work.Rule rule))

-- what is told of a task: of a behaviour its accesses, of a rule its conditions
abbrev pub TellsTask : Setting → Task → List ℕ → Bool → Type 0
TellsTask t (Runs script index) text granted = TellsAccesses t (accesses_of (Runs script index)) text granted
TellsTask t (Applies rule) text granted = TellsRule t rule (rule_words t.moment.setup.now.names rule) text granted

-- what is told of the start of place n, in this setting: by its subject, with what it carried, as it found the state
pub record TellsStart (t : Setting) (x : State) (number n : ℕ) (text : List ℕ) (granted : Bool) : Type 0 where
  pub subject : t.subject ≡ (past_at x n).subject
  pub carried : t.carried ≡ (past_at x n).carried
  pub told : List ℕ
  pub tells : TellsTask t (past_at x n).task told granted
  pub text_is : text ≡ start_line number n (tag x.order n) ++ told

-- the text is what is told of the decision at the start that is this event of the trail, and it was granted, or not
pub record IsDecision (setup : Setup) (bytes trail path : List ℕ) (number : ℕ) (text : List ℕ) (granted : Bool) : Type 0 where
  pub n : ℕ
  pub at : HasEventAt setup trail number (Starts n)
  pub t : Setting
  pub setup_is : t.moment.setup.now ≡ setup
  pub bytes_is : t.moment.bytes.now ≡ bytes
  pub path_is : t.path.now ≡ path
  pub rules_are : t.moment.rules.now ≡ front_rules setup trail at.before at.front
  pub policy_is : t.moment.policy.now ≡ policy_now (front_end setup trail at.before at.front)
  pub told : TellsStart t (front_end setup trail at.before at.front) number n text granted

-- the event is no start
abbrev pub IsNoStart : Event → Type 0
IsNoStart (Opens subject) = Unit {0}
IsNoStart (Admits session ordinal asked) = Unit {0}
IsNoStart (Starts n) = ⊥
IsNoStart (Ends n) = Unit {0}
IsNoStart (Loses n) = Unit {0}

-- why no decision is told: an accepted trail has no such event, and none has one of number 0; the event is no start; the trail is of version
-- 1, of which no hall is, or it is wrong, at a line among those of the events up to there, or behind a `stop` before that; or memory was refused
abbrev pub HasNoDecision : Setup → List ℕ → ℕ → EventFault → Type 0
HasNoDecision setup trail number (failing.NoEvent event) =
    (event ≡ number) × ((number ≡ 0) ⊎ ((fewer : ℕ) × IsTrueText setup trail fewer × (fewer < number)))
HasNoDecision setup trail number (failing.StartsNothing event) =
    (event ≡ number) × ((other : Event) × HasEventAt setup trail number other × IsNoStart other)
HasNoDecision setup trail number (failing.Program fault) =
    (fault ≡ program.NoMemory) ⊎ (((fault ≡ program.OldVersion) × IsOld setup trail)
    ⊎ ((line : ℕ) × (fault ≡ program.WrongAt line) × FirstWrong setup trail line × ((line ≤ number + 2) ⊎ IsBehindStop trail number line)))
