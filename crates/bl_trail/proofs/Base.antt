-- The base setup of the examples, and the lines that they speak of.
use Rattle.std.specs.Prelude.{ℕ, suc, Bool, true, false, List, [], ◌∷◌, Some, codes}
use Rattle.bl_level.specs.Level.{SecurityLevel}
use Rattle.bl_policy.specs.Policy.{SecurityPolicy, Clearance, no_policy, with_subject, with_document, with_reserved, with_modes}
use Rattle.bl_policy.specs.declared.access.ModeSet.{ModeSet}
use Rattle.bl_work.specs.Names.{KnownNames}
use Rattle.bl_policy.specs.declared.access.Access.{Access}
use Rattle.bl_policy.specs.declared.access.Mode.{Mode}
use Rattle.bl_policy.specs.declared.access.Mode.TheVariants.{Read, Write}
use Rattle.bl_policy.specs.declared.denial.Clause.{Clause}
use Rattle.bl_policy.specs.declared.rule.Rule.{Rule}
use Rattle.bl_policy.specs.declared.rule.Rule.TheVariants.{Current, Create, Delete}
use Rattle.bl_work.specs.Statements.{Statements, Part, Nothing, Show, Add, Spawn}
use Rattle.bl_work.specs.declared.work.Work.{Work}
use Rattle.bl_work.specs.declared.work.Work.TheVariants as work
use Rattle.bl_work.specs.declared.answer.Answer.{Answer}
use Rattle.bl_work.specs.declared.answer.Answer.TheVariants.{Denied}
use Rattle.bl_setup.specs.Setup.{Setup}
use Rattle.bl_setup.specs.declared.version.Version.TheVariants.{Two}
use Rattle.bl_order.specs.Order.{Entry, Line}
use Rattle.bl_order.specs.Past.{place}
use Rattle.bl_order.specs.Machine.{Event, Opens, Admits, Starts, Ends}

-- the subjects and the documents by their positions
abbrev pub ann : ℕ
ann = 0

abbrev pub bob : ℕ
bob = 1

abbrev pub cat : ℕ
cat = 2

abbrev pub root : ℕ
root = 3

-- of the setup with one subject more
abbrev pub dan : ℕ
dan = 4

abbrev pub memo : ℕ
memo = 0

abbrev pub note : ℕ
note = 1

abbrev pub log : ℕ
log = 2

-- of the setup with two reserved documents
abbrev pub draft : ℕ
draft = 3

abbrev pub top : ℕ
top = 4

-- ranks u, c, s, t from 0; the categories nato and crypto have the bits 1 and 2
abbrev pub u : SecurityLevel
u = record { rank = 0; categories = 0 }

abbrev pub c : SecurityLevel
c = record { rank = 1; categories = 0 }

abbrev pub s : SecurityLevel
s = record { rank = 2; categories = 0 }

abbrev pub t : SecurityLevel
t = record { rank = 3; categories = 0 }

abbrev pub s_nato : SecurityLevel
s_nato = record { rank = 2; categories = 1 }

abbrev pub s_crypto : SecurityLevel
s_crypto = record { rank = 2; categories = 2 }

abbrev pub t_both : SecurityLevel
t_both = record { rank = 3; categories = 3 }

-- a greatest level, a current one, and whether the subject is trusted and an administrator
abbrev pub cleared : SecurityLevel → SecurityLevel → Bool → Clearance
cleared greatest current privileged = record { greatest = greatest; current = current; trusted = privileged; admin = privileged }

-- the bytes of `m1` and of `n1`
abbrev pub m1 : List ℕ
m1 = codes "m1"

abbrev pub n1 : List ℕ
n1 = codes "n1"

abbrev pub names : KnownNames
names = record {
  scheme = record {
    ranks = codes "u" ∷ codes "c" ∷ codes "s" ∷ codes "t" ∷ [];
    categories = codes "nato" ∷ codes "crypto" ∷ [];
  };
  subjects = codes "ann" ∷ codes "bob" ∷ codes "cat" ∷ codes "root" ∷ [];
  documents = codes "memo" ∷ codes "note" ∷ codes "log" ∷ [];
}

-- sets of modes: 1 is read, 2 is append, 4 is write
abbrev pub modes : ℕ → ModeSet
modes bits = record { 0 = bits }

abbrev pub cleared_all : SecurityPolicy
cleared_all =
    with_subject (with_subject (with_subject (with_subject no_policy
    (cleared s_nato s_nato false)) (cleared s_nato u false)) (cleared s_crypto s_crypto false)) (cleared t_both u true)

abbrev pub classified_all : SecurityPolicy
classified_all = with_document (with_document (with_document cleared_all s_nato) u) t_both

abbrev pub allowed_all : SecurityPolicy
allowed_all =
    with_modes (with_modes (with_modes (with_modes (with_modes (with_modes (with_modes classified_all
    ann memo (modes 5)) ann note (modes 5)) ann log (modes 3)) bob memo (modes 7)) bob note (modes 5)) cat memo (modes 1))
    root note (modes 5)

abbrev pub base : Setup
base = record { names = names; policy = allowed_all; contents = m1 ∷ n1 ∷ [] ∷ []; version = Two }

-- base, and behind it `subject dan greatest u current u admin`
abbrev pub with_dan : Setup
with_dan = record {
  names = record names { subjects = codes "ann" ∷ codes "bob" ∷ codes "cat" ∷ codes "root" ∷ codes "dan" ∷ [] };
  policy = with_subject allowed_all (record { greatest = u; current = u; trusted = false; admin = true });
  contents = m1 ∷ n1 ∷ [] ∷ [];
  version = Two;
}

-- base, and behind it `reserve draft u` and `reserve top t`
abbrev pub with_reserves : Setup
with_reserves = record {
  names = record names { documents = codes "memo" ∷ codes "note" ∷ codes "log" ∷ codes "draft" ∷ codes "top" ∷ [] };
  policy = with_reserved (with_reserved allowed_all u) t;
  contents = m1 ∷ n1 ∷ [] ∷ [] ∷ [] ∷ [];
  version = Two;
}

abbrev pub access : Mode → ℕ → Access
access mode doc = record { mode = mode; doc = doc }

abbrev pub behaves : List Access → Statements → Part
behaves accesses body = record { accesses = accesses; body = body }

-- `when .. do .. end` with no spawn
abbrev pub when : List Access → Statements → Work
when accesses body = work.Behaviour (behaves accesses body ∷ [])

-- `when read D do show D; end`
abbrev pub reads : ℕ → Work
reads doc = when (access Read doc ∷ []) (Show doc Nothing)

-- so many lines of one session of the subject
abbrev pub lines_from : ℕ → ℕ → List Work → List Entry
lines_from ordinal subject [] = []
lines_from ordinal subject (work ∷ works) = Line 0 ordinal subject work ∷ lines_from (suc ordinal) subject works

abbrev pub lines : ℕ → List Work → List Entry
lines subject works = lines_from 1 subject works

-- a line of this subject
abbrev pub asks : ℕ → Work → Entry
asks subject work = Line 0 0 subject work

-- a line of this subject that is a rule
abbrev pub rules : ℕ → Rule → Entry
rules subject rule = asks subject (work.Rule rule)

-- the answer at a place, where nothing is lost
abbrev pub answer_at : List Entry → ℕ → Answer
answer_at order n = (place base (λ n. false) order n).answer

abbrev pub denied_for : Clause → ℕ → ℕ → Answer
denied_for clause subject doc = Denied (record { clause = clause; subject = subject; object = Some doc })

-- the events of `read-one` with one worker
abbrev pub read_one : List Event
read_one = Opens ann ∷ Admits 0 1 (reads memo) ∷ Starts 0 ∷ Ends 0 ∷ []

-- line that adds `a` and spawns a reader
abbrev pub adds_a : Work
adds_a =
    work.Behaviour (
    behaves (access Write memo ∷ []) (Add memo (97 ∷ []) (Spawn 1 Nothing)) ∷ behaves (access Read memo ∷ []) (Show memo Nothing) ∷ [])

abbrev pub adds_b : Work
adds_b = when (access Write memo ∷ []) (Add memo (98 ∷ []) Nothing)

abbrev pub later_child : List Event
later_child = Opens ann ∷ Admits 0 1 adds_a ∷ Admits 0 2 adds_b ∷ Starts 0 ∷ Ends 0 ∷ Starts 1 ∷ Ends 1 ∷ Starts 2 ∷ Ends 2 ∷ []

-- a line that reads the memo and spawns a child that adds `x` to the note
abbrev pub reads_then_adds : Work
reads_then_adds =
    work.Behaviour (
    behaves (access Read memo ∷ []) (Spawn 1 Nothing) ∷ behaves (access Write note ∷ []) (Add note (120 ∷ []) Nothing) ∷ [])

-- bob reads the memo at its level, and the child of that line starts when bob's current level is low again
abbrev pub carried_level : List Event
carried_level =
    Opens bob ∷ Admits 0 1 (work.Rule (Current s_nato)) ∷ Admits 0 2 reads_then_adds ∷ Admits 0 3 (work.Rule (Current u)) ∷ Starts 0
    ∷ Starts 1 ∷ Ends 1 ∷ Starts 2 ∷ Starts 3 ∷ []

-- root creates a document twice, deletes it and reads it
abbrev pub comes_and_goes : List Event
comes_and_goes =
    Opens root ∷ Admits 0 1 (work.Rule (Create draft)) ∷ Admits 0 2 (work.Rule (Create draft)) ∷ Admits 0 3 (work.Rule (Delete draft))
    ∷ Admits 0 4 (reads draft) ∷ Starts 0 ∷ Starts 1 ∷ Starts 2 ∷ Starts 3 ∷ []
