-- A code for what holds statements: a tree of numbers that gives them back, by which a proof tells two of them apart.
use Rattle.std.specs.Prelude.{◌≡◌, ℕ, if◌then◌else◌, ◌==◌, List, [], ◌∷◌, refl}
use Rattle.std.specs.Coded.{Coded, coded_list, coded_ℕ, coded×, code_by}
use Rattle.std.proofs.Common.{sym, ◌∙◌, ap}
use base.Stored.{Gv, gnil, gnum, gcons, num}
use Rattle.bl_policy.specs.declared.access.Access.{Access}
use Rattle.bl_policy.specs.declared.access.Mode.{Mode}
use Rattle.bl_policy.specs.declared.access.Mode.TheVariants.{Read, Append, Write}
use Rattle.bl_work.specs.declared.script.Condition.{Condition}
use Rattle.bl_work.specs.declared.script.Condition.TheVariants.{Is, Has}
use Rattle.bl_work.specs.Statements.{Statements, Nothing, Show, Say, Add, Set, Copy, Pour, If, Spawn, Part}

abbrev pub left : Gv → Gv
left gnil = gnil
left (gnum n) = gnil
left (gcons a b) = a

abbrev pub right : Gv → Gv
right gnil = gnil
right (gnum n) = gnil
right (gcons a b) = b

abbrev pub text_code : List ℕ → Gv
text_code [] = gnil
text_code (x ∷ xs) = gcons (gnum x) (text_code xs)

abbrev pub text_back : Gv → List ℕ
text_back gnil = []
text_back (gnum n) = []
text_back (gcons a b) = num a ∷ text_back b

pub text_again : (t : List ℕ) → text_back (text_code t) ≡ t
text_again [] = refl
text_again (x ∷ xs) = ap (λ t. x ∷ t) (text_again xs)

abbrev pub asks_code : Condition → Gv
asks_code Is = gnil
asks_code Has = gnum 0

abbrev pub asks_back : Gv → Condition
asks_back gnil = Is
asks_back (gnum n) = Has
asks_back (gcons a b) = Has

-- one statement: which it is, what it has, its two bodies, and the rest
abbrev node : ℕ → Gv → Gv → Gv → Gv → Gv
node kind has then_body else_body rest = gcons (gnum kind) (gcons has (gcons (gcons then_body else_body) rest))

abbrev pub code : Statements → Gv
code Nothing = gnil
code (Show doc rest) = node 0 (gnum doc) gnil gnil (code rest)
code (Say text rest) = node 1 (text_code text) gnil gnil (code rest)
code (Add doc text rest) = node 2 (gcons (gnum doc) (text_code text)) gnil gnil (code rest)
code (Set doc text rest) = node 3 (gcons (gnum doc) (text_code text)) gnil gnil (code rest)
code (Copy from to rest) = node 4 (gcons (gnum from) (gnum to)) gnil gnil (code rest)
code (Pour from to rest) = node 5 (gcons (gnum from) (gnum to)) gnil gnil (code rest)
code (If doc asks text then_body else_body rest) =
    node 6 (gcons (gnum doc) (gcons (asks_code asks) (text_code text))) (code then_body) (code else_body) (code rest)
code (Spawn behaviour rest) = node 7 (gnum behaviour) gnil gnil (code rest)

abbrev build : ℕ → Gv → Statements → Statements → Statements → Statements
build kind has then_body else_body rest =
    if kind == 0 then Show (num has) rest
    else (if kind == 1 then Say (text_back has) rest
    else (if kind == 2 then Add (num (left has)) (text_back (right has)) rest
    else (if kind == 3 then Set (num (left has)) (text_back (right has)) rest
    else (if kind == 4 then Copy (num (left has)) (num (right has)) rest
    else (if kind == 5 then Pour (num (left has)) (num (right has)) rest
    else (if kind == 6 then If (num (left has)) (asks_back (left (right has))) (text_back (right (right has))) then_body else_body rest
    else Spawn (num has) rest))))))

abbrev pub back : Gv → Statements
back (gcons kind (gcons has (gcons (gcons then_body else_body) rest))) =
    build (num kind) has (back then_body) (back else_body) (back rest)
back _ = Nothing

pub asks_again : (asks : Condition) → asks_back (asks_code asks) ≡ asks
asks_again Is = refl
asks_again Has = refl

pub again : (body : Statements) → back (code body) ≡ body
again Nothing = refl
again (Show doc rest) = λ i. Show doc (again rest i)
again (Say text rest) = λ i. Say (text_again text i) (again rest i)
again (Add doc text rest) = λ i. Add doc (text_again text i) (again rest i)
again (Set doc text rest) = λ i. Set doc (text_again text i) (again rest i)
again (Copy from to rest) = λ i. Copy from to (again rest i)
again (Pour from to rest) = λ i. Pour from to (again rest i)
again (If doc asks text then_body else_body rest) =
    λ i. If doc (asks_again asks i) (text_again text i) (again then_body i) (again else_body i) (again rest i)
again (Spawn behaviour rest) = λ i. Spawn behaviour (again rest i)

abbrev pub coded_statements : Coded Statements
coded_statements = record { code = code; inj = λ x y p. sym (again x) ∙ ap back p ∙ again y }

abbrev pub mode_code : Mode → ℕ
mode_code Read = 0
mode_code Append = 1
mode_code Write = 2

abbrev pub mode_back : ℕ → Mode
mode_back n = if n == 0 then Read else (if n == 1 then Append else Write)

pub mode_again : (mode : Mode) → mode_back (mode_code mode) ≡ mode
mode_again Read = refl
mode_again Append = refl
mode_again Write = refl

abbrev pub coded_mode : Coded Mode
coded_mode = code_by ℕ coded_ℕ mode_code mode_back mode_again

abbrev pub coded_access : Coded Access
coded_access =
    code_by (Mode × ℕ) (coded× coded_mode coded_ℕ) (λ a. (a.mode, a.doc)) (λ p. record { mode = p.0; doc = p.1 }) (λ _. refl)

abbrev pub coded_part : Coded Part
coded_part =
    code_by (List Access × Statements) (coded× (coded_list coded_access) coded_statements) (λ a. (a.accesses, a.body))
    (λ p. record { accesses = p.0; body = p.1 }) (λ _. refl)
