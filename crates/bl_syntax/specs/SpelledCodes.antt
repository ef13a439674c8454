-- A code for spelled bodies: a tree of numbers that gives them back, by which a proof tells two of them apart.
use Rattle.std.specs.Prelude.{◌≡◌, ℕ, if◌then◌else◌, ◌==◌, List, [], ◌∷◌, refl}
use Rattle.std.specs.Coded.{Coded}
use Rattle.std.proofs.Common.{sym, ◌∙◌, ap}
use base.Stored.{Gv, gnil, gnum, gcons, num}
use Rattle.bl_work.specs.Codes.{left, right, text_code, text_back, text_again, asks_code, asks_back, asks_again, mode_code, mode_back, mode_again}
use Rattle.bl_work.specs.Spelled.{SpelledAccess, SpelledBody, empty, show, say, add, set, copy, pour, if_then, if_else, spawn}

abbrev access_code : SpelledAccess → Gv
access_code access = gcons (gnum (mode_code access.mode)) (text_code access.document)

abbrev access_back : Gv → SpelledAccess
access_back g = record { mode = mode_back (num (left g)); document = text_back (right g) }

access_again : (access : SpelledAccess) → access_back (access_code access) ≡ access
access_again access = λ i. record { mode = mode_again access.mode i; document = text_again access.document i }

abbrev more_code : List SpelledAccess → Gv
more_code [] = gnil
more_code (access ∷ more) = gcons (access_code access) (more_code more)

abbrev more_back : Gv → List SpelledAccess
more_back gnil = []
more_back (gnum n) = []
more_back (gcons a b) = access_back a ∷ more_back b

more_again : (more : List SpelledAccess) → more_back (more_code more) ≡ more
more_again [] = refl
more_again (access ∷ more) = λ i. access_again access i ∷ more_again more i

-- one statement: which it is, what it has, its two bodies, and the rest
abbrev node : ℕ → Gv → Gv → Gv → Gv → Gv
node kind has then_body else_body rest = gcons (gnum kind) (gcons has (gcons (gcons then_body else_body) rest))

abbrev pub code : SpelledBody → Gv
code empty = gnil
code (show document rest) = node 0 (text_code document) gnil gnil (code rest)
code (say words rest) = node 1 (text_code words) gnil gnil (code rest)
code (add document words rest) = node 2 (gcons (text_code document) (text_code words)) gnil gnil (code rest)
code (set document words rest) = node 3 (gcons (text_code document) (text_code words)) gnil gnil (code rest)
code (copy from to rest) = node 4 (gcons (text_code from) (text_code to)) gnil gnil (code rest)
code (pour from to rest) = node 5 (gcons (text_code from) (text_code to)) gnil gnil (code rest)
code (if_then document asks words then_body rest) =
    node 6 (gcons (text_code document) (gcons (asks_code asks) (text_code words))) (code then_body) gnil (code rest)
code (if_else document asks words then_body else_body rest) =
    node 7 (gcons (text_code document) (gcons (asks_code asks) (text_code words))) (code then_body) (code else_body) (code rest)
code (spawn first more body rest) = node 8 (gcons (access_code first) (more_code more)) (code body) gnil (code rest)

abbrev build : ℕ → Gv → SpelledBody → SpelledBody → SpelledBody → SpelledBody
build kind has then_body else_body rest =
    if kind == 0 then show (text_back has) rest
    else (if kind == 1 then say (text_back has) rest
    else (if kind == 2 then add (text_back (left has)) (text_back (right has)) rest
    else (if kind == 3 then set (text_back (left has)) (text_back (right has)) rest
    else (if kind == 4 then copy (text_back (left has)) (text_back (right has)) rest
    else (if kind == 5 then pour (text_back (left has)) (text_back (right has)) rest
    else (if kind == 6 then if_then (text_back (left has)) (asks_back (left (right has))) (text_back (right (right has))) then_body rest
    else (if kind == 7 then if_else (text_back (left has)) (asks_back (left (right has))) (text_back (right (right has))) then_body else_body rest
    else spawn (access_back (left has)) (more_back (right has)) then_body rest)))))))

abbrev pub back : Gv → SpelledBody
back (gcons kind (gcons has (gcons (gcons then_body else_body) rest))) =
    build (num kind) has (back then_body) (back else_body) (back rest)
back _ = empty

pub again : (body : SpelledBody) → back (code body) ≡ body
again empty = refl
again (show document rest) = λ i. show (text_again document i) (again rest i)
again (say words rest) = λ i. say (text_again words i) (again rest i)
again (add document words rest) = λ i. add (text_again document i) (text_again words i) (again rest i)
again (set document words rest) = λ i. set (text_again document i) (text_again words i) (again rest i)
again (copy from to rest) = λ i. copy (text_again from i) (text_again to i) (again rest i)
again (pour from to rest) = λ i. pour (text_again from i) (text_again to i) (again rest i)
again (if_then document asks words then_body rest) =
    λ i. if_then (text_again document i) (asks_again asks i) (text_again words i) (again then_body i) (again rest i)
again (if_else document asks words then_body else_body rest) =
    λ i. if_else (text_again document i) (asks_again asks i) (text_again words i) (again then_body i) (again else_body i) (again rest i)
again (spawn first more body rest) =
    λ i. spawn (access_again first i) (more_again more i) (again body i) (again rest i)

abbrev pub coded_body : Coded SpelledBody
coded_body = record { code = code; inj = λ x y p. sym (again x) ∙ ap back p ∙ again y }
