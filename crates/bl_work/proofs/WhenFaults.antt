-- A `when` has one fault at most, and its names are names.
use Rattle.std.proofs.Common.{◌≡◌, ℕ, ◌≤◌, Bool, true, false, List, [], ◌∷◌, ◌++◌, refl, ap, sym, subst, ◌∙◌, arith}
use Rattle.std.specs.Prelude.{All, Contains}
use Rattle.std.proofs.lemmas.Bool.{false≢true}
use Rattle.std.proofs.lemmas.List.Elements.{All-cons, All-nil, All-head, All-tail, All-append}
use Rattle.bl_level.specs.Token.{Tok, reserved, sign}
use Rattle.bl_level.specs.Name.{IsName, AreProper}
use Rattle.bl_name.specs.declared.token.Keyword.TheVariants as word
use Rattle.bl_name.specs.declared.token.Sign.TheVariants.{Semicolon}
use Rattle.bl_work.specs.declared.asked.LineFault.{LineFault}
use Rattle.bl_work.specs.declared.asked.LineFault.TheVariants.{Long, Syntax, Deep, Many, Unknown, Twice, Mode, Memory}
use Rattle.bl_work.specs.Modes.{alters, is_write}
use Rattle.bl_work.specs.Names.{KnownNames}
use Rattle.bl_work.specs.Spelled.{SpelledAccess, SpelledBody, empty, show, say, add, set, copy, pour, if_then, if_else, spawn, spell_more, spell_body, spell_when}
use Rattle.bl_work.specs.First.{IsFirstWithout, IsNameOfFirst}
use Rattle.bl_work.specs.WhenFaults.{depth_in, IsShallow, AreFew, documents_in, names_in, names_of_when, Declaration, declarations_behind, declarations_in, declarations_of_when, IsOnce, Usage, uses_in, IsDeclared, IsFaultless}
use Rattle.bl_work.specs.FirstWhenFault.{same_name, declared_document, used_document, IsWhenFault}
use Rattle.bl_work.proofs.Lists.{proper_behind}
use Rattle.bl_work.proofs.FirstOnes.{one_first, none_first}

-- ---- one fault at most

pub one_named : {X : Type 0} (P : X → Type 0) (name_of : X → List ℕ) (xs : List X) (n m : List ℕ) → IsNameOfFirst P name_of xs n → IsNameOfFirst P name_of xs m → n ≡ m
one_named P name_of xs n m a b = sym a.name_is ∙ ap name_of (one_first P xs a.one b.one a.first b.first) ∙ b.name_is

pub none_named : {X : Type 0} (P : X → Type 0) (name_of : X → List ℕ) (xs : List X) (n : List ℕ) → All P xs → IsNameOfFirst P name_of xs n → ⊥
none_named P name_of xs n all f = none_first P xs f.one all f.first

module _ (names : KnownNames) (first : SpelledAccess) (more : List SpelledAccess) (body : SpelledBody) where
  pub faultless_no_fault : (f : LineFault) → IsFaultless names first more body → IsWhenFault names first more body f → ⊥
  faultless_no_fault Long none f = f
  faultless_no_fault (Syntax place) none f = f
  faultless_no_fault Deep none f = f none.shallow
  faultless_no_fault Many none f = f.1 none.few
  faultless_no_fault (Unknown n) none f = none_first (Contains names.documents) (names_of_when first more body) n none.known f.2
  faultless_no_fault (Twice n) none f = none_named IsOnce declared_document (declarations_of_when first more body) n none.once f.3
  faultless_no_fault (Mode n) none f = none_named IsDeclared used_document (uses_in (first ∷ more) body) n none.declared f.4
  faultless_no_fault Memory none f = f

  pub one_fault : (f g : LineFault) → IsWhenFault names first more body f → IsWhenFault names first more body g → f ≡ g
  one_fault Deep Deep a b = refl
  one_fault Deep Many a b = absurd (a b.0)
  one_fault Deep (Unknown m) a b = absurd (a b.0)
  one_fault Deep (Twice m) a b = absurd (a b.0)
  one_fault Deep (Mode m) a b = absurd (a b.0)
  one_fault Many Deep a b = absurd (b a.0)
  one_fault Many Many a b = refl
  one_fault Many (Unknown m) a b = absurd (a.1 b.1)
  one_fault Many (Twice m) a b = absurd (a.1 b.1)
  one_fault Many (Mode m) a b = absurd (a.1 b.1)
  one_fault (Unknown n) Deep a b = absurd (b a.0)
  one_fault (Unknown n) Many a b = absurd (b.1 a.1)
  one_fault (Unknown n) (Unknown m) a b = ap Unknown (one_first (Contains names.documents) (names_of_when first more body) n m a.2 b.2)
  one_fault (Unknown n) (Twice m) a b = absurd (none_first (Contains names.documents) (names_of_when first more body) n b.2 a.2)
  one_fault (Unknown n) (Mode m) a b = absurd (none_first (Contains names.documents) (names_of_when first more body) n b.2 a.2)
  one_fault (Twice n) Deep a b = absurd (b a.0)
  one_fault (Twice n) Many a b = absurd (b.1 a.1)
  one_fault (Twice n) (Unknown m) a b = absurd (none_first (Contains names.documents) (names_of_when first more body) m a.2 b.2)
  one_fault (Twice n) (Twice m) a b = ap Twice (one_named IsOnce declared_document (declarations_of_when first more body) n m a.3 b.3)
  one_fault (Twice n) (Mode m) a b = absurd (none_named IsOnce declared_document (declarations_of_when first more body) n b.3 a.3)
  one_fault (Mode n) Deep a b = absurd (b a.0)
  one_fault (Mode n) Many a b = absurd (b.1 a.1)
  one_fault (Mode n) (Unknown m) a b = absurd (none_first (Contains names.documents) (names_of_when first more body) m a.2 b.2)
  one_fault (Mode n) (Twice m) a b = absurd (none_named IsOnce declared_document (declarations_of_when first more body) m a.3 b.3)
  one_fault (Mode n) (Mode m) a b = ap Mode (one_named IsDeclared used_document (uses_in (first ∷ more) body) n m a.4 b.4)
  one_fault Long _ a b = absurd a
  one_fault (Syntax place) _ a b = absurd a
  one_fault Memory _ a b = absurd a
  one_fault _ Long a b = absurd b
  one_fault _ (Syntax place) a b = absurd b
  one_fault _ Memory a b = absurd b

-- ---- parts of lists

pub all_left : {X : Type 0} (P : X → Type 0) (xs ys : List X) → All P (xs ++ ys) → All P xs
all_left P [] ys all = All-nil P
all_left P (x ∷ xs) ys all = All-cons P x xs (All-head P x (xs ++ ys) all) (all_left P xs ys (All-tail P x (xs ++ ys) all))

pub all_right : {X : Type 0} (P : X → Type 0) (xs ys : List X) → All P (xs ++ ys) → All P ys
all_right P [] ys all = all
all_right P (x ∷ xs) ys all = all_right P xs ys (All-tail P x (xs ++ ys) all)

proper_front : (xs ys : List Tok) → AreProper (xs ++ ys) → AreProper xs
proper_front [] ys p = tt
proper_front (x ∷ xs) ys (here, more) = (here, proper_front xs ys more)

-- ---- the names of a `when` whose tokens are proper

more_names : (more : List SpelledAccess) (behind : List Tok) → AreProper (spell_more more behind) → All IsName (documents_in more) × AreProper behind
more_names [] behind p = (All-nil IsName, p)
more_names (access ∷ more) behind p =
    let found = more_names more behind p.1.1.1 in (All-cons IsName access.document (documents_in more) p.1.1.0 found.0, found.1)

body_names : (b : SpelledBody) → AreProper (spell_body b) → All IsName (names_in b)
body_names empty p = All-nil IsName
body_names (show document rest) p = All-cons IsName document (names_in rest) p.1.0 (body_names rest p.1.1.1)
body_names (say words rest) p = body_names rest p.1.1.1
body_names (add document words rest) p = All-cons IsName document (names_in rest) p.1.0 (body_names rest p.1.1.1.1)
body_names (set document words rest) p = All-cons IsName document (names_in rest) p.1.0 (body_names rest p.1.1.1.1)
body_names (copy from to rest) p =
    All-cons IsName from (to ∷ names_in rest) p.1.0 (All-cons IsName to (names_in rest) p.1.1.1.0 (body_names rest p.1.1.1.1.1))
body_names (pour from to rest) p =
    All-cons IsName from (to ∷ names_in rest) p.1.0 (All-cons IsName to (names_in rest) p.1.1.1.0 (body_names rest p.1.1.1.1.1))
body_names (if_then document asks words then_body rest) p =
    let behind : List Tok = reserved word.End ∷ sign Semicolon ∷ spell_body rest in
    let parts = p.1.1.1.1.1 in
    let closed = proper_behind (spell_body then_body) behind parts in
    All-cons IsName document (names_in then_body ++ names_in rest) p.1.0
    (All-append IsName (names_in then_body) (names_in rest) (body_names then_body (proper_front (spell_body then_body) behind parts)) (body_names rest closed.1.1))
body_names (if_else document asks words then_body else_body rest) p =
    let last : List Tok = reserved word.End ∷ sign Semicolon ∷ spell_body rest in
    let behind : List Tok = reserved word.Else ∷ (spell_body else_body ++ last) in
    let parts = p.1.1.1.1.1 in
    let other = (proper_behind (spell_body then_body) behind parts).1 in
    let closed = proper_behind (spell_body else_body) last other in
    All-cons IsName document (names_in then_body ++ (names_in else_body ++ names_in rest)) p.1.0
    (All-append IsName (names_in then_body) (names_in else_body ++ names_in rest) (body_names then_body (proper_front (spell_body then_body) behind parts))
    (All-append IsName (names_in else_body) (names_in rest) (body_names else_body (proper_front (spell_body else_body) last other)) (body_names rest closed.1.1)))
body_names (spawn first more body rest) p =
    let last : List Tok = reserved word.End ∷ sign Semicolon ∷ spell_body rest in
    let accesses = more_names more (reserved word.Do ∷ (spell_body body ++ last)) p.1.1.1.1 in
    let closed = proper_behind (spell_body body) last accesses.1.1 in
    All-append IsName (documents_in (first ∷ more)) (names_in body ++ names_in rest) (All-cons IsName first.document (documents_in more) p.1.1.1.0 accesses.0)
    (All-append IsName (names_in body) (names_in rest) (body_names body (proper_front (spell_body body) last accesses.1.1)) (body_names rest closed.1.1))

pub when_names : (first : SpelledAccess) (more : List SpelledAccess) (body : SpelledBody) → AreProper (spell_when first more body) → All IsName (names_of_when first more body)
when_names first more body p =
    let last : List Tok = reserved word.End ∷ [] in
    let accesses = more_names more (reserved word.Do ∷ (spell_body body ++ last)) p.1.1.1 in
    All-append IsName (documents_in (first ∷ more)) (names_in body) (All-cons IsName first.document (documents_in more) p.1.1.0 accesses.0)
    (body_names body (proper_front (spell_body body) last accesses.1.1))

-- ---- what is found is a name

abbrev declares_name : Declaration → Type 0
declares_name d = IsName (declared_document d)

abbrev uses_name : Usage → Type 0
uses_name u = IsName (used_document u)

behind_names : (earlier : List (List ℕ)) (accesses : List SpelledAccess) → All IsName (documents_in accesses) → All declares_name (declarations_behind earlier accesses)
behind_names earlier [] all = All-nil declares_name
behind_names earlier (access ∷ more) all =
    All-cons declares_name (record { earlier = earlier; document = access.document }) (declarations_behind (access.document ∷ earlier) more)
    (All-head IsName access.document (documents_in more) all) (behind_names (access.document ∷ earlier) more (All-tail IsName access.document (documents_in more) all))

declaration_names : (b : SpelledBody) → All IsName (names_in b) → All declares_name (declarations_in b)
declaration_names empty all = All-nil declares_name
declaration_names (show document rest) all = declaration_names rest (All-tail IsName document (names_in rest) all)
declaration_names (say words rest) all = declaration_names rest all
declaration_names (add document words rest) all = declaration_names rest (All-tail IsName document (names_in rest) all)
declaration_names (set document words rest) all = declaration_names rest (All-tail IsName document (names_in rest) all)
declaration_names (copy from to rest) all =
    declaration_names rest (All-tail IsName to (names_in rest) (All-tail IsName from (to ∷ names_in rest) all))
declaration_names (pour from to rest) all =
    declaration_names rest (All-tail IsName to (names_in rest) (All-tail IsName from (to ∷ names_in rest) all))
declaration_names (if_then document asks words then_body rest) all =
    let both = All-tail IsName document (names_in then_body ++ names_in rest) all in
    All-append declares_name (declarations_in then_body) (declarations_in rest) (declaration_names then_body (all_left IsName (names_in then_body) (names_in rest) both))
    (declaration_names rest (all_right IsName (names_in then_body) (names_in rest) both))
declaration_names (if_else document asks words then_body else_body rest) all =
    let three = All-tail IsName document (names_in then_body ++ (names_in else_body ++ names_in rest)) all in
    let two = all_right IsName (names_in then_body) (names_in else_body ++ names_in rest) three in
    All-append declares_name (declarations_in then_body) (declarations_in else_body ++ declarations_in rest)
    (declaration_names then_body (all_left IsName (names_in then_body) (names_in else_body ++ names_in rest) three))
    (All-append declares_name (declarations_in else_body) (declarations_in rest) (declaration_names else_body (all_left IsName (names_in else_body) (names_in rest) two))
    (declaration_names rest (all_right IsName (names_in else_body) (names_in rest) two)))
declaration_names (spawn first more body rest) all =
    let two = all_right IsName (documents_in (first ∷ more)) (names_in body ++ names_in rest) all in
    All-append declares_name (declarations_behind [] (first ∷ more)) (declarations_in body ++ declarations_in rest)
    (behind_names [] (first ∷ more) (all_left IsName (documents_in (first ∷ more)) (names_in body ++ names_in rest) all))
    (All-append declares_name (declarations_in body) (declarations_in rest) (declaration_names body (all_left IsName (names_in body) (names_in rest) two))
    (declaration_names rest (all_right IsName (names_in body) (names_in rest) two)))

use_names : (declared : List SpelledAccess) (b : SpelledBody) → All IsName (names_in b) → All uses_name (uses_in declared b)
use_names declared empty all = All-nil uses_name
use_names declared (show document rest) all =
    All-cons uses_name _ (uses_in declared rest) (All-head IsName document (names_in rest) all) (use_names declared rest (All-tail IsName document (names_in rest) all))
use_names declared (say words rest) all = use_names declared rest all
use_names declared (add document words rest) all =
    All-cons uses_name _ (uses_in declared rest) (All-head IsName document (names_in rest) all) (use_names declared rest (All-tail IsName document (names_in rest) all))
use_names declared (set document words rest) all =
    All-cons uses_name _ (uses_in declared rest) (All-head IsName document (names_in rest) all) (use_names declared rest (All-tail IsName document (names_in rest) all))
use_names declared (copy from to rest) all =
    let behind = All-tail IsName from (to ∷ names_in rest) all in
    All-cons uses_name _ (record { declared = declared; asked = is_write; document = to } ∷ uses_in declared rest) (All-head IsName from (to ∷ names_in rest) all)
    (All-cons uses_name (record { declared = declared; asked = is_write; document = to }) (uses_in declared rest) (All-head IsName to (names_in rest) behind) (use_names declared rest (All-tail IsName to (names_in rest) behind)))
use_names declared (pour from to rest) all =
    let behind = All-tail IsName from (to ∷ names_in rest) all in
    All-cons uses_name _ (record { declared = declared; asked = alters; document = to } ∷ uses_in declared rest) (All-head IsName from (to ∷ names_in rest) all)
    (All-cons uses_name (record { declared = declared; asked = alters; document = to }) (uses_in declared rest) (All-head IsName to (names_in rest) behind) (use_names declared rest (All-tail IsName to (names_in rest) behind)))
use_names declared (if_then document asks words then_body rest) all =
    let both = All-tail IsName document (names_in then_body ++ names_in rest) all in
    All-cons uses_name _ (uses_in declared then_body ++ uses_in declared rest) (All-head IsName document (names_in then_body ++ names_in rest) all)
    (All-append uses_name (uses_in declared then_body) (uses_in declared rest) (use_names declared then_body (all_left IsName (names_in then_body) (names_in rest) both))
    (use_names declared rest (all_right IsName (names_in then_body) (names_in rest) both)))
use_names declared (if_else document asks words then_body else_body rest) all =
    let three = All-tail IsName document (names_in then_body ++ (names_in else_body ++ names_in rest)) all in
    let two = all_right IsName (names_in then_body) (names_in else_body ++ names_in rest) three in
    All-cons uses_name _ (uses_in declared then_body ++ (uses_in declared else_body ++ uses_in declared rest))
    (All-head IsName document (names_in then_body ++ (names_in else_body ++ names_in rest)) all)
    (All-append uses_name (uses_in declared then_body) (uses_in declared else_body ++ uses_in declared rest)
    (use_names declared then_body (all_left IsName (names_in then_body) (names_in else_body ++ names_in rest) three))
    (All-append uses_name (uses_in declared else_body) (uses_in declared rest) (use_names declared else_body (all_left IsName (names_in else_body) (names_in rest) two))
    (use_names declared rest (all_right IsName (names_in else_body) (names_in rest) two))))
use_names declared (spawn first more body rest) all =
    let two = all_right IsName (documents_in (first ∷ more)) (names_in body ++ names_in rest) all in
    All-append uses_name (uses_in (first ∷ more) body) (uses_in declared rest) (use_names (first ∷ more) body (all_left IsName (names_in body) (names_in rest) two))
    (use_names declared rest (all_right IsName (names_in body) (names_in rest) two))

all_at : {X : Type 0} (P : X → Type 0) (before after : List X) (x : X) → All P (before ++ x ∷ after) → P x
all_at P before after x all = All-head P x after (all_right P before (x ∷ after) all)

pub named : {X : Type 0} (P : X → Type 0) (name_of : X → List ℕ) (xs : List X) (n : List ℕ) → All (λ x. IsName (name_of x)) xs → IsNameOfFirst P name_of xs n → IsName n
named P name_of xs n all f =
    subst IsName f.name_is (all_at (λ x. IsName (name_of x)) f.first.before f.first.after f.one (subst (All (λ x. IsName (name_of x))) f.first.split all))

-- the first unknown name is a name
pub unknown_named : (P : List ℕ → Type 0) (xs : List (List ℕ)) (n : List ℕ) → All IsName xs → IsNameOfFirst P (λ m. m) xs n → IsName n
unknown_named P xs n all f = named P (λ m. m) xs n all f

module _ (first : SpelledAccess) (more : List SpelledAccess) (body : SpelledBody) (all : All IsName (names_of_when first more body)) where
  -- a document that is declared twice has a name
  pub twice_named : (n : List ℕ) → IsNameOfFirst IsOnce declared_document (declarations_of_when first more body) n → IsName n
  twice_named n f = named IsOnce declared_document (declarations_of_when first more body) n
      (All-append declares_name (declarations_behind [] (first ∷ more)) (declarations_in body)
      (behind_names [] (first ∷ more) (all_left IsName (documents_in (first ∷ more)) (names_in body) all))
      (declaration_names body (all_right IsName (documents_in (first ∷ more)) (names_in body) all))) f

  -- a document that is not declared as a statement asks has a name
  pub undeclared_named : (n : List ℕ) → IsNameOfFirst IsDeclared used_document (uses_in (first ∷ more) body) n → IsName n
  undeclared_named n f = named IsDeclared used_document (uses_in (first ∷ more) body) n
      (use_names (first ∷ more) body (all_right IsName (documents_in (first ∷ more)) (names_in body) all)) f

-- ---- what each pass tells of the whole `when`

pub shallow_from : (body : SpelledBody) → depth_in body ≤ 7 → IsShallow body
shallow_from body le = omega (arith, le)

module _ (names : KnownNames) (first : SpelledAccess) (more : List SpelledAccess) (body : SpelledBody) where
  pub many_fault : (few : Bool) → few ≡ false → (AreFew first more body → few ≡ true) → IsShallow body → IsWhenFault names first more body Many
  many_fault few none all shallow = (shallow, λ p. false≢true (sym none ∙ all p))

  pub unknown_fault : (n m : List ℕ) → m ≡ n → IsShallow body → AreFew first more body
      → IsNameOfFirst (Contains names.documents) same_name (names_of_when first more body) n → IsWhenFault names first more body (Unknown m)
  unknown_fault n m same shallow few f =
      (shallow, few, subst (λ x. IsFirstWithout (Contains names.documents) (names_of_when first more body) x) (f.name_is ∙ sym same) f.first)

  pub twice_fault : (n m : List ℕ) → m ≡ n → IsShallow body → AreFew first more body → All (Contains names.documents) (names_of_when first more body)
      → IsNameOfFirst IsOnce declared_document (declarations_of_when first more body) n → IsWhenFault names first more body (Twice m)
  twice_fault n m same shallow few known f =
      (shallow, few, known, subst (λ x. IsNameOfFirst IsOnce declared_document (declarations_of_when first more body) x) (sym same) f)

  pub mode_fault : (n m : List ℕ) → m ≡ n → IsShallow body → AreFew first more body → All (Contains names.documents) (names_of_when first more body)
      → All IsOnce (declarations_of_when first more body) → IsNameOfFirst IsDeclared used_document (uses_in (first ∷ more) body) n
      → IsWhenFault names first more body (Mode m)
  mode_fault n m same shallow few known once f =
      (shallow, few, known, once, subst (λ x. IsNameOfFirst IsDeclared used_document (uses_in (first ∷ more) body) x) (sym same) f)

  -- what has a fault is not as it should be
  pub fault_not_ok : (f : LineFault) → IsWhenFault names first more body f
      → (false ≡ true → IsFaultless names first more body) × (IsFaultless names first more body → false ≡ true)
  fault_not_ok f fault = (λ e. absurd (false≢true e), λ none. absurd (faultless_no_fault names first more body f none fault))

  pub no_fault_ok : IsShallow body → AreFew first more body → All (Contains names.documents) (names_of_when first more body)
      → All IsOnce (declarations_of_when first more body) → All IsDeclared (uses_in (first ∷ more) body) → IsFaultless names first more body
  no_fault_ok shallow few known once declared = record { shallow = shallow; few = few; known = known; once = once; declared = declared }
