-- What is heard first of who comes by a door.
use Rattle.std.proofs.Common.{◌≡◌, ◌≢◌, ℕ, zero, suc, ◌≤◌, ◌<◌, true, false, cond, List, [], ◌∷◌, ◌++◌, length, length-append, get_or, ◌&&◌, Bool, refl, sym, ap, subst, ◌∙◌, arith, rules, append-nil, codes, eqb, ne_eqb, Some}
use Rattle.std.specs.Prelude.{All, IsTrue}
use Rattle.std.specs.List.{list_all}
use Rattle.std.specs.Str.{bytes_eq}
use Rattle.std.proofs.lemmas.List.Elements.{All-cons, All-nil}
use Rattle.std.proofs.lemmas.Bool.Decides.{nat_tests}
use Rattle.std.proofs.lemmas.List.Quantifiers.{position-Some}
use Rattle.std.proofs.lemmas.Slice.Eq.{bytes_eq-Decides}
use Rattle.bl_name.specs.Lexing.{is_word_byte}
use Rattle.bl_name.specs.Name.{IsName, IsWord, AreProper}
use Rattle.bl_name.specs.Table.{IsTable, place_of}
use Rattle.bl_name.specs.Token.{Tok, reserved, name}
use Rattle.bl_name.specs.Lexing.{Begins}
use Rattle.bl_name.specs.Canonical.{canonical}
use Rattle.bl_name.specs.declared.token.Keyword.TheVariants.{Hello}
use Rattle.bl_work.specs.Names.{KnownNames}
use Rattle.bl_work.specs.Grammar as spelling
use Rattle.bl_work.specs.LineGrammar.{LineOf}
use Rattle.bl_work.specs.declared.asked.Line.{Line}
use Rattle.bl_work.specs.declared.asked.Line.TheVariants as lines
use Rattle.bl_work.specs.declared.asked.LineFault.{LineFault}
use Rattle.bl_work.specs.declared.asked.LineFault.TheVariants.{Memory}
use Rattle.bl_read.specs.LineFaults.{IsLineFault}
use Rattle.bl_wire.specs.Lines.{HasNoLf, is_blank, without_cr}
use Rattle.bl_wire.specs.Turns.{IsTurn}
use Rattle.bl_wire.specs.declared.turn.Turn.{Turn}
use Rattle.bl_wire.specs.declared.turn.Turn.TheVariants.{Skip, Wait, Greets, Bad, Ask}
use Rattle.bl_engine.proofs.LineLaws.{AreLines-whole}
use Rattle.bl_doors.specs.Greetings.{SpeaksFor, hello_line}

-- ---- the bytes of a name

word_high : (b : ℕ) → is_word_byte b ≡ true → 32 < b
word_high b is = grind (arith, nat_tests)

and_left : (a b : Bool) → (a && b) ≡ true → a ≡ true
and_left true b e = refl
and_left false b e = absurd (cc)

and_right : (a b : Bool) → (a && b) ≡ true → b ≡ true
and_right true b e = e
and_right false b e = absurd (cc)

-- each byte is above 31
abbrev Plain : List ℕ → Type 0
Plain [] = Unit {0}
Plain (b ∷ bytes) = (31 < b) × Plain bytes

word_plain : (bytes : List ℕ) → list_all is_word_byte bytes ≡ true → Plain bytes
word_plain [] is = tt
word_plain (b ∷ bytes) is = (omega (arith, word_high b (and_left (is_word_byte b) (list_all is_word_byte bytes) is)), word_plain bytes (and_right (is_word_byte b) (list_all is_word_byte bytes) is))

name_plain : (bytes : List ℕ) → IsName bytes → Plain bytes
name_plain [] is = absurd is.0
name_plain (b ∷ bytes) is = word_plain (b ∷ bytes) is.0.1

name_short : (bytes : List ℕ) → IsName bytes → length bytes ≤ 32
name_short [] is = absurd is.0
name_short (b ∷ bytes) is = is.0.2

line_plain : (bytes : List ℕ) → Plain bytes → Plain (hello_line bytes)
line_plain bytes plain = (omega arith, (omega arith, (omega arith, (omega arith, (omega arith, (omega arith, plain))))))

no_lf : (line : List ℕ) → Plain line → HasNoLf line
no_lf [] plain = All-nil (λ b. b ≢ 10)
no_lf (b ∷ line) plain = All-cons (λ b. b ≢ 10) b line (λ e. omega (arith, plain.0)) (no_lf line plain.1)

no_cr : (line : List ℕ) → Plain line → without_cr line ≡ line
no_cr [] plain = refl
no_cr (b ∷ []) plain = ap (λ t. cond t [] (b ∷ [])) (ne_eqb b 13 (λ e. omega (arith, plain.0)))
no_cr (b ∷ c ∷ line) plain = ap (λ l. b ∷ l) (no_cr (c ∷ line) plain.1)

-- ---- how the line reads

canonical_is : (n : List ℕ) → canonical (reserved Hello ∷ name n ∷ []) ≡ hello_line n
canonical_is n = ap (λ l. 104 ∷ 101 ∷ 108 ∷ 108 ∷ 111 ∷ 32 ∷ l) (append-nil n)

-- what the laws of the tokens and of the lines say
abbrev ReadsAgain : Type 0
ReadsAgain = (tokens : List Tok) → AreProper tokens → Begins (canonical tokens) tokens []

abbrev AsksOne : Type 0
AsksOne = (names : KnownNames) (bytes : List ℕ) (l m : Line) → LineOf names bytes l → LineOf names bytes m → l ≡ m

abbrev AsksOrFails : Type 0
AsksOrFails = (names : KnownNames) (bytes : List ℕ) (l : Line) (f : LineFault) → LineOf names bytes l → IsLineFault names bytes f → f ≡ Memory

is_hello : ReadsAgain → (names : KnownNames) (n : List ℕ) (subject : ℕ) → IsName n → place_of n names.subjects ≡ Some subject → LineOf names (hello_line n) (lines.Hello subject)
is_hello again names n subject is place = record {
  short = omega (arith, name_short n is, length-append (codes "hello ") n);
  spelled = spelling.hello n;
  reads = subst (λ l. Begins l (reserved Hello ∷ name n ∷ []) []) (canonical_is n) (again (reserved Hello ∷ name n ∷ []) (tt, (is, tt)));
  means = place;
}

known_name : (names : KnownNames) (n : List ℕ) (subject : ℕ) → IsTable names.subjects → place_of n names.subjects ≡ Some subject → IsName n
known_name names n subject table place =
    let found = position-Some (bytes_eq n) names.subjects subject n place in
    subst IsName (sym ((bytes_eq-Decides n (get_or names.subjects subject n)).0 found.1)) (table.proper subject n found.0)

only_hello : AsksOne → AsksOrFails → (names : KnownNames) (line : List ℕ) (subject : ℕ) → is_blank (without_cr line) ≡ false
    → LineOf names (without_cr line) (lines.Hello subject) → (turn : Turn) → IsTurn names line turn → turn ≡ Greets subject
only_hello one either names line subject filled is Skip turn = absurd (cc)
only_hello one either names line subject filled is Wait turn = (let e : lines.Wait ≡ lines.Hello subject = one names (without_cr line) lines.Wait (lines.Hello subject) turn.1 is in absurd (cc))
only_hello one either names line subject filled is (Greets s) turn =
    (let e : lines.Hello s ≡ lines.Hello subject = one names (without_cr line) (lines.Hello s) (lines.Hello subject) turn.1 is in let same : s ≡ subject = cc in ap Greets same)
only_hello one either names line subject filled is (Bad fault) turn = absurd (turn.1.1 (either names (without_cr line) (lines.Hello subject) fault is turn.1.0))
only_hello one either names line subject filled is (Ask work) turn =
    (let e : lines.Work work ≡ lines.Hello subject = one names (without_cr line) (lines.Work work) (lines.Hello subject) turn.1 is in absurd (cc))

pub speaks_for : ReadsAgain → AsksOne → AsksOrFails → (names : KnownNames) (n : List ℕ) (subject : ℕ) → IsTable names.subjects → place_of n names.subjects ≡ Some subject
    → SpeaksFor names n subject
speaks_for again one either names n subject table place =
    let proper = known_name names n subject table place in
    let plain = line_plain n (name_plain n proper) in
    let bare = no_cr (hello_line n) plain in
    let filled : is_blank (without_cr (hello_line n)) ≡ false = ap is_blank bare in
    let whole = subst (λ l. LineOf names l (lines.Hello subject)) (sym bare) (is_hello again names n subject proper place) in
    record {
      first = AreLines-whole (hello_line n) (no_lf (hello_line n) plain);
      hello = (filled, whole);
      only = only_hello one either names (hello_line n) subject filled whole;
    }
