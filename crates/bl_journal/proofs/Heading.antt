-- What stands at the head of a journal's text.
use Rattle.std.proofs.Common.{◌≡◌, ℕ, ◌<◌, ◌^◌, List, [], ◌∷◌, ◌++◌, drop, get_or, refl, sym, ◌∙◌, ap, arith, append_assoc}
use Rattle.std.specs.Prelude.{codes, decimal, Some}
use Rattle.std.proofs.lemmas.Fmt.{decimal_injective}
use Rattle.bl_setup.specs.Setup.{Setup}
use Rattle.bl_setup.specs.declared.version.Version.{Version}
use Rattle.bl_setup.specs.declared.version.Version.TheVariants.{One, Two}
use Rattle.bl_trail.specs.Asks.{before, behind, HasNo}
use Rattle.bl_trail.specs.Heads.{IsHead}
use Rattle.bl_trail.specs.TrueText.{IsLimit, head_lines, joined, version_line}
use Rattle.bl_trail.specs.declared.head.Head.{Head}
use Rattle.bl_trail.specs.declared.head.Head.TheVariants.{Right, Wrong}
use Rattle.bl_trail.proofs.Following.{joined-append}
use Rattle.bl_trail.proofs.OneEventLaw.{told_apart}
use Rattle.bl_trail.proofs.Verdicts.{head-plain}
use Rattle.bl_trail.proofs.Words.{before-word, behind-word}
use Rattle.bl_journal.specs.Journals.{IsHeadOf, IsRecovered, Journal, journal_text, lines_of_events}

pub regroup : (l : List ℕ) (ls : List (List ℕ)) (r : List ℕ) → joined (l ∷ ls) ++ r ≡ l ++ 10 ∷ (joined ls ++ r)
regroup l ls r = append_assoc (l ++ 10 ∷ []) (joined ls) r ∙ append_assoc l (10 ∷ []) (joined ls ++ r)

some_injective : {a b : List ℕ} → Some a ≡ Some b → a ≡ b
some_injective h = cc

-- of two texts that begin with a line, the lines are the same, and so is what stands behind them
pub same_line : (l k a b : List ℕ) → HasNo 10 l → HasNo 10 k → l ++ 10 ∷ a ≡ k ++ 10 ∷ b → (l ≡ k) × (a ≡ b)
same_line l k a b p q h = (
  sym (before-word 10 l a p) ∙ ap (before 10) h ∙ before-word 10 k b q,
  some_injective (sym (behind-word 10 l a p) ∙ ap (behind 10) h ∙ behind-word 10 k b q),
)

-- the seventh byte tells the lines of two versions apart
one_version : (v w : Version) → version_line v ≡ version_line w → v ≡ w
one_version One One h = refl
one_version One Two h = absurd (told_apart 49 50 refl (ap (λ l. get_or l 6 0) h))
one_version Two One h = absurd (told_apart 50 49 refl (ap (λ l. get_or l 6 0) h))
one_version Two Two h = refl

-- the line of a limit
abbrev limit_line : ℕ → List ℕ
limit_line limit = codes "limit " ++ decimal limit

-- of two texts that begin with a head, the heads are of one version and one limit, and what stands behind them is the same
pub one-head : (v w : Version) (l m : ℕ) (a b : List ℕ) → IsLimit l → IsLimit m → joined (head_lines v l) ++ a ≡ joined (head_lines w m) ++ b
    → (v ≡ w) × (l ≡ m) × (a ≡ b)
one-head v w l m a b il im h =
    let first : (version_line v ≡ version_line w) × (joined (limit_line l ∷ []) ++ a ≡ joined (limit_line m ∷ []) ++ b) =
    same_line (version_line v) (version_line w) (joined (limit_line l ∷ []) ++ a) (joined (limit_line m ∷ []) ++ b) (head-plain v l il).0 (head-plain w m im).0
    (sym (regroup (version_line v) (limit_line l ∷ []) a) ∙ h ∙ regroup (version_line w) (limit_line m ∷ []) b) in
    let second : (limit_line l ≡ limit_line m) × (a ≡ b) =
    same_line (limit_line l) (limit_line m) a b (head-plain v l il).1.0 (head-plain w m im).1.0
    (sym (regroup (limit_line l) [] a) ∙ first.1 ∙ regroup (limit_line m) [] b) in
    let low_l : l < 2 ^ 64 = omega (arith, il.1) in
    let low_m : m < 2 ^ 64 = omega (arith, im.1) in
    (one_version v w first.0, decimal_injective l m low_l low_m (ap (drop 6) second.0), second.1)

-- the text of a journal with something behind it: the head, the lines of its events, and that
pub split : (setup : Setup) (journal : Journal) (rest : List ℕ)
    → journal_text setup journal ++ rest ≡ joined (head_lines journal.version journal.limit) ++ (joined (lines_of_events setup journal) ++ rest)
split setup journal rest =
    ap (λ t. t ++ rest) (joined-append (head_lines journal.version journal.limit) (lines_of_events setup journal))
    ∙ append_assoc (joined (head_lines journal.version journal.limit)) (joined (lines_of_events setup journal)) rest

pub head-of : (setup : Setup) (file : List ℕ) (journal : Journal) (head : Head) → IsRecovered setup file journal → IsHead setup file head → IsHeadOf setup journal head
head-of setup file journal (Right version limit rest) recovered is =
    let t : (version ≡ journal.version) × (limit ≡ journal.limit) × (rest.now ≡ joined (lines_of_events setup journal) ++ recovered.rest) =
    one-head version journal.version limit journal.limit rest.now (joined (lines_of_events setup journal) ++ recovered.rest) is.1 recovered.history.is_limit
    (sym is.2 ∙ recovered.split ∙ split setup journal recovered.rest) in
    (t.0, t.1, (recovered.rest, t.2))
head-of setup file journal (Wrong number) recovered is = tt
