-- Reserved words.
use Rattle.std.proofs.Common.{◌≡◌, ◌≢◌, ℕ, Bool, true, false, cond, bytes_eq, List, [], ◌∷◌, Option, Some, None, refl, sym, ap, ◌∙◌, rules}
use Rattle.std.specs.Prelude.{IfSome, IfNone}
use Rattle.std.proofs.lemmas.Slice.Eq.{bytes_eq-Decides}
use Rattle.bl_name.specs.declared.token.Keyword.{Keyword}
use Rattle.bl_name.specs.declared.token.Keyword.TheVariants.{Hello, Wait, Give, Rescind, Current, Classify, When, Read, Append, Write, Do, End, Show, Say, Add, Set, Copy, Pour, To, If, Is, Has, Then, Else, Spawn, Ranks, Categories, Subject, Greatest, Document, Allow, Trusted, Admin, Create, Delete, Reserve}
use Rattle.bl_name.specs.Lexing.{words, word_text, keyword_among}
use Rattle.bl_name.specs.Name.{IsWord}

-- what is found is spelled so
pub among_is : (ks : List Keyword) (w : List ℕ) (k : Keyword) → keyword_among ks w ≡ Some k → word_text k ≡ w
among_is [] w k e = absurd (cc)
among_is (j ∷ ks) w k e = go (bytes_eq (word_text j) w) refl e (among_is ks w k)
  where
    go : (x : Bool) → bytes_eq (word_text j) w ≡ x → cond x (Some j) (keyword_among ks w) ≡ Some k → (keyword_among ks w ≡ Some k → word_text k ≡ w) → word_text k ≡ w
    go true is e more = let same : j ≡ k = cc in ap word_text (sym same) ∙ (bytes_eq-Decides (word_text j) w).0 is
    go false is e more = more e

-- nothing is found where nothing is spelled so
pub among_none : (ks : List Keyword) (w : List ℕ) → ((k : Keyword) → word_text k ≢ w) → keyword_among ks w ≡ None
among_none [] w free = refl
among_none (j ∷ ks) w free = go (bytes_eq (word_text j) w) refl (among_none ks w free)
  where
    go : (x : Bool) → bytes_eq (word_text j) w ≡ x → keyword_among ks w ≡ None → cond x (Some j) (keyword_among ks w) ≡ None
    go true is more = absurd (free j ((bytes_eq-Decides (word_text j) w).0 is))
    go false is more = more

-- each reserved word is found by its bytes
pub word_is : (k : Keyword) → keyword_among words (word_text k) ≡ Some k
word_is Hello = refl
word_is Wait = refl
word_is Give = refl
word_is Rescind = refl
word_is Current = refl
word_is Classify = refl
word_is When = refl
word_is Read = refl
word_is Append = refl
word_is Write = refl
word_is Do = refl
word_is End = refl
word_is Show = refl
word_is Say = refl
word_is Add = refl
word_is Set = refl
word_is Copy = refl
word_is Pour = refl
word_is To = refl
word_is If = refl
word_is Is = refl
word_is Has = refl
word_is Then = refl
word_is Else = refl
word_is Spawn = refl
word_is Ranks = refl
word_is Categories = refl
word_is Subject = refl
word_is Greatest = refl
word_is Document = refl
word_is Allow = refl
word_is Trusted = refl
word_is Admin = refl
word_is Create = refl
word_is Delete = refl
word_is Reserve = refl

-- where nothing is found, nothing is spelled so
pub none_free : (w : List ℕ) → keyword_among words w ≡ None → (k : Keyword) → word_text k ≢ w
none_free w none k e = let found = rw e at (word_is k) in absurd (cc)

-- each reserved word is a word
pub word_proper : (k : Keyword) → IsWord (word_text k)
word_proper Hello = search rules
word_proper Wait = search rules
word_proper Give = search rules
word_proper Rescind = search rules
word_proper Current = search rules
word_proper Classify = search rules
word_proper When = search rules
word_proper Read = search rules
word_proper Append = search rules
word_proper Write = search rules
word_proper Do = search rules
word_proper End = search rules
word_proper Show = search rules
word_proper Say = search rules
word_proper Add = search rules
word_proper Set = search rules
word_proper Copy = search rules
word_proper Pour = search rules
word_proper To = search rules
word_proper If = search rules
word_proper Is = search rules
word_proper Has = search rules
word_proper Then = search rules
word_proper Else = search rules
word_proper Spawn = search rules
word_proper Ranks = search rules
word_proper Categories = search rules
word_proper Subject = search rules
word_proper Greatest = search rules
word_proper Document = search rules
word_proper Allow = search rules
word_proper Trusted = search rules
word_proper Admin = search rules
word_proper Create = search rules
word_proper Delete = search rules
word_proper Reserve = search rules

pub reserved_is : (w : List ℕ) (o : Option Keyword) → o ≡ keyword_among words w → IfSome o (λ k. word_text k ≡ w)
reserved_is w (Some k) e = among_is words w k (sym e)
reserved_is w None e = tt

pub free_is : (w : List ℕ) (o : Option Keyword) → o ≡ keyword_among words w → IfNone o ((k : Keyword) → word_text k ≢ w)
free_is w (Some k) e = tt
free_is w None e = none_free w (sym e)
