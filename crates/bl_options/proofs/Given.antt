-- What was said, and what was not.
use Rattle.std.proofs.Common.{◌≡◌, ◌≤◌, ◌∙◌, ◌∷◌, List, ℕ, Bool, true, false, Option, Some, None, arith, codes, get_or, inl, inr, refl, sym, ap, subst}
use Rattle.std.specs.Prelude.{IfNone, IfSome, option_and_then, ◌⊎◌}
use Rattle.std.specs.Option.{ForSome, is_some, option_map_or}
use Rattle.clap.specs.Facts.{explicit_source}
use Rattle.clap.specs.declared.parser.matches.ArgMatches.{ArgMatches}
use Rattle.clap.specs.declared.parser.matches.MatchedArg.{MatchedArg}
use Rattle.clap.specs.declared.parser.matches.ValueSource.{ValueSource}
use Rattle.bl_options.specs.Ranges.{IsIdleInRange, IsTrailLimit}
use Rattle.bl_options.specs.Said.{HasKeeping, HasNumber, HasNumberOr, HasSyncing, IsSaid}
use Rattle.bl_options.specs.declared.trail.TrailKeeping.TheVariants.{AtEnd, Written, Synced}

none_is_not_some : (n : ℕ) → None ≡ Some n → ⊥
none_is_not_some n is = cc

same_number : (m n : ℕ) → Some m ≡ Some n → m ≡ n
same_number m n is = cc

-- how long a client may be idle is in the range that a host takes
pub idle_is_in_range : (idle : Option ℕ) → IsIdleInRange idle → ForSome idle (λ seconds. (1 ≤ seconds) × (seconds ≤ 86400))
idle_is_in_range None range n is = absurd (none_is_not_some n is)
idle_is_in_range (Some seconds) range n is = subst (λ m. (1 ≤ m) × (m ≤ 86400)) (same_number seconds n is) range

-- what was given was not left out
pub given_not_left_out : {T : Type 0} (a : T) (o : Option T) → Some a ≡ o → o ≡ None → ⊥
given_not_left_out a o given none' = cc

-- what holds anyway holds where there is nothing
pub at_none : {T : Type 0} (o : Option T) (P : Type 0) → P → IfNone o P
at_none (Some x) P p = tt
at_none None P p = p

pub none_weaker : {T : Type 0} (o : Option T) (P Q : Type 0) → (P → Q) → IfNone o P → IfNone o Q
none_weaker (Some x) P Q f p = tt
none_weaker None P Q f p = f p

-- texts with other first bytes are not the same
pub words_differ : (a b : ℕ) (as' bs : List ℕ) → (a ≡ b → ⊥) → a ∷ as' ≡ b ∷ bs → ⊥
words_differ a b as' bs differ same = differ (ap (λ (l : List ℕ). get_or l 0 0) same)

-- what is there twice is the same
pub some_same : {T : Type 0} (a b : T) → Some a ≡ Some b → a ≡ b
some_same a b e = cc

-- an option that has a source was said by that
pub said_by : (m : Option MatchedArg) (source : ValueSource) → Some source ≡ option_and_then (λ a. a.source) m
    → explicit_source (Some source) ≡ option_map_or (λ a. explicit_source a.source) m false
said_by None source is = absurd (cc)
said_by (Some a) source is = ap explicit_source is

-- and one that has none, where it is there
pub said_there : (m : Option MatchedArg) → None ≡ option_and_then (λ a. a.source) m → is_some m ≡ option_map_or (λ a. explicit_source a.source) m false
said_there None is = refl
said_there (Some a) is = ap explicit_source is

-- what was said was not left unsaid
pub said_not_unsaid : (options : ArgMatches) (name : List ℕ) → IsSaid options name true → IsSaid options name false → ⊥
said_not_unsaid options name said unsaid = let both : true ≡ false = said ∙ sym unsaid in cc

-- a number that was said and is out of its range is none, with whatever other one where none is said
pub number_or_none : (options : ArgMatches) (name : List ℕ) (other least most : ℕ) → IsSaid options name true
    → ((n : ℕ) → HasNumber options name n → least ≤ n → n ≤ most → ⊥) → (n : ℕ) → HasNumberOr options name other n → least ≤ n → n ≤ most → ⊥
number_or_none options name other least most said none' n (inl has) above below = none' n has.1 above below
number_or_none options name other least most said none' n (inr has) above below = said_not_unsaid options name said has.0

-- where `--keep` was said and is neither word of a chain, nothing is said of a sync
pub syncing_none : (options : ArgMatches) → IsSaid options (codes "keep") true → (HasKeeping options Written → ⊥) → (HasKeeping options Synced → ⊥)
    → (synced : Bool) → HasSyncing options synced → ⊥
syncing_none options said unwritten unsynced true (inl has) = said_not_unsaid options (codes "keep") said has
syncing_none options said unwritten unsynced true (inr has) = unsynced has.1
syncing_none options said unwritten unsynced false has = unwritten has.1

-- nor where it was said with the word for the end
pub syncing_at_end : (options : ArgMatches) → IsSaid options (codes "keep") true → HasKeeping options AtEnd
    → (synced : Bool) → HasSyncing options synced → ⊥
syncing_at_end options said at_end = syncing_none options said
    (λ written. words_differ 101 119 _ _ (λ e. omega arith) (some_same (codes "end") (codes "written") (sym at_end ∙ written)))
    (λ synced. words_differ 101 115 _ _ (λ e. omega arith) (some_same (codes "end") (codes "synced") (sym at_end ∙ synced)))

-- a number that was said, with its range and what it is
pub said_range : (made : Option ℕ) (least most : ℕ) → IfSome made (λ n. (least ≤ n) × (n ≤ most))
    → IfSome made (λ n. ((n ≡ most) ⊎ (least ≤ n)) × (n ≤ most))
said_range (Some n) least most range = (inr range.0, range.1)
said_range None least most range = tt

pub said_written : (options : ArgMatches) (name : List ℕ) (other : ℕ) (made : Option ℕ) → IsSaid options name true
    → IfSome made (HasNumber options name) → IfSome made (HasNumberOr options name other)
said_written options name other (Some n) said has = inl (said, has)
said_written options name other None said has = tt

pub said_none : (options : ArgMatches) (name : List ℕ) (other least most : ℕ) (made : Option ℕ) → IsSaid options name true
    → IfNone made ((n : ℕ) → HasNumber options name n → least ≤ n → n ≤ most → ⊥)
    → IfNone made ((n : ℕ) → HasNumberOr options name other n → least ≤ n → n ≤ most → ⊥)
said_none options name other least most (Some n) said none' = tt
said_none options name other least most None said none' = number_or_none options name other least most said none'

-- no number in a range is none in the range of a trail's limit
pub trail_limit_none : (options : ArgMatches) (made : Option ℕ)
    → IfNone made ((n : ℕ) → HasNumber options (codes "trail-limit") n → 65536 ≤ n → n ≤ 1073741824 → ⊥)
    → IfNone made ((n : ℕ) → HasNumber options (codes "trail-limit") n → IsTrailLimit n → ⊥)
trail_limit_none options (Some n) none' = tt
trail_limit_none options None none' = λ n has range. none' n has range.0 range.1
