-- The worked examples, computed from the definitions alone.
use Rattle.std.specs.Prelude.{◌≡◌, List, ℕ, [], ◌∷◌, ◌++◌, codes, refl}
use Rattle.std.specs.Fmt.{digits}
use Rattle.std.proofs.Common.{sym, true≢false, lit<}
use Rattle.bl_work.specs.Content.{added}
use Rattle.bl_setup.specs.declared.version.Version.TheVariants.{One, Two}
use Rattle.bl_order.specs.Machine.{Opens, Admits, Starts, Ends, Loses}
use Rattle.bl_trail.specs.TrueText.{trail_lines}
use Rattle.bl_trail.specs.Versions.{HasSetup, HasEvents}
use Rattle.bl_trail.proofs.Base.{base, with_reserves, read_one, later_child, carried_level, comes_and_goes, ann, memo, draft, reads}

trail-of-read-one :
    trail_lines One base 10000 read_one
    ≡ codes "trail 1" ∷ codes "limit 10000" ∷ codes "open ann" ∷ codes "line 0 1 when read memo do show memo;end" ∷ codes "start 0 run"
    ∷ codes "end 0 done \"m1\"" ∷ codes "stop" ∷ []
unfolding digits
trail-of-read-one = refl

trail-of-later-child :
    trail_lines One base 10000 later_child
    ≡ codes "trail 1" ∷ codes "limit 10000" ∷ codes "open ann"
    ∷ codes "line 0 1 when write memo do add memo\"a\";spawn when read memo do show memo;end;end"
    ∷ codes "line 0 2 when write memo do add memo\"b\";end"
    ∷ codes "start 0 run" ∷ codes "end 0 done" ∷ codes "start 1 run" ∷ codes "end 1 done" ∷ codes "start 2 run" ∷ codes "end 2 done \"m1ab\""
    ∷ codes "stop" ∷ []
unfolding digits added
trail-of-later-child = refl

-- an entry that ran says `run` at its start, though it is lost later; one that is lost at once says nothing else
lost-later :
    trail_lines One base 1 (Opens ann ∷ Admits 0 1 (reads memo) ∷ Starts 0 ∷ Loses 0 ∷ [])
    ≡ codes "trail 1" ∷ codes "limit 1" ∷ codes "open ann" ∷ codes "line 0 1 when read memo do show memo;end" ∷ codes "start 0 run"
    ∷ codes "lost 0" ∷ codes "stop" ∷ []
unfolding digits
lost-later = refl

-- by version 2 the first line says so
read-one-by-two :
    trail_lines Two base 10000 read_one
    ≡ codes "trail 2" ∷ codes "limit 10000" ∷ codes "open ann" ∷ codes "line 0 1 when read memo do show memo;end" ∷ codes "start 0 run"
    ∷ codes "end 0 done \"m1\"" ∷ codes "stop" ∷ []
unfolding digits
read-one-by-two = refl

-- the lines of a child that may write by version 1, which carries nothing, and not by version 2
up_to_the_child : List (List ℕ)
up_to_the_child =
    codes "limit 10000" ∷ codes "open bob" ∷ codes "line 0 1 current s{nato}"
    ∷ codes "line 0 2 when read memo do spawn when write note do add note\"x\";end;end" ∷ codes "line 0 3 current u" ∷ codes "start 0 rule"
    ∷ codes "start 1 run" ∷ codes "end 1 done" ∷ codes "start 2 rule" ∷ []

carried-level-by-one :
    trail_lines One base 10000 (carried_level ++ Ends 3 ∷ [])
    ≡ codes "trail 1" ∷ (up_to_the_child ++ codes "start 3 run" ∷ codes "end 3 done" ∷ codes "stop" ∷ [])
unfolding digits added up_to_the_child
carried-level-by-one = refl

carried-level-by-two :
    trail_lines Two base 10000 carried_level
    ≡ codes "trail 2" ∷ (up_to_the_child ++ codes "start 3 denied carry bob note" ∷ codes "stop" ∷ [])
unfolding digits added up_to_the_child
carried-level-by-two = refl

-- a document that is created, is there, is deleted, and is absent
comes-and-goes :
    trail_lines Two with_reserves 10000 comes_and_goes
    ≡ codes "trail 2" ∷ codes "limit 10000" ∷ codes "open root" ∷ codes "line 0 1 create draft" ∷ codes "line 0 2 create draft"
    ∷ codes "line 0 3 delete draft" ∷ codes "line 0 4 when read draft do show draft;end" ∷ codes "start 0 rule"
    ∷ codes "start 1 denied present root draft" ∷ codes "start 2 rule" ∷ codes "start 3 denied absent root draft" ∷ codes "stop" ∷ []
unfolding digits
comes-and-goes = refl

-- version 1 has neither such lines nor a setup with reserved documents
no-such-line : HasEvents One comes_and_goes → ⊥
no-such-line has = has.1.0

no-such-setup : HasSetup One with_reserves → ⊥
no-such-setup has = true≢false (sym (has draft (lit< tt)))
