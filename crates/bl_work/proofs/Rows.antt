-- Worked examples of scripts and effects, computed from the definitions alone.
use Rattle.std.proofs.Common.{lit<, arith}
use Rattle.std.specs.Prelude.{◌≡◌, ℕ, zero, suc, ◌+◌, ◌<◌, if◌then◌else◌, ◌==◌, List, [], ◌∷◌, map, length, slice_index_or, codes, refl}
use Rattle.bl_policy.specs.declared.access.Mode.TheVariants.{Read}
use Rattle.bl_work.specs.declared.script.Condition.TheVariants.{Is, Has}
use Rattle.bl_work.specs.Statements.{Statements, Nothing, Show, Say, Set, Pour, If, Spawn, Part, no_part}
use Rattle.bl_document.specs.Content.{added}
use Rattle.bl_work.specs.Effects.{effects_of, after, outputs}
use Rattle.bl_work.specs.Nesting.{size_at, depth_at, spawned, AreNumbered, IsPreorder}

-- `when read D do .. end`, of document 0
reads : Statements → Part
reads body = record { accesses = record { mode = Read; doc = 0 } ∷ []; body = body }

-- behaviour 0 spawns 1 and 3, and 1 spawns 2
four : List Part
four = reads (Spawn 1 (Spawn 3 Nothing)) ∷ reads (Spawn 2 Nothing) ∷ reads Nothing ∷ reads Nothing ∷ []

sizes-of-four : map (size_at four) (0 ∷ 1 ∷ 2 ∷ 3 ∷ []) ≡ 4 ∷ 2 ∷ 1 ∷ 1 ∷ []
unfolding four reads
sizes-of-four = refl

four-is-preorder : IsPreorder four
unfolding four reads
four-is-preorder = record { some = lit< tt; whole = refl; numbered = each }
  where
    each : (k : ℕ) → k < length four → AreNumbered four (k + 1) (spawned (slice_index_or four k no_part).body)
    each zero h = (refl, lit< tt, (refl, lit< tt, tt))
    each (suc zero) h = (refl, lit< tt, tt)
    each (suc (suc zero)) h = tt
    each (suc (suc (suc zero))) h = tt
    each (suc (suc (suc (suc k)))) h = absurd (omega arith)

-- an `if` within the second of two nested `when`
depths : map (λ script. depth_at script 0) (four ∷ (reads (Spawn 1 Nothing) ∷ reads (If 0 Is [] Nothing Nothing Nothing) ∷ []) ∷ (reads Nothing ∷ []) ∷ []) ≡ 3 ∷ 3 ∷ 1 ∷ []
unfolding four reads
depths = refl

-- nine nested `when`
nine : List Part
nine =
    reads (Spawn 1 Nothing) ∷ reads (Spawn 2 Nothing) ∷ reads (Spawn 3 Nothing) ∷ reads (Spawn 4 Nothing) ∷ reads (Spawn 5 Nothing)
    ∷ reads (Spawn 6 Nothing) ∷ reads (Spawn 7 Nothing) ∷ reads (Spawn 8 Nothing) ∷ reads Nothing ∷ []

nine-are-too-deep : depth_at nine 0 ≡ 9
unfolding nine reads
nine-are-too-deep = refl

-- note is document 0, log is document 1
with_log : List ℕ → ℕ → List ℕ
with_log text doc = if doc == 0 then codes "n1" else text

pours : Statements
pours = Pour 0 1 (Show 0 Nothing)

blind-append-pours : map (λ text. outputs (effects_of (with_log text) pours)) ([] ∷ codes "zz" ∷ []) ≡ (codes "n1" ∷ []) ∷ (codes "n1" ∷ []) ∷ []
unfolding with_log pours
blind-append-pours = refl

blind-append-pours-log : map (λ text. after text (effects_of (with_log text) pours) 1) ([] ∷ codes "zz" ∷ []) ≡ codes "n1" ∷ codes "zzn1" ∷ []
unfolding added with_log pours
blind-append-pours-log = refl

-- note is document 0, memo is document 1
with_note : List ℕ → ℕ → List ℕ
with_note text doc = if doc == 0 then text else codes "m1"

chooses : Statements
chooses = If 0 Is (codes "n1") (Pour 0 1 Nothing) (Set 1 (codes "no") Nothing) (Show 1 (If 1 Has (codes "1n") (Say (codes "yes") Nothing) Nothing Nothing))

choose-and-pour : map (λ text. outputs (effects_of (with_note text) chooses)) (codes "n1" ∷ codes "n2" ∷ []) ≡ (codes "m1n1" ∷ codes "yes" ∷ []) ∷ (codes "no" ∷ []) ∷ []
unfolding added with_note chooses
choose-and-pour = refl

-- a document poured onto itself is doubled
doubles : after (codes "m1") (effects_of (λ doc. codes "m1") (Pour 0 0 Nothing)) 0 ≡ codes "m1m1"
unfolding added
doubles = refl
