-- What comes of a stream, and is held.
use Rattle.std.proofs.Common.{◌≡◌, ◌<◌, ◌≤◌, ◌+◌, ◌-◌, ◌∙◌, ◌⊎◌, Bool, true, false, cond, ℕ, List, [], ◌∷◌, ◌++◌, length, Option, Some, None, Result, Ok, Err, OnOk, IfErr, inl, inr, refl, sym, ap, subst, arith, append_assoc}
use Rattle.std.proofs.KnownBytes.{Keeps-trans}
use Rattle.std.proofs.lemmas.Bool.{both_ways, cases_Bool}
use Rattle.std.proofs.lemmas.List.{length-append}
use Rattle.std.specs.Io.KnownBytes.{Consumes, IsAtEnd, Keeps, prepend_known}
use Rattle.bl_allowance.specs.Buffers.{due_of, pending}
use Rattle.bl_allowance.specs.Intakes.{OrFails, StaysInOrder}
use Rattle.bl_allowance.specs.Lines.{HasNoMore, lines_in}
use Rattle.bl_allowance.specs.declared.intake.Intake.{Intake}
use Rattle.bl_allowance.specs.declared.intake.Stop.{Stop}
use Rattle.bl_allowance.specs.declared.intake.Stop.TheVariants.{Blocks, Fails}
use Rattle.bl_allowance.proofs.Counting.{lines-append}

-- what came is held behind what was
pub keeps_came : (before after : Option (List ℕ)) (held came now : List ℕ) → now ≡ held ++ came → Consumes before after came
    → Keeps (prepend_known held before) (prepend_known now after)
keeps_came None after held came now is took = tt
keeps_came (Some xs) None held came now is took = absurd took
keeps_came (Some xs) (Some ys) held came now is took =
    ap (λ l. l ++ ys) is ∙ append_assoc held came ys ∙ ap (λ l. held ++ l) (sym took)

pub keeps_held : (before after : Option (List ℕ)) (held : List ℕ) → Keeps before after
    → Keeps (prepend_known held before) (prepend_known held after)
keeps_held None after held kept = tt
keeps_held (Some xs) None held kept = absurd kept
keeps_held (Some xs) (Some ys) held kept = ap (λ l. held ++ l) kept

-- ---- what failed

-- what blocks has not failed
IsFailed : Stop → Type 0
IsFailed Blocks = ⊥
IsFailed Fails = Unit {0}

blocks_alone : Blocks ≡ Fails → ⊥
unfolding IsFailed
blocks_alone same = subst IsFailed (sym same) tt

pub or_fails : {T : Type 0} (r : Result T Stop) (P : Type 0) → OnOk r P → IfErr r (λ stop. stop ≡ Fails) → OrFails r P
or_fails (Ok v) P ok err = ok
or_fails (Err Blocks) P ok err = absurd (blocks_alone err)
or_fails (Err Fails) P ok err = tt

-- ---- what may be given of what is held

-- where something came, and not all that is held is a part of a line, something may be given
pub gives_some : (ended long : Bool) (held came now : List ℕ) → 0 < length came → now ≡ held ++ came
    → (long ≡ true) ⊎ (8193 < length now) ⊎ (0 < lines_in came)
    → HasNoMore ended long now → (ended ≡ true) × (now ≡ [])
gives_some ended long held came now some is more none =
    let count : lines_in now ≡ lines_in held + lines_in came = ap lines_in is ∙ lines-append held came in
    let size : length now ≡ length held + length came = ap length is ∙ length-append held came in
    elim none [
      | inl empty ↦ let zero' : length now ≡ 0 = ap length empty in absurd (omega (arith, some, size, zero'))
      | inr rest ↦ elim more [
        | inl is_long ↦ absurd (both_ways long rest.1 is_long)
        | inr other ↦ elim other [
          | inl large ↦ absurd (omega (arith, large, rest.3))
          | inr ends ↦ absurd (omega (arith, ends, count, rest.2))
        ]
      ]
    ]

-- there is less to be waited for
pub nearer : (was now : Bool) (before came after : ℕ) → was ≡ true → 0 < came → after ≡ before + came → (now ≡ true → after ≤ 8193)
    → cond now 1 0 + (8193 - after) < cond was 1 0 + (8193 - before)
nearer false now before came after is some more fits = absurd (both_ways false refl is)
nearer true true before came after is some more fits = omega (arith, some, more, fits refl)
nearer true false before came after is some more fits = omega (arith, some, more)
