-- What is wrong with one of the first two lines.
use Rattle.std.proofs.Common.{◌≡◌, ◌⊎◌, ℕ, ◌<◌, ◌≤◌, List, [], ◌∷◌, length, refl, subst, inl, inr, arith}
use Rattle.bl_level.specs.Lexing.{Begins}
use Rattle.bl_level.specs.Table.{IsTable, IsFirstRepeated}
use Rattle.bl_level.specs.TableFault.{IsTableFault}
use Rattle.bl_name.specs.declared.table.TableFault.{TableFault}
use Rattle.bl_name.specs.declared.table.TableFault.TheVariants as tables
use Rattle.bl_level.specs.SchemeFault.{IsSchemeFault}
use Rattle.bl_level.specs.declared.scheme.SchemeFault.{SchemeFault}
use Rattle.bl_level.specs.declared.scheme.SchemeFault.TheVariants as schemes
use Rattle.bl_declare.specs.Declaration.{ranks, categories, spell_declaration}
use Rattle.bl_declare.specs.Faults.{UnlessMemory, kind_of_table, kind_of_scheme}
use Rattle.bl_setup.specs.FirstSetupFault.{nothing, ranked, LineFault}
use Rattle.bl_setup.specs.Heads.{AreRanks}
use Rattle.bl_declare.specs.declared.fault.SetupFaultKind.TheVariants.{Repeated, TooMany}
use Rattle.bl_setup.proofs.FaultLemmas.{first_repeated_fails}
use Rattle.bl_setup.proofs.HeadLemmas.{repeated_not}

pub too_many_ranks : (line lowest : List ℕ) (higher : List (List ℕ)) → Begins line (spell_declaration (ranks lowest higher)) [] → 16 ≤ length higher
    → UnlessMemory TooMany (LineFault nothing line TooMany)
too_many_ranks line lowest higher spelled many = inr (inr (ranks lowest higher, spelled, tt, inl (refl, omega arith)))

pub ranks_refused : (line lowest : List ℕ) (higher names : List (List ℕ)) (f : TableFault) → names ≡ lowest ∷ higher → Begins line (spell_declaration (ranks lowest higher)) []
    → length higher < 16 → IsTableFault names f → UnlessMemory (kind_of_table f) (LineFault nothing line (kind_of_table f))
ranks_refused line lowest higher names (tables.Repeated n) e spelled few fault =
    let P : List (List ℕ) → Type 0 = λ xs. IsFirstRepeated xs n in
    inr (inr (ranks lowest higher, spelled, tt, inr (λ many. omega arith, inl (first_repeated_fails (lowest ∷ higher) n (subst P e fault)))))
ranks_refused line lowest higher names tables.Memory e spelled few fault = inl refl

many_categories : (line : List ℕ) (names words : List (List ℕ)) → AreRanks names → Begins line (spell_declaration (categories words)) [] → (16 < length names) ⊎ (32 < length words)
    → UnlessMemory TooMany (LineFault (ranked names) line TooMany)
many_categories line names words are spelled (inl many) = let fit = are.fit in absurd (omega arith)
many_categories line names words are spelled (inr many) = inr (inr (categories words, spelled, tt, inl (refl, many)))

twice_categories : (line : List ℕ) (names words : List (List ℕ)) (n : List ℕ) → AreRanks names → Begins line (spell_declaration (categories words)) [] → length words ≤ 32
    → IsFirstRepeated names n ⊎ (IsTable names × IsFirstRepeated words n) → UnlessMemory Repeated (LineFault (ranked names) line Repeated)
twice_categories line names words n are spelled few (inl r) = absurd (repeated_not names n r are.table)
twice_categories line names words n are spelled few (inr r) =
    inr (inr (categories words, spelled, tt, inr (λ many. omega arith, inl (first_repeated_fails words n r.1))))

categories_at_fault : (line : List ℕ) (names words : List (List ℕ)) (f : SchemeFault) → AreRanks names → Begins line (spell_declaration (categories words)) []
    → IsSchemeFault names words f → UnlessMemory (kind_of_scheme f) (LineFault (ranked names) line (kind_of_scheme f))
categories_at_fault line names words schemes.Empty are spelled fault = let some = are.some in absurd (omega arith)
categories_at_fault line names words schemes.TooMany are spelled fault = many_categories line names words are spelled fault.1
categories_at_fault line names words (schemes.Repeated n) are spelled fault = twice_categories line names words n are spelled fault.0.categories_fit fault.1
categories_at_fault line names words schemes.Memory are spelled fault = inl refl

pub categories_refused : (line : List ℕ) (names words given : List (List ℕ)) (f : SchemeFault) → given ≡ words → AreRanks names → Begins line (spell_declaration (categories words)) []
    → IsSchemeFault names given f → UnlessMemory (kind_of_scheme f) (LineFault (ranked names) line (kind_of_scheme f))
categories_refused line names words given f e are spelled fault =
    categories_at_fault line names words f are spelled (subst (λ xs. IsSchemeFault names xs f) e fault)
