-- Lines that are taken one after the other, and where reading stops.
use Rattle.std.proofs.Common.{◌≡◌, ◌⊎◌, ℕ, ◌+◌, ◌≤◌, true, false, List, [], ◌∷◌, ◌++◌, length, map, refl, sym, ap, subst, ◌∙◌, inl, inr, arith}
use Rattle.std.proofs.lemmas.List.{append_assoc, length-append}
use Rattle.bl_level.specs.Lexing.{Begins}
use Rattle.bl_declare.specs.Declaration.{Declaration, spell_declaration}
use Rattle.bl_declare.specs.Faults.{UnlessMemory, OfSyntax}
use Rattle.bl_setup.specs.FirstSetupFault.{SoFar, nothing, IsDue, IsBegun, Declares, LeadTo, LineFault, FaultNext, ReadsNext, LeadOn, StopsAt, FirstSetupFaultWithin, IsReadWithin, asked}
use Rattle.bl_setup.specs.Grammar.{IsSetupWithin}
use Rattle.bl_setup.specs.Lines.{is_skipped, file_lines, lines_of, lines_read, kept, without_cr}
use Rattle.bl_setup.specs.Setup.{Setup}
use Rattle.bl_setup.specs.Taking.{AreSkipped, Skips, Takes, EndsEarly, Stops, Refuses}
use Rattle.bl_declare.specs.declared.fault.SetupFault.{SetupFault}
use Rattle.bl_declare.specs.declared.fault.SetupFaultKind.{SetupFaultKind}
use Rattle.bl_declare.specs.declared.fault.SetupFaultKind.TheVariants.{Unknown, Repeated, Memory}
use Rattle.bl_setup.proofs.FaultLemmas.{fails_in_time}
use Rattle.bl_setup.proofs.FirstLemmas.{fault_is_no_setup}
use Rattle.bl_setup.proofs.WholeLemmas.{one_spelled}

one_more_skipped : (front : List (List ℕ)) (line : List ℕ) → AreSkipped front → is_skipped line ≡ true → AreSkipped (front ++ line ∷ [])
one_more_skipped [] line s e = (e, tt)
one_more_skipped (x ∷ front) line s e = (s.0, one_more_skipped front line s.1 e)

-- a line more is skipped
pub skips_more : (count : ℕ) (lines : List (List ℕ)) (number : ℕ) (line : List ℕ) (rest : List (List ℕ)) → Skips count lines number (line ∷ rest) → is_skipped line ≡ true
    → Skips count lines (number + 1) rest
skips_more count lines number line rest s e =
    let n = s.counted in
    record {
      front = s.front ++ line ∷ [];
      split = s.split ∙ sym (append_assoc s.front (line ∷ []) rest);
      skipped = one_more_skipped s.front line s.skipped e;
      counted = omega (arith, length-append s.front (line ∷ []));
    }

-- a line that is not skipped is taken
pub takes_line : (count : ℕ) (lines : List (List ℕ)) (number : ℕ) (line : List ℕ) (rest : List (List ℕ)) → Skips count lines number (line ∷ rest) → is_skipped line ≡ false
    → Takes count lines line (number + 1) rest
takes_line count lines number line rest s e = record { before = number; skips = s; is_read = e; is = omega arith }

skipped_lead : (s : SoFar) (lines : List (List ℕ)) → AreSkipped lines → LeadTo s lines s
skipped_lead s [] k = refl
skipped_lead s (line ∷ lines) k = (s, inl (k.0, refl), skipped_lead s lines k.1)

lead_both : (a b c : SoFar) (front lines : List (List ℕ)) → LeadTo a front b → LeadTo b lines c → LeadTo a (front ++ lines) c
lead_both a b c [] lines l m = subst (λ x. LeadTo x lines c) l m
lead_both a b c (line ∷ front) lines (next, p, l) m = (next, p, lead_both next b c front lines l m)

pub leads_none : (s : SoFar) (count : ℕ) (lines : List (List ℕ)) → LeadOn s count lines s count lines
leads_none s count lines = record { front = []; split = refl; right = refl; counted = omega arith }

-- one part of the lines after the other
pub leads_both : (a b c : SoFar) (count number last : ℕ) (lines rest others : List (List ℕ)) → LeadOn a count lines b number rest → LeadOn b number rest c last others
    → LeadOn a count lines c last others
leads_both a b c count number last lines rest others p q =
    let m = p.counted in
    let n = q.counted in
    record {
      front = p.front ++ q.front;
      split = p.split ∙ ap (λ x. p.front ++ x) q.split ∙ sym (append_assoc p.front q.front others);
      right = lead_both a b c p.front q.front p.right q.right;
      counted = omega (arith, length-append p.front q.front);
    }

skips_on : (s : SoFar) (count : ℕ) (lines : List (List ℕ)) (number : ℕ) (rest : List (List ℕ)) → Skips count lines number rest → LeadOn s count lines s number rest
skips_on s count lines number rest k = record { front = k.front; split = k.split; right = skipped_lead s k.front k.skipped; counted = k.counted }

-- a line that is taken and right leads on
pub takes_on : (s after : SoFar) (count : ℕ) (lines : List (List ℕ)) (line : List ℕ) (number : ℕ) (rest : List (List ℕ)) → Takes count lines line number rest → Declares s line after
    → LeadOn s count lines after number rest
takes_on s after count lines line number rest t d =
    let is = t.is in
    let one : LeadOn s t.before (line ∷ rest) after number rest =
    record { front = line ∷ []; split = refl; right = (after, inr (t.is_read, d), refl); counted = omega arith } in
    leads_both s s after count t.before number lines (line ∷ rest) rest (skips_on s count lines t.before (line ∷ rest) t.skips) one

-- what stops behind right lines stops the whole
pub stops_behind : (P : SoFar → List (List ℕ) → Type 0) (a b : SoFar) (count number : ℕ) (lines rest : List (List ℕ)) (at : ℕ) → LeadOn a count lines b number rest
    → StopsAt P b number rest at → StopsAt P a count lines at
stops_behind P a b count number lines rest at l s =
    record { after = s.after; taken = s.taken; rest = s.rest; right = leads_both a b s.after count number s.taken lines rest s.rest l s.right; holds = s.holds; is = s.is }

stops_in : (s : SoFar) (line : List ℕ) (rest : List (List ℕ)) (kind : SetupFaultKind) → is_skipped line ≡ false → UnlessMemory kind (LineFault s line kind) → Stops kind s (line ∷ rest)
stops_in s line rest kind read (inl m) = inl (m, read)
stops_in s line rest kind read (inr f) = inr (read, f)

-- a line that is taken and has a fault stops
pub line_stops : (s : SoFar) (count : ℕ) (lines : List (List ℕ)) (line : List ℕ) (number : ℕ) (rest : List (List ℕ)) (kind : SetupFaultKind) → Takes count lines line number rest
    → UnlessMemory kind (LineFault s line kind) → StopsAt (Stops kind) s count lines number
line_stops s count lines line number rest kind t f =
    record {
      after = s;
      taken = t.before;
      rest = line ∷ rest;
      right = skips_on s count lines t.before (line ∷ rest) t.skips;
      holds = stops_in s line rest kind t.is_read f;
      is = t.is;
    }

-- a line that is taken is read at its number
pub line_reads : (s : SoFar) (count : ℕ) (lines : List (List ℕ)) (line : List ℕ) (number : ℕ) (rest : List (List ℕ)) → Takes count lines line number rest → StopsAt ReadsNext s count lines number
line_reads s count lines line number rest t =
    record {
      after = s;
      taken = t.before;
      rest = line ∷ rest;
      right = skips_on s count lines t.before (line ∷ rest) t.skips;
      holds = t.is_read;
      is = t.is;
    }

-- so does the end of a file before its categories
pub end_stops : (s : SoFar) (count : ℕ) (lines : List (List ℕ)) (fault : SetupFault) → (IsBegun s → ⊥) → EndsEarly count lines fault → StopsAt (Stops fault.kind) s count lines fault.line
end_stops s count lines fault none e =
    record { after = s; taken = e.last; rest = []; right = skips_on s count lines e.last [] e.skips; holds = inr (e.kind, none); is = e.line }

memory_never : (s : SoFar) (line : List ℕ) (kind : SetupFaultKind) → kind ≡ Memory → LineFault s line kind → ⊥
memory_never s line kind m (inl f) = let e = f.0 in cc
memory_never s line kind m (inr (d, spelled, due, inl f)) = let e = f.0 in cc
memory_never s line kind m (inr (d, spelled, due, inr (few, inl f))) = go (fails_in_time (asked s d) kind f)
  where
    go : (kind ≡ Unknown) ⊎ (kind ≡ Repeated) → ⊥
    go (inl e) = cc
    go (inr e) = cc
memory_never s line kind m (inr (d, spelled, due, inr (few, inr f))) = let e = f.1 in cc

memory_not_next : (s : SoFar) (rest : List (List ℕ)) (kind : SetupFaultKind) → kind ≡ Memory → FaultNext kind s rest → ⊥
memory_not_next s [] kind m f = let e = f.0 in cc
memory_not_next s (line ∷ lines) kind m f = memory_never s line kind m f.1

-- where reading stops is the first fault, unless memory runs out
pub stopped_first : (most : ℕ) (bytes : List ℕ) (fault : SetupFault) → length bytes ≤ most → StopsAt (Stops fault.kind) nothing 0 (file_lines bytes) fault.line
    → UnlessMemory fault.kind (FirstSetupFaultWithin most bytes fault)
stopped_first most bytes fault size s = go s.holds
  where
    go : Stops fault.kind s.after s.rest → UnlessMemory fault.kind (FirstSetupFaultWithin most bytes fault)
    go (inl m) = inl m.0
    go (inr f) = inr (inr (size, record { after = s.after; taken = s.taken; rest = s.rest; right = s.right; holds = f; is = s.is }))

-- and a fault of memory names a line that is read
pub stopped_memory : (most : ℕ) (bytes : List ℕ) (fault : SetupFault) → length bytes ≤ most → StopsAt (Stops fault.kind) nothing 0 (file_lines bytes) fault.line → fault.kind ≡ Memory
    → IsReadWithin most bytes fault.line
stopped_memory most bytes fault size s m = go s.holds
  where
    go : Stops fault.kind s.after s.rest → IsReadWithin most bytes fault.line
    go (inl h) = (size, record { after = s.after; taken = s.taken; rest = s.rest; right = s.right; holds = h.1; is = s.is })
    go (inr f) = absurd (memory_not_next s.after s.rest fault.kind m f)

pub stopped_refuses : (most : ℕ) (bytes : List ℕ) (fault : SetupFault) → UnlessMemory fault.kind (FirstSetupFaultWithin most bytes fault)
    → UnlessMemory fault.kind ((setup : Setup) → IsSetupWithin most bytes setup → ⊥)
stopped_refuses most bytes fault (inl m) = inl m
stopped_refuses most bytes fault (inr f) = inr (λ setup s. fault_is_no_setup most bytes setup fault s f)

-- a line that spells nothing
pub spells_nothing : (s : SoFar) (line : List ℕ) (kind : SetupFaultKind) → OfSyntax kind ((d : Declaration) → Begins line (spell_declaration d) [] → ⊥) → UnlessMemory kind (LineFault s line kind)
spells_nothing s line kind (inl m) = inl m
spells_nothing s line kind (inr f) = inr (inl (f.0, λ d spelled due. f.1 d spelled))

-- a line that spells a declaration that is refused
pub line_refused : (s : SoFar) (line : List ℕ) (d : Declaration) (kind : SetupFaultKind) → Begins line (spell_declaration d) [] → UnlessMemory kind (Refuses s d kind)
    → UnlessMemory kind (LineFault s line kind)
line_refused s line d kind spelled (inl m) = inl m
line_refused s line d kind spelled (inr (inl f)) =
    inr (inl (f.0, λ e spelled' due. f.1 (subst (IsDue s) (one_spelled line e d spelled' spelled) due)))
line_refused s line d kind spelled (inr (inr f)) = inr (inr (d, spelled, f.0, f.1))

-- the next line of a file
next_line : (bytes line rest cut : List ℕ) → lines_of bytes ≡ line ∷ lines_of rest → cut ≡ without_cr line → file_lines bytes ≡ cut ∷ file_lines rest
next_line bytes line rest cut e w = ap (map without_cr) e ∙ (λ i. sym w i ∷ file_lines rest)

pub next_skipped : (count : ℕ) (lines : List (List ℕ)) (number : ℕ) (bytes line rest cut : List ℕ) → Skips count lines number (file_lines bytes) → lines_of bytes ≡ line ∷ lines_of rest
    → cut ≡ without_cr line → is_skipped cut ≡ true → Skips count lines (number + 1) (file_lines rest)
next_skipped count lines number bytes line rest cut s e w k =
    skips_more count lines number cut (file_lines rest) (subst (Skips count lines number) (next_line bytes line rest cut e w) s) k

pub next_taken : (count : ℕ) (lines : List (List ℕ)) (number : ℕ) (bytes line rest cut : List ℕ) → Skips count lines number (file_lines bytes) → lines_of bytes ≡ line ∷ lines_of rest
    → cut ≡ without_cr line → is_skipped cut ≡ false → Takes count lines cut (number + 1) (file_lines rest)
next_taken count lines number bytes line rest cut s e w k =
    takes_line count lines number cut (file_lines rest) (subst (Skips count lines number) (next_line bytes line rest cut e w) s) k

-- a line that is skipped is not among those that are read
pub next_read_on : (bytes line rest cut : List ℕ) → lines_of bytes ≡ line ∷ lines_of rest → cut ≡ without_cr line → is_skipped cut ≡ true → lines_read bytes ≡ lines_read rest
next_read_on bytes line rest cut e w k = ap kept (next_line bytes line rest cut e w) ∙ rw k refl

-- at the end of the file
pub none_taken : (count : ℕ) (lines : List (List ℕ)) (number : ℕ) (bytes : List ℕ) → length bytes ≡ 0 → Skips count lines number (file_lines bytes) → Skips count lines number []
none_taken count lines number [] e s = s
none_taken count lines number (b ∷ bytes) e s = absurd (omega arith)
