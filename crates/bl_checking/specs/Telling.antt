-- What is told of a fault of a setup file.
use Rattle.std.specs.Prelude.{ℕ, zero, suc, ◌+◌, Bool, true, false, List, [], ◌∷◌, ◌++◌, fold, length, take, drop, replicate, Option, Some, None, unwrap_or, codes, decimal}
use Rattle.bl_level.specs.Canonical.{sign_byte}
use Rattle.bl_level.specs.Lexing.{word_text}
use Rattle.bl_declare.specs.declared.fault.SetupFault.{SetupFault}
use Rattle.bl_status.specs.Failure.{kind_words}
use Rattle.bl_due.specs.declared.due.Due.{Due}
use Rattle.bl_due.specs.declared.due.Due.TheVariants as due
use Rattle.bl_due.specs.declared.due.Section.{Section}
use Rattle.bl_due.specs.declared.due.Section.TheVariants as section
use Rattle.bl_spot.specs.declared.located.Excess.{Excess}
use Rattle.bl_spot.specs.declared.located.Excess.TheVariants as excess
use Rattle.bl_spot.specs.declared.located.Located.{Located}
use Rattle.bl_spot.specs.declared.located.Located.TheVariants as located
use Rattle.bl_spot.specs.declared.located.Named.{Named}
use Rattle.bl_spot.specs.declared.located.Named.TheVariants as named
use Rattle.bl_spot.specs.declared.located.Reason.{Reason}
use Rattle.bl_spot.specs.declared.located.Reason.TheVariants as reason
use Rattle.bl_spot.specs.Parts.{line_at}
use Rattle.bl_checking.specs.Visible as visible

-- a text, and these behind it, one after the other
abbrev pub behind : List ℕ → List (List ℕ) → List ℕ
behind text pieces = fold (λ before piece. before ++ piece) text pieces

-- own choice: these words, and those below; each is told behind a text
abbrev pub put_quoted : List ℕ → List ℕ → List ℕ
put_quoted text word = behind text (codes "`" ∷ word ∷ codes "`" ∷ [])

-- a thing that was due
abbrev pub put_due : List ℕ → Due → List ℕ
put_due text (due.Word word) = put_quoted text (word_text word)
put_due text due.Name = text ++ codes "a name"
put_due text due.Letter = text ++ codes "`r`, `a` or `w`"
put_due text due.Text = text ++ codes "a text"
put_due text (due.Sign sign) = put_quoted text (sign_byte sign ∷ [])
put_due text due.End = text ++ codes "the line's end"

-- what stands between two of them, where so many others come behind
abbrev pub separator : ℕ → List ℕ
separator zero = []
separator (suc zero) = codes " or "
separator (suc (suc more)) = codes ", "

-- all that was due, with commas, and with `or` before the last
abbrev pub put_dues : List ℕ → List Due → List ℕ
put_dues text [] = text
put_dues text (d ∷ ds) = put_dues (put_due text d ++ separator (length ds)) ds

abbrev pub section_words : Section → List ℕ
section_words section.Ranks = codes "`ranks`"
section_words section.Categories = codes "`categories`"
section_words section.Entries = codes "`subject`, `document`, `reserve` or `allow`"

abbrev pub named_words : Named → List ℕ
named_words named.Rank = codes "rank"
named_words named.Category = codes "category"
named_words named.Subject = codes "subject"
named_words named.Document = codes "document"

abbrev pub excess_words : Excess → List ℕ
excess_words (excess.Names named.Rank) = codes "more than 16 ranks"
excess_words (excess.Names named.Category) = codes "more than 32 categories"
excess_words (excess.Names named.Subject) = codes "more than 256 subjects"
excess_words (excess.Names named.Document) = codes "more than 1,024 documents"
excess_words excess.Content = codes "more than 65,536 bytes"

-- the nearest name, where one is near
abbrev pub put_near : List ℕ → Option (List ℕ) → List ℕ
put_near text None = text
put_near text (Some name) = behind text (codes "; did you mean `" ∷ name ∷ codes "`?" ∷ [])

-- why a word is at fault
abbrev pub put_reason : List ℕ → Reason → List ℕ
put_reason text (reason.Unknown of_it near) = put_near (behind text (codes "no " ∷ named_words of_it ∷ codes " has this name" ∷ [])) near
put_reason text (reason.Repeated of_it) = behind text (codes "this " ∷ named_words of_it ∷ codes " was named before" ∷ [])
put_reason text reason.CurrentAboveGreatest = text ++ codes "the greatest level does not dominate it"
put_reason text (reason.TooMany much) = text ++ excess_words much

-- the line of the fault; empty where the file has none of this number
abbrev pub line_at_fault : List ℕ → SetupFault → List ℕ
line_at_fault bytes fault = unwrap_or (line_at bytes fault.line) []

-- the column of a place of a line, from 1
abbrev pub column_at : List ℕ → ℕ → ℕ
column_at line at = length (take at line) + 1

-- what is told of the line before the place
abbrev pub front_at : List ℕ → ℕ → List ℕ
front_at line at = visible.last_bytes (visible.bytes false (take at line))

-- of so many bytes from there on
abbrev pub word_at : List ℕ → ℕ → ℕ → List ℕ
word_at line at len = visible.first_bytes (visible.bytes false (take len (drop at line)))

-- and of the line behind them
abbrev pub rest_at : List ℕ → ℕ → ℕ → List ℕ
rest_at line at len =
    visible.first_bytes (
    visible.bytes (visible.is_inside_behind (visible.is_inside_behind false (take at line)) (take len (drop at line))) (drop len (drop at line))
    )

-- a word, or the end of its line where there is none
abbrev pub put_word : List ℕ → List ℕ → List ℕ
put_word text [] = text ++ codes "end of line"
put_word text (b ∷ word) = put_quoted text (b ∷ word)

-- a mark for each byte of a word, and one for the end of a line
abbrev pub marks : List ℕ → List ℕ
marks [] = codes "^"
marks (b ∷ word) = replicate (length (b ∷ word)) 94

-- the number of the line, the column, the kind and the word
abbrev pub put_head : List ℕ → SetupFault → ℕ → List ℕ → List ℕ
put_head text fault column word =
    put_word (behind text (codes ":" ∷ decimal fault.line ∷ codes ":" ∷ decimal column ∷ codes ": " ∷ kind_words fault.kind ∷ codes ": " ∷ [])) word

-- the line, and below it marks under the word
abbrev pub put_line : List ℕ → List ℕ → List ℕ → List ℕ → List ℕ
put_line text front word rest =
    behind text (codes "\n  " ∷ front ∷ word ∷ rest ∷ codes "\n  " ∷ replicate (length front) 32 ∷ marks word ∷ codes "\n  " ∷ [])

-- where a fault is: so many bytes from one place of its line on
abbrev pub put_spot : List ℕ → SetupFault → List ℕ → ℕ → ℕ → List ℕ
put_spot text fault line at len =
    put_line (put_head text fault (column_at line at) (word_at line at len)) (front_at line at) (word_at line at len) (rest_at line at len)

-- that the file ends before this section
abbrev pub put_end : List ℕ → SetupFault → Section → List ℕ
put_end text fault missing =
    behind text (codes ":" ∷ decimal fault.line ∷ codes ":1: " ∷ kind_words fault.kind ∷ codes ": end of file\n  " ∷ section_words missing ∷ codes " was due\n" ∷ [])

-- Own choice, as compilers tell: what is told of a fault of the file of this name.
abbrev pub fault_text : List ℕ → List ℕ → SetupFault → Located → List ℕ
fault_text name bytes fault located.File = behind name (codes ": " ∷ kind_words fault.kind ∷ codes "\n  more than 16,777,216 bytes\n" ∷ [])
fault_text name bytes fault (located.End missing) = put_end name fault missing
fault_text name bytes fault (located.Misfit m) =
    put_dues (put_spot name fault (line_at_fault bytes fault) m.at m.len) m.due.items ++ codes " was due\n"
fault_text name bytes fault (located.Word spot) =
    put_reason (put_spot name fault (line_at_fault bytes fault) spot.at spot.len) spot.reason ++ codes "\n"
