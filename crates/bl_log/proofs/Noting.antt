-- Notes that are written one after the other.
use Rattle.std.proofs.Common.{List, ℕ, [], ◌∷◌, ◌++◌, refl, sym, append_assoc, codes, decimal}
use Rattle.bl_wire.specs.Watch.{EndState, Puts}
use Rattle.bl_wire.proofs.PutLaws.{puts-append, puts-is, puts-line, puts-nil}
use Rattle.bl_log.specs.Lines.{AreLinesOf}
use Rattle.bl_log.specs.Logs.{HaveBeenNoted}
use Rattle.bl_log.specs.declared.note.Note.{Note}

-- five texts, joined from the left, and six
pub puts-five : (a b c d e : List ℕ) (s t u v w x : EndState) → Puts a s t → Puts b t u → Puts c u v → Puts d v w → Puts e w x → Puts ((((a ++ b) ++ c) ++ d) ++ e) s x
puts-five a b c d e s t u v w x p q r k l = puts-append (((a ++ b) ++ c) ++ d) e s w x (puts-line a b c d s t u v w p q r k) l

pub puts-six : (a b c d e f : List ℕ) (s t u v w x y : EndState) → Puts a s t → Puts b t u → Puts c u v → Puts d v w → Puts e w x → Puts f x y
    → Puts (((((a ++ b) ++ c) ++ d) ++ e) ++ f) s y
puts-six a b c d e f s t u v w x y p q r k l m = puts-append ((((a ++ b) ++ c) ++ d) ++ e) f s x y (puts-five a b c d e s t u v w x p q r k l) m

-- a word and a count behind a text
pub puts-counted : (front word digits : List ℕ) (s t u : EndState) → Puts front s t → Puts (word ++ digits) t u → Puts ((front ++ word) ++ digits) s u
puts-counted front word digits s t u p q =
    puts-is (front ++ (word ++ digits)) ((front ++ word) ++ digits) s u (sym (append_assoc front word digits)) (puts-append front (word ++ digits) s t u p q)

-- what is said of a server that listens
abbrev pub started : List ℕ → (limit sessions clients most : ℕ) → List ℕ
started version limit sessions clients most = codes "started " ++ version ++ codes " limit " ++ decimal limit ++ codes " sessions " ++ decimal sessions
    ++ codes " clients " ++ decimal clients ++ codes " trail-limit " ++ decimal most

-- the lines of notes stand in their order
pub in_order : (notes : List Note) (old new : EndState) → HaveBeenNoted notes old new → (text : List ℕ) × AreLinesOf notes text × Puts text old new
in_order [] old new is = ([], refl, puts-nil old new is)
in_order (note ∷ notes) old new (middle, (line, is, put), more) =
    let later = in_order notes middle new more in
    (line ++ later.0, (line, later.0, is, later.1, refl), puts-append line later.0 old middle new put later.2)
