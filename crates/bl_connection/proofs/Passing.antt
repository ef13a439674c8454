-- Known bytes of a stream, and those that a connection keeps.
use Rattle.std.proofs.Common.{◌≡◌, ℕ, List, [], ◌++◌, length, sym, ap, ◌∙◌, append_assoc, Option, Some, None, OnSome, take}
use lib.Seq.{take-append_seam}
use Rattle.std.specs.Io.KnownBytes.{Consumes, IsAtEnd, Keeps, prepend_known}
use Rattle.bl_engine.specs.BlockText.{Begins}

-- bytes that were read are kept, where none were
pub keeps_read : (a b : Option (List ℕ)) (u bytes : List ℕ) → u ≡ [] → Consumes a b bytes → Keeps (prepend_known u a) (prepend_known bytes b)
keeps_read None b u bytes none took = tt
keeps_read (Some x) None u bytes none took = absurd took
keeps_read (Some x) (Some y) u bytes none took = sym took ∙ ap (λ l. l ++ x) (sym none)

-- nothing was read
pub keeps_unread : (a b : Option (List ℕ)) (u : List ℕ) → Keeps a b → Keeps (prepend_known u a) (prepend_known u b)
keeps_unread None b u kept = tt
keeps_unread (Some x) None u kept = absurd kept
keeps_unread (Some x) (Some y) u kept = ap (λ l. u ++ l) kept

-- of the bytes that were kept a front was heard
pub consumes_heard : (a : Option (List ℕ)) (u bytes rest : List ℕ) → u ≡ bytes ++ rest → Consumes (prepend_known u a) (prepend_known rest a) bytes
consumes_heard None u bytes rest is = tt
consumes_heard (Some x) u bytes rest is = ap (λ l. l ++ x) is ∙ append_assoc bytes rest x

-- a stream that is at its end has nothing to be heard where all that was read was heard
pub at_end : (start a : Option (List ℕ)) (u : List ℕ) → u ≡ [] → OnSome start (IsAtEnd a) → OnSome start (IsAtEnd (prepend_known u a))
at_end None a u none end = tt
at_end (Some xs) None u none end = tt
at_end (Some xs) (Some ys) u none end = ap (λ l. l ++ ys) none ∙ end

pub on_some : (start : Option (List ℕ)) {P : Type 0} → P → OnSome start P
on_some None p = tt
on_some (Some xs) p = p

-- the end stays where nothing is taken
pub end_stays : (start a b : Option (List ℕ)) (bytes : List ℕ) → Consumes start a bytes → Keeps a b → OnSome start (IsAtEnd a) → OnSome start (IsAtEnd b)
end_stays None a b bytes took kept end = tt
end_stays (Some xs) None b bytes took kept end = absurd took
end_stays (Some xs) (Some ys) None bytes took kept end = absurd kept
end_stays (Some xs) (Some ys) (Some zs) bytes took kept end = kept ∙ end

-- the same of a stream of which something was kept
pub stream_end_stays : (start a b : Option (List ℕ)) (u bytes : List ℕ) → Consumes start (prepend_known u a) bytes → Keeps a b → OnSome start (IsAtEnd a) → OnSome start (IsAtEnd b)
stream_end_stays None a b u bytes took kept end = tt
stream_end_stays (Some xs) None b u bytes took kept end = absurd took
stream_end_stays (Some xs) (Some ys) None u bytes took kept end = absurd kept
stream_end_stays (Some xs) (Some ys) (Some zs) u bytes took kept end = kept ∙ end

-- what begins the beginning of a text begins it
pub begins_front : (written rest said text : List ℕ) → said ≡ written ++ rest → Begins said text → Begins written text
begins_front written rest said text is begins = (rest ++ begins.0, begins.1 ∙ ap (λ l. l ++ begins.0) is ∙ append_assoc written rest begins.0)

-- and what begins a text begins it with more
pub begins_on : (before written more : List ℕ) → Begins before written → Begins before (written ++ more)
begins_on before written more begins = (begins.0 ++ more, ap (λ l. l ++ more) begins.1 ∙ append_assoc before begins.0 more)

-- the front of a list, by its length
pub front_of : (n : ℕ) (xs ys : List ℕ) → n ≡ length xs → take n (xs ++ ys) ≡ xs
front_of n xs ys is = ap (λ k. take k (xs ++ ys)) is ∙ take-append_seam xs ys
