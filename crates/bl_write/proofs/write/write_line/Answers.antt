use Rattle.std.proofs.Common.{List, ℕ, ◌≤◌, length}
use Rattle.bl_write.specs.CanonicalLine.{IsCanonicalOf, canonical_line}
use Rattle.bl_work.specs.LineGrammar.{LineOf}
use Rattle.bl_write.proofs.LinesWritten.{IsWritten, line_written, along_text}
use Rattle.bl_write.proofs.write.write_line.Goals as goal

-- the laws are called before the text is written
written : (c : goal.After-text_of) → IsWritten c.args.names.now c.args.line.now (canonical_line c.args.names.now c.args.line.now)
written c =
    line_written c.args.names.now c.canonical_reads_again.ensures c.canonical_is_shortest.ensures c.read_tokens_are_proper.ensures
    c.args.line.now c.scheme.ensures.names c.requires.0 c.requires.1

pub returns-clause-reads : goal.returns-clause-reads
returns-clause-reads c =
    let names = c.args.names.now in
    let asked = c.args.line.now in
    along_text c.text_of.result (λ text. text.items) (λ bytes. LineOf names bytes asked) (canonical_line names asked) c.text_of.ensures (written c).reads

pub returns-clause-shortest : goal.returns-clause-shortest
returns-clause-shortest c =
    let names = c.args.names.now in
    let asked = c.args.line.now in
    along_text c.text_of.result (λ text. text.items) (λ text. (bytes : List ℕ) → LineOf names bytes asked → length text ≤ length bytes) (canonical_line names asked) c.text_of.ensures
    (written c).shortest

pub returns-clause-canonical : goal.returns-clause-canonical
returns-clause-canonical c =
    let names = c.args.names.now in
    let asked = c.args.line.now in
    along_text c.text_of.result (λ text. text.items) (λ bytes. IsCanonicalOf names bytes asked) (canonical_line names asked) c.text_of.ensures (written c).canonical
