use Rattle.std.proofs.Common.{◌≡◌, ◌<◌, ◌++◌, ◌∙◌, [], ℕ, true≢false, append-nil, refl, sym, ap, arith, codes, decimal}
use Rattle.bl_wire.proofs.PutLaws.{puts-four}
use Rattle.bl_connection_tests.specs.declared.shows.Shows.{Shows}
use Rattle.bl_connection_tests.proofs.Shown.{left_above, left_none, reply_of}
use Rattle.bl_connection_tests.proofs.shows.ShowsReplies.put_part.Goals as goal

pub returns-clause-part : goal.returns-clause-part
returns-clause-part g c =
    let old = c.args.self.now in
    let k = c.args.ordinal in
    let less : old.upto < k = omega (arith, c.requires.1, c.requires.2) in
    let new : Shows = record { text = old.text; upto = k } in
    let after = left_none new k (omega arith) in
    record {
      part = reply_of old k;
      split = left_above old k less ∙ sym (append-nil (reply_of old k)) ∙ ap (λ l. reply_of old k ++ l) (sym after);
      puts = puts-four (reply_of old k) (decimal k) (codes " done \"") old.text.now (codes "\"\n") _ _ _ _ _ refl c.put_number.ensures.puts c.put.ensures.puts c.put-2.ensures.puts c.put-3.ensures.puts;
      some = λ bad. absurd (true≢false bad);
      none = λ is. after;
    }

pub returns-clause-others : goal.returns-clause-others
returns-clause-others g c = λ k less.
    let old = c.args.self.now in
    let before : old.upto < k = omega (arith, c.requires.1, c.requires.2, less) in
    let new : Shows = record { text = old.text; upto = c.args.ordinal } in
    left_above new k less ∙ sym (left_above old k before)
