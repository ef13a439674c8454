use Rattle.bl_record.proofs.complete.complete.Goals as goal

pub returns-clause-ok : goal.returns-clause-ok
returns-clause-ok c =
    let is = c.in_ok-rebuilt.ensures.ok in
    record {
      finished = record {
        found = c.in_ok-rebuilt.rebuilt.hall;
        setup_is = is.setup_is;
        recovered = is.recovered;
        on = c.in_ok-hall.ensures.on;
        ended = c.in_ok-hall.ensures.ended;
      };
      right = is.right;
      bookmark = c.at_end-bookmark.ensures.bookmark;
      all = c.at_end-bookmark.ensures.all;
      rest = c.rest_of.ensures;
    }
