-- What decides an access.
use Rattle.std.specs.Prelude.{ℕ}
use Rattle.bl_level.specs.Level.{SecurityLevel}
use Rattle.bl_policy.specs.declared.access.Access.{Access}
use Rattle.bl_policy.specs.Policy.{SecurityPolicy, greatest_of, current_of, level_of, is_present, is_trusted, allows}
use Rattle.bl_explain.specs.declared.grounds.Grounds.{Grounds}

-- own choice: presence and level of the document, the levels of the subject, its trust, the right in the matrix, and the level that is
-- carried; of a policy no more than this decides an access (Bell and La Padula 1976, the three properties)
abbrev pub grounds_of : SecurityPolicy → ℕ → SecurityLevel → Access → Grounds
grounds_of p s carried access =
    record {
      present = is_present p access.doc;
      level = level_of p access.doc;
      greatest = greatest_of p s;
      current = current_of p s;
      trusted = is_trusted p s;
      allowed = allows p s access.doc access.mode;
      carried = carried;
    }
