-- How deep the bodies of a `when` stand in one another, as it is spelled.
use Rattle.std.specs.Prelude.{ℕ, ◌+◌, max}
use Rattle.bl_work.specs.Spelled.{SpelledBody, empty, show, say, add, set, copy, pour, if_then, if_else, spawn}

-- how many bodies stand in one another
abbrev pub spelled_depth : SpelledBody → ℕ
spelled_depth empty = 0
spelled_depth (show document rest) = spelled_depth rest
spelled_depth (say words rest) = spelled_depth rest
spelled_depth (add document words rest) = spelled_depth rest
spelled_depth (set document words rest) = spelled_depth rest
spelled_depth (copy from to rest) = spelled_depth rest
spelled_depth (pour from to rest) = spelled_depth rest
spelled_depth (if_then document asks words then_body rest) = max (spelled_depth then_body + 1) (spelled_depth rest)
spelled_depth (if_else document asks words then_body else_body rest) =
    max (max (spelled_depth then_body) (spelled_depth else_body) + 1) (spelled_depth rest)
spelled_depth (spawn first more body rest) = max (spelled_depth body + 1) (spelled_depth rest)
