-- What a server tells on standard error while it runs.
use Rattle.std.specs.Prelude.{◌≡◌, ◌⊎◌, ℕ, List, [], ◌∷◌, ◌++◌, codes, decimal}
use Rattle.std.specs.List.{All, concat}
use Rattle.bl_entrance.specs.Ends.{ended_words}
use Rattle.bl_entrance.specs.declared.ended.Ended.{Ended}
use Rattle.bl_entrance.specs.declared.ended.Why.{Why}
use Rattle.bl_wire.specs.Watch.{EndState, Puts}

-- what is said of a session of `serve` that ended early, on a line of its own
abbrev pub ended_line : Ended → List ℕ
ended_line ended = codes "session " ++ decimal ended.session ++ codes ": " ++ ended_words ended.why ++ 10 ∷ []

-- own choice: what is said of so many sessions more that ended early for this cause
abbrev pub count_line : Why → ℕ → List ℕ
count_line why count = ended_words why ++ codes ": " ++ decimal count ++ codes " more\n"

-- what is told when it happens: a session ended early, or so many more did; or the clock or the log takes no more, or a
-- time was before an earlier one
abbrev pub IsNotice : List ℕ → Type 0
IsNotice line = ((ended : Ended) × (line ≡ ended_line ended))
    ⊎ (((why : Why) × (count : ℕ) × (line ≡ count_line why count))
    ⊎ ((line ≡ codes "clock cut short\n") ⊎ ((line ≡ codes "clock went back\n") ⊎ (line ≡ codes "log cut short\n"))))

-- such lines, one after the other
abbrev pub AreNotices : List ℕ → Type 0
AreNotices text = (lines : List (List ℕ)) × All IsNotice lines × (text ≡ concat lines)

-- such lines were told
abbrev pub ToldLive : EndState → EndState → Type 0
ToldLive old new = (text : List ℕ) × AreNotices text × Puts text old new
