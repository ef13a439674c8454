-- What is said on standard error to who starts the program, beside faults.
use Rattle.std.specs.Prelude.{ℕ, List, codes}

-- own choice: what is said at a terminal to who begins a session
abbrev pub hint_of_alone : List ℕ
hint_of_alone = codes "Say `hello SUBJECT`, and then a line for each request. `wait` brings the answers, and the end of input\n        (Ctrl-D) ends the session.\n"

-- own choice: what is said at a terminal of a server that writes its trail at its end
abbrev pub signal_line : List ℕ
signal_line = codes "Ctrl-C, or any other signal, ends the server without a trail; `--keep written` keeps one as it goes.\n"

-- own choice: what is said where a limit was said of a run that goes on from another
abbrev pub unheard_line : List ℕ
unheard_line = codes "--limit is not heard: the run goes on under its own\n"
