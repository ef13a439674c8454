-- How bytes are cut into tokens. A token is always the longest that its first byte can begin.
use Rattle.std.specs.Prelude.{◌≡◌, ℕ, Bool, ◌&&◌, ◌||◌, not, if◌then◌else◌, ◌==◌, nat_le, List, [], ◌∷◌, take, drop, Option, Some, None}
use Rattle.std.specs.Str.{bytes_eq}
use Rattle.std.specs.List.{prefix_len}
use Rattle.bl_name.specs.declared.token.Keyword.{Keyword}
use Rattle.bl_name.specs.declared.token.Keyword.TheVariants.{Hello, Wait, Give, Rescind, Current, Classify, When, Read, Append, Write, Do, End, Show, Say, Add, Set, Copy, Pour, To, If, Is, Has, Then, Else, Spawn, Ranks, Categories, Subject, Greatest, Document, Allow, Trusted, Admin, Create, Delete, Reserve}
use Rattle.bl_name.specs.declared.token.Sign.{Sign}
use Rattle.bl_name.specs.declared.token.Sign.TheVariants.{Comma, Semicolon, Open, Close}
use Rattle.bl_name.specs.declared.lexer.Class.{Class}
use Rattle.bl_name.specs.declared.lexer.Class.TheVariants as class
use Rattle.bl_name.specs.Token.{Tok, reserved, name, text, sign}

-- own choice: blanks are space and tab; words are of lower-case letters, digits and `_`; texts of 0x20 to 0x7E without `"` and `\`
abbrev pub is_in : Class → ℕ → Bool
is_in class.Blank b = b == 32 || b == 9
is_in class.Word b = (nat_le 97 b && nat_le b 122) || (nat_le 48 b && nat_le b 57) || b == 95
is_in class.Text b = nat_le 32 b && nat_le b 126 && not (b == 34) && not (b == 92)

abbrev pub is_word_byte : ℕ → Bool
is_word_byte = is_in class.Word

abbrev pub is_text_byte : ℕ → Bool
is_text_byte = is_in class.Text

-- a lower-case letter, which begins a word
abbrev pub is_letter : ℕ → Bool
is_letter b = nat_le 97 b && nat_le b 122

-- the length of the longest run of such bytes at the front
abbrev pub run_len : Class → List ℕ → ℕ
run_len c bytes = prefix_len (is_in c) bytes

-- what stands behind that run
abbrev pub past : Class → List ℕ → List ℕ
past c bytes = drop (run_len c bytes) bytes

abbrev pub past_blanks : List ℕ → List ℕ
past_blanks = past class.Blank

-- the bytes of a reserved word
abbrev pub word_text : Keyword → List ℕ
word_text Hello = 104 ∷ 101 ∷ 108 ∷ 108 ∷ 111 ∷ []
word_text Wait = 119 ∷ 97 ∷ 105 ∷ 116 ∷ []
word_text Give = 103 ∷ 105 ∷ 118 ∷ 101 ∷ []
word_text Rescind = 114 ∷ 101 ∷ 115 ∷ 99 ∷ 105 ∷ 110 ∷ 100 ∷ []
word_text Current = 99 ∷ 117 ∷ 114 ∷ 114 ∷ 101 ∷ 110 ∷ 116 ∷ []
word_text Classify = 99 ∷ 108 ∷ 97 ∷ 115 ∷ 115 ∷ 105 ∷ 102 ∷ 121 ∷ []
word_text When = 119 ∷ 104 ∷ 101 ∷ 110 ∷ []
word_text Read = 114 ∷ 101 ∷ 97 ∷ 100 ∷ []
word_text Append = 97 ∷ 112 ∷ 112 ∷ 101 ∷ 110 ∷ 100 ∷ []
word_text Write = 119 ∷ 114 ∷ 105 ∷ 116 ∷ 101 ∷ []
word_text Do = 100 ∷ 111 ∷ []
word_text End = 101 ∷ 110 ∷ 100 ∷ []
word_text Show = 115 ∷ 104 ∷ 111 ∷ 119 ∷ []
word_text Say = 115 ∷ 97 ∷ 121 ∷ []
word_text Add = 97 ∷ 100 ∷ 100 ∷ []
word_text Set = 115 ∷ 101 ∷ 116 ∷ []
word_text Copy = 99 ∷ 111 ∷ 112 ∷ 121 ∷ []
word_text Pour = 112 ∷ 111 ∷ 117 ∷ 114 ∷ []
word_text To = 116 ∷ 111 ∷ []
word_text If = 105 ∷ 102 ∷ []
word_text Is = 105 ∷ 115 ∷ []
word_text Has = 104 ∷ 97 ∷ 115 ∷ []
word_text Then = 116 ∷ 104 ∷ 101 ∷ 110 ∷ []
word_text Else = 101 ∷ 108 ∷ 115 ∷ 101 ∷ []
word_text Spawn = 115 ∷ 112 ∷ 97 ∷ 119 ∷ 110 ∷ []
word_text Ranks = 114 ∷ 97 ∷ 110 ∷ 107 ∷ 115 ∷ []
word_text Categories = 99 ∷ 97 ∷ 116 ∷ 101 ∷ 103 ∷ 111 ∷ 114 ∷ 105 ∷ 101 ∷ 115 ∷ []
word_text Subject = 115 ∷ 117 ∷ 98 ∷ 106 ∷ 101 ∷ 99 ∷ 116 ∷ []
word_text Greatest = 103 ∷ 114 ∷ 101 ∷ 97 ∷ 116 ∷ 101 ∷ 115 ∷ 116 ∷ []
word_text Document = 100 ∷ 111 ∷ 99 ∷ 117 ∷ 109 ∷ 101 ∷ 110 ∷ 116 ∷ []
word_text Allow = 97 ∷ 108 ∷ 108 ∷ 111 ∷ 119 ∷ []
word_text Trusted = 116 ∷ 114 ∷ 117 ∷ 115 ∷ 116 ∷ 101 ∷ 100 ∷ []
word_text Admin = 97 ∷ 100 ∷ 109 ∷ 105 ∷ 110 ∷ []
word_text Create = 99 ∷ 114 ∷ 101 ∷ 97 ∷ 116 ∷ 101 ∷ []
word_text Delete = 100 ∷ 101 ∷ 108 ∷ 101 ∷ 116 ∷ 101 ∷ []
word_text Reserve = 114 ∷ 101 ∷ 115 ∷ 101 ∷ 114 ∷ 118 ∷ 101 ∷ []

-- all the reserved words
abbrev pub words : List Keyword
words =
    Hello ∷ Wait ∷ Give ∷ Rescind ∷ Current ∷ Classify ∷ When ∷ Read ∷ Append ∷
    Write ∷ Do ∷ End ∷ Show ∷ Say ∷ Add ∷ Set ∷ Copy ∷ Pour ∷
    To ∷ If ∷ Is ∷ Has ∷ Then ∷ Else ∷ Spawn ∷ Ranks ∷ Categories ∷
    Subject ∷ Greatest ∷ Document ∷ Allow ∷ Trusted ∷ Admin ∷ Create ∷ Delete ∷ Reserve ∷ []

-- which of these reserved words the bytes are
abbrev pub keyword_among : List Keyword → List ℕ → Option Keyword
keyword_among [] bytes = None
keyword_among (k ∷ ks) bytes = if bytes_eq (word_text k) bytes then Some k else keyword_among ks bytes

-- a word is reserved, or else it is a name
abbrev pub word_token : Option Keyword → List ℕ → Tok
word_token (Some k) bytes = reserved k
word_token None bytes = name bytes

-- the sign that a byte is
abbrev pub sign_of : ℕ → Option Sign
sign_of b =
    if b == 44 then Some Comma
    else (if b == 59 then Some Semicolon
    else (if b == 123 then Some Open
    else (if b == 125 then Some Close
    else None)))

-- what stands at the front of bytes: nothing; a token, with the bytes behind it; or a fault, with the bytes from its place on
pub data Front : Type 0 where
  nothing : Front
  token : Tok → List ℕ → Front
  broken : List ℕ → Front

-- behind the first quote of a text: it ends at the next quote, and is at fault at a byte that no text holds, or at the end of the bytes
abbrev pub text_front : List ℕ → List ℕ → Front
text_front bytes [] = broken []
text_front bytes (b ∷ more) = if b == 34 then token (text (take (run_len class.Text bytes) bytes)) more else broken (b ∷ more)

-- a word of more than 32 bytes is at fault at its first byte
abbrev pub word_front : List ℕ → Front
word_front bytes =
    if nat_le (run_len class.Word bytes) 32
    then token (word_token (keyword_among words (take (run_len class.Word bytes) bytes)) (take (run_len class.Word bytes) bytes)) (past class.Word bytes)
    else broken bytes

-- a sign, or else a byte that begins no token
abbrev pub sign_front : Option Sign → ℕ → List ℕ → Front
sign_front (Some s) b bytes = token (sign s) bytes
sign_front None b bytes = broken (b ∷ bytes)

-- what stands at the front: a word where a letter stands, a text where a quote stands, a sign, or a fault
abbrev pub front : List ℕ → Front
front [] = nothing
front (b ∷ bytes) =
    if is_letter b then word_front (b ∷ bytes)
    else (if b == 34 then text_front bytes (past class.Text bytes)
    else sign_front (sign_of b) b bytes)

-- the bytes begin with these tokens, with any blanks before them and behind them, and then come the rest
abbrev pub Begins : List ℕ → List Tok → List ℕ → Type 0
Begins bytes [] rest = rest ≡ past_blanks bytes
Begins bytes (t ∷ ts) rest = (more : List ℕ) × (front (past_blanks bytes) ≡ token t more) × Begins more ts rest
