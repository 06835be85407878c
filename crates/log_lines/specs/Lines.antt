-- The lines that the log program prints (document 01, 'The log program').
use Rattle.std.specs.Prelude.{ℕ, List, [], ◌++◌, Bool, cond}
use Rattle.answers.specs.Answers.{Said, held, delivered, message, refused}
use Rattle.log_lines.specs.Text.{text}
use Rattle.log_lines.specs.Decimal.{decimal}

-- a space and a number
unfoldable pub spaced : ℕ → List ℕ
spaced n = text " " ++ decimal n

-- held, pdu SOURCE COS STREAM LENGTH (the priority is passed by), msg SOURCE LETTER MAILBOX LENGTH, refused N
abbrev pub answer_text : Said → List ℕ
answer_text held = text "held"
answer_text (delivered context flow stream size) = text "pdu" ++ spaced flow.source ++ spaced flow.cos ++ spaced stream ++ spaced size
answer_text (message context source letter mailbox size) = text "msg" ++ spaced source ++ spaced letter ++ spaced mailbox ++ spaced size
answer_text (refused number) = text "refused" ++ spaced number

-- then ` dropped` where so
unfoldable pub line_of : Said → Bool → List ℕ
line_of says dropped = answer_text says ++ cond dropped (text " dropped") [] ++ text "\n"

-- a clean end prints `end` and the number of records
unfoldable pub end_line : ℕ → List ℕ
end_line count = text "end" ++ spaced count ++ text "\n"

unfoldable pub bad_log : List ℕ
bad_log = text "bad log\n"
