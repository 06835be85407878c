-- What reading a packet does to a board of the programs.
use Rattle.std.specs.Prelude.{ℕ, List, replicate}
use Rattle.refusals.specs.declared.Refusal.{Refusal}
use Rattle.answers.specs.declared.Reading.{Reading}
use Rattle.reading.specs.Desk.{Desk, desk}
use Rattle.reading.specs.Table.{lent}
use Rattle.reading.specs.Read.{ReadPromise}
use Rattle.outside.specs.declared.boards.Board.{Board}

-- the board and a response buffer, as they are lent
abbrev pub lent_of : Board → (response : List ℕ) → Desk
lent_of board response = desk board.state board.streams board.messages response

-- the endpoint has read the packet, with a response buffer of so many zeros
abbrev pub BoardReads : (size : ℕ) → Board → (packet : List ℕ) → Reading Refusal → (response : List ℕ) → Board → Type 0
BoardReads size before packet reading response after =
    ReadPromise (lent (lent_of before (replicate size 0)) packet) reading (lent_of after response)
