-- IDs of 16 bits and of 8 (document 02, M-112): a packet of the other width is refused 2; and the same packet with IDs of the other width, at an endpoint
-- of that width, is answered the same.
use Rattle.std.specs.Prelude.{ℕ, ◌-◌, ◌≤◌, ◌<◌, ◌≡◌, List, [], ◌∷◌, false, cond, length, take, drop, set, eqb}
use Rattle.lists.specs.Bytes.{byte, written}
use Rattle.answers.specs.Answers.{refused}
use Rattle.wire.specs.Packet.{header, tt, tt_of, destination, source}
use Rattle.responses.specs.Type13.{response_size}
use Rattle.contexts.specs.State.{ids_in}
use Rattle.reading.specs.Desk.{Desk, desk, state_on}
use Rattle.reading.specs.Table.{lent_refusal}
use Rattle.reading.specs.Read.{Settled, settled}
use Rattle.flows.specs.Deliveries.{read}

-- a number for each width, as setup takes it: 16 bits, and 8
abbrev pub both_widths : List ℕ
both_widths = 0 ∷ 1 ∷ []

-- ---- a packet of the other width

-- any packet that has its IDs and whose tt is not that of our width, at every desk that rows 19 and 12 pass: refused 2, whatever its IDs, and all stays
abbrev pub OtherWidthRefused : Type 0
OtherWidthRefused =
    (d : Desk) (p : List ℕ) → lent_refusal d ≡ 0
    → header (ids_in (state_on d)) ≤ length p → (tt p ≡ tt_of (ids_in (state_on d)) → ⊥)
    → read d p ≡ settled (refused 2) false 0 d

-- ---- the same but for the IDs

-- a packet with IDs of two bytes, as it is with IDs of one: tt 00 in place of 01, and the high byte of each ID left out
unfoldable pub narrowed : List ℕ → List ℕ
narrowed p = (byte p 0 - 16) ∷ byte p 2 ∷ byte p 4 ∷ drop (header 2) p

-- as it is at an endpoint of that width
abbrev pub at_width : (narrow : ℕ) → List ℕ → List ℕ
at_width narrow p = cond (eqb narrow 0) p (narrowed p)

-- a desk with another width word, the fourth of the state's, and a response buffer of its own; all else is the same
abbrev pub with_width : (narrow : ℕ) → (response : List ℕ) → Desk → Desk
with_width narrow response d = desk (set d.words 3 narrow) d.stream_memory d.message_memory response

-- what is answered and left, the same but for the IDs: answer, contexts and memories are the same; a response is two bytes shorter, and is written into
-- the buffer that is lent there
abbrev pub narrowed_answer : (narrow : ℕ) → (response : List ℕ) → Settled → Settled
narrowed_answer narrow response x =
    settled x.says x.dropped (x.replied - 2)
    (with_width narrow (cond (eqb x.replied 0) response (written response 0 (narrowed (take x.replied x.desk.response)))) x.desk)

abbrev pub SameButForIDs : Type 0
SameButForIDs =
    (narrow : ℕ) (d : Desk) (response p : List ℕ)
    -- an endpoint of 16 bits, with a desk that rows 19 and 12 pass; one of 8 bits, and a response buffer that 12 allows there
    → (state_on d).setup.narrow ≡ 0 → lent_refusal d ≡ 0 → (narrow ≡ 0 → ⊥) → response_size 1 ≤ length response
    -- a packet with IDs of 16 bits, both below 256
    → header 2 ≤ length p → tt p ≡ tt_of 2 → destination 2 p < 256 → source 2 p < 256
    → read (with_width narrow response d) (narrowed p) ≡ narrowed_answer narrow response (read d p)
