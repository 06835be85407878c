-- The calls that people make, one after the other: each takes what the call before left, and any outcome that its promise allows may come.
use Rattle.std.specs.Prelude.{ℕ, ◌≤◌, ◌≡◌, List, [], ◌∷◌, ◌++◌, length}
use Rattle.std.specs.Borrow.{Bor}
use Rattle.refusals.specs.declared.Refusal.{Refusal}
use Rattle.answers.specs.declared.Reading.{Reading}
use Rattle.answers.specs.Answers.{Said, held, delivered, message, refused, said}
use Rattle.wire.specs.declared.Flow.{Flow}
use Rattle.responses.specs.Type13.{response_size}
use Rattle.contexts.specs.State.{ids_in}
use Rattle.reading.specs.Desk.{Desk, state_on, with_response}
use Rattle.reading.specs.Table.{lent}
use Rattle.reading.specs.Read.{ReadPromise}
use Rattle.room_parts.specs.Parts.{StreamRoomPromise}
use Rattle.flows.specs.OneFlow.{pdu}
use Rattle.flows.specs.Deliveries.{Delivery, delivery, read, after, delivered_on, deliveries}

-- What a caller fetches after an answer. A PDU is delivered: one call of `stream_room` with the answer's context and length, over the stream memory
-- as it was left; its bytes are those of the part that the call hands back. After any other answer nothing is fetched
pub data Fetches (d : Desk) : Said → List Delivery → Type 0 where
  room : {context : ℕ} {flow : Flow} {stream size : ℕ} (memory handed : Bor (List ℕ)) → memory.now ≡ d.stream_memory
      → StreamRoomPromise d.words memory context size handed
      → Fetches d (delivered context flow stream size) (delivery flow (pdu stream handed.now) ∷ [])
  none-held : Fetches d held []
  none_message : {context source letter mailbox size : ℕ} → Fetches d (message context source letter mailbox size) []
  none_refused : {number : ℕ} → Fetches d (refused number) []

-- `read` for each packet, each with the words and the two memories that the call before left, and with any response buffer that 12 allows;
-- each outcome one that its promise allows; and after it what the caller fetches. The desk's own response buffer is lent only where the caller does so
pub data Reads : Desk → List (List ℕ) → List Delivery → Type 0 where
  stop : {d : Desk} → Reads d [] []
  call : {d next : Desk} {p : List ℕ} {ps : List (List ℕ)} {fetched ds : List Delivery} (r : Reading Refusal) (given : List ℕ) → response_size (ids_in (state_on d)) ≤ length given
      → ReadPromise (lent (with_response d given) p) r next
      → Fetches next (said r.answer) fetched
      → Reads next ps ds
      → Reads d (p ∷ ps) (fetched ++ ds)

-- what is fetched is what the definitions say is delivered, whatever the desk
abbrev pub FetchedIsDelivered : Type 0
FetchedIsDelivered = (d : Desk) (p : List ℕ) (fetched : List Delivery) → Fetches (after d p) (read d p).says fetched → fetched ≡ delivered_on (after d p) (read d p).says

-- so the calls deliver what the definitions do, and the response buffers decide nothing
abbrev pub CallsDeliver : Type 0
CallsDeliver = (d : Desk) (ps : List (List ℕ)) (ds : List Delivery) → response_size (ids_in (state_on d)) ≤ length d.response → Reads d ps ds → ds ≡ deliveries d ps
