-- Responses: ERROR and RETRY are written in the first 7 response bytes, with IDs of one byte in the first 5; an accepted segment writes DONE; nothing
-- else writes there (document 01; document 02, M-112).
use Rattle.std.specs.Prelude.{ℕ, ◌+◌, ◌*◌, ◌≤◌, ◌≡◌, List, [], ◌∷◌, cond, eqb, length}
use Rattle.std.proofs.Math.Option.{Option, none, some}
use Rattle.lists.specs.Bytes.{byte, AreBytes}
use Rattle.answers.specs.Answers.{Said, held, delivered, message, refused}
use Rattle.wire.specs.declared.Setup.{Setup}
use Rattle.wire.specs.Packet.{header, ids_of, priority, tt, tt_of, packet_type, destination, source}
use Rattle.wire.specs.Head.{is11}
use Rattle.responses.specs.Type13.{response_size, DONE, RETRY, ERROR, above, response_to, answered}
use Rattle.contexts.specs.State.{ids_in}
use Rattle.reading.specs.Desk.{Desk, state_on, with_response}
use Rattle.reading.specs.Table.{Lent, lent, state_in}
use Rattle.reading.specs.Read.{but_response, reading}

-- the refusals that are responded to, and the status
abbrev pub statuses : List (ℕ × ℕ)
statuses = (20, ERROR) ∷ (21, ERROR) ∷ (22, ERROR) ∷ (23, ERROR) ∷ (24, ERROR) ∷ (25, RETRY) ∷ []

abbrev pub status_in : List (ℕ × ℕ) → ℕ → Option ℕ
status_in [] number = none
status_in (s ∷ rest) number = cond (eqb s.0 number) (some s.1) (status_in rest number)

-- the status of the response, by the answer; none: nothing is written
abbrev pub status_of : Lent → Said → Option ℕ
-- a segment is accepted: of a message, if the packet is of type 11
status_of x held = cond (is11 x.packet) (some DONE) none
status_of x (message context source letter mailbox size) = some DONE
status_of x (refused number) = status_in statuses number
status_of x (delivered context flow stream_id size) = none

-- by the status: the response buffer as it is left, and how many bytes of it are the response
abbrev pub response_left : Lent → Option ℕ → List ℕ
response_left x none = x.desk.response
response_left x (some status) = answered (ids_in (state_in x)) x.desk.response x.packet status

abbrev pub replied_by : Lent → Option ℕ → ℕ
replied_by x none = 0
replied_by x (some status) = response_size (ids_in (state_in x))

-- what is responded to is a message packet addressed to us, and the response has our own device ID as source
pub record Responds (x : Lent) : Type 0 where
  pub to_message : packet_type x.packet ≡ 11
  pub for_us : destination (ids_in (state_in x)) x.packet ≡ (state_in x).setup.device
  pub own-source : source (ids_in (state_in x)) (reading x).desk.response ≡ (state_in x).setup.device

-- a response is of type 13 with the request's IDs swapped, in as many bytes, one priority above and at most 3
pub record IsResponse (ids : ℕ) (p response : List ℕ) (status : ℕ) : Type 0 where
  pub size : length response ≡ header ids + 2
  pub kind : packet_type response ≡ 13
  pub same_width : tt response ≡ tt_of ids
  pub higher : priority response ≡ above (priority p)
  pub to_sender : destination ids response ≡ source ids p
  pub from_us : source ids response ≡ destination ids p
  pub says : byte response (header ids) ≡ 0b0001 * 16 + status
  pub letter_mbox_msgseg : byte response (header ids + 1) ≡ byte p (header ids + 1)

pub record ResponsesExactly : Type 0 where
  -- written exactly by these statuses, and the answer says how many bytes
  pub written_by_lem : (x : Lent) → (reading x).desk.response ≡ response_left x (status_of x (reading x).says)
  pub counted : (x : Lent) → (reading x).replied ≡ replied_by x (status_of x (reading x).says)
  pub from_us : (x : Lent) (status : ℕ) → status_of x (reading x).says ≡ some status → Responds x
  pub layout : (settings : Setup) (p : List ℕ) (status : ℕ) → AreBytes p → IsResponse (ids_of settings) p (response_to (ids_of settings) p status) status
  -- the buffer decides nothing: with any two that 12 allows a packet is answered the same and leaves the same, but for the response itself
  pub decides_nothing : (d : Desk) (response : List ℕ) (p : List ℕ) → response_size (ids_in (state_on d)) ≤ length d.response → response_size (ids_in (state_on d)) ≤ length response
      → but_response (reading (lent d p)) ≡ but_response (reading (lent (with_response d response) p))
