-- Type 13, message response, 7 bytes; with IDs of one byte, 5: document 01, 'Packet bytes'; document 02, M-112; 002 (Part 2, rev. 2.1), 4.3.3 and tables 4-6 and 4-7.
use Rattle.std.specs.Prelude.{ℕ, ◌+◌, ◌*◌, List, [], ◌∷◌, ◌++◌, cond, ltb}
use Rattle.lists.specs.Bytes.{byte, bytes_from, written}
use Rattle.wire.specs.Packet.{header, priority, first_byte_of}

-- the bytes of a response
abbrev pub response_size : (ids : ℕ) → ℕ
response_size ids = header ids + 2

-- status
abbrev pub DONE : ℕ
DONE = 0b0000

abbrev pub RETRY : ℕ
RETRY = 0b0011

abbrev pub ERROR : ℕ
ERROR = 0b0111

-- one above the request's priority and at most 3
abbrev pub above : ℕ → ℕ
above priority = cond (ltb priority 3) (priority + 1) 3

-- the response to the message packet p
unfoldable pub response_to : (ids : ℕ) → List ℕ → ℕ → List ℕ
response_to ids p status =
    -- priority, tt, type 13
    first_byte_of ids (above (priority p)) 13
    -- the IDs swapped: the request's source, then its destination, which is the endpoint's own
    ∷ (bytes_from ids p (1 + ids) ++ (bytes_from ids p 1 ++
    -- transaction 0001, status
    ((0b0001 * 16 + status)
    -- the request's letter, mbox and msgseg
    ∷ byte p (header ids + 1)
    ∷ [])))

-- the response buffer after it: its first bytes are the response
unfoldable pub answered : (ids : ℕ) → List ℕ → List ℕ → ℕ → List ℕ
answered ids response p status = written response 0 (response_to ids p status)
