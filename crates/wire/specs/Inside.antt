-- What the functions of wire and heads promise those above. No promise of a public call speaks of it.
use Rattle.std.specs.Prelude.{ℕ, ◌+◌, List, cond, ltb, drop}
use Rattle.tables.specs.Refusals.{Leaves, Verdict, verdict, by_verdict}
use Rattle.wire.specs.Packet.{header, packet_type}
use Rattle.wire.specs.Head.{head_rows}
use Rattle.wire.specs.Type9.{flags, flow_of}
use Rattle.wire.specs.declared.StreamHead.{StreamHead}

-- the refusal's number, or the packet's type where no row of its head refuses it
abbrev pub headed_by : List ℕ → Verdict → ℕ
headed_by p = by_verdict (λ (number : ℕ) (leaves : Leaves). number) (packet_type p)

unfoldable pub headed : (device ids : ℕ) → List ℕ → ℕ
headed device ids p = headed_by p (verdict (head_rows device ids p))

-- the same once the first rows of the head have passed: n of them, 3 or more. From there on no row asks for our device ID
unfoldable pub headed_behind : ℕ → (ids : ℕ) → List ℕ → ℕ
headed_behind n ids p = headed_by p (verdict (drop n (head_rows 0 ids p)))

-- where the data of a type 9 packet begin, by its flags: behind a field of two bytes where S or E is set
abbrev pub data_from : (ids flags : ℕ) → ℕ
data_from ids flags = cond (ltb flags 64) (header ids + 2) (header ids + 4)

-- what the code reads of a type 9 packet: its flags, where its data begin, and its flow
unfoldable pub stream_head : (ids : ℕ) → List ℕ → StreamHead
stream_head ids p = record { flags = flags ids p; from = data_from ids (flags ids p); flow = flow_of ids p }
