-- A desk that was just set up: what every statement over many calls begins with.
use Rattle.std.specs.Prelude.{◌*◌, ◌^◌, ◌≤◌, ◌<◌, ◌≡◌, List, false, ℕ, length, replicate}
use Rattle.sizes.specs.Sizes.{bad_mtu}
use Rattle.responses.specs.Type13.{response_size}
use Rattle.wire.specs.declared.Setup.{Setup}
use Rattle.wire.specs.Packet.{ids_of}
use Rattle.contexts.specs.State.{fixed, fresh, stream_contexts}
use Rattle.contexts.specs.Words.{words_of}
use Rattle.refusal19.specs.Refusal19.{bad_room}
use Rattle.message_rooms.specs.Placing.{message_memory_bytes}
use Rattle.reading.specs.Desk.{Desk, desk}

-- numbers that setup takes: a device ID that fits its bytes, an MTU that 18 allows, an R that 19 allows
pub record Allowed (setup : Setup) : Type 0 where
  pub device_ID : setup.device < 256 ^ ids_of setup
  pub allowed_MTU : bad_mtu setup.mtu ≡ false
  pub allowed_R : bad_room setup.mtu setup.room ≡ false

-- memories that 12 allows, whatever is in them
pub record Lends (setup : Setup) (d : Desk) : Type 0 where
  pub rooms : length d.stream_memory ≡ stream_contexts * setup.room
  pub boxes : length d.message_memory ≡ message_memory_bytes
  pub reply : response_size (ids_of setup) ≤ length d.response

-- setup was ready, and the memories fit
pub record Fresh (setup : Setup) (d : Desk) : Type 0 where
  pub allowed : Allowed setup
  pub words : d.words ≡ words_of (fresh setup)
  pub lends : Lends setup d

abbrev pub fresh_desk : Setup → (stream_memory message_memory response : List ℕ) → Desk
fresh_desk setup stream_memory message_memory response = desk (words_of (fresh setup)) stream_memory message_memory response

-- a fresh desk with memories of zeros and a response buffer of 7; with IDs of one byte, 5
abbrev pub zero_desk : Setup → Desk
zero_desk setup = fresh_desk setup (replicate (stream_contexts * setup.room) 0) (replicate message_memory_bytes 0) (replicate (response_size (ids_of setup)) 0)

-- the setup of document 01's examples and of its log program: device 1, MTU 32, R 2,048. With IDs of that width, and of 16 bits as there
abbrev pub paper_setup_at : (narrow : ℕ) → Setup
paper_setup_at narrow = fixed 1 32 2048 narrow

abbrev pub paper_setup : Setup
paper_setup = paper_setup_at 0

abbrev pub paper_desk : Desk
paper_desk = zero_desk paper_setup
