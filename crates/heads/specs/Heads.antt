-- What the head of a packet answers: its type, 9 or 11, or the row of the table that refuses it.
use Rattle.std.specs.Prelude.{ℕ, Result, Ok, Err}
use Rattle.refusals.specs.declared.Refusal.{Refusal}
use Rattle.refusals.specs.Numbers.{row_number}
use Rattle.heads.specs.declared.PacketType.{PacketType}
use Rattle.heads.specs.declared.PacketType.TheVariants as packet

abbrev pub type_number : PacketType → ℕ
type_number packet.DataStreaming = 9
type_number packet.Message = 11

abbrev pub head_number : Result PacketType Refusal → ℕ
head_number (Ok t) = type_number t
head_number (Err refusal) = row_number refusal
