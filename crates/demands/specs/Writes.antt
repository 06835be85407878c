-- The writer's calls that people make, one after the other: any outcome that the promise allows may come.
use Rattle.std.specs.Prelude.{ℕ, zero, suc, List, [], ◌∷◌, take, Ok}
use Rattle.wire.specs.declared.Flow.{Flow}
use Rattle.wire.specs.declared.Setup.{Setup}
use Rattle.writing.specs.Writer.{WritePromise}
use Rattle.sending.specs.Sending.{Sent, heading_for}

-- `write_segment` for n segments of a PDU from number k on, each with any output buffer, each outcome a length that its
-- promise allows; and the packets that then stand in the buffers
pub data Writes (setup : Setup) (flow : Flow) (s : Sent) : (k n : ℕ) → List (List ℕ) → Type 0 where
  written_all : {k : ℕ} → Writes setup flow s k zero []
  write : {k n : ℕ} {ps : List (List ℕ)} (out left : List ℕ) (size : ℕ)
      → WritePromise out (heading_for setup flow s) setup.mtu s.pdu.bytes k (Ok size) left
      → Writes setup flow s (suc k) n ps
      → Writes setup flow s k (suc n) (take size left ∷ ps)
