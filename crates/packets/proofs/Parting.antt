-- Where types part: by what a packet's head answers it is refused, of type 9 or of type 11, for a desk that rows 19 and 12 have passed.
use Prim.Native.Nat.{ℕ, ◌+◌, ◌<◌, ◌≤◌}
use mathlib.Core.Path.{◌≡◌, ap, ap₂, sym, ◌∙◌}
use lib.ListN.{get_or}
use borrow.Author.Tests.{lt-ltb}
use Rattle.tables.specs.Refusals.{all}
use Rattle.wire.specs.declared.Setup.{Setup}
use Rattle.wire.specs.Packet.{header, id_bytes}
use Rattle.wire.specs.Parsed.{Parsed, parsed, Refused, Stream, Message}
use Rattle.wire.specs.Inside.{headed}
use Rattle.wire.proofs.ByNumber.{said_by_number, by_number}
use Rattle.stream_rooms.specs.Inside.{Ready}
use Rattle.message_rooms.specs.Inside.{MessageReady}
use Rattle.contexts.specs.State.{ids_in}
use Rattle.reading.specs.Table.{Lent, state_in, segment_in, message_segment_in}
use Rattle.reading.specs.Read.{refusing, reading}
use Rattle.reading.specs.Inside.{ReadyToRead}
use Rattle.reading.proofs.Laws.{sizes_right}
use Rattle.reading.proofs.Packets.{stream_parsed, message_parsed, message_small}
use Rattle.reading.proofs.Rows.{by_parsed, by_packet}

abbrev pub setup_in : Lent → Setup
setup_in x = (state_in x).setup

-- what the packet is
abbrev pub Is : Lent → Parsed → Type 0
Is x p = parsed (setup_in x) x.packet ≡ p

module _ (x : Lent) where
  -- ---- by what its head answers
  module _ {device narrow : ℕ} (d : device ≡ (setup_in x).device) (w : narrow ≡ (setup_in x).narrow) where
    by_head : {number : ℕ} → number ≡ headed device (id_bytes narrow) x.packet → Is x (said_by_number (setup_in x) x.packet number)
    by_head e = by_number (setup_in x) x.packet _ (e ∙ ap₂ (λ (a b : ℕ). headed a (id_bytes b) x.packet) d w)

    pub is_refused : {number : ℕ} → number ≡ headed device (id_bytes narrow) x.packet → number < 9 → Is x (Refused number)
    is_refused {number} e h = by_head e ∙ rw (lt-ltb number 9 h)

    pub is_9 : 9 ≡ headed device (id_bytes narrow) x.packet → Is x (Stream (segment_in x))
    is_9 = by_head

    pub is_11 : 11 ≡ headed device (id_bytes narrow) x.packet → Is x (Message (message_segment_in x))
    is_11 = by_head

  -- ---- what reading it is, and what the step of its type may rely on
  module _ (ready : ReadyToRead x.desk) where
    pub reads : (p : Parsed) → Is x p → by_parsed x p ≡ reading x
    reads p e =
        let fit = ready.fit in
        sym (by_packet x fit.whole fit.good (sizes_right x.desk fit.rooms fit.boxes ready.reply) ∙ ap (by_parsed x) e)

    pub ready_9 : Is x (Stream (segment_in x)) → Ready x.desk.words x.desk.stream_memory x.packet (segment_in x)
    ready_9 e =
        let fit = ready.fit in
        record { whole = fit.whole; good = fit.good; size = fit.rooms; inside = (stream_parsed x.packet (setup_in x) _ e).1 }

    pub ready_11 : Is x (Message (message_segment_in x)) → get_or x.packet (header (ids_in (state_in x))) 0 < 256 → get_or x.packet (header (ids_in (state_in x)) + 1) 0 < 256
        → MessageReady x.desk.words x.desk.message_memory x.desk.response x.packet (message_segment_in x)
    ready_11 e a b =
        let fit = ready.fit in
        let small = message_small (ids_in (state_in x)) x.packet _ (message_parsed x.packet (setup_in x) _ e) a b in
        record { whole = fit.whole; good = fit.good; size = fit.boxes; reply = ready.reply; inside = small.0; segments = small.1; number = small.2; boxes = small.3 }
