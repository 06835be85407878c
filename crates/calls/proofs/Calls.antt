-- Whatever response buffers they are given, calls that keep their promises deliver what the definitions do.
use Prim.Native.Nat.{ℕ, ◌≤◌}
use mathlib.Core.Path.{◌≡◌, refl, ap, ap₂, sym, ◌∙◌, subst}
use mathlib.Core.List.{List, [], ◌∷◌, ◌++◌}
use native.Mathlib.Omega.{arith}
use lib.ListN.{length}
use Rattle.answers.specs.Answers.{Said, held, delivered, message, refused, said}
use Rattle.wire.specs.Packet.{ids_of}
use Rattle.responses.specs.Type13.{response_size}
use Rattle.contexts.specs.State.{ids_in}
use Rattle.reading.specs.Desk.{Desk, state_on, with_response}
use Rattle.reading.specs.Table.{lent}
use Rattle.reading.specs.Read.{Settled, settled, but_response}
use Rattle.reading.proofs.Kept.{setup-kept}
use Rattle.reading.proofs.Response.{response_decides_nothing, response_length}
use Rattle.flows.specs.OneFlow.{pdu}
use Rattle.flows.specs.Deliveries.{Delivery, delivery, read, after, delivered_on, deliveries}
use Rattle.calls.specs.Calls.{Fetches, room, none-held, none_message, none_refused, Reads, stop, call, FetchedIsDelivered, CallsDeliver}
use Rattle.calls.proofs.Rooms.{room_of_delivered}

pub fetched_is_delivered : FetchedIsDelivered
fetched_is_delivered d p fetched f = go (read d p).says refl fetched f
  where
    go : (says : Said) → (read d p).says ≡ says → (fetched : List Delivery) → Fetches (after d p) says fetched → fetched ≡ delivered_on (after d p) says
    go (delivered context flow stream size) e fetched (room memory handed same promise) =
        ap (λ (bytes : List ℕ). delivery flow (pdu stream bytes) ∷ []) ((room_of_delivered.of_PDU d p context flow stream size e).bytes memory handed same promise)
    go held e fetched none-held = refl
    go (message context source letter mailbox size) e fetched none_message = refl
    go (refused number) e fetched none_refused = refl

-- with any response buffer of the desk's own
calls_deliver_with : {d : Desk} {ps : List (List ℕ)} {ds : List Delivery} → Reads d ps ds → (own : List ℕ) → response_size (ids_in (state_on d)) ≤ length own → ds ≡ deliveries (with_response d own) ps
calls_deliver_with stop own h = refl
calls_deliver_with (call {d = d} {next = to} {p = p} {ps = ps} {fetched = fetched} {ds = ds} r given g promise fetch rest) own h =
    let onward : List ℕ = (after (with_response d own) p).response in
    let same_width : ids_in (state_on to) ≡ ids_in (state_on d) = ap (λ (l : Settled). ids_in (state_on l.desk)) promise ∙ ap ids_of (setup-kept (lent (with_response d given) p)) in
    let long : response_size (ids_in (state_on to)) ≤ length onward = omega (arith, same_width, response_length (lent (with_response d own) p) h, h) in
    let later : ds ≡ deliveries (with_response to onward) ps = calls_deliver_with rest onward long in
    let now_delivered : fetched ≡ delivered_on to (said r.answer) =
    subst (λ (l : Settled). Fetches l.desk l.says fetched → fetched ≡ delivered_on l.desk l.says) (sym promise) (fetched_is_delivered (with_response d given) p fetched) fetch in
    let alike : but_response (settled (said r.answer) r.dropped r.response to) ≡ but_response (read (with_response d own) p) =
    ap but_response promise ∙ response_decides_nothing d.words d.stream_memory d.message_memory given own p g h in
    ap₂ (λ (l m : List Delivery). l ++ m) now_delivered later
    ∙ ap (λ (l : Settled). delivered_on l.desk l.says ++ deliveries (with_response l.desk onward) ps) alike

pub calls_deliver : CallsDeliver
calls_deliver d ps ds h reads = calls_deliver_with reads d.response h
