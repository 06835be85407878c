-- Bursts with a pause over the packets of the mixture: they stop at a message, at three PDUs, and at the end. By computation.
use mathlib.Core.Path.{◌≡◌, refl, subst}
use mathlib.Core.List.{List, [], ◌∷◌, ◌++◌}
use Prim.Native.Nat.{ℕ}
use native.Mathlib.Omega.{arith}
use lib.ListN.{length, drop}
use Rattle.reading.specs.Desk.{Desk, with_response}
use Rattle.paper_examples.proofs.Computing.{computing}
use Rattle.log_records.specs.Records.{record_from, long_record, record_within, next_record}
use Rattle.log_records.specs.Written.{length_bytes, written_log}
use Rattle.lent_state.specs.Lent.{state_refusal, has_room}
use Rattle.room_parts.specs.Parts.{room_part, stream_room}
use Rattle.c_reports.specs.Reports.{report_of}
use Rattle.flows.specs.OneFlow.{pdu}
use Rattle.flows.specs.Deliveries.{Delivery, delivery}
use Rattle.flows.specs.Fresh.{zero_desk}
use Rattle.sending.specs.Sending.{put_of, packets, whole}
use Rattle.sending.specs.Mixture.{small_setup, mixture}
use Rattle.answers.specs.Kinds.{delivered_kind, message_kind}
use Rattle.c_places.specs.Places.{place_of}
use Rattle.c_bursts.specs.Bursts.{Finished, at_end, at_delivery, pause_of, step_in, ran, room_for, read_burst}
use Rattle.c_promises.specs.OfCalls.{desk_for_nine, nine_reports, bytes_at, flow_in, at_place, nothing, last_report, PausedCall, Bursts, ended, paused, PausedBurstsNotEmpty}

-- what a proof by computation looks through, bursts too
unfoldable in_bursts : Unit {0}
unfolding computing put_of record_from long_record record_within next_record length_bytes report_of pause_of step_in ran room_for read_burst state_refusal has_room room_part stream_room
in_bursts = tt

module _ (narrow : ℕ) where
  -- a call with room for nine, asked to pause
  abbrev again : Desk → List ℕ → Finished
  again d burst = read_burst 1 (with_response d (desk_for_nine narrow).response) nine_reports burst

  called : (d : Desk) (burst : List ℕ) → PausedCall d burst (again d burst)
  called d burst = record { pause = 1; asked = λ z. omega (arith, z); responses = (desk_for_nine narrow).response; reports = nine_reports; promised = refl }

  abbrev log : List ℕ
  log = written_log (packets (small_setup narrow) (mixture narrow))

  abbrev first : Finished
  first = again (zero_desk (small_setup narrow)) log

  abbrev log' : List ℕ
  log' = drop first.answer.next log

  abbrev second : Finished
  second = again first.desk log'

  abbrev log'' : List ℕ
  log'' = drop second.answer.next log'

  abbrev third : Finished
  third = again second.desk log''

  abbrev log''' : List ℕ
  log''' = drop third.answer.next log''

  abbrev fourth : Finished
  fourth = again third.desk log'''

  abbrev last : Finished
  last = again fourth.desk (drop fourth.answer.next log''')

-- what is fetched after a report of a PDU
abbrev fetched : Finished → List Delivery
fetched f =
    let r = last_report f in
    delivery (flow_in r) (pdu r.stream_or_mailbox (bytes_at f.desk.stream_memory (place_of (stream_room f.desk.words (length f.desk.stream_memory) r.context r.length)))) ∷ []

-- where the calls stop: at a message and at three PDUs, which are what is whole, and at the end
record Stops (narrow : ℕ) : Type 0 where
  first_stops : (first narrow).answer.stop ≡ at_delivery
  second_stops : (second narrow).answer.stop ≡ at_delivery
  third_stops : (third narrow).answer.stop ≡ at_delivery
  fourth_stops : (fourth narrow).answer.stop ≡ at_delivery
  last_ends : (last narrow).answer.stop ≡ at_end
  first_kind : (last_report (first narrow)).kind ≡ message_kind
  second_kind : (last_report (second narrow)).kind ≡ delivered_kind
  third_kind : (last_report (third narrow)).kind ≡ delivered_kind
  fourth_kind : (last_report (fourth narrow)).kind ≡ delivered_kind
  they_deliver : fetched (second narrow) ++ (fetched (third narrow) ++ (fetched (fourth narrow) ++ [])) ≡ whole (small_setup narrow) (mixture narrow)

stops_at_16 : Stops 0
unfolding in_bursts
stops_at_16 = record { first_stops = refl; second_stops = refl; third_stops = refl; fourth_stops = refl; last_ends = refl; first_kind = refl; second_kind = refl; third_kind = refl; fourth_kind = refl; they_deliver = refl }

stops_at_8 : Stops 1
unfolding in_bursts
stops_at_8 = record { first_stops = refl; second_stops = refl; third_stops = refl; fourth_stops = refl; last_ends = refl; first_kind = refl; second_kind = refl; third_kind = refl; fourth_kind = refl; they_deliver = refl }

paused_at : (narrow : ℕ) → Stops narrow → Bursts (zero_desk (small_setup narrow)) (log narrow) (whole (small_setup narrow) (mixture narrow))
paused_at narrow s =
    subst (Bursts (zero_desk (small_setup narrow)) (log narrow)) s.they_deliver
    (paused (first narrow) (called narrow _ _) s.first_stops (nothing (λ z. omega (arith, z, s.first_kind)))
    (paused (second narrow) (called narrow _ _) s.second_stops (at_place _ s.second_kind refl)
    (paused (third narrow) (called narrow _ _) s.third_stops (at_place _ s.third_kind refl)
    (paused (fourth narrow) (called narrow _ _) s.fourth_stops (at_place _ s.fourth_kind refl)
    (ended (last narrow) (called narrow _ _) s.last_ends)))))

pub paused_bursts_not_empty : PausedBurstsNotEmpty
paused_bursts_not_empty = (paused_at 0 stops_at_16, (paused_at 1 stops_at_8, tt))
