-- The premises can be met: calls from C can be made; and those of a burst, by computation.
use Prim.Native.Nat.{ℕ, zero, suc, ◌+◌, ◌*◌, ◌≤◌}
use mathlib.Core.Path.{◌≡◌, refl, ap, sym, subst}
use mathlib.Core.List.{List, [], ◌∷◌}
use mathlib.Core.Bool.{Bool, true, false}
use native.Mathlib.Omega.{arith}
use lib.Dec.{eqb}
use lib.ListN.{length, replicate, length-replicate}
use borrow.Author.Tests.{eqb-true, eqb-false}
use Rattle.wire.specs.declared.Flow.{Flow}
use Rattle.responses.specs.Type13.{response_size}
use Rattle.wire.specs.declared.Setup.{Setup}
use Rattle.wire.specs.Packet.{too_wide}
use Rattle.contexts.specs.State.{ids_in}
use Rattle.reading.specs.Desk.{Desk, state_on, with_response}
use Rattle.reading.specs.Table.{Lent, lent}
use Rattle.reading.specs.Read.{reading}
use Rattle.answers.specs.Answers.{SetupSaid}
use Rattle.answers.specs.Stands.{Stands}
use Rattle.writing.specs.Writer.{Wrote}
use Rattle.flows.specs.Deliveries.{Delivery}
use Rattle.flows.specs.Fresh.{Allowed, zero_desk}
use Rattle.c_reports.specs.declared.Report.{Report}
use Rattle.c_answers.specs.Numbers.{numbers, numbers_of_setup, numbers_of_writer}
use Rattle.log_records.specs.Written.{AllShort}
use Rattle.log_records.proofs.Back.{log_reads_back}
use Rattle.sending.specs.Sending.{Sent, packet_count, packets, FairPDU}
use Rattle.sending.specs.OfSendings.{packet_at}
use Rattle.sending.specs.Mixture.{small_setup, mixture}
use Rattle.sending.proofs.Mixture.{mixture-is_fair}
use Rattle.paper_examples.proofs.Computing.{computing}
use Rattle.demands.proofs.Writing.{counted, written_well}
use Rattle.demands.proofs.Witnesses.{calls_not_empty}
use Rattle.tables.specs.Refusals.{accept}
use Rattle.flows.specs.Widths.{narrowed}
use Rattle.c_bursts.specs.Bursts.{slot_bytes, burst_verdict, room_for, report_for}
use Rattle.answers.specs.Kinds.{delivered_kind, ready_kind, written_kind}
use Rattle.c_promises.specs.OfCalls.{FetchesFromC, at_place, nothing, ReadsFromC, no_more, one_more}
use Rattle.c_promises.specs.OfCalls.{SetUpFromC, WritesFromC, no_segment, one-segment, CallsFromCNotEmpty, desk_for_nine, nine_reports, BurstAt, BurstNotEmpty}

-- ---- Calls

-- a setup that says ready, with its answer as numbers
sets_up : (s : Setup) → Allowed s → SetUpFromC s (zero_desk s)
sets_up s allowed =
    let up = calls_not_empty.sets_up s allowed in
    record {
      device_ID = up.device_ID;
      before = up.before;
      answer = numbers ready_kind 0;
      promised = record { answer = ap (λ (x : Stands SetupSaid). numbers_of_setup x.says) up.ready; state = ap (λ (x : Stands SetupSaid). x.words) up.ready };
      ready = refl;
      lends = up.lends;
    }

-- after any report a caller can fetch
fetch_made : (d : Desk) (r : Report) → (fetched : List Delivery) × FetchesFromC d r fetched
fetch_made d r = go (eqb r.kind delivered_kind) refl
  where
    go : (b : Bool) → eqb r.kind delivered_kind ≡ b → (fetched : List Delivery) × FetchesFromC d r fetched
    go true e = (_, at_place _ (eqb-true r.kind delivered_kind e) refl)
    go false e = (_, nothing (eqb-false r.kind delivered_kind e))

-- a call for each packet, with a response buffer as long as a response
reads_made : (ps : List (List ℕ)) (d : Desk) → (ds : List Delivery) × ReadsFromC d ps ds
reads_made [] d = ([], no_more)
reads_made (p ∷ ps) d =
    let reply : List ℕ = replicate (response_size (ids_in (state_on d))) 0 in
    let enough : response_size (ids_in (state_on d)) ≤ length reply = omega (arith, length-replicate {A = ℕ} (response_size (ids_in (state_on d))) 0) in
    let x : Lent = lent (with_response d reply) p in
    let fetch = fetch_made (reading x).desk (report_for (reading x)) in
    let rest = reads_made ps (reading x).desk in
    (_, one_more (report_for (reading x)) reply enough (record { report = refl; desk = refl }) fetch.1 rest.1)

-- the writer, with a buffer as long as the packet
module _ (s : Setup) (flow : Flow) (x : Sent) (allowed : Allowed s) (source : too_wide s.narrow flow.source ≡ false) (priority : flow.priority ≤ 3) (fair : FairPDU s.room x) where
  writes-made : (n k : ℕ) → k + n ≡ packet_count s.mtu x → (ps : List (List ℕ)) × WritesFromC s flow x k n ps
  writes-made zero k e = (_, no_segment)
  writes-made (suc n) k e =
      let packet : List ℕ = packet_at s flow x k in
      let well = written_well s flow x allowed source priority fair packet k (omega arith) (omega arith) in (
        _,
        one-segment packet _ (numbers written_kind (length packet))
            (record { answer = ap (λ (w : Wrote). numbers_of_writer w.says) well; packet = ap (λ (w : Wrote). w.out) well }) refl
            (writes-made n (suc k) (omega arith)).1,
      )

pub calls_from_c_not_empty : CallsFromCNotEmpty
calls_from_c_not_empty = record {
  sets_up = sets_up;
  reads = λ d ps. reads_made ps d;
  writes = λ s flow x count allowed source priority fair says. writes-made s flow x allowed source priority fair count 0 (omega (arith, says, counted s flow x allowed source priority fair));
}

-- ---- A burst

-- the packets that the mixture leaves, at a width: nine, all of them short
abbrev left_over : ℕ → List (List ℕ)
left_over narrow = packets (small_setup narrow) (mixture narrow)

short_at_16 : AllShort (left_over 0)
unfolding narrowed
short_at_16 = subst AllShort (sym mixture-is_fair.0.left) (omega arith, (omega arith, (omega arith, (omega arith, (omega arith, (omega arith, (omega arith, (omega arith, (omega arith, tt)))))))))

short_at_8 : AllShort (left_over 1)
unfolding narrowed
short_at_8 = subst AllShort (sym mixture-is_fair.1.0.left) (omega arith, (omega arith, (omega arith, (omega arith, (omega arith, (omega arith, (omega arith, (omega arith, (omega arith, tt)))))))))

nine_fit : 9 ≤ room_for (length nine_reports) (slot_bytes * 9)
unfolding room_for
nine_fit = omega arith

burst_at : (narrow : ℕ) → AllShort (left_over narrow) → length (left_over narrow) ≡ 9 → burst_verdict (desk_for_nine narrow) ≡ accept → BurstAt narrow
burst_at narrow short nine passed = record {
  short = short;
  whole_burst = record { whole-records = log_reads_back (left_over narrow) short; passed = passed; room = omega (arith, nine, nine_fit) };
}

pub burst_not_empty : BurstNotEmpty
unfolding computing
burst_not_empty = (
  burst_at 0 short_at_16 (ap length mixture-is_fair.0.left) refl,
  (burst_at 1 short_at_8 (ap length mixture-is_fair.1.0.left) refl, tt),
)
