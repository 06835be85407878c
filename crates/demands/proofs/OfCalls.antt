-- Demands 2 and 3 of the calls: setup has made a fresh desk, the writer's calls leave the PDU's packets, and the calls that read deliver what the
-- definitions do.
use Prim.Native.Nat.{◌≤◌}
use mathlib.Core.Path.{◌≡◌, refl, ap, ◌∙◌}
use mathlib.Core.Bool.{false≢true}
use mathlib.Core.List.{[]}
use lib.ListN.{length}
use Rattle.answers.specs.Answers.{SetupSaid, ready, setup_refused}
use Rattle.tables.specs.Refusals.{VerdictOf, refuse, accept, none, verdict}
use Rattle.tables.proofs.Exactly.{none-held}
use Rattle.wire.specs.declared.Setup.{Setup}
use Rattle.responses.specs.Type13.{response_size}
use Rattle.contexts.specs.State.{ids_in, fresh}
use Rattle.contexts.specs.Words.{words_of}
use Rattle.endpoint.specs.Calls.{SetupLeaves, setup_table, setup_by, setup}
use Rattle.answers.specs.Stands.{Stands, stands}
use Rattle.reading.specs.Desk.{Desk, state_on}
use Rattle.flows.specs.Deliveries.{deliveries}
use Rattle.flows.specs.Fresh.{Fresh}
use Rattle.flows.proofs.Steady.{reply_on, fresh-steady}
use Rattle.sending.specs.Sending.{packet_count}
use Rattle.sending.proofs.Untold.{packets_from}
use Rattle.demands.specs.OfCalls.{SetUp, SetUpIsFresh, Demand2OfCalls, Demand3OfCalls, Demand3AnyLoss}
use Rattle.calls.proofs.Calls.{calls_deliver}
use Rattle.demands.proofs.Widths.{fits_width, fits-bytes}
use Rattle.demands.proofs.Writing.{calls_write, counted}
use Rattle.demands.proofs.Demands.{ours_meets, one_PDU, fresh_delivers_whole}

-- ---- Setting up

pub set_up_is_fresh : SetUpIsFresh
unfolding setup
set_up_is_fresh s d up = go (verdict (setup_table up.before s)) refl up.ready
  where
    made : none (setup_table up.before s) → d.words ≡ words_of (fresh s) → Fresh s d
    made passed e = unfold setup_table none in record {
      allowed = record { device_ID = fits-bytes s.narrow s.device up.device_ID passed.1.0; allowed_MTU = passed.1.1.0; allowed_R = passed.1.1.1.0 };
      words = e;
      lends = up.lends;
    }

    go : (v : VerdictOf SetupLeaves) → verdict (setup_table up.before s) ≡ v
        → stands ready d.words ≡ setup_by up.before s v → Fresh s d
    go (refuse number leaves) t e =
        let says : ready ≡ setup_refused number = ap (λ (x : Stands SetupSaid). x.says) e in
        absurd (false≢true cc)
    go accept t e = made (none-held (setup_table up.before s) t) (ap (λ (x : Stands SetupSaid). x.words) e)

-- the response buffer that is lent, by the state's own width
own_reply : (s : Setup) (d : Desk) → SetUp s d → response_size (ids_in (state_on d)) ≤ length d.response
own_reply s d up = reply_on (fresh-steady s d (set_up_is_fresh s d up))

-- ---- Demand 3

pub demand3_of_calls : Demand3OfCalls
demand3_of_calls s d sending ds up sent_fairly one_loss neighbours reads =
    calls_deliver d _ ds (own_reply s d up) reads
    ∙ ours_meets.demand3 s d sending (set_up_is_fresh s d up) (record { sent_fairly = sent_fairly; one_loss = one_loss; neighbours = neighbours })

pub demand3_any_loss : Demand3AnyLoss
demand3_any_loss s d sending n ds up sent_fairly neighbours reads =
    calls_deliver d _ ds (own_reply s d up) reads
    ∙ fresh_delivers_whole s d sending (set_up_is_fresh s d up) (record { sent_fairly = sent_fairly; neighbours = neighbours }) n

-- ---- Demand 2

pub demand2_of_calls : Demand2OfCalls
demand2_of_calls s d flow x count ps ds up source priority cos fair says writes reads =
    let f = set_up_is_fresh s d up in
    let n : count ≡ packet_count s.mtu x = says ∙ counted s flow x f.allowed (fits_width s.narrow flow.source source) priority fair in
    let cut : ps ≡ packets_from s flow x 0 (packet_count s.mtu x) = calls_write s flow x writes ∙ ap (packets_from s flow x 0) n in
    calls_deliver d ps ds (own_reply s d up) reads
    ∙ (ap (deliveries d) cut ∙ one_PDU s flow x d f (record { allowed = f.allowed; source = source; priority = priority; cos = cos }) fair)
