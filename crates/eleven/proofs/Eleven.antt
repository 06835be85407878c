-- Example 11 among other packets: its premises, and by computation what it delivers.
use Prim.Native.Nat.{ℕ, zero, suc, ◌^◌, ◌<◌}
use mathlib.Core.Path.{◌≡◌, refl}
use mathlib.Core.List.{[], ◌∷◌}
use mathlib.Core.Bool.{cond}
use native.Mathlib.Omega.{arith}
use native.Mathlib.Decide.{ℕ_discrete}
use lib.ListN.{length, replicate, length-replicate}
use lib.Dec.{leb}
use borrow.Author.Tests.{ne_eqb, lt-leb}
use Rattle.lists.proofs.Below.{below, below_at, are_bytes}
use Rattle.wire.specs.declared.Setup.{Setup}
use Rattle.wire.specs.Packet.{id_bytes, ids_of}
use Rattle.wire.proofs.Widths.{wide_is, narrow_is}
use Rattle.responses.specs.Type13.{response_size}
use Rattle.lent_state.specs.Lent.{state_refusal, has_room}
use Rattle.room_parts.specs.Parts.{room_part, message_room}
use Rattle.flows.specs.Fresh.{Fresh}
use Rattle.flows.specs.Widths.{at_width, narrowed}
use Rattle.flows.proofs.Steady.{fresh-steady}
use Rattle.mailing.specs.Mail.{Posted, msglen_of, data_at, mail_packet, Postable}
use Rattle.mailing.specs.Run.{segment, other, run_packets, times, FairMailTurn, of_segments, context_at_first}
use Rattle.mailing.specs.ReadBack.{GoodDesk, setup_of, MailRun, defined_calls}
use Rattle.mailing.specs.OfCalls.{MailCalls}
use Rattle.eleven.specs.Eleven.{mail_desk, eleven, from_three, start_between, eleven_turns, eleven_calls, log_mail, MailRunsNotEmpty, ElevenDelivered}
use Rattle.reading.proofs.Computing.{reads}
use Rattle.mailing.proofs.Fetched.{room_call}
use Rattle.mailing.proofs.Calls.{Handed, defined_made}

-- each number once
two_once : (k : ℕ) → times k (1 ∷ 0 ∷ []) ≡ cond (leb k 1) 1 0
two_once zero = refl
two_once (suc zero) = refl
two_once (suc (suc k)) = rw (ne_eqb (suc (suc k)) 1 (λ e. omega arith), ne_eqb (suc (suc k)) 0 (λ e. omega arith), lt-leb (suc (suc k)) 1 (omega arith))

one-once : (k : ℕ) → times k (0 ∷ []) ≡ cond (leb k 0) 1 0
one-once zero = refl
one-once (suc k) = rw (ne_eqb (suc k) 0 (λ e. omega arith), lt-leb (suc k) 0 (omega arith))

-- ---- The premises, at any width

module _ (narrow : ℕ) where
  abbrev setup : Setup
  setup = setup_of (mail_desk narrow)

  -- 1 and 2 are IDs
  two_fits : 2 < 256 ^ id_bytes narrow
  two_fits = go (ℕ_discrete narrow 0)
    where
      go : Dec (narrow ≡ 0) → 2 < 256 ^ id_bytes narrow
      go (yes e) = rw (wide_is narrow e) (omega arith)
      go (no n) = rw (narrow_is narrow n) (omega arith)

  fresh : Fresh setup (mail_desk narrow)
  unfolding reads
  fresh =
      let size : length (replicate 32768 zero) ≡ 32768 = length-replicate 32768 zero in
      record {
        allowed = record { device_ID = omega (arith, two_fits); allowed_MTU = refl; allowed_R = refl };
        words = refl;
        lends = record { rooms = size; boxes = size; reply = omega (arith, length-replicate (response_size (ids_of setup)) zero) };
      }

  good : GoodDesk (mail_desk narrow)
  unfolding reads
  good =
      let f = fresh-steady setup (mail_desk narrow) fresh in
      record { good = record { whole = f.whole; good = f.good }; lends = f.lends }

  postable_eleven : Postable setup eleven
  unfolding reads msglen_of below
  postable_eleven = record {
    device_ID = omega (arith, two_fits);
    source = omega (arith, two_fits);
    letter = omega arith;
    mailbox = omega arith;
    bytes = are_bytes eleven.mail.bytes refl;
    size = refl;
    priorities = λ k. let h = below_at 4 eleven.priorities k (omega arith) refl in omega arith;
  }

  -- the others are fair, and example 11 gets context 1: from_three has context 0
  run-eleven : FairMailTurn setup eleven (other (at_width narrow from_three)) → FairMailTurn setup eleven (other (at_width narrow start_between))
      → context_at_first (of_segments (eleven_turns narrow) (eleven_calls narrow)) ≡ 1
      → MailRun (mail_desk narrow) eleven (eleven_turns narrow) (eleven_calls narrow)
  unfolding reads msglen_of
  run-eleven three between one = record {
    start = good;
    postable = postable_eleven;
    each-once = two_once;
    others = (three, (tt, (between, (tt, tt))));
    none_open = λ h. refl;
    one_free = omega (arith, one);
  }

  run_log : MailRun (mail_desk narrow) log_mail (segment 0 ∷ []) (defined_calls (mail_desk narrow) log_mail (segment 0 ∷ []))
  unfolding reads msglen_of below
  run_log = record {
    start = good;
    postable = record {
      device_ID = omega (arith, two_fits);
      source = omega (arith, two_fits);
      letter = omega arith;
      mailbox = omega arith;
      bytes = are_bytes log_mail.mail.bytes refl;
      size = refl;
      priorities = λ k. omega arith;
    };
    each-once = one-once;
    others = (tt, tt);
    none_open = λ h. absurd (omega arith);
    one_free = omega arith;
  }

  made : Handed (mail_desk narrow) (run_packets setup eleven (eleven_turns narrow)) → MailCalls (mail_desk narrow) (run_packets setup eleven (eleven_turns narrow)) (eleven_calls narrow)
  made = defined_made (run_packets setup eleven (eleven_turns narrow)) (mail_desk narrow) good.lends.reply

-- ---- By computation, at each

-- the last call delivers 72 bytes from context 1, and `message_room` hands them back
pub mail_runs_not_empty : MailRunsNotEmpty
unfolding reads msglen_of data_at mail_packet narrowed below message_room state_refusal has_room room_part
mail_runs_not_empty = (
  record {
    two_segments = run-eleven 0 (are_bytes from_three refl, refl) (are_bytes start_between refl, refl) refl;
    one-segment = run_log 0;
    calls_made = made 0 (refl, (refl, (refl, ((_, room_call _ 1 72 refl, refl), tt))));
    packets = refl;
    log_packet = refl;
  },
  (
    record {
      two_segments = run-eleven 1 (are_bytes (at_width 1 from_three) refl, refl) (are_bytes (at_width 1 start_between) refl, refl) refl;
      one-segment = run_log 1;
      calls_made = made 1 (refl, (refl, (refl, ((_, room_call _ 1 72 refl, refl), tt))));
      packets = refl;
      log_packet = refl;
    },
    tt,
  ),
)

pub eleven_delivered : ElevenDelivered
unfolding reads msglen_of data_at mail_packet narrowed
eleven_delivered = (record { answers = refl; delivers = refl }, (record { answers = refl; delivers = refl }, tt))
