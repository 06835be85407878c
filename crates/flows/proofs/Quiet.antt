-- A type 11 step leaves the stream contexts, delivers no PDU, and leaves its memories as long as they were.
use Prim.Native.Nat.{ℕ, ◌+◌, ◌*◌, ◌≤◌, ◌<◌}
use native.Mathlib.Omega.{arith}
use mathlib.Core.Path.{◌≡◌, refl, ap, sym, ◌∙◌}
use mathlib.Core.Bool.{Bool, true, false, cond, not, ◌&&◌}
use mathlib.Core.List.{List, []}
use lib.ListN.{length, length-drop, length-set}
use lib.Dec.{ltb}
use borrow.Author.Tests.{ltb-true, not-false}
use Rattle.lists.proofs.Written.{length-written}
use Rattle.answers.specs.Answers as answers
use Rattle.wire.specs.declared.MessageSegment.{MessageSegment}
use Rattle.sizes.specs.Sizes.{bytes_of}
use Rattle.wire.specs.Type11.{message_data_from, is_single, mailbox}
use Rattle.responses.specs.Type13.{response_size}
use Rattle.sizes.proofs.Laws.{bytes_le}
use Rattle.rules.specs.Messages.{last_with}
use Rattle.contexts.specs.State.{State, ids_in, free_message}
use Rattle.messages.specs.Rows.{message_found, message_open, needed_none_free}
use Rattle.message_rooms.specs.Placing.{MessageJoined, message_data, marks_with, complete, message_placed}
use Rattle.messages.specs.Joining.{delivered_at_once, message_accepted, refused_with, message_stepped}
use Rattle.messages.proofs.Laws.{step_cases}
use Rattle.message_rooms.proofs.Laws.{segment-ends}
use Rattle.lists.proofs.Tests.{by_test}
use Rattle.reading.proofs.Response.{length-answered}
use Rattle.flows.specs.Deliveries.{delivered_by}

-- no stream context changes, no PDU is delivered, and the memories keep their sizes
pub record Quiet (s : State) (memory response : List ℕ) (j : MessageJoined) : Type 0 where
  pub same-room : j.state.setup.room ≡ s.setup.room
  pub same_streams : j.state.streams ≡ s.streams
  pub messages : length j.state.messages ≡ length s.messages
  pub boxes : length j.memory ≡ length memory
  pub reply : length j.response ≡ length response
  pub tells : (room : ℕ) (streams : List ℕ) → delivered_by room streams j.says ≡ []

module _ (s : State) (m : MessageSegment) where
  -- a context is free where one is needed
  pub free_there : needed_none_free s m ≡ false → message_open s m ≡ false → free_message s < 8
  unfolding needed_none_free
  free_there e o = ltb-true (free_message s) 8 (not-false (ltb (free_message s) 8) (ap (λ (b : Bool). not b && not (ltb (free_message s) 8)) (sym o) ∙ e))

  -- a single-segment message is never compared with open ones
  pub single_shut : is_single m ≡ true → message_open s m ≡ false
  unfolding message_found
  single_shut t = rw t

module _ (s : State) (memory response p : List ℕ) (m : MessageSegment)
    (size : length memory ≡ 32768) (reply : response_size (ids_in s) ≤ length response) (whole : message_data_from (ids_in s) + m.raw ≡ length p) (number : m.msgseg < 16) where
  quiet_refused : (code status : ℕ) → Quiet s memory response (refused_with s memory response p code status)
  unfolding refused_with
  quiet_refused code status = record {
    same-room = refl;
    same_streams = refl;
    messages = refl;
    boxes = refl;
    reply = length-answered (ids_in s) response p status reply;
    tells = λ room streams. refl;
  }

  -- the data end with the packet
  data_length_lem : length (message_data (ids_in s) p) ≡ m.raw
  data_length_lem = length-drop (message_data_from (ids_in s)) p ∙ omega arith

  module _ (fits : m.raw ≤ bytes_of m.ssize) (n : ℕ) (lt : n < 8) where
    quiet_alone : Quiet s memory response (delivered_at_once s memory response p m n)
    unfolding delivered_at_once
    quiet_alone = record {
      same-room = refl;
      same_streams = refl;
      messages = simp length-set;
      boxes = length-written memory (message_data (ids_in s) p) (n * 4096) (omega (arith, data_length_lem, bytes_le m.ssize));
      reply = length-answered (ids_in s) response p _ reply;
      tells = λ room streams. refl;
    }

    quiet_placed : (marks last : ℕ) → Quiet s memory response (message_placed s memory response p m n marks last)
    unfolding message_placed
    quiet_placed marks last = record {
      same-room = refl;
      same_streams = refl;
      messages = simp length-set;
      boxes =
          length-written memory (message_data (ids_in s) p) (n * 4096 + m.msgseg * bytes_of m.ssize)
          (omega (arith, data_length_lem, segment-ends n m.msgseg (bytes_of m.ssize) m.raw lt number (bytes_le m.ssize) fits));
      reply = length-answered (ids_in s) response p _ reply;
      tells = λ room streams. none_told room streams (complete m (marks_with m marks)) n m.source m.letter (mailbox m) (m.msglen * bytes_of m.ssize + last_with m last);
    }
      where
        none_told : (room : ℕ) (streams : List ℕ) (b : Bool) (context source letter mailbox count : ℕ)
            → delivered_by room streams (cond b (answers.message context source letter mailbox count) answers.held) ≡ []
        none_told room streams true context source letter mailbox count = refl
        none_told room streams false context source letter mailbox count = refl

  quiet_accepted : m.raw ≤ bytes_of m.ssize → needed_none_free s m ≡ false → Quiet s memory response (message_accepted s memory response p m)
  unfolding message_accepted
  quiet_accepted fits e =
      by_test (is_single m) (λ t. rw t (quiet_alone fits (free_message s) (free_there s m e (single_shut s m t))))
      (λ t. by_test (message_open s m)
      (λ o. rw (t, o) (quiet_placed fits (message_found s m) (ltb-true (message_found s m) 8 o) _ _))
      (λ o. rw (t, o) (quiet_placed fits (free_message s) (free_there s m e o) 0 0)))

  pub quiet_stepped : Quiet s memory response (message_stepped s memory response p m)
  quiet_stepped = step_cases s memory response p m (Quiet s memory response) quiet_refused quiet_accepted
