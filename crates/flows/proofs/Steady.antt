-- A desk that was set up and stays so, whatever packets are read at it, on however many flows.
use Prim.Native.Nat.{ℕ, ◌+◌, ◌*◌, ◌≤◌}
use native.Mathlib.Omega.{arith}
use mathlib.Core.Path.{◌≡◌, refl, ap, sym, ◌∙◌, subst}
use mathlib.Core.Bool.{false}
use mathlib.Core.List.{List}
use lib.ListN.{length}
use Rattle.lists.specs.Bytes.{AreBytes}
use Rattle.wire.specs.declared.Setup.{Setup}
use Rattle.wire.specs.Packet.{header, ids_of}
use Rattle.wire.specs.declared.MessageSegment.{MessageSegment}
use Rattle.wire.specs.Parsed.{Parsed, Message, parsed}
use Rattle.responses.specs.Type13.{response_size}
use Rattle.contexts.specs.State.{State, ids_in, fresh}
use Rattle.contexts.specs.Words.{state_of, words_of, state_words}
use Rattle.contexts.proofs.Words.{state_of_lem, length_words}
use Rattle.refusal19.specs.Refusal19.{named_by_19}
use Rattle.refusal19.proofs.Kept.{fresh-good}
use Rattle.messages.specs.Joining.{message_stepped}
use Rattle.reading.specs.Desk.{Desk, state_on}
use Rattle.reading.specs.Table.{lent}
use Rattle.reading.specs.Read.{Settled}
use Rattle.reading.specs.Good.{StillGood}
use Rattle.reading.proofs.Rows.{by_parsed, by_packet}
use Rattle.reading.proofs.Packets.{message_parsed, message_small}
use Rattle.reading.proofs.Kept.{stays_good}
use Rattle.reading.proofs.Laws.{sizes_right}
use Rattle.flows.specs.Deliveries.{read}
use Rattle.flows.specs.Fresh.{Lends, Fresh}
use Rattle.flows.proofs.Quiet.{Quiet, quiet_stepped}

-- a good state of that setup, and memories of the right sizes
pub record Steady (setup : Setup) (b : Desk) : Type 0 where
  pub whole : length b.words ≡ state_words
  pub good : named_by_19 (state_on b) ≡ false
  pub same-setup : (state_on b).setup ≡ setup
  pub lends : Lends setup b

-- a desk that was just set up
pub fresh_back : (setup : Setup) → state_of (words_of (fresh setup)) ≡ fresh setup
fresh_back setup = state_of_lem (fresh setup) refl refl

pub fresh-steady : (setup : Setup) (b : Desk) → Fresh setup b → Steady setup b
fresh-steady setup b f = record {
  whole = ap length f.words ∙ length_words (fresh setup) refl refl;
  good = ap (λ (w : List ℕ). named_by_19 (state_of w)) f.words ∙ (ap named_by_19 (fresh_back setup) ∙ fresh-good setup f.allowed.allowed_MTU f.allowed.allowed_R);
  same-setup = ap (λ (w : List ℕ). (state_of w).setup) f.words ∙ ap (λ (s : State). s.setup) (fresh_back setup);
  lends = f.lends;
}

module _ {setup : Setup} {b : Desk} (f : Steady setup b) where
  pub rooms_on : length b.stream_memory ≡ 16 * (state_on b).setup.room
  rooms_on = f.lends.rooms ∙ ap (λ (t : Setup). 16 * t.room) (sym f.same-setup)

  pub reply_on : response_size (ids_in (state_on b)) ≤ length b.response
  reply_on = subst (λ (t : Setup). response_size (ids_of t) ≤ length b.response) (sym f.same-setup) f.lends.reply

  -- reading goes by what the packet is
  pub read_is : (p : List ℕ) (x : Parsed) → parsed setup p ≡ x → read b p ≡ by_parsed (lent b p) x
  read_is p x e =
      by_packet (lent b p) f.whole f.good (sizes_right b rooms_on f.lends.boxes reply_on)
      ∙ ap (by_parsed (lent b p)) (ap (λ (t : Setup). parsed t p) f.same-setup ∙ e)

  -- what it leaves is steady, where the memories keep their lengths
  pub still-steady : (p : List ℕ) → AreBytes p → (y : Settled) → read b p ≡ y → length y.desk.stream_memory ≡ length b.stream_memory → length y.desk.message_memory ≡ length b.message_memory
      → length y.desk.response ≡ length b.response → Steady setup y.desk
  still-steady p bytes y e streams messages response =
      let g : StillGood (state_on b) y.desk.words = subst (λ (l : Settled). StillGood (state_on b) l.desk.words) e (stays_good (lent b p) f.whole f.good (bytes (header (ids_in (state_on b))))) in
      record {
        whole = g.whole;
        good = g.good;
        same-setup = g.setup ∙ f.same-setup;
        lends = record { rooms = streams ∙ f.lends.rooms; boxes = messages ∙ f.lends.boxes; reply = omega (arith, response, f.lends.reply) };
      }

  -- a type 11 packet
  pub quiet_read : (p : List ℕ) → AreBytes p → (m : MessageSegment) → parsed setup p ≡ Message m
      → Quiet (state_on b) b.message_memory b.response (message_stepped (state_on b) b.message_memory b.response p m)
  quiet_read p bytes m e =
      let ids : ℕ = ids_in (state_on b) in
      let small = message_small ids p m (message_parsed p (state_on b).setup m (ap (λ (t : Setup). parsed t p) f.same-setup ∙ e)) (bytes (header ids)) (bytes (header ids + 1)) in
      quiet_stepped (state_on b) b.message_memory b.response p m f.lends.boxes reply_on small.0 small.2
