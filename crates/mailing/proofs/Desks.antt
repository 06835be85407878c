-- From the state and the memory to desks: what reading a packet leaves on a desk that is ready.
use Prim.Native.Nat.{ℕ, ◌+◌, ◌*◌, ◌≤◌, ◌<◌}
use mathlib.Core.Path.{◌≡◌, refl, ap, sym, ◌∙◌, subst, subst₂}
use mathlib.Core.List.{List}
use mathlib.Core.Bool.{true, false}
use native.Mathlib.Omega.{arith}
use lib.ListN.{length}
use Rattle.lists.specs.Bytes.{AreBytes}
use Rattle.wire.specs.declared.MessageSegment.{MessageSegment}
use Rattle.wire.specs.Segment.{Segment}
use Rattle.wire.specs.Parsed.{Parsed}
use Rattle.wire.specs.Parsed.{Refused, Stream, Message}
use Rattle.wire.specs.Parsed.{parsed}
use Rattle.lists.specs.First.{first_of}
use Rattle.lists.proofs.First.{first_passes}
use Rattle.wire.specs.declared.Setup.{Setup}
use Rattle.wire.specs.Packet.{header}
use Rattle.wire.specs.Type11.{message_data_from}
use Rattle.responses.specs.Type13.{response_size}
use Rattle.contexts.specs.State.{State, ids_in, message_in, closed_message, message_context}
use Rattle.contexts.specs.Words.{state_of, words_of}
use Rattle.contexts.proofs.Words.{sixteen, eight, state_of_lem}
use Rattle.stream_rooms.specs.Placing as stream_room
use Rattle.streams.specs.Joining as stream_step
use Rattle.message_rooms.specs.Placing.{MessageJoined}
use Rattle.messages.specs.Joining.{message_stepped}
use Rattle.reading.specs.Desk.{Desk, state_on, with_response}
use Rattle.reading.specs.Table.{lent}
use Rattle.reading.specs.Read.{Settled, of_stream, of_message}
use Rattle.reading.proofs.Rows.{by_parsed}
use Rattle.reading.proofs.Packets.{stream_parsed, message_parsed, message_small}
use Rattle.flows.specs.Deliveries.{read, after}
use Rattle.flows.specs.Fresh.{Lends}
use Rattle.flows.proofs.Quiet.{Quiet}
use Rattle.flows.proofs.Steady.{Steady, read_is, still-steady, quiet_read}
use Rattle.mailing.specs.Mail.{Posted}
use Rattle.mailing.specs.Run.{is_of_mail}
use Rattle.mailing.specs.ReadBack.{GoodDesk, setup_of, OthersLeaveMail}
use Rattle.mailing.proofs.Contexts.{is_mine, is_told_of}
use Rattle.mailing.proofs.Others.{Stays, all_stays, undisturbed_stepped}
use Rattle.mailing.proofs.Streams.{Beside, beside_stepped}

-- a good desk of that setup
pub record Ready (setup : Setup) (d : Desk) : Type 0 where
  pub desk : GoodDesk d
  pub own-setup : setup_of d ≡ setup

-- which is a steady one
steady : {setup : Setup} {d : Desk} → Ready setup d → Steady setup d
steady {d = d} r = record {
  whole = r.desk.good.whole;
  good = r.desk.good.good;
  same-setup = r.own-setup;
  lends = subst (λ (t : Setup). Lends t d) r.own-setup r.desk.lends;
}

ready : {setup : Setup} {d : Desk} → Steady setup d → Ready setup d
ready {d = d} f = record {
  desk = record { good = record { whole = f.whole; good = f.good }; lends = subst (λ (t : Setup). Lends t d) (sym f.same-setup) f.lends };
  own-setup = f.same-setup;
}

-- it stays so with any response buffer that 12 allows
pub with_buffer : {setup : Setup} {d : Desk} → Ready setup d → (given : List ℕ) → response_size (ids_in (state_on d)) ≤ length given → Ready setup (with_response d given)
with_buffer r given h = record {
  desk = record { good = r.desk.good; lends = record { rooms = r.desk.lends.rooms; boxes = r.desk.lends.boxes; reply = h } };
  own-setup = r.own-setup;
}

-- what a type 11 packet leaves on a desk
pub record Read11 (setup : Setup) (d : Desk) (p : List ℕ) (j : MessageJoined) : Type 0 where
  pub ready : Ready setup (after d p)
  pub says : (read d p).says ≡ j.says
  pub state : state_on (after d p) ≡ j.state
  pub memory : (after d p).message_memory ≡ j.memory
  pub response : (after d p).response ≡ j.response

-- what a packet leaves that is not of the message
pub record ReadOther (setup : Setup) (x : Posted) (d : Desk) (p : List ℕ) : Type 0 where
  pub ready : Ready setup (after d p)
  pub stays : Stays x (state_on d) d.message_memory (state_on (after d p)) (after d p).message_memory
  pub silent : is_told_of x (read d p).says ≡ false

module _ (setup : Setup) (d : Desk) (p : List ℕ) (r : Ready setup d) (bytes : AreBytes p) where
  abbrev s : State
  s = state_on d

  abbrev lends : Lends s.setup d
  lends = r.desk.lends

  -- reading goes by what the packet is
  read_as : (y : Parsed) → parsed setup p ≡ y → read d p ≡ by_parsed (lent d p) y
  read_as = read_is (steady r) p

  -- a desk that is ready, where the memories keep their lengths
  still-ready : (y : Settled) → read d p ≡ y → length y.desk.stream_memory ≡ length d.stream_memory → length y.desk.message_memory ≡ length d.message_memory
      → length y.desk.response ≡ length d.response → Ready setup y.desk
  still-ready y e streams messages response = ready (still-steady (steady r) p bytes y e streams messages response)

  -- ---- a type 11 packet
  module _ (m : MessageSegment) (e : parsed setup p ≡ Message m) where
    abbrev j : MessageJoined
    j = message_stepped s d.message_memory d.response p m

    leaves : read d p ≡ of_message (lent d p) j
    leaves = read_as (Message m) e

    small : (message_data_from (ids_in s) + m.raw ≡ length p) × (m.msglen < 16) × (m.msgseg < 16) × (m.mbox < 4)
    small = message_small (ids_in s) p m (message_parsed p s.setup m (ap (λ (t : Setup). parsed t p) r.own-setup ∙ e)) (bytes (header (ids_in s))) (bytes (header (ids_in s) + 1))

    quiet : Quiet s d.message_memory d.response j
    quiet = quiet_read (steady r) p bytes m e

    back : state_of (words_of j.state) ≡ j.state
    back = state_of_lem j.state (ap length quiet.same_streams ∙ sixteen d.words) (quiet.messages ∙ eight d.words)

    pub read_11 : Read11 setup d p j
    read_11 = record {
      ready = subst (λ (y : Settled). Ready setup y.desk) (sym leaves) (still-ready (of_message (lent d p) j) leaves refl quiet.boxes quiet.reply);
      says = ap (λ (y : Settled). y.says) leaves;
      state = ap (λ (y : Settled). state_of y.desk.words) leaves ∙ back;
      memory = ap (λ (y : Settled). y.desk.message_memory) leaves;
      response = ap (λ (y : Settled). y.desk.response) leaves;
    }

  -- ---- a packet that is not of the message
  module _ (x : Posted) where
    by_message : (m : MessageSegment) → parsed setup p ≡ Message m → is_of_mail x (Message m) ≡ false → ReadOther setup x d p
    by_message m e other =
        let k = read_11 m e in
        let z = small m e in
        let l = undisturbed_stepped x s (eight d.words) d.message_memory lends.boxes d.response p m other z.0 z.2 z.3 in
        record {
          ready = k.ready;
          stays = subst₂ (λ (t : State) (memory : List ℕ). Stays x s d.message_memory t memory) (sym k.state) (sym k.memory) l.stays;
          silent = ap (is_told_of x) k.says ∙ l.silent;
        }

    by_refused : (number : ℕ) → parsed setup p ≡ Refused number → ReadOther setup x d p
    by_refused number e =
        let same : read d p ≡ by_parsed (lent d p) (Refused number) = read_as (Refused number) e in
        record {
          ready = subst (λ (y : Settled). Ready setup y.desk) (sym same) r;
          stays = subst (λ (y : Settled). Stays x s d.message_memory (state_of y.desk.words) y.desk.message_memory) (sym same) (all_stays x s s d.message_memory refl);
          silent = ap (λ (y : Settled). is_told_of x y.says) same;
        }

    by_stream : (g : Segment) → parsed setup p ≡ Stream g → ReadOther setup x d p
    by_stream g e =
        let j : stream_room.Joined = stream_step.stepped s d.stream_memory p g in
        let same : read d p ≡ of_stream (lent d p) j = read_as (Stream g) e in
        let beside : Beside s d.stream_memory j = beside_stepped s d.stream_memory p g lends.rooms (stream_parsed p setup g e).1 in
        let back : state_of (words_of j.state) ≡ j.state = state_of_lem j.state (beside.streams ∙ sixteen d.words) (ap length beside.messages ∙ eight d.words) in
        record {
          ready = subst (λ (y : Settled). Ready setup y.desk) (sym same) (still-ready (of_stream (lent d p) j) same beside.rooms refl refl);
          stays =
              subst (λ (y : Settled). Stays x s d.message_memory (state_of y.desk.words) y.desk.message_memory) (sym same)
              (all_stays x s (state_of (words_of j.state)) d.message_memory (ap (λ (t : State). t.messages) back ∙ beside.messages));
          silent = ap (λ (y : Settled). is_told_of x y.says) same ∙ beside.silent x;
        }

    pub read_other : is_of_mail x (parsed setup p) ≡ false → ReadOther setup x d p
    read_other = go (parsed setup p) refl
      where
        go : (y : Parsed) → parsed setup p ≡ y → is_of_mail x y ≡ false → ReadOther setup x d p
        go (Refused number) e other = by_refused number e
        go (Stream g) e other = by_stream g e
        go (Message m) e other = by_message m e other

-- ---- The statement

pub others_leave_mail : OthersLeaveMail
unfolding message_context
others_leave_mail d x p n g found below bytes other =
    let s : State = state_on d in
    let t = (read_other (setup_of d) d p (record { desk = g; own-setup = refl }) bytes x other).stays in
    let inside : first_of (is_mine x) s.messages < length s.messages = omega (arith, found, eight d.words) in
    let mine : is_mine x (message_in s n) ≡ true = ap (λ (i : ℕ). is_mine x (message_in s i)) (sym found) ∙ first_passes (is_mine x) s.messages closed_message inside in
    record { found = t.found ∙ found; context = t.context n mine; bytes = t.room n (n * 4096) 4096 mine (omega arith) (omega arith) }
