-- When a response is written, and with which status: by the last column of the row that decides, or of an accepted packet by its type.
use Prim.Native.Nat.{ℕ}
use mathlib.Core.Path.{◌≡◌, refl, ap, sym, ◌∙◌, subst}
use mathlib.Core.List.{List, [], ◌∷◌, ◌++◌}
use mathlib.Core.Bool.{Bool, true, false, ◌&&◌}
use mathlib.Core.Option.{Option}
use mathlib.Core.Option as option
use native.Mathlib.Omega.{arith}
use Rattle.answers.specs.Answers.{Said, held}
use Rattle.tables.specs.Refusals.{Leaves, all, flow_closed, all_error, all_retry, Row, Verdict, refuse, accept, verdict, given, none}
use Rattle.tables.proofs.Exactly.{decided, none-held}
use Rattle.wire.specs.Type11.{is_single}
use Rattle.wire.specs.Head.{is9, is11, head_rows}
use Rattle.contexts.specs.State.{ids_in}
use Rattle.responses.specs.Type13.{DONE, RETRY, ERROR, answered}
use Rattle.stream_rooms.specs.Placing as stream_room
use Rattle.streams.specs.Joining as stream
use Rattle.message_rooms.specs.Placing as message_room
use Rattle.messages.specs.Joining as message
use Rattle.streams.specs.Rows.{stream_rows}
use Rattle.rules.specs.Messages.{form_rows}
use Rattle.messages.specs.Rows.{message_open, message_rows}
use Rattle.reading.specs.Table.{Lent, state_in, segment_in, message_segment_in, lent_rows, table}
use Rattle.reading.specs.Read.{reading, outcome, refusing, accepting}
use Rattle.wire.proofs.HeadLaws.{one_type}
use Rattle.reading.proofs.Kept.{other_type}
use Rattle.lists.specs.Each.{Each}
use Rattle.lists.proofs.Tests.{both, by_test, ◌and◌, chosen}
use Rattle.promises.specs.Responses.{statuses, status_in, status_of, response_left, replied_by}
use Rattle.promises.proofs.ByTable.{number-said}

-- ---- The table's rows

-- what a row's last column writes
abbrev pub writes : Leaves → Option ℕ
writes all = option.none
writes flow_closed = option.none
writes all_error = option.some ERROR
writes all_retry = option.some RETRY

left_response : (x : Lent) (number : ℕ) (leaves : Leaves) → (refusing x number leaves).desk.response ≡ response_left x (writes leaves)
left_response x number all = refl
left_response x number flow_closed = refl
left_response x number all_error = refl
left_response x number all_retry = refl

left_replied : (x : Lent) (number : ℕ) (leaves : Leaves) → (refusing x number leaves).replied ≡ replied_by x (writes leaves)
left_replied x number all = refl
left_replied x number flow_closed = refl
left_replied x number all_error = refl
left_replied x number all_retry = refl

pub nothing_written : {A : Type 0} (status : ℕ) → ◌≡◌ {A = Option ℕ} option.none (option.some status) → A
nothing_written status e = absurd (let z : ◌≡◌ {A = ℕ} 0 1 = cc in omega arith)

-- a row's number has the status that its last column writes; and what writes is of type 11
record Agrees (x : Lent) (r : Row) : Type 0 where
  status : status_in statuses r.number ≡ writes r.leaves
  type : (status : ℕ) → writes r.leaves ≡ option.some status → r.holds ≡ true → is11 x.packet ≡ true

-- what holds of each row holds of one of them
of_each : (P : Row → Type 0) (earlier later : List Row) (r : Row) → Each P (earlier ++ (r ∷ later)) → P r
of_each P [] later r e = e.0
of_each P (q ∷ earlier) later r e = of_each P earlier later r e.1

module _ (x : Lent) where
  quiet : (number : ℕ) (holds : Bool) (leaves : Leaves) → status_in statuses number ≡ option.none → writes leaves ≡ option.none → Agrees x (record { number = number; holds = holds; leaves = leaves })
  quiet number holds leaves s w = record { status = s ∙ sym w; type = λ status e h. nothing_written status (sym w ∙ e) }

  told : (number : ℕ) (test : Bool) (leaves : Leaves) → status_in statuses number ≡ writes leaves → Agrees x (record { number = number; holds = is11 x.packet && test; leaves = leaves })
  told number test leaves s = record { status = s; type = λ status e h. (both (is11 x.packet) test h).0 }

  agree : Each (Agrees x) (table x)
  unfolding table lent_rows head_rows given stream_rows message_rows form_rows
  agree =
      quiet 19 _ all refl refl and quiet 12 _ all refl refl and quiet 1 _ all refl refl and quiet 2 _ all refl refl and quiet 3 _ all refl refl and quiet 4 _ all refl refl
      and quiet 1 _ all refl refl and quiet 5 _ all refl refl and quiet 1 _ all refl refl and quiet 6 _ flow_closed refl refl and quiet 7 _ flow_closed refl refl
      and quiet 8 _ all refl refl and quiet 9 _ flow_closed refl refl and quiet 10 _ all refl refl and quiet 11 _ flow_closed refl refl
      and told 20 _ all_error refl and told 21 _ all_error refl and told 22 _ all_error refl and told 23 _ all_error refl and told 24 _ all_error refl and told 25 _ all_retry refl
      and tt

  -- so does the verdict
  pub record Told (number : ℕ) (leaves : Leaves) : Type 0 where
    pub status : status_in statuses number ≡ writes leaves
    pub type : (status : ℕ) → writes leaves ≡ option.some status → is11 x.packet ≡ true

  pub refused_so : (number : ℕ) (leaves : Leaves) → verdict (table x) ≡ refuse number leaves → Told number leaves
  refused_so number leaves e =
      let w = decided (table x) number leaves e in
      let d = w.1 in
      let a = of_each (Agrees x) d.earlier d.later w.0 (subst (Each (Agrees x)) d.place agree) in
      record {
        status = ap (status_in statuses) (sym w.2) ∙ (a.status ∙ ap writes w.3);
        type = λ status h. a.type status (ap writes w.3 ∙ h) d.this;
      }

  -- ---- An accepted packet

  pub stream_silent : is11 x.packet ≡ false → status_of x (stream.accepted (state_in x) x.desk.stream_memory x.packet (segment_in x)).says ≡ option.none
  unfolding stream.accepted stream_room.placed
  stream_silent t = chosen (λ (s : Said). status_of x s ≡ option.none) (segment_in x).ends _ held refl (rw t)

  -- DONE, and in the buffer
  record Done (j : message_room.MessageJoined) : Type 0 where
    status : status_of x j.says ≡ option.some DONE
    response : j.response ≡ answered (ids_in (state_in x)) x.desk.response x.packet DONE

  placed_done : is11 x.packet ≡ true → (n marks last : ℕ) → Done (message_room.message_placed (state_in x) x.desk.message_memory x.desk.response x.packet (message_segment_in x) n marks last)
  unfolding message_room.message_placed
  placed_done t n marks last = record {
    status = chosen (λ (s : Said). status_of x s ≡ option.some DONE) (message_room.complete (message_segment_in x) (message_room.marks_with (message_segment_in x) marks)) _ held refl (rw t);
    response = refl;
  }

  message_done : is11 x.packet ≡ true → Done (message.message_accepted (state_in x) x.desk.message_memory x.desk.response x.packet (message_segment_in x))
  unfolding message.message_accepted message.delivered_at_once
  message_done t =
      chosen Done (is_single (message_segment_in x)) _ _ (record { status = refl; response = refl })
      (chosen Done (message_open (state_in x) (message_segment_in x)) _ _ (placed_done t _ _ _) (placed_done t _ 0 0))

  -- ---- What is written

  by_status : (s : Option ℕ) (response : List ℕ) (says : Said) → status_of x says ≡ s → response ≡ response_left x s → response ≡ response_left x (status_of x says)
  by_status s response says a b = b ∙ ap (response_left x) (sym a)

  stream_left : is9 x.packet ≡ true → (accepting x).desk.response ≡ response_left x (status_of x (accepting x).says)
  stream_left n = rw n (by_status option.none x.desk.response (stream.accepted (state_in x) x.desk.stream_memory x.packet (segment_in x)).says (stream_silent (one_type x.packet n)) refl)

  message_left : is9 x.packet ≡ false → is11 x.packet ≡ true → (accepting x).desk.response ≡ response_left x (status_of x (accepting x).says)
  message_left n t =
      let j = message.message_accepted (state_in x) x.desk.message_memory x.desk.response x.packet (message_segment_in x) in
      let d = message_done t in
      rw n (by_status (option.some DONE) j.response j.says d.status d.response)

  pub said_status : (number : ℕ) (leaves : Leaves) → status_of x (refusing x number leaves).says ≡ status_in statuses number
  said_status number leaves = ap (status_of x) (number-said x number leaves)

  left : (v : Verdict) → verdict (table x) ≡ v → (outcome x v).desk.response ≡ response_left x (status_of x (outcome x v).says)
  left (refuse number leaves) e =
      by_status (writes leaves) (refusing x number leaves).desk.response (refusing x number leaves).says (said_status number leaves ∙ (refused_so number leaves e).status)
      (left_response x number leaves)
  left accept e = by_test (is9 x.packet) stream_left (λ n. message_left n (other_type x (none-held (table x) e) n))

  -- how many bytes
  counts : (v : Verdict) → verdict (table x) ≡ v → (outcome x v).replied ≡ replied_by x (status_of x (outcome x v).says)
  counts (refuse number leaves) e = left_replied x number leaves ∙ ap (replied_by x) (sym (said_status number leaves ∙ (refused_so number leaves e).status))
  counts accept e =
      by_test (is9 x.packet)
      (λ n. rw n (ap (replied_by x) (sym (stream_silent (one_type x.packet n)))))
      (λ n. rw n (ap (replied_by x) (sym (message_done (other_type x (none-held (table x) e) n)).status)))

pub written_by_lem : (x : Lent) → (reading x).desk.response ≡ response_left x (status_of x (reading x).says)
unfolding reading
written_by_lem x = left x (verdict (table x)) refl

pub counted : (x : Lent) → (reading x).replied ≡ replied_by x (status_of x (reading x).says)
unfolding reading
counted x = counts x (verdict (table x)) refl
