-- The response buffer decides nothing: of two that 12 allows, both leave the same, but for the response itself; and its length stays.
use Prim.Native.Nat.{ℕ, ◌+◌, ◌*◌, ◌≤◌}
use mathlib.Core.Path.{◌≡◌, refl, ap, sym, ◌∙◌, subst}
use mathlib.Core.List.{List, [], ◌∷◌}
use lib.ListN.{length}
use native.Mathlib.Omega.{arith}
use borrow.Author.Tests.{le-ltb}
use Rattle.lists.proofs.Written.{length-written}
use Rattle.tables.specs.Refusals.{Row, Leaves, all, flow_closed, all_error, all_retry, Verdict, refuse, accept, verdict}
use Rattle.wire.specs.Type11.{is_single}
use Rattle.wire.specs.Head.{is9}
use Rattle.lists.specs.Bytes.{byte}
use Rattle.wire.specs.declared.Setup.{Setup}
use Rattle.wire.specs.Packet.{header, ids_of, priority, first_byte_of}
use Rattle.wire.proofs.Addressed.{swapped, length-headed}
use Rattle.responses.specs.Type13.{response_size, DONE, ERROR, RETRY, above, response_to, answered}
use Rattle.contexts.specs.State.{ids_in, free_message}
use Rattle.message_rooms.specs.Placing as message_room
use Rattle.messages.specs.Joining as message
use Rattle.messages.specs.Rows.{message_open, message_found}
use Rattle.reading.specs.Desk.{desk, state_on}
use Rattle.reading.specs.Table.{Lent, lent, state_in, message_segment_in, wrong_sizes, lent_rows, table}
use Rattle.reading.specs.Read.{but_response, of_message, reading, outcome, refusing}
use Rattle.lists.proofs.Tests.{by_test}
use Rattle.reading.proofs.Kept.{setup-kept}

module _ (words streams messages response response' packet : List ℕ) where
  abbrev x : Lent
  x = lent (desk words streams messages response) packet

  abbrev y : Lent
  y = lent (desk words streams messages response') packet

  -- what is placed is answered and stored alike
  placed_alike : (n marks last : ℕ)
      → but_response (of_message x (message_room.message_placed (state_in x) messages response packet (message_segment_in x) n marks last))
      ≡ but_response (of_message y (message_room.message_placed (state_in x) messages response' packet (message_segment_in x) n marks last))
  unfolding message_room.message_placed
  placed_alike n marks last = refl

  message_alike : but_response (of_message x (message.message_accepted (state_in x) messages response packet (message_segment_in x)))
      ≡ but_response (of_message y (message.message_accepted (state_in x) messages response' packet (message_segment_in x)))
  unfolding message.message_accepted message.delivered_at_once
  message_alike =
      by_test (is_single (message_segment_in x)) (λ t. rw t)
      (λ t. by_test (message_open (state_in x) (message_segment_in x))
      (λ o. rw (t, o) (placed_alike (message_found (state_in x) (message_segment_in x)) _ _))
      (λ o. rw (t, o) (placed_alike (free_message (state_in x)) 0 0)))

  by_leaves : (number : ℕ) (leaves : Leaves) → but_response (refusing x number leaves) ≡ but_response (refusing y number leaves)
  by_leaves number all = refl
  by_leaves number flow_closed = refl
  by_leaves number all_error = refl
  by_leaves number all_retry = refl

  by_verdict_lem : (v : Verdict) → but_response (outcome x v) ≡ but_response (outcome y v)
  by_verdict_lem (refuse number leaves) = by_leaves number leaves
  by_verdict_lem accept = by_test (is9 x.packet) (λ t. rw t) (λ t. rw t message_alike)

  -- only row 12 looks at it, and there only at its length
  same-table : response_size (ids_in (state_in x)) ≤ length response → response_size (ids_in (state_in x)) ≤ length response' → table x ≡ table y
  unfolding table lent_rows wrong_sizes
  same-table a b = rw (le-ltb (length response) (response_size (ids_in (state_in x))) a, le-ltb (length response') (response_size (ids_in (state_in x))) b)

  pub response_decides_nothing : response_size (ids_in (state_in x)) ≤ length response → response_size (ids_in (state_in x)) ≤ length response' → but_response (reading x) ≡ but_response (reading y)
  unfolding reading
  response_decides_nothing a b = by_verdict_lem (verdict (table x)) ∙ ap (λ (rows : List Row). but_response (outcome y (verdict rows))) (same-table a b)

-- ---- its length stays

-- a response takes the buffer's first bytes
pub length-answered : (ids : ℕ) (response p : List ℕ) (status : ℕ) → response_size ids ≤ length response → length (answered ids response p status) ≡ length response
unfolding answered response_to
length-answered ids response p status h =
    let long : length (response_to ids p status) ≡ response_size ids =
    length-headed (swapped ids p) (first_byte_of ids (above (priority p)) 13) ((0b0001 * 16 + status) ∷ byte p (header ids + 1) ∷ []) in
    length-written response (response_to ids p status) 0 (omega (arith, long))

module _ (x : Lent) (h : response_size (ids_in (state_in x)) ≤ length x.desk.response) where
  placed-length : (n marks last : ℕ)
      → length (message_room.message_placed (state_in x) x.desk.message_memory x.desk.response x.packet (message_segment_in x) n marks last).response ≡ length x.desk.response
  unfolding message_room.message_placed
  placed-length n marks last = length-answered (ids_in (state_in x)) x.desk.response x.packet DONE h

  message_length : length (message.message_accepted (state_in x) x.desk.message_memory x.desk.response x.packet (message_segment_in x)).response ≡ length x.desk.response
  unfolding message.message_accepted message.delivered_at_once
  message_length =
      by_test (is_single (message_segment_in x)) (λ t. rw t (length-answered (ids_in (state_in x)) x.desk.response x.packet DONE h))
      (λ t. by_test (message_open (state_in x) (message_segment_in x))
      (λ o. rw (t, o) (placed-length (message_found (state_in x) (message_segment_in x)) _ _))
      (λ o. rw (t, o) (placed-length (free_message (state_in x)) 0 0)))

  left_length : (v : Verdict) → length (outcome x v).desk.response ≡ length x.desk.response
  left_length (refuse number all) = refl
  left_length (refuse number flow_closed) = refl
  left_length (refuse number all_error) = length-answered (ids_in (state_in x)) x.desk.response x.packet ERROR h
  left_length (refuse number all_retry) = length-answered (ids_in (state_in x)) x.desk.response x.packet RETRY h
  left_length accept = by_test (is9 x.packet) (λ t. rw t) (λ t. rw t message_length)

  pub response_length : length (reading x).desk.response ≡ length x.desk.response
  unfolding reading
  response_length = left_length (verdict (table x))

  -- so 12 allows it still
  pub still_allowed : response_size (ids_in (state_on (reading x).desk)) ≤ length (reading x).desk.response
  still_allowed = subst (λ (setup : Setup). response_size (ids_of setup) ≤ length (reading x).desk.response) (sym (setup-kept x)) (omega (arith, response_length))
