-- Laws of reading one packet: what each way through the code leaves is what the definition says.
use Prim.Native.Nat.{ℕ, ◌≤◌, ◌*◌}
use mathlib.Core.Path.{◌≡◌, ap, sym, ◌∙◌}
use mathlib.Core.List.{List}
use mathlib.Core.Bool.{Bool, false, not, ◌||◌}
use lib.Dec.{eqb, ltb}
use lib.ListN.{length}
use borrow.Author.Tests.{eq-eqb, le-ltb, eqb-true, ltb-false, not-false}
use Rattle.std.specs.Prelude.{Err}
use Rattle.refusals.specs.declared.Refusal.{Refusal}
use Rattle.refusals.specs.Numbers.{row_number}
use Rattle.answers.specs.Answers.{Said, said}
use Rattle.answers.specs.declared.Reading.{Reading}
use Rattle.answers.specs.Readings.{reading_of}
use Rattle.tables.specs.Refusals.{all}
use Rattle.responses.specs.Type13.{response_size}
use Rattle.contexts.specs.State.{ids_in, stream_contexts}
use Rattle.contexts.specs.Words.{state_of, state_words}
use Rattle.contexts.proofs.Words.{words_of_lem}
use Rattle.lists.proofs.Tests.{neither}
use Rattle.stream_rooms.specs.Placing as stream_room
use Rattle.message_rooms.specs.Placing as message_room
use Rattle.message_rooms.specs.Placing.{message_memory_bytes}
use Rattle.reading.specs.Desk.{Desk, state_on, with_streams, with_messages}
use Rattle.reading.specs.Table.{Lent, state_in, wrong_sizes}
use Rattle.reading.specs.Read.{settled, refusing, of_stream, of_message, reading, ReadPromise}

-- a refusal that changes nothing
pub refusal_promised : (x : Lent) (r : Refusal) (told : Reading Refusal) → told ≡ reading_of (Err r) false 0 → refusing x (row_number r) all ≡ reading x → ReadPromise x told x.desk
refusal_promised x r told e w = rw e w

-- what a step leaves in the words
stream_settled : (x : Lent) (says : Said) (dropped : Bool) (words memory : List ℕ) (j : stream_room.Joined) → length words ≡ state_words
    → stream_room.joining says dropped (state_of words) memory ≡ j → settled says dropped 0 (with_streams x.desk words memory) ≡ of_stream x j
stream_settled x says dropped words memory j z e =
    ap (λ (w : List ℕ). settled says dropped 0 (with_streams x.desk w memory)) (sym (words_of_lem words z)) ∙ ap (of_stream x) e

message_settled : (x : Lent) (says : Said) (words memory response : List ℕ) (j : message_room.MessageJoined) → length words ≡ state_words
    → message_room.message_joining says (state_of words) memory response ≡ j → settled says false (response_size (ids_in (state_in x))) (with_messages x.desk words memory response) ≡ of_message x j
message_settled x says words memory response j z e =
    ap (λ (w : List ℕ). settled says false (response_size (ids_in (state_in x))) (with_messages x.desk w memory response)) (sym (words_of_lem words z)) ∙ ap (of_message x) e

-- and with the reading that says so
pub stream_promised : (x : Lent) (t : Reading Refusal) (words memory : List ℕ) (j : stream_room.Joined) → length words ≡ state_words
    → (stream_room.joining (said t.answer) t.dropped (state_of words) memory ≡ j) × (t.response ≡ 0) → of_stream x j ≡ reading x
    → ReadPromise x t (with_streams x.desk words memory)
stream_promised x t words memory j z k e = rw k.1 (stream_settled x (said t.answer) t.dropped words memory j z k.0 ∙ e)

pub message_promised : (x : Lent) (t : Reading Refusal) (words memory response : List ℕ) (j : message_room.MessageJoined) → length words ≡ state_words
    → (message_room.message_joining (said t.answer) (state_of words) memory response ≡ j) × (t.dropped ≡ false) × (t.response ≡ response_size (ids_in (state_in x))) → of_message x j ≡ reading x
    → ReadPromise x t (with_messages x.desk words memory response)
message_promised x t words memory response j z k e = rw (k.1, k.2) (message_settled x (said t.answer) words memory response j z k.0 ∙ e)

-- row 12 passed
pub sizes_right : (d : Desk) → length d.stream_memory ≡ stream_contexts * (state_on d).setup.room → length d.message_memory ≡ message_memory_bytes → response_size (ids_in (state_on d)) ≤ length d.response
    → wrong_sizes d ≡ false
unfolding wrong_sizes
sizes_right d a b e = rw (eq-eqb (length d.stream_memory) _ a, eq-eqb (length d.message_memory) _ b, le-ltb (length d.response) _ e)

-- where the memories are right, the response buffer decides, by the bytes of an ID
pub by_reply : (d : Desk) {room ids size : ℕ} → room ≡ (state_on d).setup.room → length d.stream_memory ≡ stream_contexts * room → length d.message_memory ≡ message_memory_bytes
    → ids_in (state_on d) ≡ ids → size ≡ response_size ids → ltb (length d.response) size ≡ wrong_sizes d
unfolding wrong_sizes
by_reply d r a b e z = sym (rw (← r, eq-eqb (length d.stream_memory) _ a, eq-eqb (length d.message_memory) _ b, e, ← z))

pub sizes_fit : (d : Desk) → wrong_sizes d ≡ false
    → (length d.stream_memory ≡ stream_contexts * (state_on d).setup.room) × (length d.message_memory ≡ message_memory_bytes) × (response_size (ids_in (state_on d)) ≤ length d.response)
unfolding wrong_sizes
sizes_fit d e =
    let a = neither (not (eqb (length d.stream_memory) (stream_contexts * (state_on d).setup.room)) || not (eqb (length d.message_memory) message_memory_bytes))
    (ltb (length d.response) (response_size (ids_in (state_on d)))) e in
    let b = neither (not (eqb (length d.stream_memory) (stream_contexts * (state_on d).setup.room))) (not (eqb (length d.message_memory) message_memory_bytes)) a.0 in
    (eqb-true (length d.stream_memory) _ (not-false _ b.0), eqb-true (length d.message_memory) _ (not-false _ b.1), ltb-false (length d.response) _ a.1)
