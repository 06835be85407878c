-- Which states refusal 19 names, in the paper's order (document 01, 'Refusal numbers', 19).
use Rattle.std.specs.Prelude.{ℕ, ◌+◌, ◌^◌, Bool, not, cond, ◌||◌, ◌&&◌, eqb, ltb, leb}
use Rattle.lists.specs.First.{any}
use Rattle.sizes.specs.Sizes.{bad_mtu, bytes_of, in_eights}
use Rattle.contexts.specs.State.{State, is_free_stream, is_free_message}
use Rattle.marks.specs.Marks.{marked, all_marked}
use Rattle.contexts.specs.declared.StreamContext.{StreamContext}
use Rattle.contexts.specs.declared.MessageContext.{MessageContext}

-- not MTU ≤ R ≤ 65,536
unfoldable pub bad_room : ℕ → ℕ → Bool
bad_room mtu room = ltb room mtu || ltb 65536 room

-- an open stream context holding 0 or over R bytes
unfoldable pub bad_stream : ℕ → StreamContext → Bool
bad_stream room c = not (is_free_stream c) && (eqb c.held 0 || ltb room c.held)

-- a kept last-segment length that isn't 0 while segment msglen is unmarked, or isn't 8 to ssize in eights once it is marked
unfoldable pub bad_last : MessageContext → Bool
bad_last c = cond (marked c.marks c.msglen) (not (in_eights c.last (bytes_of c.ssize))) (not (eqb c.last 0))

-- marks beyond msglen, none or all marks set, or a bad last-segment length
unfoldable pub bad_marks : MessageContext → Bool
bad_marks c = leb (2 ^ (c.msglen + 1)) c.marks || eqb c.marks 0 || all_marked c.marks (c.msglen + 1) || bad_last c

-- an open message with bad ssize, msglen 0 or over 15, or bad marks
unfoldable pub bad_message : MessageContext → Bool
bad_message c = not (is_free_message c) && (eqb (bytes_of c.ssize) 0 || eqb c.msglen 0 || ltb 15 c.msglen || bad_marks c)

-- a state that 19 names
unfoldable pub named_by_19 : State → Bool
named_by_19 s = bad_mtu s.setup.mtu || bad_room s.setup.mtu s.setup.room || any (bad_stream s.setup.room) s.streams || any bad_message s.messages
