-- The kinds of answers as numbers, of every call (include/kaiverohm.h has them in this order).
use Rattle.std.specs.Prelude.{ℕ}

-- any call: a refusal
abbrev pub refused_kind : ℕ
refused_kind = 0

-- reading a packet
abbrev pub held_kind : ℕ
held_kind = 1

abbrev pub delivered_kind : ℕ
delivered_kind = 2

abbrev pub message_kind : ℕ
message_kind = 3

-- setup
abbrev pub ready_kind : ℕ
ready_kind = 4

-- abandoning a context; a free one may be asked after too
abbrev pub closed_kind : ℕ
closed_kind = 5

abbrev pub free_kind : ℕ
free_kind = 6

-- the writers
abbrev pub written_kind : ℕ
written_kind = 7

-- asking after a context
abbrev pub open_kind : ℕ
open_kind = 8
