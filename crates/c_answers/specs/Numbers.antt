-- The answers of the calls that read no packet, as numbers, for callers in C.
use Rattle.std.specs.Prelude.{ℕ}
use Rattle.answers.specs.Answers.{SetupSaid, ready, setup_refused, AbandonSaid, closed, free, abandon_refused, WriterSaid, wrote, write_refused}
use Rattle.answers.specs.Kinds.{refused_kind, ready_kind, closed_kind, free_kind, written_kind}
use Rattle.c_answers.specs.declared.Numbers.{Numbers}

-- its kind, and the refusal's number or the length written
abbrev pub numbers : ℕ → ℕ → Numbers
numbers kind number = record { kind = kind; number = number }

abbrev pub numbers_of_setup : SetupSaid → Numbers
numbers_of_setup ready = numbers ready_kind 0
numbers_of_setup (setup_refused number) = numbers refused_kind number

abbrev pub numbers_of_abandon : AbandonSaid → Numbers
numbers_of_abandon closed = numbers closed_kind 0
numbers_of_abandon free = numbers free_kind 0
numbers_of_abandon (abandon_refused number) = numbers refused_kind number

abbrev pub numbers_of_writer : WriterSaid → Numbers
numbers_of_writer (wrote size) = numbers written_kind size
numbers_of_writer (write_refused number) = numbers refused_kind number
