-- The numbers of document 01's refusal table, in their order.
use Rattle.std.specs.Prelude.{ℕ, Result, Ok, Err}
use Rattle.refusals.specs.declared.Refusal.{Refusal}
use Rattle.refusals.specs.declared.Refusal.TheVariants as row

abbrev pub row_number : Refusal → ℕ
row_number row.Short = 1
row_number row.IdWidth = 2
row_number row.OtherDevice = 3
row_number row.Type = 4
row_number row.Extended = 5
row_number row.Form = 6
row_number row.Size = 7
row_number row.NotOpen = 8
row_number row.PastRoom = 9
row_number row.StreamsFull = 10
row_number row.EndLength = 11
row_number row.Buffer = 12
row_number row.NoContext = 13
row_number row.Pdu = 14
row_number row.NoSegment = 15
row_number row.Out = 16
row_number row.Priority = 17
row_number row.Mtu = 18
row_number row.State = 19
row_number row.Ssize = 20
row_number row.SegmentLength = 21
row_number row.PastLast = 22
row_number row.OtherMessage = 23
row_number row.Twice = 24
row_number row.MessagesFull = 25
row_number row.WideId = 47

-- 0, or the number of the row that refuses
abbrev pub refused_by : {A : Type 0} → Result A Refusal → ℕ
refused_by (Ok _) = 0
refused_by (Err refusal) = row_number refusal
