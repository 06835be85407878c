-- Any two outcomes that a promise of the log reader allows are one: each promise is an equation, or two.
use mathlib.Core.Path.{sym, ◌∙◌}
use Rattle.log_reader.specs.Once.{NewReaderOnce, PlaceOnce, MovedOnce, FoundOnce, PlaceBehindOnce, NextOnce, RecordAtOnce, PlaceAfterOnce, CountRecordsOnce}

pub new_reader_once : NewReaderOnce
new_reader_once log r r' p q = p ∙ sym q

pub place-once : PlaceOnce
place-once reader r r' p q = p ∙ sym q

pub moved-once : MovedOnce
moved-once reader at r r' p q = p ∙ sym q

pub found-once : FoundOnce
found-once reader r r' p q = p ∙ sym q

pub place_behind-once : PlaceBehindOnce
place_behind-once next at r r' p q = p ∙ sym q

pub next_once : NextOnce
next_once reader r r' after after' p q = (p.0 ∙ sym q.0, p.1 ∙ sym q.1)

pub record_at_once : RecordAtOnce
record_at_once log at r r' p q = p ∙ sym q

pub place_after_once : PlaceAfterOnce
place_after_once log at r r' p q = p ∙ sym q

pub count_records_once : CountRecordsOnce
count_records_once log r r' p q = p ∙ sym q
