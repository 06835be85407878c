-- `log_records::long_record` meets its contract: each way out is a row of `long_record`.
use Rattle.std.proofs.Common.{eq-eqb, le-ltb, lt-ltb, ne_eqb}
use Rattle.log_records.specs.Records.{long_record}
use Rattle.log_records.proofs.long_record.Goals as goal

-- a length that is cut
pub returns-then-log-at : goal.returns-then-log-at
unfolding long_record
returns-then-log-at c = simp (lt-ltb _ _ c.if-log-at.true)

-- a second byte 0
pub returns-then-second-eq0 : goal.returns-then-second-eq0
unfolding long_record
returns-then-second-eq0 c =
    simp (le-ltb _ _ c.if-log-at.false, ← c.wide-second.ensures.0, eq-eqb _ _ c.if-second-eq0.true)

-- a second byte with its top bit set
pub returns-then-second-gt127 : goal.returns-then-second-gt127
unfolding long_record
returns-then-second-gt127 c =
    simp (le-ltb _ _ c.if-log-at.false, ← c.wide-second.ensures.0, ne_eqb _ _ c.if-second-eq0.false, lt-ltb _ _ c.if-second-gt127.true)

-- the record behind a length of two bytes
pub returns : goal.returns
unfolding long_record
returns c =
    simp (
      le-ltb _ _ c.if-log-at.false,
      ← c.wide-second.ensures.0,
      ne_eqb _ _ c.if-second-eq0.false,
      le-ltb _ _ c.if-second-gt127.false,
      ← c.wide.ensures.0,
      ← c.record_from.ensures,
    )
