-- Each promise is an equation with one side that the inputs fix, so two outcomes are equal.
use mathlib.Core.Path.{ap, sym, ◌∙◌}
use Rattle.answers.proofs.Once.{writer_once, both}
use Rattle.writing.specs.Writer.{Wrote}
use Rattle.log_writer.specs.Writing.{WriteRecordOnce, RecordLengthOnce}

pub write_record_once : WriteRecordOnce
write_record_once out packet y z p q =
    let e = p ∙ sym q in
    both (writer_once y.answer z.answer (ap (λ (l : Wrote). l.says) e)) (ap (λ (l : Wrote). l.out) e)

pub record_length-once : RecordLengthOnce
record_length-once size y z p q = p ∙ sym q
