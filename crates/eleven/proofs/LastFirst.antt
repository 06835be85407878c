-- A message of sixteen segments that comes last-first, by computation.
use mathlib.Core.Path.{refl}
use Rattle.lists.proofs.Tests.{◌and◌}
use Rattle.tables.specs.Refusals.{none}
use Rattle.reading.proofs.Computing.{reads}
use Rattle.mailing.specs.Mail.{msglen_of, data_at, mail_packet}
use Rattle.eleven.specs.LastFirst.{LastFirstDelivered}

pub last_first_delivered : LastFirstDelivered
unfolding reads msglen_of data_at mail_packet none
last_first_delivered = (
  record {
    answers = refl;
    delivers = refl;
    passed = record {
      lent_passes = refl and refl and tt;
      head_passes = refl and refl and refl and refl and refl and refl and refl and tt;
      type_11 = refl;
      form_passes = refl and refl and refl and tt;
      passes_23 = refl;
      passes_24 = refl;
    };
    is_open = refl;
    passed-alone = record {
      lent_passes = refl and refl and tt;
      head_passes = refl and refl and refl and refl and refl and refl and refl and tt;
      type_11 = refl;
      form_passes = refl and refl and refl and tt;
      passes_23 = refl;
      passes_24 = refl;
    };
  },
  (
    record {
      answers = refl;
      delivers = refl;
      passed = record {
        lent_passes = refl and refl and tt;
        head_passes = refl and refl and refl and refl and refl and refl and refl and tt;
        type_11 = refl;
        form_passes = refl and refl and refl and tt;
        passes_23 = refl;
        passes_24 = refl;
      };
      is_open = refl;
      passed-alone = record {
        lent_passes = refl and refl and tt;
        head_passes = refl and refl and refl and refl and refl and refl and refl and tt;
        type_11 = refl;
        form_passes = refl and refl and refl and tt;
        passes_23 = refl;
        passes_24 = refl;
      };
    },
    tt,
  ),
)
