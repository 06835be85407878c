-- A store for each word puts a report.
use Prim.Native.Nat.{ℕ, suc, ◌+◌, ◌≤◌}
use mathlib.Core.Path.{◌≡◌}
use mathlib.Core.List.{List}
use native.Mathlib.Numerals.{towards_suc}
use native.Mathlib.Omega.{arith}
use lib.ListN.{length, set}
use Rattle.lists.specs.Bytes.{written}
use Rattle.lists.proofs.Written.{stores}
use Rattle.c_reports.specs.declared.Report.{Report}
use Rattle.c_reports.specs.Reports.{report_words, words_of_report}

-- the last place, behind those that the law knows
ninth : (at : ℕ) → at + 9 ≡ suc (at + 8)
ninth at = omega arith

-- a store for each word, in their order
pub stored : (w : List ℕ) (at : ℕ) (r : Report) → at + report_words ≤ length w
    → set (set (set (set (set (set (set (set (set (set w at r.kind) (at + 1) r.number) (at + 2) r.dropped) (at + 3) r.response) (at + 4) r.context) (at + 5) r.source)
    (at + 6) r.cos_or_letter) (at + 7) r.stream_or_mailbox) (at + 8) r.length) (at + 9) r.priority
    ≡ written w at (words_of_report r)
stored w at r h = simp (ninth, towards_suc) (stores w (words_of_report r) at h)
