-- What is told of bytes.
use Rattle.std.specs.Prelude.{ℕ, List, Ok, Err, string_bytes, Result}
use Rattle.table_check.specs.Checking.{checking}
use Rattle.table_check.specs.declared.broken.Broken.{Broken}
use Rattle.check_words.specs.Words as words
use Rattle.listing.specs.Lines.{listing_text}
use Rattle.reports.specs.declared.reports.Report.{Report}
use Rattle.reports.specs.declared.reports.Report.TheVariants as report
use Rattle.table.specs.Loading.{loading}
use Rattle.table.specs.Parts.{Parts}
use Rattle.table.specs.Words as refusals
use Rattle.table.specs.declared.refusals.Refusal.{Refusal}

-- the texts of a report
pub data Told : Type 0 where
  passed : List ℕ → Told
  broken : List ℕ → List ℕ → Told
  refused : List ℕ → Told

abbrev pub told : Report → Told
told (report.Passed listing) = passed (string_bytes listing)
told (report.Broken listing words) = broken (string_bytes listing) (string_bytes words)
told (report.Refused words) = refused (string_bytes words)

-- a table is listed, and where the check refuses it, that is told
abbrev pub judged : Parts → Result Unit Broken → Told
judged t (Ok u) = passed (listing_text t)
judged t (Err e) = broken (listing_text t) (words.explanation t e)

abbrev pub judging : Parts → Told
judging t = judged t (checking t)

-- bytes that load refuses are told by their refusal
abbrev pub reported : Result Parts Refusal → Told
reported (Ok t) = judging t
reported (Err e) = refused (refusals.explanation e)

abbrev pub reporting : List ℕ → Told
reporting b = reported (loading b)
