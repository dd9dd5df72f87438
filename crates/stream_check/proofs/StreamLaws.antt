-- More bytes do not change the fault of a stream, nor its lines once it has an end.
use Rattle.std.proofs.Common.{◌≡◌, ap, ◌∙◌, List, ◌++◌, map, Some, None, true}
use Rattle.text_scan.specs.Text.{Text}
use Rattle.record_parser.specs.Fields.{parts}
use Rattle.run_record.specs.declared.fault.RecordFault.{RecordFault}
use Rattle.run_record.specs.Numbered.{numbered}
use Rattle.run_record.specs.Records.{Rows}
use Rattle.stream_check.specs.Progress.{last_part}
use Rattle.stream_check.specs.Stream.{has_end, rows_after, stream_fault, stream_lines, stream_rows, whole_lines}
use Rattle.stream_check.proofs.LineFeeds.{whole_more}
use Rattle.stream_check.proofs.StreamRows.{end_faultless, end_stays, fault_stays}

-- the rows of a longer stream
more_rows : (s t : Text) → stream_rows (s ++ t) ≡ rows_after 0 (whole_lines s ++ whole_lines (last_part (parts 10 s) ++ t))
more_rows s t = ap (rows_after 0) (whole_more s t)

pub same_fault : (s t : Text) (f : RecordFault) → stream_fault s ≡ Some f → stream_fault (s ++ t) ≡ Some f
same_fault s t f h = ap (λ (r : Rows). r.fault) (more_rows s t ∙ fault_stays 0 (whole_lines s) (whole_lines (last_part (parts 10 s) ++ t)) f h) ∙ h

ended_rows : (names : List Text) (s t : Text) → has_end (stream_lines names s) ≡ true → stream_rows (s ++ t) ≡ stream_rows s
ended_rows names s t h = more_rows s t ∙ end_stays names 0 (whole_lines s) (whole_lines (last_part (parts 10 s) ++ t)) h

pub same_lines : (names : List Text) (s t : Text) → has_end (stream_lines names s) ≡ true → stream_lines names (s ++ t) ≡ stream_lines names s
same_lines names s t h = ap (λ (r : Rows). map (numbered names) r.told) (ended_rows names s t h)

pub ended_faultless : (names : List Text) (s t : Text) → has_end (stream_lines names s) ≡ true → stream_fault (s ++ t) ≡ None
ended_faultless names s t h = ap (λ (r : Rows). r.fault) (ended_rows names s t h) ∙ end_faultless names 0 (whole_lines s) h
