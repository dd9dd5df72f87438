-- What a judge has read, if it reads on, is the front of a run.
use Rattle.std.proofs.Common.{◌≡◌, refl, List, None, Bool, true, false}
use Rattle.text_scan.specs.Text.{Text}
use Rattle.run_types.specs.declared.types.Line.{Line}
use Rattle.pool_syntax.specs.Terms.{ProgramTree}
use Rattle.pool_semantics.specs.PlainOf.{configuration_of, is_spent}
use Rattle.record_writer.specs.WrittenText.{writes_text}
use Rattle.stream_check.specs.declared.judge.Judge.{Judge}
use Rattle.stream_check.specs.declared.judge.Lines.{Lines}
use Rattle.stream_check.specs.FilledStream.{IsFollowedBy}
use Rattle.stream_check.specs.Progress.{HasRead, IsAfterBy, IsFresh}
use Rattle.stream_check.specs.Stream.{has_end, last_number, stream_lines}
use Rattle.stream_check.proofs.FillingSteps.{filled_front}

-- what a judge that fills in local transitions holds, and one that does not
pub unended_by : (fills : Bool) (p : ProgramTree) (ls : List Line) (j : Lines) → IsAfterBy fills p ls j → has_end ls ≡ false
unended_by true p ls j a = a.unended
unended_by false p ls j a = a.unended

pub last_by : (fills : Bool) (p : ProgramTree) (ls : List Line) (j : Lines) → IsAfterBy fills p ls j → j.last ≡ last_number 0 ls
last_by true p ls j a = a.last
last_by false p ls j a = a.last

fresh_by : (fills : Bool) (p : ProgramTree) (ls : List Line) (j : Lines) → IsAfterBy fills p ls j → is_spent j.filling.plain ≡ false
fresh_by true p ls j a = a.fresh
fresh_by false p ls j a = a.fresh

pub read_is_followed : (fills : Bool) (p : ProgramTree) (names : List Text) (s : Text) (j : Judge) → HasRead fills p names s j → IsFollowedBy fills p names s (writes_text names (stream_lines names s)) None
read_is_followed true p names s j r = (r.faultless, r.lines.unended, filled_front p (stream_lines names s) j.lines r.lines, refl)
read_is_followed false p names s j r = (r.faultless, r.lines.unended, (configuration_of j.lines.filling.plain, r.lines.leads), refl)

-- it has not run out of memory
pub read_is_fresh : (fills : Bool) (p : ProgramTree) (names : List Text) (s : Text) (j : Judge) → HasRead fills p names s j → IsFresh j
read_is_fresh fills p names s j r = fresh_by fills p (stream_lines names s) j.lines r.lines
