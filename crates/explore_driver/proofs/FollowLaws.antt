-- How following a stream ends: what is read and written piece after piece, and the ends of the call that come of it.
use Rattle.std.proofs.Common.{◌≡◌, ◌∙◌, ◌⊎◌, inl, inr, ℕ, ◌+◌, ◌<◌, ◌≤◌, ◌++◌, List, [], ◌∷◌, length, take, drop, min, map, Option, Some, None, option_map, IfSome, IfNone, Bool, true, false, refl, sym, ap, subst, append_assoc, arith}
use Rattle.std.proofs.lemmas.Grind.{common_steps}
use Rattle.std.proofs.lemmas.List.{length-append}
use Rattle.std.specs.List.{list_any}
use Rattle.text_scan.specs.Text.{Text}
use Rattle.pool_syntax.specs.Terms.{ProgramTree}
use Rattle.pool_syntax.specs.Typing.{faults}
use Rattle.pool_outside.specs.Outside.{Rose}
use Rattle.pool_outside.specs.Reading.{AllRead, Reading, Told}
use Rattle.pool_outside.specs.Writing.{IsIdle, Writing, Wrote, WroteFront}
use Rattle.pool_outside.proofs.Laws.{cut_second, joined}
use Rattle.run_types.specs.declared.types.Line.{Line}
use Rattle.run_types.specs.declared.types.Line.TheVariants as L
use Rattle.record_parser.specs.Lines as Parsed
use Rattle.run_record.specs.Numbered.{numbered, numbered_by}
use Rattle.run_record.specs.Records.{is_end}
use Rattle.run_record.specs.declared.fault.RecordFault.{RecordFault}
use Rattle.command_inputs.specs.declared.fault.Fault.{Fault}
use Rattle.command_inputs.specs.declared.fault.Input.{Input}
use Rattle.command_inputs.specs.declared.fault.Input.TheVariants as I
use Rattle.command_inputs.specs.declared.fault.InputError.{InputError}
use Rattle.command_inputs.specs.declared.fault.InputError.TheVariants as T
use Rattle.command_inputs.specs.FaultText.{refusal_line, unread_line}
use Rattle.command_inputs.specs.Inputs.{IsReadAs}
use Rattle.command_inputs.specs.Programs.{IsParsed}
use Rattle.command_shell.specs.declared.status.Status.{Status}
use Rattle.command_shell.specs.declared.status.Status.TheVariants as S
use Rattle.command_shell.specs.Ends.{WholeTextWritten}
use Rattle.command_shell.specs.Results as D
use Rattle.command_shell.specs.Results.{ReportsInputError}
use Rattle.command_shell.specs.Writing as W
use Rattle.command_shell.specs.Writing.{Writes}
use Rattle.command_shell.specs.Verdicts.{status_of_verdict}
use Rattle.stream_check.proofs.Laws.{same_fault}
use Rattle.stream_check.specs.declared.judge.Judge.{Judge}
use Rattle.stream_check.specs.declared.judge.Stop.{Stop}
use Rattle.stream_check.specs.declared.judge.Stop.TheVariants as Why
use Rattle.stream_check.specs.FilledStream.{IsFollowedBy}
use Rattle.stream_check.specs.Progress.{HasRead}
use Rattle.stream_check.specs.Stream.{has_end, stream_fault, stream_lines, stream_rows}
use Rattle.explore_driver.proofs.OutputLaws.{verdict_whole}
use Rattle.explore_driver.specs.declared.follow.Followed.{Followed}
use Rattle.explore_driver.specs.declared.follow.Followed.TheVariants as E
use Rattle.explore_driver.specs.Following as Z
use Rattle.explore_driver.specs.Following.{EndsFollowing, HasCome, HasEnded, HasJudged, IsFrontOf, IsWholeStream, Tells, most_given}
use Rattle.explore_driver.specs.FollowSteps as R
use Rattle.explore_driver.specs.FollowSteps.{PieceEnds, Refuses, StreamEnds, end_by, so_far}

-- the count of bytes after n more
pub given_more : (a n : ℕ) → min (min a most_given + n) most_given ≡ min (a + n) most_given
given_more a n = grind (arith, common_steps)

-- the rest of a text after its next bytes were read
pub rest_more : (old now next : Option Text) (s piece : Text) (n : ℕ) → old ≡ option_map (λ r. s ++ r) now → IfSome now (λ r. (n ≤ length r) × (take n piece ≡ take n r)) → next ≡ option_map (drop n) now
    → old ≡ option_map (λ r. (s ++ take n piece) ++ r) next
rest_more old None next s piece n e b d = e ∙ ap (option_map (λ r. (s ++ take n piece) ++ r)) (sym d)
rest_more old (Some r) next s piece n e b d =
    e ∙ ap Some (ap (λ t. s ++ t) (sym (take_drop n r) ∙ ap (λ t. t ++ drop n r) (sym b.1)) ∙ sym (append_assoc s (take n piece) (drop n r))) ∙ ap (option_map (λ r. (s ++ take n piece) ++ r)) (sym d)
  where
    take_drop : (n : ℕ) (r : Text) → take n r ++ drop n r ≡ r
    take_drop n r = grind (arith, common_steps)

-- what was read is a front of the text, if that is known
pub front_read : (told rest : Option Text) (s : Text) → told ≡ option_map (λ r. s ++ r) rest → IfSome told (λ t. (r : Text) × (t ≡ s ++ r))
front_read told None s e = subst (λ (o : Option Text). IfSome o (λ t. (r : Text) × (t ≡ s ++ r))) (sym e) tt
front_read told (Some r) s e = subst (λ (o : Option Text). IfSome o (λ t. (r : Text) × (t ≡ s ++ r))) (sym e) (r, refl)

-- all of it was read
pub whole_read : (told rest : Option Text) (s : Text) → told ≡ option_map (λ r. s ++ r) rest → IfSome rest (λ r. r ≡ []) → IfSome told (λ t. t ≡ s)
whole_read told None s e h = subst (λ (o : Option Text). IfSome o (λ t. t ≡ s)) (sym e) tt
whole_read told (Some r) s e h = subst (λ (o : Option Text). IfSome o (λ t. t ≡ s)) (sym e) (ap (λ t. s ++ t) h ∙ append_nil s)
  where
    append_nil : (s : Text) → s ++ [] ≡ s
    append_nil s = grind (arith, common_steps)

-- nothing was read yet

pub none_mapped : (o : Option Text) → o ≡ option_map (λ r. [] ++ r) o
none_mapped None = refl
none_mapped (Some t) = refl

pub none_read : (told : Option Text) → IfSome told (λ t. (r : Text) × (t ≡ [] ++ r))
none_read None = tt
none_read (Some t) = (t, refl)

-- What holds between two reads of an open stream: these bytes were read of its text, in at least as many bytes as reads; the
-- judge goes on after them, and what they write is on the sink.
pub record ReadSoFar (fills : Bool) (p : ProgramTree) (names : List Text) (judge : Judge) (first rest : Option Text) (given reads : ℕ) (w : Writing) : Type 0 where
  pub bytes : Text
  pub read : HasRead fills p names bytes judge
  pub front : first ≡ option_map (λ r. bytes ++ r) rest
  pub given_is : given ≡ min (length bytes) most_given
  pub counted : reads ≤ length bytes
  pub wrote : Wrote w (so_far names bytes)

-- the effect of two calls on a sink, one after the other
pub both_wrote : (v w : Writing) (s t : Text) → w.before ≡ v.after → w.faults ≡ v.failed → Wrote v s → Wrote w t → Wrote (record { before = v.before; after = w.after; faults = v.faults; failed = w.failed }) (s ++ t)
both_wrote v w s t at count a b = (joined s t v.before v.after w.after a.0 (b.0 ∙ ap (option_map (λ x. x ++ t)) at), b.1 ∙ count ∙ a.1)

pub then_cut : (v w : Writing) (s t : Text) → w.before ≡ v.after → w.faults ≡ v.failed → Wrote v s → WroteFront w t → WroteFront (record { before = v.before; after = w.after; faults = v.faults; failed = w.failed }) (s ++ t)
then_cut v w s t at count a b = record {
  front = cut_second v.before w.before w.after s t (at ∙ a.0) b.front;
  rose = subst (λ (n : ℕ). Rose n w.failed) (count ∙ a.1) b.rose;
}

-- the same end, counted from an earlier moment
pub stream_since : (fills : Bool) (p : ProgramTree) (names : List Text) (n : Text) (k : Reading) (w : Writing) (result : Followed) (told : Told) (opens count : ℕ) → k.told ≡ told → k.faults ≡ count → StreamEnds fills p names n k w result
    → StreamEnds fills p names n (record k { told = told; opens = opens; faults = count }) w result
stream_since fills p names n k w result told opens count t f h =
    subst (λ (x : ℕ). StreamEnds fills p names n (record k { told = told; opens = opens; faults = x }) w result) f
    (subst (λ (x : Told). StreamEnds fills p names n (record k { told = x; opens = opens }) w result) t (same result h))
  where
    same : (result : Followed) → StreamEnds fills p names n k w result → StreamEnds fills p names n (record k { opens = opens }) w result
    same (E.Judged v) h = (h.0, h.1, h.2, record { front = h.3.front; given = h.3.given }, h.4, h.5)
    same (E.Stopped (T.Refused i f)) h = (h.0, h.1, h.2, refuses h.3, h.4, h.5)
      where
        refuses : Refuses fills p names n k h.0 h.1 f → Refuses fills p names n (record k { opens = opens }) h.0 h.1 f
        refuses (R.faulty g e follows given) = R.faulty g e follows (record { front = given.front; given = given.given })
        refuses (R.ended e follows given ends) = R.ended e follows (record { front = given.front; given = given.given }) (record { ended = ends.ended; whole = ends.whole; calm = ends.calm })
        refuses (R.too_long e follows given most) = R.too_long e follows (record { front = given.front; given = given.given }) most
    same (E.Stopped (T.Unread i)) h = (h.0, h.1, h.2, h.3, record { front = h.4.front; given = h.4.given }, h.5, h.6)
    same (E.Stopped T.Memory) h = h
    same E.Unwritten h = (h.0, h.1, h.2, h.3, record { front = h.4.front; given = h.4.given }, h.5)

-- the same end, of a judge that was made to fill in local transitions, or not to
pub ends_as : (fills mode : Bool) (p q : ProgramTree) (names : List Text) (n : Text) (k : Reading) (w : Writing) (result : Followed) → mode ≡ fills → p ≡ q → StreamEnds mode p names n k w result → StreamEnds fills q names n k w result
ends_as fills mode p q names n k w result e f h = subst (λ (b : Bool). StreamEnds b q names n k w result) e (subst (λ (t : ProgramTree). StreamEnds mode t names n k w result) f h)

pub read_as : (fills : Bool) (p : ProgramTree) (names : List Text) (s : Text) (j : Judge) → HasRead fills p names s j → HasRead j.fills p names s j
read_as fills p names s j r = subst (λ (b : Bool). HasRead b p names s j) (sym r.mode) r

-- what is written of a piece that was read, by where the judge stops
pub piece_made : (fills : Bool) (p : ProgramTree) (names : List Text) (s piece : Text) (w : Writing) (judge : Judge) (stop : Option Stop) (more : Text)
    → IsFollowedBy fills p names (s ++ piece) (so_far names s ++ more) stop → IfNone stop (HasRead fills p names (s ++ piece) judge) → Wrote w more → PieceEnds fills p names s piece w judge (end_by stop)
piece_made fills p names s piece w judge None more follows read wrote = (more, follows, wrote, read)
piece_made fills p names s piece w judge (Some (Why.Judged v)) more follows read wrote = (more, follows, wrote)
piece_made fills p names s piece w judge (Some (Why.Faulty f)) more follows read wrote = (f, more, refl, refl, follows, wrote)

pub piece_cut : (fills : Bool) (p : ProgramTree) (names : List Text) (s piece : Text) (w : Writing) (judge : Judge) (stop : Option Stop) (more : Text)
    → IsFollowedBy fills p names (s ++ piece) (so_far names s ++ more) stop → WroteFront w more → PieceEnds fills p names s piece w judge (Some E.Unwritten)
piece_cut fills p names s piece w judge stop more follows front = (more, stop, follows, front)

-- what is known of the stream, with local transitions filled in or without
text_of : (fills : Bool) (p : ProgramTree) (names : List Text) (s text : Text) → IsFollowedBy fills p names s text None → text ≡ so_far names s
text_of true p names s text h = h.3
text_of false p names s text h = h.3

unended_of : (fills : Bool) (p : ProgramTree) (names : List Text) (s text : Text) → IsFollowedBy fills p names s text None → has_end (stream_lines names s) ≡ false
unended_of true p names s text h = h.1
unended_of false p names s text h = h.1

fault_of : (fills : Bool) (p : ProgramTree) (names : List Text) (s text : Text) (f : RecordFault) → IsFollowedBy fills p names s text (Some (Why.Faulty f)) → stream_fault s ≡ Some f
fault_of true p names s text f h = h.0
fault_of false p names s text f h = h.0

-- a piece is read and judged after the bytes s

module _ (fills : Bool) (p : ProgramTree) (names : List Text) (n : Text) (k : Reading) (v w : Writing) (s piece : Text) (judge : Judge) (joint : w.before ≡ v.after) (count : w.faults ≡ v.failed) (earlier : Wrote v (so_far names s)) where
  abbrev all : Writing
  all = record { before = v.before; after = w.after; faults = v.faults; failed = w.failed }

  -- an end that comes of it is an end of the stream
  pub piece_ends : (result : Followed) → PieceEnds fills p names s piece w judge (Some result) → IsFollowedBy fills p names s (so_far names s) None → HasCome k n (s ++ piece) → IsFrontOf k n s → AllRead k → StreamEnds fills p names n k all result
  piece_ends (E.Judged x) h follows given front calm = (s ++ piece, so_far names s ++ h.0, h.1, given, calm, both_wrote v w (so_far names s) h.0 joint count earlier h.2)
  piece_ends (E.Stopped (T.Refused i f)) h follows given front calm =
      (s ++ piece, so_far names s ++ h.1, h.2, R.faulty h.0 h.3 h.4 given, calm, both_wrote v w (so_far names s) h.1 joint count earlier h.5)
  piece_ends (E.Stopped (T.Unread i)) h follows given front calm = absurd h
  piece_ends (E.Stopped T.Memory) h follows given front calm =
      (s, so_far names s, None, follows, front, (h.0 ∙ joint ∙ earlier.0, h.1 ∙ count ∙ earlier.1))
  piece_ends E.Unwritten h follows given front calm = (s ++ piece, so_far names s ++ h.0, h.1, h.2, given, then_cut v w (so_far names s) h.0 joint count earlier h.3)

  -- the text so far, if the stream goes on
  pub piece_goes : PieceEnds fills p names s piece w judge None → Wrote all (so_far names (s ++ piece))
  piece_goes h = subst (λ (t : Text). Wrote all t) (text_of fills p names (s ++ piece) (so_far names s ++ h.0) h.1) (both_wrote v w (so_far names s) h.0 joint count earlier h.2)

-- how the call ends by the end of its stream

module _ (fills : Bool) (name n : Text) (k : Reading) (out err : Writing) (source : Text) (read : IsReadAs k.told I.Program name source) (names : List Text) (p : ProgramTree) (parsed : IsParsed source names p) (typed : faults p ≡ []) (opened : k.opened ≡ k.opens + 2) where
  abbrev judged_so : (s text : Text) (stop : Option Stop) → IsFollowedBy fills p names s text stop → HasJudged fills name k s text stop
  judged_so s text stop h = record { source = source; read = read; names = names; program = p; parsed = parsed; typed = typed; opened = opened; follows = h }

  line_told : (s text line : Text) (planned status : Status) → Tells fills name n k s text line planned → Wrote out text → Writes err line planned status → EndsFollowing fills name n k out err status
  line_told s text line planned status tells wrote (W.whole whole e) = Z.told s text line (subst (λ (x : Status). Tells fills name n k s text line x) (sym e) tells) wrote whole
  line_told s text line planned status tells wrote (W.cut front e) = Z.line_cut s text line planned tells wrote front e

  pub verdict_ends : (v : _) (status : Status) → StreamEnds fills p names n k out (E.Judged v) → IsIdle err → status ≡ status_of_verdict v → EndsFollowing fills name n k out err status
  verdict_ends v status h idle e = Z.judged h.0 h.1 v (judged_so h.0 h.1 (Some (Why.Judged v)) h.2) h.3 h.4 h.5 idle e

  pub cut_ends : (status : Status) → StreamEnds fills p names n k out E.Unwritten → IsIdle err → status ≡ S.WriteFault → EndsFollowing fills name n k out err status
  cut_ends status h idle e = Z.cut h.0 h.1 h.2 (judged_so h.0 h.1 h.2 h.3) h.4 h.5 idle e

  refused_ends : (f : Fault) (status : Status) (s text : Text) → Refuses fills p names n k s text f → AllRead k → Wrote out text → Writes err (refusal_line I.Record f) S.Refused status → EndsFollowing fills name n k out err status
  refused_ends f status s text (R.faulty g e follows given) calm wrote w =
      line_told s text (refusal_line I.Record f) S.Refused status (Z.faulty g (judged_so s text (Some (Why.Faulty g)) follows) given calm (ap (refusal_line I.Record) e) refl) wrote w
  refused_ends f status s text (R.ended e follows given ends) calm wrote w =
      line_told s text (refusal_line I.Record f) S.Refused status (Z.ended (judged_so s text None follows) given ends (ap (refusal_line I.Record) e) refl) wrote w
  refused_ends f status s text (R.too_long e follows given most) calm wrote w =
      line_told s text (refusal_line I.Record f) S.Refused status (Z.too_long (judged_so s text None follows) given most calm (ap (refusal_line I.Record) e) refl) wrote w

  forgotten : (s text : Text) (stop : Option Stop) (status : Status) → IsFollowedBy fills p names s text stop → IsFrontOf k n s → Wrote out text → IsIdle err → status ≡ S.Memory → EndsFollowing fills name n k out err status
  forgotten s text stop status follows front wrote idle e = Z.memory s text stop (judged_so s text stop follows) front wrote idle e

  refused_front : (f : Fault) (s text : Text) → Refuses fills p names n k s text f → (stop : Option Stop) × IsFollowedBy fills p names s text stop × IsFrontOf k n s
  refused_front f s text (R.faulty g e follows given) = (Some (Why.Faulty g), follows, given.front)
  refused_front f s text (R.ended e follows given ends) = (None, follows, given.front)
  refused_front f s text (R.too_long e follows given most) = (None, follows, given.front)

  -- the line of an error, or no memory for it
  pub stopped_ends : (stop : InputError) (status : Status) → StreamEnds fills p names n k out (E.Stopped stop) → ReportsInputError err stop status → EndsFollowing fills name n k out err status
  stopped_ends (T.Refused i f) status h (D.refusal input g e w) =
      let at : input ≡ I.Record = (let x : i ≡ input = cc in sym x ∙ h.2) in
      let why : g ≡ f = cc in
      refused_ends f status h.0 h.1 h.3 h.4 h.5 (subst (λ (x : Fault). Writes err (refusal_line I.Record x) S.Refused status) why (subst (λ (x : Input). Writes err (refusal_line x g) S.Refused status) at w))
  stopped_ends (T.Refused i f) status h (D.unread input e w) = absurd (cc)
  stopped_ends (T.Refused i f) status h (D.memory e idle) = let front = refused_front f h.0 h.1 h.3 in forgotten h.0 h.1 front.0 status front.1 front.2 h.5 idle e
  stopped_ends (T.Unread i) status h (D.refusal input g e w) = absurd (cc)
  stopped_ends (T.Unread i) status h (D.unread input e w) =
      let at : input ≡ I.Record = (let x : i ≡ input = cc in sym x ∙ h.2) in
      line_told h.0 h.1 (unread_line I.Record) S.ReadFault status (Z.unread (judged_so h.0 h.1 None h.3) h.4 h.5 refl refl) h.6
      (subst (λ (x : Input). Writes err (unread_line x) S.ReadFault status) at w)
  stopped_ends (T.Unread i) status h (D.memory e idle) = forgotten h.0 h.1 None status h.3 h.4.front h.6 idle e
  stopped_ends T.Memory status h (D.refusal input g e w) = absurd (cc)
  stopped_ends T.Memory status h (D.unread input e w) = absurd (cc)
  stopped_ends T.Memory status h (D.memory e idle) = forgotten h.0 h.1 h.2 status h.3 h.4 h.5 idle e

-- a stream that is served comes to a verdict

numbered_end : (names : List Text) (text : Option Text) (l : Line) → is_end (numbered_by names text l) ≡ is_end l
numbered_end names None l = refl
numbered_end names (Some w) (L.Event n e what) = refl
numbered_end names (Some w) (L.End e) = refl

ends_among : (names : List Text) (ts : List Parsed.Told) → has_end (map (numbered names) ts) ≡ list_any (λ t. is_end t.line) ts
ends_among names [] = refl
ends_among names (t ∷ ts) = rw (numbered_end names t.text t.line, ends_among names ts) refl

module _ (fills : Bool) (name n : Text) (k : Reading) (whole : Text) (is : k.told n ≡ Some whole) (short : length whole < most_given) (served : IsWholeStream whole) (read : ¬ (Rose k.faults k.failed)) where
  front_of : (s : Text) → IsFrontOf k n s → (r : Text) × (whole ≡ s ++ r)
  front_of s h = subst (λ (o : Option Text). IfSome o (λ t. (r : Text) × (t ≡ s ++ r))) is h

  all_of : (s : Text) → IfSome (k.told n) (λ t. t ≡ s) → whole ≡ s
  all_of s h = subst (λ (o : Option Text). IfSome o (λ t. t ≡ s)) is h

  too_few : (s r : Text) → whole ≡ s ++ r → min (length s) most_given ≡ most_given → ⊥
  too_few s r e m = let l : length whole ≡ length s + length r = ap length e ∙ length-append s r in grind (arith, common_steps, short, l, m)

  never_told : (s text line : Text) (status : Status) → Tells fills name n k s text line status → ⊥
  never_told s text line status (Z.faulty f j given calm e st) =
      let r = front_of s given.front in
      let z : Some f ≡ None = sym (same_fault s r.0 f (fault_of fills j.program j.names s text f j.follows)) ∙ ap stream_fault (sym r.1) ∙ served.0 in
      cc
  never_told s text line status (Z.ended j given ends e st) =
      let z : true ≡ false = sym served.1 ∙ ap (λ t. list_any (λ u. is_end u.line) (stream_rows t).told) (all_of s ends.whole) ∙ sym (ends_among j.names (stream_rows s).told) ∙ unended_of fills j.program j.names s text j.follows in
      cc
  never_told s text line status (Z.too_long j given most calm e st) = let r = front_of s given.front in too_few s r.0 r.1 (sym given.given ∙ most)
  never_told s text line status (Z.unread j given rose e st) = read rose

  pub following_completes : (out err : Writing) (status : Status) → EndsFollowing fills name n k out err status → ¬ (Rose out.faults out.failed) → ¬ (Rose err.faults err.failed) → WholeTextWritten status ⊎ (status ≡ S.Memory)
  following_completes out err status (Z.judged s text v j given calm wrote idle e) w t = inl (subst WholeTextWritten (sym e) (verdict_whole v))
  following_completes out err status (Z.told s text line tells wrote said) w t = absurd (never_told s text line status tells)
  following_completes out err status (Z.line_cut s text line planned tells wrote front e) w t = absurd (t front.rose)
  following_completes out err status (Z.cut s text stop j given front idle e) w t = absurd (w front.rose)
  following_completes out err status (Z.memory s text stop j front wrote idle e) w t = inr e

-- the counts of bytes that were given

pub given_none : (given : ℕ) → given ≡ 0 → given ≡ min (length {A = ℕ} []) most_given
given_none given e = grind (arith, common_steps, e)

pub given_then : (given next a n : ℕ) → given ≡ min a most_given → next ≡ min (given + n) most_given → next ≡ min (a + n) most_given
given_then given next a n e h = h ∙ ap (λ (k : ℕ). min (k + n) most_given) e ∙ given_more a n

pub all_given : (given reads a : ℕ) → given ≡ min a most_given → reads ≤ a → most_given ≤ reads → given ≡ most_given
all_given given reads a e h m = grind (arith, common_steps, e, h, m)

pub no_room : 0 ≤ length {A = ℕ} []
no_room = omega arith

pub no_more : (a : ℕ) → a + 0 ≡ a
no_more a = omega arith

pub one_more : (reads a n b : ℕ) → reads ≤ a → 0 < n → a + n ≡ b → reads + 1 ≤ b
one_more reads a n b h s e = omega (arith, h, s, e)

pub length_more : (s piece : Text) (n : ℕ) → n ≤ length piece → length s + n ≡ length (s ++ take n piece)
length_more s piece n h = grind (arith, common_steps, h)

-- a room that was lent and came back, with other bytes
pub room_back : (n long : ℕ) (bytes items : Text) → length bytes ≡ long → take n (take long (bytes ++ drop (length bytes) items)) ≡ take n bytes
room_back n long bytes items e = ap (take n) (front_of_both long bytes (drop (length bytes) items) e)
  where
    front_of_both : (long : ℕ) (a b : Text) → length a ≡ long → take long (a ++ b) ≡ a
    front_of_both long a b e = grind (arith, common_steps, e)
