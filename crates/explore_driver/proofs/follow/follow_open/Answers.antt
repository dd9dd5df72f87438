use Rattle.std.proofs.Common.{rules, ◌≡◌, ◌∙◌, ℕ, ◌+◌, ◌<◌, ◌≤◌, ◌++◌, [], length, min, option_map, take, ap, refl, subst, sym}
use Rattle.text_scan.specs.Text.{Text}
use Rattle.pool_syntax.specs.TreeOf.{program_of}
use Rattle.pool_outside.specs.Outside.{Rose}
use Rattle.pool_outside.specs.Reading.{reading}
use Rattle.pool_outside.proofs.Laws.{append_nothing}
use Rattle.command_shell.specs.Writing.{writing}
use Rattle.stream_check.proofs.Laws.{read_is_followed, read_is_fresh}
use Rattle.command_inputs.specs.declared.fault.Fault.TheVariants as Why
use Rattle.explore_driver.specs.Following.{HasCome, most_given}
use Rattle.explore_driver.specs.FollowSteps as R
use Rattle.explore_driver.specs.FollowSteps.{StreamEnds, so_far}
use Rattle.explore_driver.proofs.FollowLaws.{all_given, front_read, given_none, given_then, length_more, no_more, no_room, none_mapped, one_more, piece_ends, piece_goes, rest_more, room_back, whole_read}
use Rattle.explore_driver.proofs.follow.follow_open.Goals as goal

pub loop-reads-init : goal.loop-reads-init
loop-reads-init g c = record {
  followed = record {
    bytes = [];
    read = c.requires.fresh;
    front = none_mapped (g.F.Files.rest c.args.files.now);
    given_is = given_none (g.F.Files.given c.args.files.now) c.requires.given;
    counted = no_room;
    wrote = (append_nothing (g.K.Sink.written c.args.out.now), refl);
  };
  live = c.requires.live;
  room = c.in-Ok.ensures;
  opens = refl;
  faults = refl;
  told = refl;
}

pub follow_piece-requires-clause-fresh : goal.follow_piece-requires-clause-fresh
follow_piece-requires-clause-fresh g c =
    let f = c.loop-reads.invariant.followed in read_is_fresh c.args.judge.now.fills (program_of c.args.program.now.program.now) c.args.names.now f.bytes c.loop-reads.judge f.read

pub returns-in-Err-clause-ends : goal.returns-in-Err-clause-ends
returns-in-Err-clause-ends g c n e =
    let l = c.loop-reads in
    let f = l.invariant.followed in
    let failed = c.in-Err.ensures.failed in (
      f.bytes,
      so_far c.args.names.now f.bytes,
      refl,
      read_is_followed c.args.judge.now.fills (program_of c.args.program.now.program.now) c.args.names.now f.bytes l.judge f.read,
      record { front = front_read _ (g.F.Files.rest l.files) f.bytes (sym e ∙ f.front); given = failed.2 ∙ f.given_is },
      subst (λ (k : ℕ). Rose k (g.F.Files.faults c.read.new.self)) l.invariant.faults failed.0,
      f.wrote,
    )

pub returns-then-taken-eq0-clause-ends : goal.returns-then-taken-eq0-clause-ends
returns-then-taken-eq0-clause-ends g c n e =
    let p = program_of c.args.program.now.program.now in
    let names = c.args.names.now in
    let l = c.loop-reads in
    let f = l.invariant.followed in
    let h = c.in-Ok-read.ensures in
    let calm = h.no_fault ∙ l.invariant.faults in
    let front = sym e ∙ f.front in
    let done = h.ended c.if-taken-eq0.true in
    let given = subst (λ (k : ℕ). g.F.Files.given c.read.new.self ≡ min (length f.bytes + k) most_given) c.if-taken-eq0.true (given_then (g.F.Files.given l.files) (g.F.Files.given c.read.new.self) (length f.bytes) c.in-Ok-read.taken f.given_is h.counted) in
    let all = given ∙ ap (λ (k : ℕ). min k most_given) (no_more (length f.bytes)) in
    let k = reading g.F.Files.told g.F.Files.opens g.F.Files.given g.F.Files.live g.F.Files.faults c.args.files.now c.read.new.self in
    let w = writing g.K.Sink.written g.K.Sink.faults c.args.out.now l.out in
    subst (λ r. StreamEnds c.args.judge.now.fills p names n k w r) (sym c.refused.ensures) (
      f.bytes,
      so_far names f.bytes,
      refl,
      R.ended (ap Why.Record (c.cut_off.ensures c.args.judge.now.fills p names f.bytes f.read)) (read_is_followed c.args.judge.now.fills p names f.bytes l.judge f.read)
          (record { front = front_read _ (g.F.Files.rest l.files) f.bytes front; given = all })
          (record { ended = done.1; whole = whole_read _ (g.F.Files.rest l.files) f.bytes front done.0; calm = calm }),
      calm,
      f.wrote,
    )

pub returns-in-Some-clause-ends : goal.returns-in-Some-clause-ends
returns-in-Some-clause-ends g c n e =
    let p = program_of c.args.program.now.program.now in
    let names = c.args.names.now in
    let l = c.loop-reads in
    let f = l.invariant.followed in
    let h = c.in-Ok-read.ensures in
    let bytes = take c.in-Ok-read.taken c.deref.result.now in
    let long : length c.read.new.into ≡ l.piece.len = search rules in
    let room = ap (take c.in-Ok-read.taken) c.deref.ensures.value ∙ room_back c.in-Ok-read.taken l.piece.len c.read.new.into l.piece.items long in
    let calm = h.no_fault ∙ l.invariant.faults in
    let k = reading g.F.Files.told g.F.Files.opens g.F.Files.given g.F.Files.live g.F.Files.faults c.args.files.now c.read.new.self in
    let v = writing g.K.Sink.written g.K.Sink.faults c.args.out.now l.out in
    let w = writing g.K.Sink.written g.K.Sink.faults l.out c.follow_piece.new.out in
    let fits : c.in-Ok-read.taken ≤ length c.read.new.into = search rules in
    let more = sym e ∙ rest_more (g.F.Files.rest c.args.files.now) (g.F.Files.rest l.files) (g.F.Files.rest c.read.new.self) f.bytes c.read.new.into c.in-Ok-read.taken f.front h.bytes h.left in
    let count = given_then (g.F.Files.given l.files) (g.F.Files.given c.read.new.self) (length f.bytes) c.in-Ok-read.taken f.given_is h.counted in
    let given = subst (λ (b : Text). HasCome k n (f.bytes ++ b)) (sym room)
    (record { front = front_read _ (g.F.Files.rest c.read.new.self) (f.bytes ++ take c.in-Ok-read.taken c.read.new.into) more; given = count ∙ ap (λ (m : ℕ). min m most_given) (length_more f.bytes c.read.new.into c.in-Ok-read.taken fits) }) in
    piece_ends c.args.judge.now.fills p names n k v w f.bytes bytes c.follow_piece.new.judge refl refl f.wrote c.in-Some.end (c.in-Some.ensures c.args.judge.now.fills f.bytes f.read)
    (read_is_followed c.args.judge.now.fills p names f.bytes l.judge f.read) given (front_read _ (g.F.Files.rest l.files) f.bytes (sym e ∙ f.front)) calm

pub loop-reads-preserved : goal.loop-reads-preserved
loop-reads-preserved g c =
    let p = program_of c.args.program.now.program.now in
    let names = c.args.names.now in
    let l = c.loop-reads in
    let f = l.invariant.followed in
    let h = c.in-Ok-read.ensures in
    let bytes = take c.in-Ok-read.taken c.deref.result.now in
    let long : length c.read.new.into ≡ l.piece.len = search rules in
    let room = ap (take c.in-Ok-read.taken) c.deref.ensures.value ∙ room_back c.in-Ok-read.taken l.piece.len c.read.new.into l.piece.items long in
    let v = writing g.K.Sink.written g.K.Sink.faults c.args.out.now l.out in
    let w = writing g.K.Sink.written g.K.Sink.faults l.out c.follow_piece.new.out in
    let some : 0 < c.in-Ok-read.taken = search rules in
    let fits : c.in-Ok-read.taken ≤ length c.read.new.into = search rules in
    let long_more = length_more f.bytes c.read.new.into c.in-Ok-read.taken fits in
    let k = reading g.F.Files.told g.F.Files.opens g.F.Files.given g.F.Files.live g.F.Files.faults c.args.files.now c.read.new.self in
    let goes = c.in_default-follow_piece.ensures c.args.judge.now.fills f.bytes f.read in
    record {
      followed = record {
        bytes = f.bytes ++ bytes;
        read = goes.3;
        front = subst (λ (b : Text). g.F.Files.rest c.args.files.now ≡ option_map (λ r. (f.bytes ++ b) ++ r) (g.F.Files.rest c.read.new.self)) (sym room)
            (rest_more (g.F.Files.rest c.args.files.now) (g.F.Files.rest l.files) (g.F.Files.rest c.read.new.self) f.bytes c.read.new.into c.in-Ok-read.taken f.front h.bytes h.left);
        given_is = given_then (g.F.Files.given l.files) (g.F.Files.given c.read.new.self) (length f.bytes) c.in-Ok-read.taken f.given_is h.counted ∙ ap (λ (m : ℕ). min m most_given) (long_more ∙ ap (λ (b : Text). length (f.bytes ++ b)) (sym room));
        counted = one_more (l._reads) (length f.bytes) c.in-Ok-read.taken (length (f.bytes ++ bytes)) f.counted some (long_more ∙ ap (λ (b : Text). length (f.bytes ++ b)) (sym room));
        wrote = piece_goes c.args.judge.now.fills p names [] k v w f.bytes bytes c.follow_piece.new.judge refl refl f.wrote goes;
      };
      live = h.goes_on some;
      room = search rules;
      opens = h.same_opens ∙ l.invariant.opens;
      faults = h.no_fault ∙ l.invariant.faults;
      told = h.same_texts ∙ l.invariant.told;
    }

pub returns-clause-ends : goal.returns-clause-ends
returns-clause-ends g c n e =
    let p = program_of c.args.program.now.program.now in
    let names = c.args.names.now in
    let l = c.loop-reads in
    let f = l.invariant.followed in
    let most : most_given ≤ l._reads = search rules in
    let k = reading g.F.Files.told g.F.Files.opens g.F.Files.given g.F.Files.live g.F.Files.faults c.args.files.now l.files in
    let w = writing g.K.Sink.written g.K.Sink.faults c.args.out.now l.out in
    subst (λ r. StreamEnds c.args.judge.now.fills p names n k w r) (sym c.refused-2.ensures) (
      f.bytes,
      so_far names f.bytes,
      refl,
      R.too_long refl (read_is_followed c.args.judge.now.fills p names f.bytes l.judge f.read) (record { front = front_read _ (g.F.Files.rest l.files) f.bytes (sym e ∙ f.front); given = f.given_is })
          (all_given (g.F.Files.given l.files) l._reads (length f.bytes) f.given_is f.counted most),
      l.invariant.faults,
      f.wrote,
    )
