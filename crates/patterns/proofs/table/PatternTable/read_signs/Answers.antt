use Rattle.std.proofs.Common.{◌-◌, subst, sym, arith}
use Rattle.std.specs.Result.{IfOk}
use Rattle.patterns.specs.Meaning.{reading}
use Rattle.patterns.specs.Readers.{HasRead}
use Rattle.patterns.specs.Rows.{HasPattern}
use Rattle.patterns.specs.Tables.{patterns}
use Rattle.patterns.proofs.ReadingFacts.{all_read, none_left, read_before}
use Rattle.patterns.proofs.RowFacts.{grown_more, not_grown}
use Rattle.patterns.proofs.table.PatternTable.read_signs.Goals as goal

pub loop-i-init : goal.loop-i-init
loop-i-init c = record {
  grown = not_grown (patterns c.reader.new.self);
  read = subst (λ ss. HasRead (patterns c.reader.new.self) c.in_ok-reader.reader (reading ss)) (sym (none_left c.args.signs.now)) c.in_ok-reader.ensures.none;
}

pub loop-i-preserved : goal.loop-i-preserved
loop-i-preserved c =
    let l = c.loop-i in
    record {
      grown = grown_more (patterns c.reader.new.self) (patterns l.self) (patterns c.read_sign.new.self) l.invariant.grown c.read_sign.ensures.grown;
      read = read_before (patterns l.self) (patterns c.read_sign.new.self) l.reader c.read_sign.new.reader c.args.signs.now l.i (l.i - 1) _ (omega (arith, c.loop-i-test.true)) (omega (arith, c.loop-i-test.true, l.auto.i))
          l.invariant.read c.in_ok-read_sign.ensures.read;
    }

pub returns-clause-number : goal.returns-clause-number
returns-clause-number c =
    let l = c.loop-i in
    subst (λ q. IfOk c.whole.result (λ n. HasPattern (patterns c.whole.new.self) n q)) (all_read (patterns l.self) l.reader c.args.signs.now l.i (omega (arith, c.loop-i-test.false)) l.invariant.read) c.whole.ensures.number
