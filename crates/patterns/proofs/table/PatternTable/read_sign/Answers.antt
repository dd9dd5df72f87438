use Rattle.std.proofs.Common.{sym, ◌∙◌, ap}
use Rattle.patterns.specs.Meaning.{before}
use Rattle.patterns.specs.Readers.{reading_of}
use Rattle.patterns.specs.Tables.{patterns}
use Rattle.patterns.specs.declared.sign.Sign.{Sign}
use Rattle.patterns.proofs.ReadingFacts.{closed_within, closing, going_on, levels_within, opened_within, opening}
use Rattle.patterns.proofs.RowFacts.{grown_more}
use Rattle.patterns.proofs.table.PatternTable.read_sign.Goals as goal

pub returns-in-Ok-clause-read : goal.returns-in-Ok-clause-read
returns-in-Ok-clause-read c =
    let a = patterns c.args.self.now in
    let b = patterns c.empty_level.new.self in
    let x = c.args.reader.now in
    let stands = c.in_ok-empty-in-Close.ensures.level in
    record {
      within = record { here = stands.within; around = closed_within a b x.here x.around.items c.push.new.self.items c.empty_level.ensures.grown c.requires.around c.requires.here c.in-Ok.ensures.items };
      is = closing a b x.here c.in_ok-empty-in-Close.empty x.around.items c.push.new.self.items c.empty_level.ensures.grown c.requires.around c.requires.here stands c.in-Ok.ensures.items
          ∙ ap (λ (s : Sign). before s (reading_of a x)) (sym c.in-Close.is);
    }

pub returns-in_ok-reader-in-Open-clause-read : goal.returns-in_ok-reader-in-Open-clause-read
returns-in_ok-reader-in-Open-clause-read c =
    let a = patterns c.args.self.now in
    let b = patterns c.whole.new.self in
    let d = patterns c.with_part.new.self in
    let x = c.args.reader.now in
    let stands = c.in_ok-reader-in-Open.ensures.level in
    let k = grown_more a b d c.whole.ensures.grown c.with_part.ensures.grown in
    record {
      within = record { here = stands.within; around = opened_within a d c.in-Some.outer x.around.items c.pop.new.self.items k c.requires.around c.in-Some.ensures.items };
      is = opening a b d x.here c.in-Some.outer c.in_ok-reader-in-Open.field-0 c.in_ok-part-in-Open.part x.around.items c.pop.new.self.items c.whole.ensures.grown c.with_part.ensures.grown c.requires.around
          c.in-Some.ensures.items c.in_ok-part-in-Open.ensures.number stands k
          ∙ ap (λ (s : Sign). before s (reading_of a x)) (sym c.in-Open.is);
    }

pub returns-in_ok-reader-in_default : goal.returns-in_ok-reader-in_default
returns-in_ok-reader-in_default c =
    let a = patterns c.args.self.now in
    let b = patterns c.before_here.new.self in
    let x = c.args.reader.now in
    let stands = c.in_ok-reader-in_default.ensures.level in
    record {
      grown = c.before_here.ensures.grown;
      read = record {
        within = record { here = stands.within; around = levels_within a b x.around.items c.before_here.ensures.grown c.requires.around };
        is = going_on a b c.args.sign x.here c.in_ok-reader-in_default.field-0 x.around.items c.before_here.ensures.grown c.requires.around c.in_default.not-Open c.in_default.not-Close stands;
      };
    }
