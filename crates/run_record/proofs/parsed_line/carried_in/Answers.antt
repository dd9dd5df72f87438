use Rattle.std.proofs.Common.{◌≡◌, sym, true, None, Some, bytes_eq, codes, rules}
use Rattle.run_record.proofs.RequestSuffix.{carried_is}
use Rattle.run_record.proofs.parsed_line.carried_in.Goals as goal

pub returns-in-None : goal.returns-in-None
returns-in-None c =
    let h : bytes_eq c.in-Some-cut_last.before.last.now (codes "by") ≡ true = search (rules, c.if-ne.ensures, c.if-ne.false, c.ne.ensures) in
    sym (carried_is c.args.line.now c.in-Some-cut_last.before.front.now c.in-Some.behind.front.now c.in-Some-cut_last.before.last.now c.in-Some.behind.last.now None
    c.in-Some.ensures.some c.in-Some-cut_last.ensures.some h (sym c.in-None.ensures))

pub returns-in-Some-count : goal.returns-in-Some-count
returns-in-Some-count c =
    let h : bytes_eq c.in-Some-cut_last.before.last.now (codes "by") ≡ true = search (rules, c.if-ne.ensures, c.if-ne.false, c.ne.ensures) in
    sym (carried_is c.args.line.now c.in-Some-cut_last.before.front.now c.in-Some.behind.front.now c.in-Some-cut_last.before.last.now c.in-Some.behind.last.now (Some c.in-Some-count.ask)
    c.in-Some.ensures.some c.in-Some-cut_last.ensures.some h (sym c.in-Some-count.ensures))
