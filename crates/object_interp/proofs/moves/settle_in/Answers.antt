use Rattle.std.proofs.Common.{◌-◌, ◌+◌, sym, ap, ◌∙◌, length, Some, arith}
use Rattle.code_semantics.specs.Frames.{silent}
use Rattle.node_heap.specs.Heaps.{top_at}
use Rattle.object_interp.proofs.SilentSteps.{all_settled, end_settling, more_settling, next_fits, place_within, instr_there, settled_in, start_settling, top_now}
use Rattle.object_interp.proofs.moves.settle_in.Goals as goal

pub bounds-code-at : goal.bounds-code-at
bounds-code-at c =
    let u = c.loop-turn.invariant.unit in
    let h = c.args.heap.now in
    let s = c.args.slot in
    let code = c.args.code.now in
    place_within u h s c.loop-turn.invariant.proper (length code - c.loop-turn._turn) c.loop-turn.heap c.requires.slot c.loop-turn.invariant.so_far code c.at-at.result c.loop-turn.invariant.is_code c.at-at.ensures

pub run_silent-requires-clause-next : goal.run_silent-requires-clause-next
run_silent-requires-clause-next c g e =
    let u = c.loop-turn.invariant.unit in
    let h = c.args.heap.now in
    let s = c.args.slot in
    let code = c.args.code.now in
    let n = length code - c.loop-turn._turn in
    let now = c.loop-turn.heap in
    let t = c.loop-turn.invariant.so_far in
    let there = place_within u h s c.loop-turn.invariant.proper n now c.requires.slot t code c.at-at.result c.loop-turn.invariant.is_code c.at-at.ensures in
    let here = instr_there u h s n now c.requires.slot t code c.at-at.result c.index-code-at.result c.loop-turn.invariant.is_code c.at-at.ensures there c.index-code-at.is in
    next_fits u h s c.loop-turn.invariant.proper n now t g
    (ap (silent t.frame) here ∙ ap (λ f. silent f (Some c.index-code-at.result)) (sym (top_now u h s n now c.requires.slot t)) ∙ e)

pub returns-then-not-run_silent : goal.returns-then-not-run_silent
returns-then-not-run_silent c =
    let u = c.loop-turn.invariant.unit in
    let h = c.args.heap.now in
    let s = c.args.slot in
    let code = c.args.code.now in
    let n = length code - c.loop-turn._turn in
    let now = c.loop-turn.heap in
    let t = c.loop-turn.invariant.so_far in
    let there = place_within u h s c.loop-turn.invariant.proper n now c.requires.slot t code c.at-at.result c.loop-turn.invariant.is_code c.at-at.ensures in
    let here = instr_there u h s n now c.requires.slot t code c.at-at.result c.index-code-at.result c.loop-turn.invariant.is_code c.at-at.ensures there c.index-code-at.is in
    let i = Some c.index-code-at.result in
    end_settling u h s n (length code - (c.loop-turn._turn + 1)) now c.run_silent.new.heap c.loop-turn.invariant.top t i (silent (top_at now s) i) (omega arith) here
    (ap (λ f. silent f i) (sym (top_now u h s n now c.requires.slot t))) c.if-not-run_silent.ensures
    ∙ settled_in u h s code c.loop-turn.invariant.top c.loop-turn.invariant.is_code

pub loop-turn-preserved : goal.loop-turn-preserved
loop-turn-preserved c =
    let u = c.loop-turn.invariant.unit in
    let h = c.args.heap.now in
    let s = c.args.slot in
    let code = c.args.code.now in
    let n = length code - c.loop-turn._turn in
    let now = c.loop-turn.heap in
    let t = c.loop-turn.invariant.so_far in
    let there = place_within u h s c.loop-turn.invariant.proper n now c.requires.slot t code c.at-at.result c.loop-turn.invariant.is_code c.at-at.ensures in
    let here = instr_there u h s n now c.requires.slot t code c.at-at.result c.index-code-at.result c.loop-turn.invariant.is_code c.at-at.ensures there c.index-code-at.is in
    let i = Some c.index-code-at.result in
    record {
      unit = u;
      proper = c.loop-turn.invariant.proper;
      top = c.loop-turn.invariant.top;
      is_code = c.loop-turn.invariant.is_code;
      so_far = more_settling u h s n (length code - (c.loop-turn._turn + 1)) now c.run_silent.new.heap c.requires.slot t i (silent (top_at now s) i) (omega arith) here
          (ap (λ f. silent f i) (sym (top_now u h s n now c.requires.slot t))) c.if-not-run_silent.ensures;
    }

pub loop-turn-init : goal.loop-turn-init
loop-turn-init c =
    let r = c.requires.top in
    record {
      unit = r.0;
      proper = r.1;
      top = r.2;
      is_code = r.3;
      so_far = start_settling r.0 c.args.heap.now c.args.slot (length c.args.code.now - 0) (omega (arith, ap length r.3)) r.2;
    }

pub returns : goal.returns
returns c =
    let t = c.loop-turn.invariant in
    all_settled t.unit c.args.heap.now c.args.slot (length c.args.code.now - c.loop-turn._turn) c.loop-turn.heap t.top (omega arith) t.so_far
    ∙ settled_in t.unit c.args.heap.now c.args.slot c.args.code.now t.top t.is_code
