use Rattle.std.proofs.Common.{ap, Result, Ok, Err, OnOk}
use Rattle.object_acts.specs.Acts.{object_with}
use Rattle.stepper_objects.proofs.object_state.ObjectState.change.Goals as goal

-- what follows from the result of a call that succeeds
follows : {T E P Q : Type 0} → (r : Result T E) → (P → Q) → OnOk r P → OnOk r Q
follows (Ok x) step h = step h
follows (Err e) step h = h

pub returns-in-Serve : goal.returns-in-Serve
returns-in-Serve c =
    rw (c.in-Serve.is, ← c.values.ensures) (follows c.serve.result (λ e. ap (λ t. object_with c.args.self.now.class c.args.self.now.vars.items t c.args.self.now.fault) e) c.serve.ensures)
