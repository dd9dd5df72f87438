use Rattle.std.proofs.Common.{refl, ap, ◌∙◌, Some, None, if◌then◌else◌}
use Rattle.run_types.specs.Same.{are_same}
use Rattle.run_types.specs.declared.types.Value.TheVariants as V
use Rattle.pool_syntax.specs.TreeOf.{program_of}
use Rattle.stepper_terms.specs.Arguments.{now_args}
use Rattle.object_acts.specs.Acts.{calls_act, posts_act, returns_act, waits_act}
use Rattle.object_acts.specs.declared.change.Change.TheVariants as H
use Rattle.object_moves.specs.Changed.{fails_act, makes_act, writes_act}
use Rattle.object_moves.specs.declared.parts.Role.TheVariants as R
use Rattle.object_moves.proofs.ChangeFacts.{call_change, fail_change, get_change, make_change, return_change, send_change, tested, told, write_change}
use Rattle.object_moves.proofs.changes.change_of.Goals as goal

pub returns-in-Goes : goal.returns-in-Goes
returns-in-Goes c =
    let p = program_of c.args.program.now in
    let o = c.args.object in
    let t = c.args.state.now in
    let args = c.args.part.now.args in
    let a = c.act_of-act.result in
    let d = c.act_of-act.ensures in
    told p o t args c.args.part.now.role R.Goes c.local_change.result c.local_change.result c.in-Goes.is refl (c.local_change.ensures args)

pub returns-in-Writes : goal.returns-in-Writes
returns-in-Writes c =
    let p = program_of c.args.program.now in
    let o = c.args.object in
    let t = c.args.state.now in
    let args = c.args.part.now.args in
    let a = c.act_of-act.result in
    let d = c.act_of-act.ensures in
    let b = writes_act a c.in-Writes.item in
    told p o t args c.args.part.now.role (R.Writes c.in-Writes.item) c.done_if.result (if b then Some (H.Done) else None) c.in-Writes.is (tested c.writes.result b (H.Done) c.done_if.result c.done_if.ensures c.writes.ensures) (write_change p o t args a d c.in-Writes.item)

pub returns-in-Fails : goal.returns-in-Fails
returns-in-Fails c =
    let p = program_of c.args.program.now in
    let o = c.args.object in
    let t = c.args.state.now in
    let args = c.args.part.now.args in
    let a = c.act_of-act.result in
    let d = c.act_of-act.ensures in
    let b = fails_act a c.in-Fails.error in
    told p o t args c.args.part.now.role (R.Fails c.in-Fails.error) c.failed_if.result (if b then Some (H.Fault c.in-Fails.error) else None) c.in-Fails.is (tested c.fails.result b (H.Fault c.in-Fails.error) c.failed_if.result c.failed_if.ensures c.fails.ensures) (fail_change p o t args a d c.in-Fails.error)

pub returns-in-Sends : goal.returns-in-Sends
returns-in-Sends c =
    let p = program_of c.args.program.now in
    let o = c.args.object in
    let t = c.args.state.now in
    let args = c.args.part.now.args in
    let a = c.act_of-act.result in
    let d = c.act_of-act.ensures in
    let b = posts_act a c.in-Sends.receiver c.in-Sends.method.0 (are_same (now_args t.work.next) args) in
    told p o t args c.args.part.now.role (R.Sends c.in-Sends.receiver c.in-Sends.method) c.done_if-in-Sends.result (if b then Some (H.Done) else None) c.in-Sends.is (tested c.posts.result b (H.Done) c.done_if-in-Sends.result c.done_if-in-Sends.ensures (c.posts.ensures ∙ ap (posts_act a c.in-Sends.receiver c.in-Sends.method.0) (c.has_args-same_args.ensures ∙ ap (are_same (now_args t.work.next)) c.values.ensures))) (send_change p o t args a d c.in-Sends.receiver c.in-Sends.method)

pub returns-in-Calls : goal.returns-in-Calls
returns-in-Calls c =
    let p = program_of c.args.program.now in
    let o = c.args.object in
    let t = c.args.state.now in
    let args = c.args.part.now.args in
    let a = c.act_of-act.result in
    let d = c.act_of-act.ensures in
    let b = calls_act a c.in-Calls.receiver c.in-Calls.method.0 (are_same (now_args t.work.next) args) in
    told p o t args c.args.part.now.role (R.Calls c.in-Calls.receiver c.in-Calls.method) c.waiting_if.result (if b then Some (H.Wait c.in-Calls.receiver c.in-Calls.method) else None) c.in-Calls.is (tested c.calls.result b (H.Wait c.in-Calls.receiver c.in-Calls.method) c.waiting_if.result c.waiting_if.ensures (c.calls.ensures ∙ ap (calls_act a c.in-Calls.receiver c.in-Calls.method.0) (c.has_args-same_args.ensures ∙ ap (are_same (now_args t.work.next)) c.values.ensures))) (call_change p o t args a d c.in-Calls.receiver c.in-Calls.method)

pub returns-in-Returns : goal.returns-in-Returns
returns-in-Returns c =
    let p = program_of c.args.program.now in
    let o = c.args.object in
    let t = c.args.state.now in
    let args = c.args.part.now.args in
    let a = c.act_of-act.result in
    let d = c.act_of-act.ensures in
    let b = returns_act a c.in-Returns.caller c.in-Returns.value in
    told p o t args c.args.part.now.role (R.Returns c.in-Returns.caller c.in-Returns.value) c.returned_if.result (if b then Some (H.Returned) else None) c.in-Returns.is (tested c.returns.result b (H.Returned) c.returned_if.result c.returned_if.ensures c.returns.ensures) (return_change p o t args a d c.in-Returns.caller c.in-Returns.value)

pub returns-in-Gets : goal.returns-in-Gets
returns-in-Gets c =
    let p = program_of c.args.program.now in
    let o = c.args.object in
    let t = c.args.state.now in
    let args = c.args.part.now.args in
    let a = c.act_of-act.result in
    let d = c.act_of-act.ensures in
    let b = waits_act a c.in-Gets.receiver in
    told p o t args c.args.part.now.role (R.Gets c.in-Gets.receiver c.in-Gets.value) c.given_if.result (if b then Some (H.Becomes c.in-Gets.value) else None) c.in-Gets.is (tested c.waits_for.result b (H.Becomes c.in-Gets.value) c.given_if.result c.given_if.ensures c.waits_for.ensures) (get_change p o t args a d c.in-Gets.receiver c.in-Gets.value)

pub returns-in-Makes : goal.returns-in-Makes
returns-in-Makes c =
    let p = program_of c.args.program.now in
    let o = c.args.object in
    let t = c.args.state.now in
    let args = c.args.part.now.args in
    let a = c.act_of-act.result in
    let d = c.act_of-act.ensures in
    let b = makes_act a c.in-Makes.class.0 in
    told p o t args c.args.part.now.role (R.Makes c.in-Makes.class c.in-Makes.name) c.given_if-in-Makes.result (if b then Some (H.Becomes (V.Ref c.in-Makes.name)) else None) c.in-Makes.is (tested c.makes.result b (H.Becomes (V.Ref c.in-Makes.name)) c.given_if-in-Makes.result c.given_if-in-Makes.ensures c.makes.ensures) (make_change p o t args a d c.in-Makes.class c.in-Makes.name)

pub returns-in-Picks : goal.returns-in-Picks
returns-in-Picks c =
    let p = program_of c.args.program.now in
    let o = c.args.object in
    let t = c.args.state.now in
    let args = c.args.part.now.args in
    let a = c.act_of-act.result in
    let d = c.act_of-act.ensures in
    told p o t args c.args.part.now.role (R.Picks c.in-Picks.alt) c.pick_of.result c.pick_of.result c.in-Picks.is refl (c.pick_of.ensures p o d)

pub returns-in-Serves : goal.returns-in-Serves
returns-in-Serves c =
    let p = program_of c.args.program.now in
    let o = c.args.object in
    let t = c.args.state.now in
    let args = c.args.part.now.args in
    let a = c.act_of-act.result in
    let d = c.act_of-act.ensures in
    told p o t args c.args.part.now.role (R.Serves c.in-Serves.method c.in-Serves.caller) c.serve_of.result c.serve_of.result c.in-Serves.is refl (c.serve_of.ensures o d)
