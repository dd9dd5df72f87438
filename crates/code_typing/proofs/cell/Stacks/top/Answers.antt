use Rattle.std.proofs.Common.{◌≡◌, ◌≢◌, ◌-◌, ap, ◌∙◌, rules}
use Rattle.std.specs.Prelude.{slice_get}
use Rattle.code_typing.proofs.Tops.{deep_below, top_below, top_is, top_there}
use Rattle.code_typing.proofs.cell.Stacks.top.Goals as goal

pub returns-clause-stack : goal.returns-clause-stack
returns-clause-stack c =
    let s = c.args.self.now in
    let n : c.args.stack ≢ 0 = search rules in
    let e : c.cell_at.result ≡ slice_get s.cells.items (c.args.stack - 1) = c.cell_at.ensures ∙ ap (λ l. slice_get l (c.args.stack - 1)) c.deref.ensures.value in
    top_is s c.args.stack c.cell_at.result n e

pub returns-clause-below : goal.returns-clause-below
returns-clause-below c =
    let s = c.args.self.now in
    let n : c.args.stack ≢ 0 = search rules in
    let e : c.cell_at.result ≡ slice_get s.cells.items (c.args.stack - 1) = c.cell_at.ensures ∙ ap (λ l. slice_get l (c.args.stack - 1)) c.deref.ensures.value in
    top_below s c.args.stack c.cell_at.result n e

pub returns-clause-there : goal.returns-clause-there
returns-clause-there c =
    let s = c.args.self.now in
    let e : c.cell_at.result ≡ slice_get s.cells.items (c.args.stack - 1) = c.cell_at.ensures ∙ ap (λ l. slice_get l (c.args.stack - 1)) c.deref.ensures.value in
    top_there s c.args.stack c.cell_at.result e

pub returns-clause-depth : goal.returns-clause-depth
returns-clause-depth c =
    let s = c.args.self.now in
    let e : c.cell_at.result ≡ slice_get s.cells.items (c.args.stack - 1) = c.cell_at.ensures ∙ ap (λ l. slice_get l (c.args.stack - 1)) c.deref.ensures.value in
    deep_below s c.args.stack c.cell_at.result e
