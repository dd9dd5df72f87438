use Rattle.std.proofs.Common.{sym, ap, ◌∙◌, length}
use Rattle.visited_set.proofs.RowLists.{length_rows}
use Rattle.visited_set.proofs.kept_rows.Rows.len.Goals as goal

pub returns : goal.returns
returns c =
    c.len.ensures ∙ c.self.inside.heads.ok.0
    ∙ sym (length_rows c.self.inside.heads.items c.self.inside.objects c.self.inside.queues c.self.invariant.0 c.self.invariant.1) ∙ ap length c.self.view_is
