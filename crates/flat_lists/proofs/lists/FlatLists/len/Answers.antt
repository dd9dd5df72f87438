use Rattle.std.proofs.Common.{sym, ap, ◌∙◌, length}
use Rattle.flat_lists.proofs.Flat.{length_lists}
use Rattle.flat_lists.proofs.lists.FlatLists.len.Goals as goal

pub returns : goal.returns
returns g c = c.len.ensures ∙ c.self.inside.ends.ok.0 ∙ sym (length_lists 0 c.self.inside.ends.items c.self.inside.items.items) ∙ ap length c.self.view_is
