use Rattle.std.proofs.Common.{◌∷◌, [], ◌++◌, ap, ◌∙◌}
use Rattle.wire_link.proofs.Rings.{put_over}
use Rattle.wire_link.proofs.ring.write_data.Goals as goal

pub returns-clause-items : goal.returns-clause-items
returns-clause-items c =
    let r = c.frames.inside in let i = c.frames.invariant in
    put_over r.first r.count 16 r.cells c.args.frames.now.items i.0 i.1 i.2 (ap (λ v. v.items) c.frames.view_is) c.wrapped-place.result c.new.result c.put_data_frame.new.bytes c.requires c.wrapped-place.ensures
    ∙ ap (λ xs. c.args.frames.now.items ++ record { items = xs } ∷ []) c.put_data_frame.ensures.items
