use Rattle.std.proofs.Common.{refl, ◌<◌, length, sym, ap, ◌∙◌, arith}
use Rattle.std.specs.List.{slice_get}
use Rattle.std.proofs.lemmas.Option.{slice_get_read}
use Rattle.visited_set.proofs.RowLists.{length_rows, row_at}
use Rattle.visited_set.proofs.kept_rows.Rows.get.Goals as goal

pub index-head-requires : goal.index-head-requires
index-head-requires c =
    let long = length_rows c.self.inside.heads.items c.self.inside.objects c.self.inside.queues c.self.invariant.0 c.self.invariant.1 in
    omega (arith, long, ap length c.self.view_is, c.self.inside.heads.ok.0)

pub get-requires : goal.get-requires
get-requires c =
    let long = length_rows c.self.inside.heads.items c.self.inside.objects c.self.inside.queues c.self.invariant.0 c.self.invariant.1 in
    omega (arith, long, ap length c.self.view_is, c.self.invariant.0)

pub get-requires-2 : goal.get-requires-2
get-requires-2 c =
    let long = length_rows c.self.inside.heads.items c.self.inside.objects c.self.inside.queues c.self.invariant.0 c.self.invariant.1 in
    omega (arith, long, ap length c.self.view_is, c.self.invariant.1)

pub returns : goal.returns
returns c =
    let hs = c.self.inside.heads.items in
    let long = length_rows hs c.self.inside.objects c.self.inside.queues c.self.invariant.0 c.self.invariant.1 in
    let inside : c.args.at < length hs = omega (arith, long, ap length c.self.view_is) in
    sym (ap (λ rs. slice_get rs c.args.at) c.self.view_is)
    ∙ row_at hs c.self.inside.objects c.self.inside.queues c.args.at c.index-head.result.now c.get.result.now c.get-2.result.now
    (slice_get_read hs (length hs) c.args.at c.index-head.result.now refl inside c.index-head.ensures) c.get.ensures c.get-2.ensures
