use Rattle.std.proofs.Common.{◌++◌, ◌∷◌, [], map, refl, ap, ◌∙◌, ◌+◌, ◌-◌, arith}
use Rattle.std.specs.List.{range_with_len}
use Rattle.run_types.proofs.Laws.{more}
use Rattle.placement_reader.specs.Forms.{place_or_same, spot_in}
use Rattle.placement_reader.proofs.read.places_in.Goals as goal

pub loop-class-preserved : goal.loop-class-preserved
loop-class-preserved c =
    let l = c.loop-class in
    let forms = c.args.forms.now in
    let left = map (λ k. place_or_same (spot_in k forms)) (range_with_len (l.class + 1) (c.args.count - (l.class + 1))) in
    ap (λ ps. ps ++ left) (c.in-Ok.ensures.ok ∙ ap (λ p. l.places ++ p ∷ []) c.place_in.ensures.place)
    ∙ more (map (λ k. place_or_same (spot_in k forms))) (λ k. place_or_same (spot_in k forms) ∷ []) (λ k ks. refl) l.class c.args.count (omega arith) l.places _ l.invariant
