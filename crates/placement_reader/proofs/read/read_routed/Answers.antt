use Rattle.std.proofs.Common.{◌+◌, ◌*◌, ◌≤◌, drop, ap, sym, subst, ◌∙◌, length}
use Rattle.std.specs.List.{All}
use Rattle.run_types.specs.declared.types.Placement.{Placement}
use Rattle.code_semantics.specs.Suits.{IsFromTo, IsOfMesh, Suits}
use Rattle.code_semantics.specs.NodeWords.{most_vars, nodes, words}
use Rattle.std.specs.Prelude.{slice_range}
use Rattle.text_scan.specs.Lines.{lines, words as line_words}
use Rattle.text_scan.specs.ContentLines.{kept_from}
use Rattle.run_types.proofs.Laws.{routed_ways}
use Rattle.placement_reader.specs.Forms.{form_of}
use Rattle.placement_reader.specs.ReaderFacts.{AreWellFormed}
use Rattle.placement_reader.specs.Placements.{fault_in, placement_of, placement_of_lines}
use Rattle.placement_reader.proofs.RoutedPlacement.{mesh_told, routed, told}
use Rattle.placement_reader.proofs.FaultlessForms.{counted, places_there}
use Rattle.placement_reader.proofs.read.read_routed.Goals as goal

pub routed-requires : goal.routed-requires
routed-requires c =
    routed c.args.unit.now c.in-Ok.mesh.width c.in-Ok.mesh.height c.from-nodes.result c.from-width.result c.as_slice.result.now
    (kept_from (c.in-Some.first.line + 1) (lines (drop c.in-Some.first.next c.args.bytes.now))) c.in_ok-placement.placement c.in_ok-placement.ensures.value
    (c.as_slice.ensures.value ∙ c.in_ok-forms.ensures.forms) c.from-nodes.ensures c.from-width.ensures c.in_ok-forms.ensures.faultless c.in-Ok.ensures.ok.width c.in-Ok.ensures.ok.height

pub returns-in-Err-clause-err : goal.returns-in-Err-clause-err
returns-in-Err-clause-err c =
    let u = c.args.unit.now in
    let s = c.args.bytes.now in
    let o = form_of u (line_words (slice_range s c.in-Some.first.start c.in-Some.first.end)) in
    let left = kept_from (c.in-Some.first.line + 1) (lines (drop c.in-Some.first.next s)) in
    told c.in-Err.fault (fault_in (placement_of u s)) (ap (λ ks. fault_in (placement_of_lines u (length (lines s)) ks)) c.in-Some.ensures.line ∙ mesh_told u c.in-Some.first.line o left c.in-Err.fault c.in-Err.ensures.err)

pub returns-in-Ok-routed-clause-suits : goal.returns-in-Ok-routed-clause-suits
returns-in-Ok-routed-clause-suits c =
    let u = c.args.unit.now in
    let mesh = c.in-Ok.mesh in
    let fs = c.as_slice.result.now in
    let value = c.in_ok-placement.ensures.value in
    let fine : AreWellFormed (mesh.width * mesh.height) fs =
    subst (λ n. AreWellFormed n fs) c.from-nodes.ensures (subst (AreWellFormed c.from-nodes.result) (sym c.as_slice.ensures.value) c.in_ok-forms.ensures.fine) in
    let routes =
    routed u mesh.width mesh.height c.from-nodes.result c.from-width.result fs
    (kept_from (c.in-Some.first.line + 1) (lines (drop c.in-Some.first.next c.args.bytes.now))) c.in_ok-placement.placement value
    (c.as_slice.ensures.value ∙ c.in_ok-forms.ensures.forms) c.from-nodes.ensures c.from-width.ensures c.in_ok-forms.ensures.faultless c.in-Ok.ensures.ok.width c.in-Ok.ensures.ok.height in
    subst (λ (p : Placement). Suits p u) (sym c.in-Ok-routed.ensures.ok.0) (record {
      width = subst (λ (p : Placement). IsFromTo 1 8 p.width) (sym value) c.in-Ok.ensures.ok.width;
      height = subst (λ (p : Placement). IsFromTo 1 8 p.height) (sym value) c.in-Ok.ensures.ok.height;
      objects = c.in_ok-placement.ensures.objects;
      frames = c.in_ok-placement.ensures.frames;
      cells = c.in_ok-placement.ensures.cells;
      places = ap (λ (p : Placement). length p.places) value ∙ counted (length u.classes) fs;
      each = subst (λ (p : Placement). All (IsOfMesh (nodes p)) p.places) (sym value) (places_there (mesh.width * mesh.height) 0 (length u.classes) fs fine);
      fits =
          subst (λ n. n ≤ 16777216) (c.words-words.ensures ∙ ap (λ v. words c.in_ok-placement.placement v) (c.most_vars.ensures ∙ ap most_vars c.items.ensures)) c.if-words-gt-MOST_WORDS.false;
      routed = routes;
      ways = routed_ways c.in_ok-placement.placement routes c.in-Ok-routed.ensures.ok.1;
    })
