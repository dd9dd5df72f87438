use Rattle.std.proofs.Common.{◌≡◌, ◌||◌, drop}
use Rattle.std.specs.List.{list_any}
use Rattle.run_types.specs.Values.{is_nil, not_bool, is_true}
use Rattle.object_acts.proofs.act.act_select.Given as goal

abbrev pub invariant-loop-guarded : goal.invariant-loop-guarded
invariant-loop-guarded l = record {
  nil : (l.some_nil || list_any (λ g. is_nil g.guard.value) (drop l.guarded-index l.guards)) ≡ list_any (λ g. is_nil g.guard.value) l.guards;
  other : (l.some_not_bool || list_any (λ g. not_bool g.guard.value) (drop l.guarded-index l.guards)) ≡ list_any (λ g. not_bool g.guard.value) l.guards;
  true : (l.some_true || list_any (λ g. is_true g.guard.value) (drop l.guarded-index l.guards)) ≡ list_any (λ g. is_true g.guard.value) l.guards;
}
