use Rattle.std.proofs.Common.{◌≡◌, ◌++◌, map, drop}
use Rattle.record_writer.specs.RecordText.{item_text, led}
use Rattle.search_text.proofs.answer.push_items.Given as goal

-- the text so far and the items that are left are the text of all
abbrev pub invariant-loop-item : goal.invariant-loop-item
invariant-loop-item l =
    l.text.items ++ led (map (item_text l.names) (drop l.item-index l.items)) ≡ l.initial.text.items ++ led (map (item_text l.names) l.items)
