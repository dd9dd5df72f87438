use Rattle.std.proofs.Common.{◌≡◌, drop, map, string_bytes}
use Rattle.search_text.specs.Grading.{is_one_of}
use Rattle.search_text.proofs.grading.is_one_of.Given as goal

-- the words that are left decide
abbrev pub invariant-loop-word : goal.invariant-loop-word
invariant-loop-word l = is_one_of l.text (map string_bytes l.words) ≡ is_one_of l.text (map string_bytes (drop l.word-index l.words))
