-- Lines for the methods under way of an object.
use Rattle.std.specs.Prelude.{◌≡◌, ℕ, List, [], ◌∷◌, ◌++◌, Some, None, codes}
use Rattle.text_scan.specs.Text.{Text}
use Rattle.run_types.specs.Table.{text_at}
use Rattle.pool_relation.specs.UnderWay.{Activity, Own, Serving}
use Rattle.record_writer.specs.RecordText.{joined, object_text}

-- the first words of the line of a method under way of the object o
abbrev pub method_words : List Text → ℕ → Activity → List Text
method_words names o (Own m) = codes "own" ∷ object_text o ∷ text_at names m ∷ []
method_words names o (Serving m (Some k)) = codes "serve" ∷ object_text o ∷ text_at names m ∷ object_text k ∷ []
method_words names o (Serving m None) = codes "take" ∷ object_text o ∷ text_at names m ∷ []

-- the text has a part for each of these methods under way, in this order; each begins with the words of its method, and
-- ends with a line feed
abbrev pub HasLineOfEach : List Text → ℕ → List Activity → Text → Type 0
HasLineOfEach names o [] t = t ≡ []
HasLineOfEach names o (a ∷ xs) t = (rest : Text) × (more : Text) × (t ≡ joined (method_words names o a) ++ (rest ++ 10 ∷ more)) × HasLineOfEach names o xs more
