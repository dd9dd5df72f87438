-- The monitor of a pattern tells what the pattern matches, and the names of objects do not matter to it.
use Rattle.std.proofs.Common.{◌≡◌, refl, ap, ◌∙◌, ℕ, List, [], ◌∷◌, true, false}
use Rattle.run_types.specs.declared.types.Value.TheVariants as V
use Rattle.run_types.specs.declared.types.Item.{Item}
use Rattle.run_types.specs.declared.types.Item.TheVariants as I
use Rattle.patterns.specs.Patterns.{Pattern, nameless, after_item, after_items, is_nullable, is_void, BeginsOne, Matches}
use Rattle.patterns.proofs.Laws as P
use Rattle.reachability.specs.Renaming.{renamed_item}
use Rattle.search_laws.specs.Monitors.{reads, IgnoresNames}
use Rattle.search_laws.specs.PatternMonitors.{left_of}

reads_after : (r q : Pattern) (w : List Item) → after_items q w ≡ reads Pattern (left_of r) q w
reads_after r q [] = refl
reads_after r q (i ∷ w) = reads_after r (after_item q i) w

pub begins_one : (r : Pattern) (w : List Item) → is_void (reads Pattern (left_of r) r w) ≡ false → BeginsOne r w
begins_one r w e = P.begins_one r w (ap is_void (reads_after r r w) ∙ e)

pub matches_whole : (r : Pattern) (w : List Item) → is_nullable (reads Pattern (left_of r) r w) ≡ true → Matches r w
matches_whole r w e = P.matches_whole r w (ap is_nullable (reads_after r r w) ∙ e)

nameless_twice : (f : ℕ → ℕ) (i : Item) → nameless (renamed_item f i) ≡ nameless i
nameless_twice f (I.Value (V.Ref n)) = refl
nameless_twice f (I.Value (V.Int z)) = refl
nameless_twice f (I.Value (V.Bool b)) = refl
nameless_twice f (I.Value V.Nil) = refl
nameless_twice f (I.Text t) = refl

pub ignores_names : (r : Pattern) → IgnoresNames Pattern (left_of r)
ignores_names r = λ f q i. P.after_alike q (renamed_item f i) i (nameless_twice f i)
