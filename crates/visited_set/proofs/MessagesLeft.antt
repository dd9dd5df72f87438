-- The messages of a list from a place on.
use Rattle.std.proofs.Common.{◌≡◌, sym, ap, ◌∙◌, ℕ, ◌+◌, ◌<◌, List, ◌∷◌, ◌++◌, [], length, drop, Some, Bool, true, false, ◌&&◌, append_assoc}
use Rattle.std.specs.List.{list_all, slice_get}
use Rattle.std.proofs.lemmas.List.{drop_more}
use Rattle.std.proofs.lemmas.Option.{get_or_from_slice_get}
use Rattle.run_types.specs.declared.types.Label.{Label}
use Rattle.run_types.specs.declared.types.Label.TheVariants as L
use Rattle.run_types.specs.Message.{Message}
use Rattle.run_types.specs.Tables.{Pair}
use Rattle.reachability.specs.Labels.{takes}

module _ (ms : List Message) (i : ℕ) (m : Message) (inside : i < length ms) (there : slice_get ms i ≡ Some m) where
  pub messages_left : drop i ms ≡ m ∷ drop (i + 1) ms
  messages_left = drop_more ms i m inside ∙ ap (λ (x : Message). x ∷ drop (i + 1) ms) (get_or_from_slice_get ms i m m there)

  -- one more take
  pub one_more_take : (k : Pair) (so_far after all : List Label) → so_far ++ takes k (drop i ms) ≡ all → after ≡ so_far ++ L.Take k.1 k.0 (record { 0 = m.method }) m.args ∷ [] → after ++ takes k (drop (i + 1) ms) ≡ all
  one_more_take k so_far after all h is =
      ap (λ (ls : List Label). ls ++ takes k (drop (i + 1) ms)) is ∙ append_assoc so_far (L.Take k.1 k.0 (record { 0 = m.method }) m.args ∷ []) (takes k (drop (i + 1) ms))
      ∙ ap (λ (d : List Message). so_far ++ takes k d) (sym messages_left) ∙ h

  -- a test of all messages is one of the rest, if this one passes it
  module _ (test : Message → Bool) where
    pub passes_here : test m ≡ true → list_all test ms ≡ list_all test (drop i ms) → list_all test ms ≡ list_all test (drop (i + 1) ms)
    passes_here h so_far = so_far ∙ ap (list_all test) messages_left ∙ ap (λ (b : Bool). b && list_all test (drop (i + 1) ms)) h

    pub fails_here : test m ≡ false → list_all test ms ≡ list_all test (drop i ms) → false ≡ list_all test ms
    fails_here h so_far = sym (so_far ∙ ap (list_all test) messages_left ∙ ap (λ (b : Bool). b && list_all test (drop (i + 1) ms)) h)
