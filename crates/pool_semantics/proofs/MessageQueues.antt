-- Queues of messages after one is added or removed.
use Rattle.std.proofs.Common.{◌≡◌, refl, ap, sym, ◌∙◌, ℕ, List, [], ◌∷◌, ◌++◌, map, Some, None}
use Rattle.std.specs.Map.{lookup, set_value, remove_entry, keys_of}
use Rattle.std.specs.BTreeMap.{is_at, insert_entry}
use Rattle.std.specs.FinMap.{put}
use Rattle.std.specs.List.Sorted.{IsStrictlySortedBy}
use Rattle.run_types.specs.Tables.{Pair, pair_cmp, list_at, put_list}
use Rattle.message_queue.specs.declared.Mail.{Mail}
use Rattle.message_queue.specs.Mails.{message_of, without_of}
use Rattle.pool_semantics.specs.Mails.{queued, posts}
use Rattle.pool_semantics.proofs.PairMessages.{pairs_removed, pairs_set, pairs_insert, none_without, list_found, list_missing}

more_queued : (ms : List Mail) (m : Mail) → map message_of (ms ++ m ∷ []) ≡ map message_of ms ++ message_of m ∷ []
more_queued [] m = refl
more_queued (n ∷ ms) m = ap (λ l. message_of n ∷ l) (more_queued ms m)

pub posted_last : (k : Pair) (q u : List Mail) (m : Mail) (es : List (Pair × List Mail)) → IsStrictlySortedBy pair_cmp (keys_of es) → lookup (is_at (pair_cmp k)) es ≡ Some q → u ≡ q ++ m ∷ []
    → posts (set_value (is_at (pair_cmp k)) es u) ≡ put pair_cmp k (list_at pair_cmp k (posts es) ++ message_of m ∷ []) (posts es)
posted_last k q u m es s h i =
    pairs_set queued k q u es s h ∙ ap (λ l. put pair_cmp k l (posts es)) (ap (map message_of) i ∙ more_queued q m ∙ ap (λ l. l ++ message_of m ∷ []) (sym (list_found queued k es q h)))

pub posted_first : (k : Pair) (u : List Mail) (m : Mail) (es : List (Pair × List Mail)) → lookup (is_at (pair_cmp k)) es ≡ None → u ≡ m ∷ []
    → posts (insert_entry pair_cmp es k u) ≡ put pair_cmp k (list_at pair_cmp k (posts es) ++ message_of m ∷ []) (posts es)
posted_first k u m es h i =
    pairs_insert queued k u es ∙ ap (λ l. put pair_cmp k l (posts es)) (ap (map message_of) i ∙ ap (λ l. l ++ message_of m ∷ []) (sym (list_missing queued k es h)))

pub unposted_some : (k : Pair) (q u : List Mail) (a : ℕ) (es : List (Pair × List Mail)) → IsStrictlySortedBy pair_cmp (keys_of es) → lookup (is_at (pair_cmp k)) es ≡ Some q → queued u ≡ without_of a (queued q) → (u ≡ [] → ⊥)
    → posts (set_value (is_at (pair_cmp k)) es u) ≡ put_list pair_cmp k (without_of a (list_at pair_cmp k (posts es))) (posts es)
unposted_some k q u a es s h e n = pairs_set queued k q u es s h ∙ by u refl ∙ ap (λ l. put_list pair_cmp k (without_of a l) (posts es)) (sym (list_found queued k es q h))
  where
    by : (ms : List Mail) → u ≡ ms → put pair_cmp k (queued u) (posts es) ≡ put_list pair_cmp k (without_of a (queued q)) (posts es)
    by [] j = absurd (n j)
    by (m ∷ ms) j =
        let l : without_of a (queued q) ≡ message_of m ∷ map message_of ms = sym e ∙ ap queued j in
        ap (λ w. put pair_cmp k w (posts es)) (ap queued j) ∙ sym (ap (λ w. put_list pair_cmp k w (posts es)) l)

pub unposted_none : (k : Pair) (q u : List Mail) (a : ℕ) (es : List (Pair × List Mail)) → IsStrictlySortedBy pair_cmp (keys_of es) → lookup (is_at (pair_cmp k)) es ≡ Some q → queued u ≡ without_of a (queued q) → u ≡ []
    → posts (remove_entry (is_at (pair_cmp k)) (set_value (is_at (pair_cmp k)) es u)) ≡ put_list pair_cmp k (without_of a (list_at pair_cmp k (posts es))) (posts es)
unposted_none k q u a es s h e n =
    pairs_removed queued k q u es s h ∙ sym (ap (λ w. put_list pair_cmp k w (posts es)) (sym e ∙ ap queued n)) ∙ ap (λ l. put_list pair_cmp k (without_of a l) (posts es)) (sym (list_found queued k es q h))

-- a pair without messages has none to remove
pub unposted_nothing : (k : Pair) (a : ℕ) (es : List (Pair × List Mail)) → lookup (is_at (pair_cmp k)) es ≡ None → posts es ≡ put_list pair_cmp k (without_of a (list_at pair_cmp k (posts es))) (posts es)
unposted_nothing k a es h = sym (none_without queued k es h) ∙ ap (λ l. put_list pair_cmp k (without_of a l) (posts es)) (sym (list_missing queued k es h))
