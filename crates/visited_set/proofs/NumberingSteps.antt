-- One step of each loop that numbers a configuration or restores it.
use Rattle.std.proofs.Common.{◌≡◌, sym, ap, ap₂, subst, ◌∙◌, ℕ, ◌+◌, ◌<◌, List, [], ◌∷◌, ◌++◌, map, length, take, drop, get_or, Some, IsTrue, arith}
use Rattle.std.specs.Ordering.{nat_cmp}
use Rattle.std.specs.Cmp.{nat_cmp_total}
use Rattle.std.specs.List.{All, slice_get}
use Rattle.std.specs.BTreeMap.{insert_entry}
use Rattle.std.specs.FinMap.Entries.{is_sorted}
use Rattle.std.proofs.lemmas.List.{append_assoc, length-take, take_more, take-append-drop, drop_more, map-append}
use Rattle.std.proofs.lemmas.List.Elements.{All-push}
use Rattle.std.proofs.lemmas.Option.{get_or_from_slice_get, slice_get_within}
use Rattle.run_types.proofs.Laws.{pair_total}
use Rattle.run_types.specs.Message.{Message}
use Rattle.run_types.specs.Tables.{Pair, pair_cmp}
use Rattle.pool_relation.specs.Action.{Object}
use Rattle.stepper_objects.specs.declared.object_state.ObjectState.{ObjectState}
use Rattle.stepper_objects.specs.ObjectStates.{thing_object, things}
use Rattle.message_queue.specs.declared.Mail.{Mail}
use Rattle.pool_semantics.specs.Mails.{posts, queued}
use Rattle.visited_set.specs.declared.numbered.Queue.{Queue}
use Rattle.object_moves.specs.Rows.{no_object, objects_from}
use Rattle.visited_set.specs.Numbers.{AreListed, queue_messages}
use Rattle.visited_set.proofs.SortedMaps.{inserted, inserted_last}
use Rattle.visited_set.proofs.ObjectNumbers.{objects_push, objects_rise}
use Rattle.visited_set.proofs.StateTableGrowth.{front_of, listed_still, queues_still}
use Rattle.object_moves.proofs.Laws.{front_of_front, objects_still, within_still}

-- one more object is numbered; the table grew from xs to ys
pub numbers_step : (ts xs ys : List Object) (ns : List ℕ) (n k : ℕ) (t : ObjectState) (es fs : List (ℕ × ObjectState)) (all : List (ℕ × Object))
    → take (length ts) xs ≡ ts → All (λ m. m < length xs) ns → objects_from 0 xs ns ++ things es ≡ all
    → es ≡ (k, t) ∷ fs → k ≡ length ns → take (length xs) ys ≡ xs → slice_get ys n ≡ Some (thing_object t)
    → (take (length ts) ys ≡ ts) × (All (λ m. m < length ys) (ns ++ n ∷ []) × (objects_from 0 ys (ns ++ n ∷ []) ++ things fs ≡ all))
numbers_step ts xs ys ns n k t es fs all f w o e named g s =
    let name : 0 + length ns ≡ k = omega arith in
    let here : get_or ys n no_object ≡ thing_object t = get_or_from_slice_get ys n (thing_object t) no_object s in
    let pushed : objects_from 0 ys (ns ++ n ∷ []) ≡ objects_from 0 xs ns ++ (k, thing_object t) ∷ [] =
    objects_push 0 ys ns n ∙ ap₂ (λ a x. objects_from 0 ys ns ++ (a, x) ∷ []) name here ∙ ap (λ l. l ++ (k, thing_object t) ∷ []) (objects_still 0 xs ys ns g w) in (
      front_of_front ts xs ys f g,
      (
        All-push (λ m. m < length ys) ns n (within_still xs ys ns g w) (slice_get_within ys n (thing_object t) s),
        ap (λ l. l ++ things fs) pushed ∙ append_assoc (objects_from 0 xs ns) ((k, thing_object t) ∷ []) (things fs) ∙ ap (λ l. objects_from 0 xs ns ++ things l) (sym e) ∙ o,
      ),
    )

-- one more object is made of its number
pub objects_step : (xs : List Object) (ns : List ℕ) (i : ℕ) (t : ObjectState) (es : List (ℕ × ObjectState)) → things es ≡ objects_from 0 xs (take i ns) → i < length ns
    → thing_object t ≡ get_or xs (get_or ns i 0) no_object → things (insert_entry nat_cmp es i t) ≡ objects_from 0 xs (take (i + 1) ns)
objects_step xs ns i t es before l here =
    let count : 0 + length (take i ns) ≡ i = omega (arith, length-take i ns) in
    let all : objects_from 0 xs (take (i + 1) ns) ≡ objects_from 0 xs (take i ns) ++ (i, thing_object t) ∷ [] =
    ap (objects_from 0 xs) (take_more ns i 0 l) ∙ objects_push 0 xs (take i ns) (get_or ns i 0) ∙ ap₂ (λ a x. objects_from 0 xs (take i ns) ++ (a, x) ∷ []) count (sym here) in
    inserted nat_cmp thing_object i t es ∙ ap (λ m. insert_entry nat_cmp m i (thing_object t)) before
    ∙ inserted_last nat_cmp nat_cmp_total i (thing_object t) (objects_from 0 xs (take i ns)) [] (subst (λ m. IsTrue (is_sorted nat_cmp m)) all (objects_rise 0 xs (take (i + 1) ns)))
    ∙ sym all

-- one more queue is made of its messages
pub messages_step : (ls : List (List Message)) (qs : List Queue) (i : ℕ) (q none : Queue) (d : List Mail) (es : List (Pair × List Mail)) → IsTrue (is_sorted pair_cmp (map (queue_messages ls) qs))
    → posts es ≡ map (queue_messages ls) (take i qs) → i < length qs → q ≡ get_or qs i none → queued d ≡ get_or ls q.mails []
    → posts (insert_entry pair_cmp es (q.sender, q.receiver) d) ≡ map (queue_messages ls) (take (i + 1) qs)
messages_step ls qs i q none d es sorted before l at items =
    let key : Pair = (q.sender, q.receiver) in
    let front : List (Pair × List Message) = map (queue_messages ls) (take i qs) in
    let rest : List (Pair × List Message) = map (queue_messages ls) (drop (i + 1) qs) in
    let here : queue_messages ls q ≡ (key, queued d) = ap (λ (ms : List Message). (key, ms)) (sym items) in
    let first : map (queue_messages ls) (take (i + 1) qs) ≡ front ++ (key, queued d) ∷ [] =
    ap (map (queue_messages ls)) (take_more qs i none l ∙ ap (λ z. take i qs ++ z ∷ []) (sym at)) ∙ map-append (queue_messages ls) (take i qs) (q ∷ []) ∙ ap (λ z. front ++ z ∷ []) here in
    let whole : map (queue_messages ls) qs ≡ front ++ (key, queued d) ∷ rest =
    ap (map (queue_messages ls)) (sym (take-append-drop i qs) ∙ ap (λ z. take i qs ++ z) (drop_more qs i none l ∙ ap (λ z. z ∷ drop (i + 1) qs) (sym at)))
    ∙ map-append (queue_messages ls) (take i qs) (q ∷ drop (i + 1) qs) ∙ ap (λ z. front ++ z ∷ rest) here in
    inserted pair_cmp queued key d es ∙ ap (λ m. insert_entry pair_cmp m key (queued d)) before
    ∙ inserted_last pair_cmp pair_total key (queued d) front rest (subst (λ m. IsTrue (is_sorted pair_cmp m)) whole sorted)
    ∙ sym first

-- one more queue is numbered; the table grew from ls to ns
pub queues_step : (ts ls ns : List (List Message)) (qs : List Queue) (q : Queue) (d : List Mail) (es fs : List (Pair × List Mail)) (all : List (Pair × List Message))
    → take (length ts) ls ≡ ts → AreListed ls qs → map (queue_messages ls) qs ++ posts es ≡ all
    → es ≡ ((q.sender, q.receiver), d) ∷ fs → take (length ls) ns ≡ ls → slice_get ns q.mails ≡ Some (queued d)
    → (take (length ts) ns ≡ ts) × AreListed ns (qs ++ q ∷ []) × (map (queue_messages ns) (qs ++ q ∷ []) ++ posts fs ≡ all)
queues_step ts ls ns qs q d es fs all f k o e g found =
    let key : Pair = (q.sender, q.receiver) in
    let front : List (Pair × List Message) = map (queue_messages ls) qs in
    let here : queue_messages ns q ≡ (key, queued d) = ap (λ (ms : List Message). (key, ms)) (get_or_from_slice_get ns q.mails (queued d) [] found) in
    let pushed : map (queue_messages ns) (qs ++ q ∷ []) ≡ front ++ (key, queued d) ∷ [] =
    map-append (queue_messages ns) qs (q ∷ []) ∙ ap (λ l. l ++ queue_messages ns q ∷ []) (queues_still ls ns g qs k) ∙ ap (λ z. front ++ z ∷ []) here in (
      front_of ts ls ns f g,
      All-push (λ (r : Queue). r.mails < length ns) qs q (listed_still ls ns g qs k) (slice_get_within ns q.mails (queued d) found),
      ap (λ l. l ++ posts fs) pushed ∙ append_assoc front ((key, queued d) ∷ []) (posts fs) ∙ ap (λ l. front ++ posts l) (sym e) ∙ o,
    )
