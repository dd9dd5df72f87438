-- If a table of object states or of lists of messages grows, earlier numbers keep their meaning.
use Rattle.std.proofs.Common.{◌≡◌, refl, sym, ap, ap₂, subst, ◌∙◌, ℕ, ◌<◌, ◌≤◌, List, [], ◌∷◌, map, length, take, get_or, IsTrue, arith}
use Rattle.std.proofs.Math.Seq.{take-length}
use Rattle.std.specs.List.{All}
use Rattle.std.specs.FinMap.Entries.{is_sorted}
use Rattle.std.proofs.lemmas.List.{get_or-take, length-take, take-take}
use Rattle.std.proofs.lemmas.List.Elements.{All-head, All-tail, All-weaker}
use Rattle.run_types.specs.declared.types.Item.{Item}
use Rattle.run_types.specs.Message.{Message}
use Rattle.run_types.specs.Tables.{Pair, pair_cmp}
use Rattle.pool_syntax.specs.Terms.{ProgramTree}
use Rattle.pool_relation.specs.Action.{Object}
use Rattle.pool_relation.specs.Configuration.{Configuration}
use Rattle.pool_semantics.specs.Sound.{Sound}
use Rattle.search_laws.specs.Outcomes.{Passed}
use Rattle.object_moves.specs.Rows.{AreWithin}
use Rattle.object_moves.proofs.Laws.{objects_still, within_still}
use Rattle.visited_set.specs.declared.numbered.Queue.{Queue}
use Rattle.visited_set.specs.Rows.{Row}
use Rattle.visited_set.specs.Numbers.{AreListed, queue_messages, numbered, passed, EntryInvariant}
use Rattle.visited_set.specs.VisitedConfigurations.{entry}

-- a table is its own front
pub same_front : {X : Type 0} (xs : List X) → take (length xs) xs ≡ xs
same_front xs = take-length xs

-- a front of a front
pub front_of : {X : Type 0} (xs ys zs : List X) → take (length xs) ys ≡ xs → take (length ys) zs ≡ ys → take (length xs) zs ≡ xs
front_of xs ys zs f g =
    let long : length xs ≤ length ys = omega (arith, length-take (length xs) ys, ap length f) in
    sym (take-take (length xs) (length ys) zs long) ∙ ap (take (length xs)) g ∙ f

module _ (ms ns : List (List Message)) (g : take (length ms) ns ≡ ms) where
  no_fewer : length ms ≤ length ns
  no_fewer = omega (arith, length-take (length ms) ns, ap length g)

  pub listed_still : (qs : List Queue) → AreListed ms qs → AreListed ns qs
  listed_still qs k = All-weaker (λ (q : Queue). q.mails < length ms) (λ (q : Queue). q.mails < length ns) (λ q l. omega (arith, l, no_fewer)) qs k

  queue_still : (q : Queue) → q.mails < length ms → queue_messages ns q ≡ queue_messages ms q
  queue_still q l = ap (λ (m : List Message). ((q.sender, q.receiver), m)) (sym (get_or-take (length ms) ns q.mails [] l) ∙ ap (λ (k : List (List Message)). get_or k q.mails []) g)

  pub queues_still : (qs : List Queue) → AreListed ms qs → map (queue_messages ns) qs ≡ map (queue_messages ms) qs
  queues_still [] k = refl
  queues_still (q ∷ qs) k =
      ap₂ (λ (e : Pair × List Message) (es : List (Pair × List Message)). e ∷ es) (queue_still q (All-head (λ (r : Queue). r.mails < length ms) q qs k))
      (queues_still qs (All-tail (λ (r : Queue). r.mails < length ms) q qs k))

  module _ (xs ys : List Object) (f : take (length xs) ys ≡ xs) where
    pub numbered_still : (e : Row) → AreWithin xs e.objects → AreListed ms e.queues → numbered ys ns e ≡ numbered xs ms e
    numbered_still e w k =
        ap₂ (λ (os : List (ℕ × Object)) (qs : List (Pair × List Message)). the_configuration os qs) (objects_still 0 xs ys e.objects f w) (queues_still e.queues k)
      where
        the_configuration : List (ℕ × Object) → List (Pair × List Message) → Configuration
        the_configuration os qs = record { objects = os; messages = qs }

    pub kept_still : (p : ProgramTree) (e : Row) → EntryInvariant p xs ms e → EntryInvariant p ys ns e
    kept_still p e k = record {
      within = within_still xs ys e.objects f k.within;
      listed = listed_still e.queues k.listed;
      sorted = subst (λ (qs : List (Pair × List Message)). IsTrue (is_sorted pair_cmp qs)) (sym (queues_still e.queues k.listed)) k.sorted;
      sound = subst (λ (c : Configuration). ∥ Sound p c ∥₁) (sym (numbered_still e k.within k.listed)) k.sound;
    }

    -- all that are kept
    pub all_still : (p : ProgramTree) (es : List Row) → All (EntryInvariant p xs ms) es → All (EntryInvariant p ys ns) es
    all_still p es k = All-weaker (EntryInvariant p xs ms) (EntryInvariant p ys ns) (λ e. kept_still p e) es k

    -- with another name of the program
    pub all_still_with : (p q : ProgramTree) (es : List Row) → q ≡ p → All (EntryInvariant p xs ms) es → All (EntryInvariant q ys ns) es
    all_still_with p q es same k = subst (λ (r : ProgramTree). All (EntryInvariant r ys ns) es) (sym same) (all_still p es k)

    pub list_still : (p : ProgramTree) (ws : List (List Item)) (es : List Row) → All (EntryInvariant p xs ms) es → map (passed ys ns ws) es ≡ map (passed xs ms ws) es
    list_still p ws [] k = refl
    list_still p ws (e ∷ es) k =
        let here = All-head (EntryInvariant p xs ms) e es k in
        ap₂ (λ (c : Configuration) (l : List Passed). entry e.next (get_or ws e.written []) c ∷ l) (numbered_still e here.within here.listed)
        (list_still p ws es (All-tail (EntryInvariant p xs ms) e es k))
