-- The lemmas that other crates cite: on lists of messages, and the message that was taken.
use Rattle.std.proofs.Common.{◌≡◌, ℕ, Bool, true, List, position, remove, slice_get, MatchOption, Option, Some, None, refl, sym, ap, ◌∙◌, subst}
use Rattle.std.proofs.lemmas.List.Quantifiers.{position-Some}
use Rattle.std.proofs.lemmas.Option.{get_or_from_slice_get}
use Rattle.run_types.specs.declared.types.NameId.{NameId}
use Rattle.slot_queues.specs.declared.Message.{Message}
use Rattle.slot_queues.specs.Mail.{Mail, box_of, with_box, is_named, IsTaken}
pub use Rattle.slot_queues.proofs.Counts.{lengths_at, lengths_set, on_ok}
pub use Rattle.slot_queues.proofs.Empty.{blanks}
pub use Rattle.slot_queues.proofs.Joined.{each_both}
pub use Rattle.slot_queues.proofs.Places.{position_at, position_none, split, none_passes}
pub use Rattle.slot_queues.proofs.Taken.{get_behind}

module _ (names : List NameId) (old new : Mail Message) (to : ℕ) where
  abbrev p : Message → Bool
  p m = is_named names m.method

  abbrev box : List Message
  box = box_of old to

  abbrev At : Option Message → Option ℕ → Type 0
  At r o = MatchOption o ((r ≡ None) × (new ≡ old)) (λ place. (m : Message) × (r ≡ Some m) × (slice_get box place ≡ Some m) × (new ≡ with_box old to (remove box place)))

  -- it is the first that is named, and is no longer there
  pub taken_at : (r : Option Message) (place : ℕ) → IsTaken names old to r new → position p box ≡ Some place → (m : Message) × (r ≡ Some m) × (slice_get box place ≡ Some m) × (new ≡ with_box old to (remove box place))
  taken_at r place t e = subst (At r) e t

  -- its method is named
  pub taken_named : (m : Message) → IsTaken names old to (Some m) new → is_named names m.method ≡ true
  taken_named m t = by (position p box) refl t
    where
      by : (o : Option ℕ) → position p box ≡ o → At (Some m) o → is_named names m.method ≡ true
      by None e t = let no = t.0 in cc
      by (Some place) e t =
          let y = t.0 in let same : m ≡ y = let h = t.1 in cc in let named = (position-Some p box place y e).1 in
          ap p same ∙ ap p (sym (get_or_from_slice_get box place y y t.2)) ∙ named

  -- it was somewhere
  pub taken_somewhere : (m : Message) → IsTaken names old to (Some m) new → position p box ≡ None → ⊥
  taken_somewhere m t e = let s = subst (At (Some m)) e t in let no = s.0 in cc

  pub none_taken : (place : ℕ) → IsTaken names old to None new → position p box ≡ Some place → ⊥
  none_taken place t e = let s = taken_at None place t e in let h = s.1 in cc
