-- Patterns of lists of items: regular expressions with interleaving. Which lists a pattern matches, and what is left of
-- a pattern after an item (its derivative).
use Rattle.std.specs.Prelude.{◌≡◌, ◌⊎◌, List, [], ◌∷◌, ◌++◌, Bool, true, false, ◌&&◌, ◌||◌, if◌then◌else◌}
use Rattle.run_types.specs.declared.types.Value.TheVariants as V
use Rattle.run_types.specs.declared.types.Item.{Item}
use Rattle.run_types.specs.declared.types.Item.TheVariants as I
use Rattle.run_types.specs.Same.{is_same_item}

pub data Pattern : Type 0 where
  -- no list
  Never : Pattern
  -- the empty list
  Nothing : Pattern
  -- this item; if it is an object, any object
  One : (item : Item) → Pattern
  -- any item
  Any : Pattern
  -- one of them
  Either : Pattern → Pattern → Pattern
  -- the first and then the second
  Then : Pattern → Pattern → Pattern
  -- both, in any interleaving
  Both : Pattern → Pattern → Pattern
  -- any number of times
  Repeated : Pattern → Pattern

-- the item, with one name for all objects
abbrev pub nameless : Item → Item
nameless (I.Value (V.Ref n)) = I.Value (V.Ref 0)
nameless i = i

-- they are the same, but for names of objects
abbrev pub are_alike : Item → Item → Bool
are_alike i j = is_same_item (nameless i) (nameless j)

-- the third list is an interleaving of the first two
pub data Interleaves : List Item → List Item → List Item → Type 0 where
  Ended : Interleaves [] [] []
  FromFirst : {u v w : List Item} (i : Item) → Interleaves u v w → Interleaves (i ∷ u) v (i ∷ w)
  FromSecond : {u v w : List Item} (i : Item) → Interleaves u v w → Interleaves u (i ∷ v) (i ∷ w)

-- the list is made of lists with the property, none of them empty
pub data IsMadeOf (P : List Item → Type 0) : List Item → Type 0 where
  OfNone : {w : List Item} → w ≡ [] → IsMadeOf P w
  OfMore : {w : List Item} (i : Item) (u v : List Item) → w ≡ i ∷ (u ++ v) → P (i ∷ u) → IsMadeOf P v → IsMadeOf P w

-- the pattern matches the list
abbrev pub Matches : Pattern → List Item → Type 0
Matches Never w = ⊥
Matches Nothing w = w ≡ []
Matches (One i) w = (j : Item) × (w ≡ j ∷ []) × (are_alike i j ≡ true)
Matches Any w = (j : Item) × (w ≡ j ∷ [])
Matches (Either r s) w = Matches r w ⊎ Matches s w
Matches (Then r s) w = (u v : List Item) × (w ≡ u ++ v) × Matches r u × Matches s v
Matches (Both r s) w = (u v : List Item) × Interleaves u v w × Matches r u × Matches s v
Matches (Repeated r) w = IsMadeOf (Matches r) w

-- the pattern matches some list that begins with these items
abbrev pub BeginsOne : Pattern → List Item → Type 0
BeginsOne r w = (v : List Item) × Matches r (w ++ v)

-- it matches the empty list
abbrev pub is_nullable : Pattern → Bool
is_nullable Never = false
is_nullable Nothing = true
is_nullable (One i) = false
is_nullable Any = false
is_nullable (Either r s) = is_nullable r || is_nullable s
is_nullable (Then r s) = is_nullable r && is_nullable s
is_nullable (Both r s) = is_nullable r && is_nullable s
is_nullable (Repeated r) = true

-- it matches no list
abbrev pub is_void : Pattern → Bool
is_void Never = true
is_void Nothing = false
is_void (One i) = false
is_void Any = false
is_void (Either r s) = is_void r && is_void s
is_void (Then r s) = is_void r || is_void s
is_void (Both r s) = is_void r || is_void s
is_void (Repeated r) = false

-- they are written alike
abbrev pub are_same_patterns : Pattern → Pattern → Bool
are_same_patterns Never Never = true
are_same_patterns Nothing Nothing = true
are_same_patterns (One i) (One j) = is_same_item i j
are_same_patterns Any Any = true
are_same_patterns (Either r s) (Either t u) = are_same_patterns r t && are_same_patterns s u
are_same_patterns (Then r s) (Then t u) = are_same_patterns r t && are_same_patterns s u
are_same_patterns (Both r s) (Both t u) = are_same_patterns r t && are_same_patterns s u
are_same_patterns (Repeated r) (Repeated t) = are_same_patterns r t
are_same_patterns _ _ = false

-- Combined patterns in a short form, so that only finitely many are left after whatever items: an alternative comes once,
-- and a part that matches nothing, or the empty list alone, is dropped.
abbrev pub with_one : Pattern → Pattern → Pattern
with_one r Never = r
with_one r (Either s t) = if are_same_patterns r s then Either s t else Either s (with_one r t)
with_one r s = if are_same_patterns r s then s else Either s r

abbrev pub alternatives : Pattern → Pattern → Pattern
alternatives Never t = t
alternatives (Either r s) t = alternatives r (alternatives s t)
alternatives r t = with_one r t

abbrev pub in_series : Pattern → Pattern → Pattern
in_series Never s = Never
in_series Nothing s = s
in_series r s = Then r s

abbrev pub beside : Pattern → Pattern → Pattern
beside r Never = Never
beside r Nothing = r
beside r s = Both r s

abbrev pub mixed : Pattern → Pattern → Pattern
mixed Never s = Never
mixed Nothing s = s
mixed r s = beside r s

-- what is left of the pattern after the item
abbrev pub after_item : Pattern → Item → Pattern
after_item Never j = Never
after_item Nothing j = Never
after_item (One i) j = if are_alike i j then Nothing else Never
after_item Any j = Nothing
after_item (Either r s) j = alternatives (after_item r j) (after_item s j)
after_item (Then r s) j = if is_nullable r then alternatives (in_series (after_item r j) s) (after_item s j) else in_series (after_item r j) s
after_item (Both r s) j = alternatives (mixed (after_item r j) s) (mixed r (after_item s j))
after_item (Repeated r) j = in_series (after_item r j) (Repeated r)

-- the same after these items
abbrev pub after_items : Pattern → List Item → Pattern
after_items r [] = r
after_items r (i ∷ is) = after_items (after_item r i) is
