-- If a table of messages grows, lists of earlier numbers keep their meaning.
use Rattle.std.proofs.Common.{◌≡◌, refl, sym, ap, ap₂, subst, ◌∙◌, ℕ, ◌<◌, ◌≤◌, ◌+◌, List, [], ◌∷◌, ◌++◌, map, length, take, get_or, arith, Some}
use Rattle.std.specs.List.{All, slice_get}
use Rattle.std.specs.Option.{option_map}
use Rattle.std.proofs.lemmas.List.Elements.{All-head, All-tail, All-weaker}
use Rattle.std.proofs.lemmas.List.{get_or-take, length-take, take_at, take_all, take-take, append_assoc, take_more, map_push, get_or_push, length_push, length-map}
use Rattle.run_types.specs.Message.{Message}
use Rattle.std.proofs.lemmas.List.Elements.{All-push}
use Rattle.std.proofs.lemmas.Option.{get_or_from_slice_get, slice_get_within, slice_get-map, slice_get-get_or}
use Rattle.message_queue.specs.Mails.{message_of}
use Rattle.message_queue.specs.declared.Mail.{Mail}
use Rattle.mail_numbers.specs.Numbered.{IsBelow, messages_at, no_message}

pub no_shorter : {X : Type 0} (xs ys : List X) → take (length xs) ys ≡ xs → length xs ≤ length ys
no_shorter xs ys f = let n : length (take (length xs) ys) ≡ length xs = ap length f in omega (arith, n, length-take (length xs) ys)

pub list_still : (ms ns : List Message) (l : List ℕ) → take (length ms) ns ≡ ms → IsBelow (length ms) l → messages_at ns l ≡ messages_at ms l
list_still ms ns [] f b = refl
list_still ms ns (n ∷ l) f b =
    ap₂ (λ m k. m ∷ k) (sym (get_or-take (length ms) ns n no_message (All-head (λ m. m < length ms) n l b)) ∙ ap (λ k. get_or k n no_message) f)
    (list_still ms ns l f (All-tail (λ m. m < length ms) n l b))

pub lists_still : (ms ns : List Message) (ls : List (List ℕ)) → take (length ms) ns ≡ ms → All (IsBelow (length ms)) ls → map (messages_at ns) ls ≡ map (messages_at ms) ls
lists_still ms ns [] f b = refl
lists_still ms ns (l ∷ ls) f b = ap₂ (λ k ks. k ∷ ks) (list_still ms ns l f (All-head (IsBelow (length ms)) l ls b)) (lists_still ms ns ls f (All-tail (IsBelow (length ms)) l ls b))

pub below_still : (a b : ℕ) (l : List ℕ) → a ≤ b → IsBelow a l → IsBelow b l
below_still a b l h k = All-weaker (λ m. m < a) (λ m. m < b) (λ m i. omega (arith, i)) l k

pub all_below : (a b : ℕ) (ls : List (List ℕ)) → a ≤ b → All (IsBelow a) ls → All (IsBelow b) ls
all_below a b ls h k = All-weaker (IsBelow a) (IsBelow b) (λ l. below_still a b l h) ls k

pub front_of_front : {X : Type 0} (xs ys zs : List X) → take (length xs) ys ≡ xs → take (length ys) zs ≡ ys → take (length xs) zs ≡ xs
front_of_front xs ys zs f g = sym (take-take (length xs) (length ys) zs (no_shorter xs ys f)) ∙ ap (take (length xs)) g ∙ f

-- one more message is numbered; the table grew from ms to ns
pub numbers_step : (ts ms ns : List Message) (l : List ℕ) (i n : ℕ) (m : Mail) (mails : List Mail) → take (length ts) ms ≡ ts → IsBelow (length ms) l → messages_at ms l ≡ map message_of (take i mails)
    → i < length mails → m ≡ get_or mails i m → take (length ms) ns ≡ ms → slice_get ns n ≡ Some (message_of m)
    → (take (length ts) ns ≡ ts) × IsBelow (length ns) (l ++ n ∷ []) × (messages_at ns (l ++ n ∷ []) ≡ map message_of (take (i + 1) mails))
numbers_step ts ms ns l i n m mails f b so_far inside at g found = (
  front_of_front ts ms ns f g,
  All-push (λ k. k < length ns) l n (below_still (length ms) (length ns) l (no_shorter ms ns g) b) (slice_get_within ns n (message_of m) found),
  map_push (λ k. get_or ns k no_message) l n ∙ ap (λ k. k ++ get_or ns n no_message ∷ []) (list_still ms ns l g b ∙ so_far)
      ∙ ap (λ x. map message_of (take i mails) ++ x ∷ []) (get_or_from_slice_get ns n (message_of m) no_message found)
      ∙ sym (map_push message_of (take i mails) m) ∙ ap (λ x. map message_of (take i mails ++ x ∷ [])) at ∙ ap (map message_of) (sym (take_more mails i m inside)),
)

-- one more message is read
pub read_step : (ms before : List Message) (so_far after : List Mail) (ns : List ℕ) (i : ℕ) (m : Mail) → map message_of so_far ≡ before ++ messages_at ms (take i ns) → i < length ns
    → slice_get ms (get_or ns i 0) ≡ Some (message_of m) → after ≡ so_far ++ m ∷ [] → map message_of after ≡ before ++ messages_at ms (take (i + 1) ns)
read_step ms before so_far after ns i m h inside here is =
    let one : messages_at ms (take (i + 1) ns) ≡ messages_at ms (take i ns) ++ message_of m ∷ [] =
    ap (messages_at ms) (take_more ns i 0 inside) ∙ map_push (λ n. get_or ms n no_message) (take i ns) (get_or ns i 0)
    ∙ ap (λ x. messages_at ms (take i ns) ++ x ∷ []) (get_or_from_slice_get ms (get_or ns i 0) (message_of m) no_message here) in
    ap (map message_of) is ∙ map_push message_of so_far m ∙ ap (λ k. k ++ message_of m ∷ []) h ∙ append_assoc before (messages_at ms (take i ns)) (message_of m ∷ []) ∙ ap (λ k. before ++ k) (sym one)

-- the lists ls, which stand for `now`; the table grew from ms to ns
module _ (ms ns : List Message) (ls : List (List ℕ)) (now : List (List Message)) (view : map (messages_at ms) ls ≡ now) (f : take (length ms) ns ≡ ms) (b : All (IsBelow (length ms)) ls) where
  pub same_view : map (messages_at ns) ls ≡ now
  same_view = lists_still ms ns ls f b ∙ view

  pub no_list_more : take (length now) (map (messages_at ns) ls) ≡ now
  no_list_more = ap (take (length now)) same_view ∙ take_all (length now) now (omega arith)

  module _ (l : List ℕ) (zs : List (List ℕ)) (is : zs ≡ ls ++ l ∷ []) where
    one_more : map (messages_at ns) zs ≡ now ++ messages_at ns l ∷ []
    one_more = ap (map (messages_at ns)) is ∙ map_push (messages_at ns) ls l ∙ ap (λ k. k ++ messages_at ns l ∷ []) same_view

    pub one_list_more : take (length now) (map (messages_at ns) zs) ≡ now
    one_list_more = ap (take (length now)) one_more ∙ take_at now (messages_at ns l ∷ []) (length now) refl

    pub below_one_more : IsBelow (length ns) l → All (IsBelow (length ns)) zs
    below_one_more k = subst (All (IsBelow (length ns))) (sym is) (All-push (IsBelow (length ns)) ls l (all_below (length ms) (length ns) ls (no_shorter ms ns f) b) k)

    pub found_last : (n : ℕ) (want : List Message) → n ≡ length ls → messages_at ns l ≡ want → slice_get (map (messages_at ns) zs) n ≡ Some want
    found_last n want at same =
        let long : length now ≡ n = sym (ap length view) ∙ length-map ls (messages_at ms) ∙ sym at in
        ap (λ k. slice_get k n) one_more ∙ slice_get-get_or (now ++ messages_at ns l ∷ []) n [] (omega (arith, long, length_push now (messages_at ns l)))
        ∙ ap Some (get_or_push now (messages_at ns l) [] n long ∙ same)

-- a list that is found
pub found_there : (ns : List Message) (ls : List (List ℕ)) (n : ℕ) (l : List ℕ) (want : List Message) → slice_get ls n ≡ Some l → messages_at ns l ≡ want → slice_get (map (messages_at ns) ls) n ≡ Some want
found_there ns ls n l want there same = slice_get-map (messages_at ns) ls n ∙ ap (option_map (messages_at ns)) there ∙ ap Some same
