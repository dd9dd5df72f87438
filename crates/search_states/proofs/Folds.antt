-- One step of the loops that copy a list, and of the loops that compare two lists.
use Rattle.std.proofs.Common.{◌≡◌, ℕ, ◌+◌, ◌<◌, List, [], ◌∷◌, ◌++◌, length, get_or, drop, sym, ap, ap₂, ◌∙◌}
use Rattle.std.proofs.lemmas.List.{drop_more}

-- two functions that give the same everywhere are the same
pub everywhere : {A B : Type 0} {f g : A → B} → ((x : A) → f x ≡ g x) → f ≡ g
everywhere e = λ i x. e x i

-- a copied item in front of the rest
copied_before : {A B C : Type 0} (f : List A → B) (g : A → C) (then : C → B → B) → ((x : A) (xs : List A) → f (x ∷ xs) ≡ then (g x) (f xs))
    → (copied rest : List A) (x y : A) → g y ≡ g x → f ((copied ++ y ∷ []) ++ rest) ≡ f (copied ++ x ∷ rest)
copied_before f g then step [] rest x y e = step y rest ∙ ap (λ c. then c (f rest)) e ∙ sym (step x rest)
copied_before f g then step (w ∷ copied) rest x y e =
    step w ((copied ++ y ∷ []) ++ rest) ∙ ap (then (g w)) (copied_before f g then step copied rest x y e) ∙ sym (step w (copied ++ x ∷ rest))

-- one more item of a copy
pub copied_more : {A B C : Type 0} (f : List A → B) (g : A → C) (then : C → B → B) → ((x : A) (xs : List A) → f (x ∷ xs) ≡ then (g x) (f xs))
    → (xs copied : List A) (i : ℕ) (x y : A) → i < length xs → x ≡ get_or xs i x → g y ≡ g x → f (copied ++ drop i xs) ≡ f xs
    → f ((copied ++ y ∷ []) ++ drop (i + 1) xs) ≡ f xs
copied_more f g then step xs copied i x y l a e before =
    copied_before f g then step copied (drop (i + 1) xs) x y e
    ∙ ap (λ l. f (copied ++ l)) (sym (drop_more xs i x l ∙ ap (λ w. w ∷ drop (i + 1) xs) (sym a)))
    ∙ before

-- two lists from an item on
pub rests_same : {A B C : Type 0} (f : List A → B) (g : A → C) (then : C → B → B) → ((x : A) (xs : List A) → f (x ∷ xs) ≡ then (g x) (f xs))
    → (xs ys : List A) (i : ℕ) (x y : A) → i < length xs → i < length ys → x ≡ get_or xs i x → y ≡ get_or ys i y → g x ≡ g y
    → f (drop (i + 1) xs) ≡ f (drop (i + 1) ys) → f (drop i xs) ≡ f (drop i ys)
rests_same f g then step xs ys i x y l m a b e r =
    ap f (drop_more xs i x l ∙ ap (λ w. w ∷ drop (i + 1) xs) (sym a)) ∙ step x (drop (i + 1) xs)
    ∙ ap₂ then e r
    ∙ sym (ap f (drop_more ys i y m ∙ ap (λ w. w ∷ drop (i + 1) ys) (sym b)) ∙ step y (drop (i + 1) ys))
