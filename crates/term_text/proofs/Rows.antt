-- Worked rows of the text of terms.
use Rattle.std.proofs.Common.{◌≡◌, refl, ℕ, List, [], ◌∷◌, Some, None, codes, negsuc}
use Rattle.std.specs.Fmt.{digits}
use Rattle.text_scan.specs.Text.{Text}
use Rattle.run_types.specs.declared.types.Value.TheVariants as V
use Rattle.run_types.specs.declared.types.Op.TheVariants as op
use Rattle.pool_syntax.specs.Terms as T
use Rattle.pool_syntax.specs.Terms.{Expression, Statement}
use Rattle.mesh_of_terms.proofs.Laws.{at, block, call, infix_of, int, it, me, names, no, number, prefix_of, send, set, yes}
use Rattle.term_text.specs.Marked.{marked_statements}
use Rattle.term_text.specs.Levels.{term_lines}

abbrev table : List Text
table = codes "x" ∷ codes "y" ∷ codes "m" ∷ codes "put" ∷ codes "get" ∷ codes "booked" ∷ []

abbrev x : Expression
x = it 0

abbrev y : Expression
y = it 1

-- without the first space
abbrev behind_space : Text → Text
behind_space [] = []
behind_space (b ∷ bs) = bs

-- the text of statements
abbrev shown : List Statement → Text
shown ss = behind_space (marked_statements table (block ss))

-- the name of an object
abbrev ref : ℕ → ℕ → Expression
ref node slot = T.Literal (V.Ref (at node slot)) 0

abbrev minus_five : Expression
minus_five = T.Literal (V.Int (negsuc 4)) 0

-- parentheses stand where the level is lower, but not around what is marked
marks :
    (shown (set 0 (infix_of op.Mul (infix_of op.Add x (number 1)) (number 3)) ∷ []) ≡ codes "x := ( [ x ] + 1 ) * 3")
    × (shown (set 0 (infix_of op.Mul (infix_of op.Add (number 2) (number 1)) y) ∷ []) ≡ codes "x := [ 2 + 1 ] * y")
    × (shown (set 0 (infix_of op.Mul (number 3) (infix_of op.Add y (number 1))) ∷ []) ≡ codes "x := 3 * ( [ y ] + 1 )")
    × (shown (set 0 (infix_of op.Mul (number 3) (number 4)) ∷ T.Write x ∷ []) ≡ codes "x := [ 3 * 4 ] ; write x")
    × (shown (set 0 (number 12) ∷ T.Write x ∷ []) ≡ codes "[ x := 12 ] ; write x")
    × (shown (T.Do (call x 3 (number 1 ∷ y ∷ [])) ∷ []) ≡ codes "[ x ] ! put ( 1 , y )")
    × (shown (T.Do (call (ref 0 1) 3 (number 1 ∷ y ∷ x ∷ [])) ∷ []) ≡ codes "0.1 ! put ( 1 , [ y ] , x )")
    × (shown (T.Do (call (ref 0 1) 3 (number 1 ∷ ref 2 0 ∷ [])) ∷ []) ≡ codes "[ 0.1 ! put ( 1 , 2.0 ) ]")
    × (shown (T.Write (T.Wait (at 0 1) 4) ∷ []) ≡ codes "write [ waits 0.1 get ]")
    × (shown (send (ref 0 1) 3 (infix_of op.Sub x (number 1) ∷ []) ∷ []) ≡ codes "0.1 !! put ( [ x ] - 1 )")
    × (shown (T.If yes (block (T.Write x ∷ [])) T.Done ∷ []) ≡ codes "[ if true then write x fi ]")
    × (shown (T.If (infix_of op.Less x (number 1)) (block (T.Write x ∷ [])) (block (T.Write y ∷ [])) ∷ []) ≡ codes "if [ x ] < 1 then write x else write y fi")
    × (shown (T.While (prefix_of op.Not y) (block (T.WriteText 5 ∷ [])) ∷ []) ≡ codes "[ while not y do write \"booked\" od ]")
    × (shown (T.Answer (names (3 ∷ 4 ∷ [])) ∷ []) ≡ codes "[ answer ( put , get ) ]")
    × (shown (T.Select (T.Alt no (Some (names (3 ∷ []))) T.Done (T.Alt y None (block (T.Write x ∷ [])) T.NoAlts)) ∷ [])
    ≡ codes "select when false answer ( put ) then when [ y ] then write x end")
    × (shown (T.Do (call me 3 []) ∷ []) ≡ codes "[ self ] ! put ( )")
    × (shown [] ≡ [])
unfolding digits
marks = (refl, refl, refl, refl, refl, refl, refl, refl, refl, refl, refl, refl, refl, refl, refl, refl, refl)

-- a method under way stands as its name between braces, and has a line of its own below
abbrev levels : List Statement → Text
levels ss = term_lines table (at 1 0) (block ss)

an_own_method_in_one_for_a_caller :
    levels (T.Serve 3 (Some (at 0 7)) ((0, int 5) ∷ (1, V.Nil) ∷ [])
    (block (set 1 (infix_of op.Add (number 1) (T.Frame 2 ((0, int 4) ∷ []) (block (T.Write x ∷ [])) x T.Done)) ∷ T.Write y ∷ [])) y T.Done
    ∷ T.Answer (names (3 ∷ [])) ∷ [])
    ≡ codes "body 1.0 : { put } ; answer ( put )\nserve 1.0 put 0.7 x=5 y=nil : y := 1 + { m } ; write y result y\nown 1.0 m x=4 : write [ x ] result x\n"
unfolding digits
an_own_method_in_one_for_a_caller = refl

-- a method gives its value back, and its post statements are then under way for no one
a_value_and_post_statements :
    (levels (T.Serve 4 (Some (at 0 7)) [] T.Done (number 41) (block (T.WriteText 5 ∷ [])) ∷ [])
    ≡ codes "body 1.0 : { get }\nserve 1.0 get 0.7 : [ result 41 ] post write \"booked\"\n")
    × (levels (T.Serve 4 None [] T.Done (number 41) (block (T.WriteText 5 ∷ T.Write x ∷ [])) ∷ [])
    ≡ codes "body 1.0 : { get }\ntake 1.0 get : result 41 post [ write \"booked\" ] ; write x\n")
    × (levels (T.Serve 4 None [] T.Done (number 41) T.Done ∷ []) ≡ codes "body 1.0 : { get }\ntake 1.0 get : [ result 41 ]\n")
    × (levels (T.Serve 4 None [] T.Done x T.Done ∷ []) ≡ codes "body 1.0 : { get }\ntake 1.0 get : result [ x ]\n")
    × (levels [] ≡ codes "body 1.0 :\n")
unfolding digits
a_value_and_post_statements = (refl, refl, refl, refl, refl)

the_text_of_a_number_below_nothing : shown (set 0 (infix_of op.Sub (number 1) minus_five) ∷ []) ≡ codes "x := [ 1 - -5 ]"
unfolding digits
the_text_of_a_number_below_nothing = refl
