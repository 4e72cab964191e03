-- What is found in a list passes the test, and has what each element of the list has.
use Rattle.std.proofs.Common.{◌≡◌, ◌&&◌, Bool, true, false, cond, List, [], ◌∷◌, Option, Some, find, refl, sym, ◌∙◌, ap}
use Rattle.std.specs.List.{list_all}

first_passes : {X : Type 0} (test : X → Bool) (x y : X) (rest : Option X) (b : Bool) → test x ≡ b → (rest ≡ Some y → test y ≡ true) → cond b (Some x) rest ≡ Some y → test y ≡ true
first_passes test x y rest true is later e = let same : x ≡ y = cc in ap test (sym same) ∙ is
first_passes test x y rest false is later e = later e

pub find-passes : {X : Type 0} (test : X → Bool) (xs : List X) (y : X) → find test xs ≡ Some y → test y ≡ true
find-passes test [] y e = cc
find-passes test (x ∷ xs) y e = first_passes test x y (find test xs) (test x) refl (find-passes test xs y) e

first_has : {X : Type 0} (other : X → Bool) (x y : X) (found : Option X) (rest here b : Bool) → other x ≡ here → here && rest ≡ true → (rest ≡ true → found ≡ Some y → other y ≡ true) → cond b (Some x) found ≡ Some y → other y ≡ true
first_has other x y found rest true true is h later e = let same : x ≡ y = cc in ap other (sym same) ∙ is
first_has other x y found rest true false is h later e = later h e
first_has other x y found rest false b is h later e = cc

pub find-all : {X : Type 0} (test other : X → Bool) (xs : List X) (y : X) → list_all other xs ≡ true → find test xs ≡ Some y → other y ≡ true
find-all test other [] y h e = cc
find-all test other (x ∷ xs) y h e =
    first_has other x y (find test xs) (list_all other xs) (other x) (test x) refl h (find-all test other xs y) e
