-- What the tests of an instruction's fields tell.
use Rattle.std.proofs.Common.{◌&&◌, ◌<◌, ℕ, Bool, true, false, nat_lt, IsTrue, refl, arith}
use Rattle.std.proofs.lemmas.Bool.Decides.{nat_tests}

pub below : (m n : ℕ) → IsTrue (nat_lt m n) → m < n
below m n h = grind (arith, nat_tests)

pub first : (x y : Bool) → IsTrue (x && y) → IsTrue x
first true y h = refl
first false y h = h

pub second : (x y : Bool) → IsTrue (x && y) → IsTrue y
second true y h = h
second false y h = cc
