use Rattle.std.proofs.Common.{◌≡◌, ◌/◌, ◌^◌, ℕ, refl, ap, ◌∙◌, rules, ℤ, ◌*ℤ◌, FitsSigned, w32, w64, to_z, of_z}
use Rattle.std.proofs.lemmas.Int.{to_z-of_z}
use Rattle.n2_exec.proofs.values.mulxss.Goals as goal

product : (a b : ℤ) → FitsSigned w64 a → FitsSigned w64 b → FitsSigned w64 (a *ℤ b) → of_z w64 (to_z w64 (of_z w64 (to_z w64 (of_z w64 a) *ℤ to_z w64 (of_z w64 b)))) ≡ of_z w64 (a *ℤ b)
product a b fa fb fp = rw (to_z-of_z w64 a fa, to_z-of_z w64 b fb, to_z-of_z w64 (a *ℤ b) fp) refl

widened : (a : ℤ) (n : ℕ) (wide : ℤ) → FitsSigned w32 a → a ≡ to_z w32 n → wide ≡ to_z w32 (of_z w32 a) → wide ≡ to_z w32 n
widened a n wide fits is was = was ∙ to_z-of_z w32 a fits ∙ is

pub returns : goal.returns
returns c =
    let a : c.from.result ≡ to_z w32 c.args.a =
    widened c.cast_signed.result c.args.a c.from.result (search rules) c.cast_signed.ensures c.from.ensures
    in
    let b : c.from-2.result ≡ to_z w32 c.args.b =
    widened c.cast_signed-2.result c.args.b c.from-2.result (search rules) c.cast_signed-2.ensures c.from-2.ensures
    in
    let whole : c.cast_unsigned.result ≡ of_z w64 (c.from.result *ℤ c.from-2.result) =
    c.cast_unsigned.ensures ∙ product c.from.result c.from-2.result (search rules) (search rules) (search rules)
    in
    ap (λ n. n / 2 ^ 32) (whole ∙ ap (λ z. of_z w64 (z *ℤ c.from-2.result)) a ∙ ap (λ z. of_z w64 (to_z w32 c.args.a *ℤ z)) b)
