-- Names that are known.
use Rattle.std.proofs.Common.{◌≡◌, ℕ, Bool, true, false, cond, List, Option, Some, None, refl, sym, ap, ◌∙◌}
use Rattle.std.proofs.Math.Path.{fun_ext}
use Rattle.std.specs.Option.{is_some}
use Rattle.std.specs.Str.{bytes_eq}
use Rattle.n2_statement.specs.Names.{named}

pub named_known : {V : Type 0} (names : List ℕ → Option V) (name : List ℕ) (value : V) → is_some (names name) ≡ true → names ≡ named names name value
unfolding named
named_known names name value e = fun_ext (λ q. rw e refl)

pub named_new : {V : Type 0} (old new : List ℕ → Option V) (name : List ℕ) (value : V) → is_some (old name) ≡ false
    → ((q : List ℕ) → new q ≡ cond (bytes_eq name q) (Some value) (old q)) → new ≡ named old name value
unfolding named
named_new old new name value e h = fun_ext (λ q. h q ∙ rw e refl)
