-- Order words, read from their front.
use Rattle.std.proofs.Common.{◌≡◌, ◌≢◌, ℕ, ◌+◌, eqb, List, [], ◌∷◌, ◌++◌, length, drop, Option, Some, None, refl, sym, ap, ◌∙◌, inl, inr}
use Rattle.std.specs.Prelude.{option_map, MatchOption}
use Rattle.std.specs.Str.Pattern.{FindsTextPrefix}
use Rattle.std.proofs.lemmas.Bool.{cases_Bool, cond-true, cond-false, eqb-true, eq-eqb}
use Rattle.std.proofs.lemmas.Option.{none-some, same_Some}
use denote.Ref.{Bor}
use Rattle.n2_order.specs.Orders.{behind}

-- a key is found in front of what stands behind it
pub behind-append : (key rest : List ℕ) → behind key (key ++ rest) ≡ Some rest
behind-append [] rest = refl
behind-append (k ∷ key) rest = cond-true (eqb k k) (behind key (key ++ rest)) None (eq-eqb k k refl) ∙ behind-append key rest

pub behind_some : (key text rest : List ℕ) → behind key text ≡ Some rest → text ≡ key ++ rest
behind_some [] text rest e = same_Some text rest e
behind_some (k ∷ key) [] rest e = absurd (none-some rest e)
behind_some (k ∷ key) (c ∷ text) rest e =
    elim (cases_Bool (eqb c k)) [
      | inl same ↦
          let tail : text ≡ key ++ rest = behind_some key text rest (sym (cond-true (eqb c k) (behind key text) None same) ∙ e) in
          let head : c ≡ k = eqb-true c k same in
          ap (λ x. x ∷ text) head ∙ ap (λ x. k ∷ x) tail
      | inr other ↦ absurd (none-some rest (sym (cond-false (eqb c k) (behind key text) None other) ∙ e))
    ]

lacking : (key text : List ℕ) (o : Option (List ℕ)) → behind key text ≡ o → ((rest : List ℕ) → text ≢ key ++ rest) → None ≡ o
lacking key text None e lacks = refl
lacking key text (Some rest) e lacks = absurd (lacks rest (behind_some key text rest e))

-- what `strip_prefix` answers
pub strip_is : (key text : List ℕ) (r : Option (Bor (List ℕ))) → MatchOption r (FindsTextPrefix key text None) (λ x. (n : ℕ) × FindsTextPrefix key text (Some n) × (x.now ≡ drop n text) × (length x.now + n ≡ length text)) → option_map (λ x. x.now) r ≡ behind key text
strip_is key text None h = lacking key text (behind key text) refl h
strip_is key text (Some x) h =
    let cut : text ≡ key ++ x.now = h.1.1 ∙ ap (λ rest. key ++ rest) (sym h.2) in
    sym (ap (behind key) cut ∙ behind-append key x.now)
