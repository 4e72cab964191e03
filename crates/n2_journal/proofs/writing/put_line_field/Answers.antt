use Rattle.std.proofs.Common.{◌≡◌, ℕ, ◌*◌, ◌++◌, ◌∷◌, ◌∙◌, List, OnOk, subst, ap, arith}
use Rattle.n2_text.specs.Fields.{word_text}
use Rattle.n2_journal.proofs.Digits.{low_word}
use Rattle.n2_journal.proofs.writing.put_line_field.Goals as goal

pub returns : goal.returns
returns c =
    let e : c.args.line * 32 ≡ 32 * c.args.line = omega arith in
    subst (λ (t : List ℕ). OnOk c.put_word_field.result (c.put_word_field.new.out.items ≡ c.args.out.now.items ++ 32 ∷ t)) (low_word (c.args.line * 32) ∙ ap word_text e) c.put_word_field.ensures
