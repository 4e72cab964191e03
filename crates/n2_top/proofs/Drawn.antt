-- What is answered to the words of a run, and what is known once the answer was put.
use Rattle.std.proofs.Common.{◌≡◌, ◌≢◌, ℕ, ◌<◌, ◌⊎◌, inl, inr, List, IsTrue, Option, Some, Result, Ok, Err, sym, ap, ◌∙◌, subst, arith}
use Rattle.n2_outside.specs.Files.{Files}
use Rattle.n2_outside.specs.Bytes.{appended}
use Rattle.n2_inputs.specs.declared.inputs.Inputs.{Inputs}
use Rattle.n2_inputs.specs.declared.refusal.Refusal.{Refusal}
use Rattle.n2_inputs.specs.declared.refusal.Failure.{Failure}
use Rattle.n2_inputs.specs.declared.refusal.Failure.TheVariants.{Refused}
use Rattle.n2_inputs.specs.Refusals.{row_of}
use Rattle.n2_inputs.specs.Calls.{Gives}
use Rattle.n2_top.specs.declared.answers.Answer.{Answer}
use Rattle.n2_top.specs.Answers.{settled, is_final}
use Rattle.n2_top.specs.Run.{asked_by, OverNamed, IsRunOf, Answers, IsStatusFor}
use Rattle.n2_top.specs.Headline.{Headline}
use Rattle.n2_top.proofs.Carried.{not_final, final_status, put_status, carried}

-- ---- answers

pub run_as : (told : Option Files) (named : Option (List ℕ)) (inputs : Inputs) (a : Answer) → OverNamed told named (λ files. asked_by named files ≡ Ok inputs) → IsRunOf inputs a → OverNamed told named (λ files. Answers (asked_by named files) a)
run_as told named inputs a given h = λ files known. subst (λ (r : Result Inputs Refusal). Answers r a) (sym (given files known)) h

pub refused_as : (told : Option Files) (named : Option (List ℕ)) (failure : Failure) (refusal : Refusal) (a : Answer) → failure ≡ Refused refusal → OverNamed told named (λ files. Gives (λ (inputs : Inputs). inputs) (asked_by named files) (Err failure)) → a ≡ settled (Err refusal) → OverNamed told named (λ files. Answers (asked_by named files) a)
refused_as told named failure refusal a is given made =
    let at_refusal = subst (λ (f : Failure). OverNamed told named (λ files. Gives (λ (inputs : Inputs). inputs) (asked_by named files) (Err f))) is given in
    λ files known. subst (λ (r : Result Inputs Refusal). Answers r a) (sym (at_refusal files known)) made

-- ---- the answer is put, whole where the status is not 7
module _ (told : Option Files) (named : Option (List ℕ)) (a : Answer) (status : ℕ) (journal journal_now report report_now : Option (List ℕ)) (given : OverNamed told named (λ files. Answers (asked_by named files) a))
    (put : status ≢ 7 → (status ≡ a.status) × (report_now ≡ appended report a.report) × (journal_now ≡ appended journal a.journal)) where
  pub headline_put : (files : Files) → told ≡ Some files → status < 3 → Headline (asked_by named files) status journal journal_now report report_now
  headline_put files known small =
      let whole = put (λ seven. absurd (omega arith)) in
      carried (asked_by named files) a status journal journal_now report report_now (given files (inl known)) small whole.0 whole.2 whole.1

  pub status_put : OverNamed told named (λ files. IsTrue (is_final status) → IsStatusFor (asked_by named files) status)
  status_put = λ files known final. final_status (asked_by named files) a status (given files known) (λ other. (put other).0) final

  pub row_put : OverNamed told named (λ files. (refusal : Refusal) → asked_by named files ≡ Err refusal → IsTrue (is_final status) → report_now ≡ appended report (row_of refusal))
  row_put = λ files known refusal is final.
      let made : a ≡ settled (Err refusal) = subst (λ (r : Result Inputs Refusal). Answers r a) is (given files known) in
      (put (λ seven. not_final status seven final)).1 ∙ ap (λ (x : Answer). appended report x.report) made

  module _ (F S L A B C D : Type 0) (failed : status ≡ 7 → (L × A × C) ⊎ (S × B × D)) where
    pub complete_put : OverNamed told named (λ files. (F → ⊥) → (S → ⊥) → (L → ⊥) → (status ≡ 8) ⊎ IsStatusFor (asked_by named files) status)
    complete_put = λ files known fetches reports journals. inr (put_status (asked_by named files) a status (given files known) (λ other. (put other).0) (λ seven. either (failed seven) reports journals))
      where
        either : (L × A × C) ⊎ (S × B × D) → (S → ⊥) → (L → ⊥) → ⊥
        either (inl l) reports journals = journals l.0
        either (inr s) reports journals = reports s.0

pub prefix_put : (told : Option Files) (named : Option (List ℕ)) (a : Answer) (status : ℕ) (A : Answer → Type 0) (B : Type 0) → OverNamed told named (λ files. Answers (asked_by named files) a) → (status ≡ 7 → A a) → OverNamed told named (λ files. status ≡ 7 → ((x : Answer) × Answers (asked_by named files) x × A x) ⊎ B)
prefix_put told named a status A B given failed = λ files known seven. inl (a, given files known, failed seven)
