-- What is answered where a command is refused.
use Rattle.std.proofs.Common.{◌≡◌, ap, sym, subst, ◌∙◌, Option, Err}
use Rattle.n2_outside.specs.Files.{Files}
use Rattle.n2_inputs.specs.declared.refusal.Refusal.{Refusal}
use Rattle.n2_inputs.specs.declared.refusal.Failure.{Failure}
use Rattle.n2_inputs.specs.declared.refusal.Failure.TheVariants.{Refused}
use Rattle.n2_top.specs.declared.answers.Answer.{Answer}
use Rattle.n2_top.specs.Commands.{Command}
use Rattle.n2_top.specs.Answers.{OverFiles, reply_to, settled}
use Rattle.n2_inputs.specs.Calls.{Gives}

-- the answer that is made of a refusal
pub settled_refusal : (told : Option Files) (command same : Command) (failure : Failure) (refusal : Refusal) (a : Answer) → command ≡ same → failure ≡ Refused refusal → OverFiles told command (λ files. Gives (λ (x : Answer). x) (reply_to command files) (Err failure)) → a ≡ settled (Err refusal) → OverFiles told same (λ files. a ≡ settled (reply_to same files))
settled_refusal told command same failure refusal a e f given made =
    let at_refusal = subst (λ (r : Failure). OverFiles told command (λ files. Gives (λ (x : Answer). x) (reply_to command files) (Err r))) f given in
    let at_same = subst (λ (c : Command). OverFiles told c (λ files. Gives (λ (x : Answer). x) (reply_to c files) (Err (Refused refusal)))) e at_refusal in
    λ files known. made ∙ ap settled (sym (at_same files known))
