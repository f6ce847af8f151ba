use Rattle.std.proofs.Common.{◌≡◌, List, Ok, sym, ap, ◌∙◌, subst}
use Rattle.std.proofs.lemmas.Bool.{false≢true}
use Rattle.values.specs.declared.value.Value.{Value}
use Rattle.policy.specs.declared.accepted.Policy.{Policy}
use Rattle.policy.specs.Accepted.{lines_of}
use Rattle.policy.specs.Check.{check_of}
use Rattle.policy.specs.Spelt.{spelt}
use Rattle.policy.proofs.Laws.{one_spelling}
use Rattle.trees.specs.Expressions.{Map}
use Rattle.trees.specs.Policies.{respond}
use Rattle.trees.specs.Parts.{policy_of}
use Rattle.trees.specs.Known.{known_policy, nothing}
use Rattle.compiling.specs.Compiled.{Names, readings_by}
use Rattle.gate.proofs.Showing.{spelt_again, same_book}
use Rattle.gate.proofs.gate.Gate.load.Goals as goal

pub invariant_of-self-2 : goal.invariant_of-self-2
invariant_of-self-2 c =
    let F : Policy → Type 0 = λ p. check_of (spelt (lines_of p)) ≡ Ok (lines_of p) in
    let A : Policy → Type 0 = λ p. (m : Map) → Names c.compile.new.self (readings_by m (lines_of p)) (respond m (policy_of (lines_of p))).decision in
    let K : Policy → Type 0 = λ p. (readings : List Value) → Names c.compile.new.self readings (respond nothing (known_policy (lines_of p) readings)).decision in
    let x = sym c.swap.ensures.x_after in
    record {
      file = λ _. subst F x (spelt_again c.args.file.now _ c.in_ok-reload.ensures.value);
      agrees = λ _. subst A x c.in_ok-compile.ensures.agrees;
      known = λ _. subst K x c.in_ok-compile.ensures.known;
      reads = λ h. absurd (false≢true h);
    }

pub returns-clause-loaded : goal.returns-clause-loaded
returns-clause-loaded c m =
    same_book c.args.self.now.bias c.in_ok-compile.ensures.compiled.places
    (ap (λ (p : Policy). spelt (lines_of p)) c.swap.ensures.x_after ∙ one_spelling c.args.file.now _ c.in_ok-reload.ensures.value)
