use Rattle.std.proofs.Common.{◌≡◌, length, ◌∙◌, subst, arith, rules}
use Rattle.combining.specs.Table.{place}
use Rattle.trees.specs.Policies.{respond}
use Rattle.trees.specs.Parts.{policy_of}
use Rattle.conditions.proofs.Numbers.{place_below}
use Rattle.compiling.specs.declared.memory.Conditions.{Conditions}
use Rattle.compiling.specs.Compiled.{Names, readings_by}
use Rattle.compiling.proofs.Agreeing.{names_by, same_place}
use Rattle.compiling.proofs.memory.Conditions.compile.Goals as goal

pub returns-clause-agrees : goal.returns-clause-agrees
returns-clause-agrees c m =
    let l : length c.compile_lines-decision.result ≡ 4 = search rules in
    let d : Conditions = record { places = c.mark-self.new.self; marks = c.mark-self.result } in
    subst (λ ls. Names d (readings_by m ls) (respond m (policy_of ls)).decision) c.lines-lines.ensures.value
    (names_by d c.lines-lines.result.now
    (λ rs e. let b = place_below e in c.mark-self.ensures.marks rs e ∙ c.compile_lines-decision.ensures.decides rs (place e) (omega (arith, l, b)) ∙ same_place e _) m)
