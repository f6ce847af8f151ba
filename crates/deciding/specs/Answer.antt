-- The answer of a whole policy.
use Rattle.std.specs.Prelude.{ℕ, ◌≤◌, List, vec_items, vec_len, vec_capacity}
use Rattle.values.specs.declared.value.Value.{Value}
use Rattle.combining.specs.Combined.{Response}
use Rattle.trees.specs.declared.duty.Duty.{Duty}
use Rattle.deciding.specs.declared.response.Answer.{Answer}
use Rattle.deciding.specs.declared.evaluator.Evaluator.{Evaluator}
use Rattle.deciding.specs.declared.memory.Memory.{Memory}

-- the response that an answer holds
abbrev pub response_of : Answer → Response Duty
response_of a = record { decision = a.decision; duties = vec_items a.duties }

-- how many duties an answer has places for
abbrev pub answer_places : Answer → ℕ
answer_places a = vec_capacity a.duties

-- how many line numbers and children a memory has places for
abbrev pub memory_places : Memory → ℕ × ℕ
memory_places m = (vec_capacity m.numbers, vec_capacity m.children)

-- how many line numbers, readings and children an evaluator has places for
abbrev pub places : Evaluator → ℕ × ℕ × ℕ
places e = (vec_capacity e.memory.numbers, vec_len e.readings, vec_capacity e.memory.children)

-- the readings that an evaluator holds: the first is what line 1 read
abbrev pub readings_in : Evaluator → List Value
readings_in e = vec_items e.readings

-- enough for every accepted policy
abbrev pub Enough : ℕ × ℕ × ℕ → Type 0
Enough p = (65536 ≤ p.0) × (256 ≤ p.1) × (256 ≤ p.2)
