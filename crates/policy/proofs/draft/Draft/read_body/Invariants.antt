use Rattle.std.proofs.Common.{◌≡◌, ◌-◌, length, vec_items, vec_len, vec_capacity}
use Rattle.policy.specs.Check.{body_of}
use Rattle.policy.proofs.draft.Draft.read_body.Given as goal

abbrev pub invariant-loop-rest : goal.invariant-loop-rest
invariant-loop-rest l = record {
  capacity : vec_capacity l.self.lines ≡ vec_capacity l.initial.self.lines;
  read : body_of (256 - length (vec_items l.self.lines)) (vec_items l.self.lines) l.self.named l.rest
      ≡ body_of (256 - length (vec_items l.initial.self.lines)) (vec_items l.initial.self.lines) l.initial.self.named l.initial.rest;
}

abbrev pub decreases-loop-rest : goal.decreases-loop-rest
decreases-loop-rest l = 256 - vec_len l.self.lines
