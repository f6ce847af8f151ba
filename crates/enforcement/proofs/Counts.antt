-- How many duties were carried out, failed and were skipped, and which memory the service keeps.
use Rattle.std.proofs.Common.{◌≡◌, ◌+◌, List, length, refl, ap, ◌∙◌, arith}
use Rattle.trees.specs.declared.duty.Duty.{Duty}
use Rattle.services.specs.declared.service.Reply.{Reply}
use Rattle.services.specs.declared.service.Reply.TheVariants.{Done, NotReady}
use Rattle.services.specs.Meaning.{Meaning}
use Rattle.enforcement.specs.Asked.{Asked, all, next, last, carried, failed, skipped}

module _ {S : Type 0} {m : Meaning S} where
  -- every duty was carried out, failed or was skipped
  pub asked-sum : {s t : S} {ds : List Duty} {rs : List Reply} → Asked m s ds rs t → length (carried ds rs) + length (failed ds rs) + length (skipped ds rs) ≡ length ds
  asked-sum all = refl
  asked-sum (next {r = Done} did on after) = let k = asked-sum after in omega (arith, k)
  asked-sum (next {r = NotReady} did on after) = let k = asked-sum after in omega (arith, k)
  asked-sum (last {r = Done} did off) = omega arith
  asked-sum (last {r = NotReady} did off) = omega arith

  -- the service's count rises by those that were carried out
  pub asked-count : {s t : S} {ds : List Duty} {rs : List Reply} → Asked m s ds rs t → m.count t ≡ m.count s + length (carried ds rs)
  asked-count all = omega arith
  asked-count (next {r = Done} did on after) = let k = asked-count after in omega (arith, k, did.1.1)
  asked-count (next {r = NotReady} did on after) = let k = asked-count after in omega (arith, k, ap m.count did.1.1)
  asked-count (last {r = Done} did off) = omega (arith, did.1.1)
  asked-count (last {r = NotReady} did off) = omega (arith, ap m.count did.1.1)

  -- the memory that was lent to the service stays lent to it
  pub asked-lent : {s t : S} {ds : List Duty} {rs : List Reply} → Asked m s ds rs t → m.lent t ≡ m.lent s
  asked-lent all = refl
  asked-lent (next did on after) = asked-lent after ∙ did.0
  asked-lent (last did off) = did.0
