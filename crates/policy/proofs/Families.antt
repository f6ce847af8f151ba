-- What comparing two families answers.
use Rattle.std.proofs.Common.{◌≡◌, refl}
use denote.Enum.Bare.{sameb}
use Rattle.policy.specs.contracts.line.Family.{the_type}
use Rattle.policy.specs.declared.line.Family.{Family}
use Rattle.policy.specs.declared.line.Family.TheVariants.{Expression, Duty, Item, Policy}
use Rattle.policy.specs.Lines.{same_family}

-- a fact about one family and each other
with_each : (a : Family) → sameb the_type a Expression ≡ same_family a Expression → sameb the_type a Duty ≡ same_family a Duty
    → sameb the_type a Item ≡ same_family a Item → sameb the_type a Policy ≡ same_family a Policy → (b : Family) → sameb the_type a b ≡ same_family a b
with_each a e d i p b = elim b as (λ f. sameb the_type a f ≡ same_family a f) [ Expression ↦ e | Duty ↦ d | Item ↦ i | Policy ↦ p ]

-- a comparison of families, which compares the places of their variants, is `same_family`
pub sameb-same_family : (a b : Family) → sameb the_type a b ≡ same_family a b
sameb-same_family a b =
    elim a as (λ f. sameb the_type f b ≡ same_family f b) [
      | Expression ↦ with_each Expression refl refl refl refl b
      | Duty ↦ with_each Duty refl refl refl refl b
      | Item ↦ with_each Item refl refl refl refl b
      | Policy ↦ with_each Policy refl refl refl refl b
    ]
