-- The words of the 21 kinds.
use Rattle.std.specs.Prelude.{ℕ, true, false, cond, List, Some, None, codes, Option}
use Rattle.std.specs.Str.{bytes_eq}
use Rattle.values.specs.Options.{or_else}
use Rattle.policy.specs.declared.kind.Kind.{Kind}
use Rattle.policy.specs.declared.kind.Kind.TheVariants as k
use Rattle.policy.specs.declared.line.Operator.TheVariants as o
use Rattle.policy.specs.declared.line.Force.TheVariants.{Must, May}
use Rattle.policy.specs.declared.line.Effect.TheVariants.{Permit, Deny}

abbrev pub operator_named : List ℕ → Option Kind
operator_named xs =
    cond (bytes_eq xs (codes "and")) (Some (k.Binary o.And))
    (cond (bytes_eq xs (codes "or")) (Some (k.Binary o.Or))
    (cond (bytes_eq xs (codes "equal")) (Some (k.Binary o.Equal))
    (cond (bytes_eq xs (codes "in")) (Some (k.Binary o.In))
    (cond (bytes_eq xs (codes "greater")) (Some (k.Binary o.Greater))
    (cond (bytes_eq xs (codes "add")) (Some (k.Binary o.Add))
    (cond (bytes_eq xs (codes "sub")) (Some (k.Binary o.Sub))
    (cond (bytes_eq xs (codes "mul")) (Some (k.Binary o.Mul))
    (cond (bytes_eq xs (codes "div")) (Some (k.Binary o.Div)) None))))))))

abbrev pub leaf_named : List ℕ → Option Kind
leaf_named xs =
    cond (bytes_eq xs (codes "attr")) (Some k.Attribute)
    (cond (bytes_eq xs (codes "num")) (Some k.Number)
    (cond (bytes_eq xs (codes "text")) (Some k.Text)
    (cond (bytes_eq xs (codes "not")) (Some k.Not)
    (cond (bytes_eq xs (codes "true")) (Some (k.Truth true))
    (cond (bytes_eq xs (codes "false")) (Some (k.Truth false)) None)))))

abbrev pub branch_named : List ℕ → Option Kind
branch_named xs =
    cond (bytes_eq xs (codes "must")) (Some (k.Duty Must))
    (cond (bytes_eq xs (codes "may")) (Some (k.Duty May))
    (cond (bytes_eq xs (codes "item")) (Some k.Item)
    (cond (bytes_eq xs (codes "permit")) (Some (k.Rule Permit))
    (cond (bytes_eq xs (codes "deny")) (Some (k.Rule Deny))
    (cond (bytes_eq xs (codes "set")) (Some k.Set) None)))))

abbrev pub kind_of : List ℕ → Option Kind
kind_of xs = or_else (leaf_named xs) (or_else (operator_named xs) (branch_named xs))
