-- The spelling of a set's algorithm.
use Rattle.std.specs.Prelude.{ℕ, cond, List, ◌∷◌, ◌++◌, Some, None, codes, Option}
use Rattle.std.specs.Str.{bytes_eq}
use Rattle.values.specs.Options.{each, bind}
use Rattle.spelling.specs.Cuts.{cut_of}
use Rattle.spelling.specs.declared.algorithm.Algorithm.{Algorithm}
use Rattle.spelling.specs.declared.algorithm.Algorithm.TheVariants.{PermitOverrides, DenyOverrides, DenyUnlessPermit, PermitUnlessDeny, FirstApplicable, OneApplicable, WeakConsensus, StrongConsensus}
use Rattle.spelling.specs.declared.algorithm.Strategy.{Strategy}
use Rattle.spelling.specs.declared.algorithm.Strategy.TheVariants.{All, Greedy}
use Rattle.spelling.specs.declared.algorithm.Combining.{Combining}

abbrev pub algorithm_named : List ℕ → Option Algorithm
algorithm_named xs =
    cond (bytes_eq xs (codes "p-over")) (Some PermitOverrides)
    (cond (bytes_eq xs (codes "d-over")) (Some DenyOverrides)
    (cond (bytes_eq xs (codes "d-unless-p")) (Some DenyUnlessPermit)
    (cond (bytes_eq xs (codes "p-unless-d")) (Some PermitUnlessDeny)
    (cond (bytes_eq xs (codes "first-app")) (Some FirstApplicable)
    (cond (bytes_eq xs (codes "one-app")) (Some OneApplicable)
    (cond (bytes_eq xs (codes "weak-con")) (Some WeakConsensus)
    (cond (bytes_eq xs (codes "strong-con")) (Some StrongConsensus) None)))))))

abbrev pub strategy_named : List ℕ → Option Strategy
strategy_named xs =
    cond (bytes_eq xs (codes "all")) (Some All)
    (cond (bytes_eq xs (codes "greedy")) (Some Greedy) None)

-- an algorithm, a point and a strategy
abbrev pub combining_of : List ℕ → Option Combining
combining_of xs =
    bind (cut_of 46 xs) (λ p.
    bind (algorithm_named p.0) (λ a.
    each (λ s. record { algorithm = a; strategy = s }) (strategy_named p.1)))

abbrev pub algorithm_word : Algorithm → List ℕ
algorithm_word PermitOverrides = codes "p-over"
algorithm_word DenyOverrides = codes "d-over"
algorithm_word DenyUnlessPermit = codes "d-unless-p"
algorithm_word PermitUnlessDeny = codes "p-unless-d"
algorithm_word FirstApplicable = codes "first-app"
algorithm_word OneApplicable = codes "one-app"
algorithm_word WeakConsensus = codes "weak-con"
algorithm_word StrongConsensus = codes "strong-con"

abbrev pub strategy_word : Strategy → List ℕ
strategy_word All = codes "all"
strategy_word Greedy = codes "greedy"

-- how a set's algorithm is spelled
abbrev pub combining_word : Combining → List ℕ
combining_word c = algorithm_word c.algorithm ++ 46 ∷ strategy_word c.strategy
