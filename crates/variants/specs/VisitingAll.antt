-- A policy's file in which every set visits all its children.
use Rattle.std.specs.Prelude.{ℕ, List, map, Ok, Err, Result}
use Rattle.refusals.specs.declared.place.Rejection.{Rejection}
use Rattle.policy.specs.declared.line.Line.{Line}
use Rattle.policy.specs.declared.line.Line.TheVariants as l
use Rattle.policy.specs.Check.{check_of}
use Rattle.policy.specs.Spelt.{spelt}
use Rattle.trees.specs.AllVisited.{visiting_all}

-- a set's line with `.all` where it may have had `.greedy`; every other line stays
abbrev pub line_visiting_all : Line → Line
line_visiting_all (l.Truth b) = l.Truth b
line_visiting_all (l.Attribute x) = l.Attribute x
line_visiting_all (l.Number z) = l.Number z
line_visiting_all (l.Text x) = l.Text x
line_visiting_all (l.Not j) = l.Not j
line_visiting_all (l.Binary o j k) = l.Binary o j k
line_visiting_all (l.Duty f a e d) = l.Duty f a e d
line_visiting_all (l.Item p i) = l.Item p i
line_visiting_all (l.Rule e t d) = l.Rule e t d
line_visiting_all (l.Set c t i p d) = l.Set (visiting_all c) t i p d

-- so each line
abbrev pub lines_visiting_all : List Line → List Line
lines_visiting_all ls = map line_visiting_all ls

-- the file of the lines that were read, every set visiting all; a refused file stays
abbrev pub spelt_visiting_all : List ℕ → Result (List Line) Rejection → List ℕ
spelt_visiting_all file (Ok ls) = spelt (lines_visiting_all ls)
spelt_visiting_all file (Err e) = file

-- the variant of a policy file
unfoldable pub file_visiting_all : List ℕ → List ℕ
file_visiting_all file = spelt_visiting_all file (check_of file)
