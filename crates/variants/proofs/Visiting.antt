-- Lines and policies in which every set visits all its children.
use Rattle.std.proofs.Common.{◌≡◌, ℕ, ◌+◌, ◌-◌, false, ◌&&◌, ltb, List, [], ◌∷◌, ◌++◌, map, length, Some, None, Ok, Err, Option, refl, sym, ap, ◌∙◌, subst, arith}
use Rattle.std.proofs.Math.ListN.{get_or-map}
use Rattle.std.proofs.lemmas.List.{length-map, map_push}
use Rattle.refusals.specs.declared.place.Rejection.{Rejection}
use Rattle.policy.specs.declared.line.Line.{Line}
use Rattle.policy.specs.declared.line.Line.TheVariants as l
use Rattle.policy.specs.declared.line.Family.TheVariants as family
use Rattle.policy.specs.Check.{check_of}
use Rattle.policy.specs.Lines.{family_of, same_family, line_at, Reference, references}
use Rattle.policy.specs.Spelt.{spelt}
use Rattle.policy.specs.Tree.{all_sound, times, namings, Tree}
use Rattle.policy.specs.WellSpelt.{WellSpelt, AllWellSpelt}
use Rattle.policy.proofs.Complete.{every_tree}
use Rattle.policy.proofs.Laws.{spells}
use Rattle.trees.specs.AllVisited.{visiting_all, all_visited, each_all_visited}
use Rattle.trees.specs.Duties.{then}
use Rattle.trees.specs.Expressions.{negation, binary}
use Rattle.trees.specs.Parts.{Part, expression, duties, items, policy, no_part, as_expression, as_duties, as_items, as_policy, part_at, duties_at, items_with, part_for, parts_after, parts_of, named, policy_of}
use Rattle.trees.specs.Policies.{Policy, rule, set, more}
use Rattle.variants.specs.VisitingAll.{line_visiting_all, lines_visiting_all, spelt_visiting_all, file_visiting_all}

-- a line keeps its family
family_of-visiting_all : (x : Line) → family_of (line_visiting_all x) ≡ family_of x
family_of-visiting_all (l.Truth b) = refl
family_of-visiting_all (l.Attribute x) = refl
family_of-visiting_all (l.Number z) = refl
family_of-visiting_all (l.Text x) = refl
family_of-visiting_all (l.Not j) = refl
family_of-visiting_all (l.Binary o j k) = refl
family_of-visiting_all (l.Duty f a e d) = refl
family_of-visiting_all (l.Item p i) = refl
family_of-visiting_all (l.Rule e t d) = refl
family_of-visiting_all (l.Set c t i p d) = refl

-- a line names what it named
references-visiting_all : (x : Line) → references (line_visiting_all x) ≡ references x
references-visiting_all (l.Truth b) = refl
references-visiting_all (l.Attribute x) = refl
references-visiting_all (l.Number z) = refl
references-visiting_all (l.Text x) = refl
references-visiting_all (l.Not j) = refl
references-visiting_all (l.Binary o j k) = refl
references-visiting_all (l.Duty f a e d) = refl
references-visiting_all (l.Item p i) = refl
references-visiting_all (l.Rule e t d) = refl
references-visiting_all (l.Set c t i p d) = refl

-- a line that can be spelled still can
WellSpelt-visiting_all : (x : Line) → WellSpelt x → WellSpelt (line_visiting_all x)
WellSpelt-visiting_all (l.Truth b) w = w
WellSpelt-visiting_all (l.Attribute x) w = w
WellSpelt-visiting_all (l.Number z) w = w
WellSpelt-visiting_all (l.Text x) w = w
WellSpelt-visiting_all (l.Not j) w = w
WellSpelt-visiting_all (l.Binary o j k) w = w
WellSpelt-visiting_all (l.Duty f a e d) w = w
WellSpelt-visiting_all (l.Item p i) w = w
WellSpelt-visiting_all (l.Rule e t d) w = w
WellSpelt-visiting_all (l.Set c t i p d) w = w

-- there are as many lines
pub variant_length : (ls : List Line) → length (lines_visiting_all ls) ≡ length ls
variant_length ls = length-map ls line_visiting_all

-- they stand in the same order
line_at-visiting_all : (ls : List Line) (n : ℕ) → line_at (lines_visiting_all ls) n ≡ line_visiting_all (line_at ls n)
line_at-visiting_all ls n = get_or-map line_visiting_all ls (n - 1) (l.Truth false)

-- at each place stands a line of the same family
family_at-visiting_all : (ls : List Line) (n : ℕ) → family_of (line_at (lines_visiting_all ls) n) ≡ family_of (line_at ls n)
family_at-visiting_all ls n = ap family_of (line_at-visiting_all ls n) ∙ family_of-visiting_all (line_at ls n)

-- at each place stands a line that names the same lines
references_at-visiting_all : (ls : List Line) (n : ℕ) → references (line_at (lines_visiting_all ls) n) ≡ references (line_at ls n)
references_at-visiting_all ls n = ap references (line_at-visiting_all ls n) ∙ references-visiting_all (line_at ls n)

-- what is named still stands above and has the family asked for
all_sound-visiting_all : (ls : List Line) (n : ℕ) (rs : List Reference) → all_sound (lines_visiting_all ls) n rs ≡ all_sound ls n rs
all_sound-visiting_all ls n [] = refl
all_sound-visiting_all ls n (r ∷ rs) =
    λ i. (ltb 0 r.line && (ltb r.line n && same_family (family_at-visiting_all ls r.line i) r.family)) && all_sound-visiting_all ls n rs i

-- each line is named as often
namings-visiting_all : (k : ℕ) (ls : List Line) → namings k (lines_visiting_all ls) ≡ namings k ls
namings-visiting_all k [] = refl
namings-visiting_all k (x ∷ ls) = λ i. times k (references-visiting_all x i) + namings-visiting_all k ls i

-- the lines are a tree as they were
tree-visiting_all : (ls : List Line) → Tree ls → Tree (lines_visiting_all ls)
tree-visiting_all ls t =
    let size = variant_length ls in
    record {
      some = omega (arith, size, t.some);
      few = omega (arith, size, t.few);
      above = λ n lo hi.
          ap (all_sound (lines_visiting_all ls) n) (references_at-visiting_all ls n)
          ∙ all_sound-visiting_all ls n (references (line_at ls n)) ∙ t.above n lo (omega (arith, size));
      once = λ k lo hi. namings-visiting_all k ls ∙ t.once k lo (omega (arith, size));
      last =
          ap (λ n. same_family (family_of (line_at (lines_visiting_all ls) n)) family.Policy) size
          ∙ ap (λ f. same_family f family.Policy) (family_at-visiting_all ls (length ls)) ∙ t.last;
    }

-- all of them can be spelled
all-well_spelt : (ls : List Line) → AllWellSpelt ls → AllWellSpelt (lines_visiting_all ls)
all-well_spelt ls w n lo hi =
    let size = variant_length ls in
    subst WellSpelt (sym (line_at-visiting_all ls n)) (WellSpelt-visiting_all (line_at ls n) (w n lo (omega (arith, size))))

-- an accepted file's variant is the file of its lines, every set visiting all
pub variant_spelt : (file : List ℕ) (ls : List Line) → check_of file ≡ Ok ls → file_visiting_all file ≡ spelt (lines_visiting_all ls)
unfolding file_visiting_all
variant_spelt file ls h = ap (spelt_visiting_all file) h

-- an accepted file's variant is accepted as these lines
pub variant_accepted : (file : List ℕ) (ls : List Line) → check_of file ≡ Ok ls → check_of (file_visiting_all file) ≡ Ok (lines_visiting_all ls)
variant_accepted file ls h =
    let s = spells file ls h in
    ap check_of (variant_spelt file ls h) ∙ every_tree (lines_visiting_all ls) (tree-visiting_all ls s.tree) (all-well_spelt ls s.fields)

-- a refused file is its own variant
pub variant_refused : (file : List ℕ) (e : Rejection) → check_of file ≡ Err e → file_visiting_all file ≡ file
unfolding file_visiting_all
variant_refused file e h = ap (spelt_visiting_all file) h

-- a line's part with all that it names, every set in it visiting all
part_visiting_all : Part → Part
part_visiting_all (expression e) = expression e
part_visiting_all (duties ds) = duties ds
part_visiting_all (items is) = items (each_all_visited is)
part_visiting_all (policy p) = policy (all_visited p)

-- as an expression a part stays what it is
as_expression-visiting_all : (p : Part) → as_expression (part_visiting_all p) ≡ as_expression p
unfolding part_visiting_all
as_expression-visiting_all (expression e) = refl
as_expression-visiting_all (duties ds) = refl
as_expression-visiting_all (items is) = refl
as_expression-visiting_all (policy p) = refl

-- as duties a part stays what it is
as_duties-visiting_all : (p : Part) → as_duties (part_visiting_all p) ≡ as_duties p
unfolding part_visiting_all
as_duties-visiting_all (expression e) = refl
as_duties-visiting_all (duties ds) = refl
as_duties-visiting_all (items is) = refl
as_duties-visiting_all (policy p) = refl

-- as items a part has each policy visit all
as_items-visiting_all : (p : Part) → as_items (part_visiting_all p) ≡ each_all_visited (as_items p)
unfolding part_visiting_all all_visited
as_items-visiting_all (expression e) = refl
as_items-visiting_all (duties ds) = refl
as_items-visiting_all (items is) = refl
as_items-visiting_all (policy p) = refl

-- as a policy a part visits all
as_policy-visiting_all : (p : Part) → as_policy (part_visiting_all p) ≡ all_visited (as_policy p)
unfolding part_visiting_all all_visited
as_policy-visiting_all (expression e) = refl
as_policy-visiting_all (duties ds) = refl
as_policy-visiting_all (items is) = refl
as_policy-visiting_all (policy p) = refl

-- the parts of all lines, every set in them visiting all
parts_visiting_all : List Part → List Part
parts_visiting_all ps = map part_visiting_all ps

-- a line's part among these is its part with every set in it visiting all
part_at-visiting_all : (ps : List Part) (n : ℕ) → part_at (parts_visiting_all ps) n ≡ part_visiting_all (part_at ps n)
unfolding parts_visiting_all part_visiting_all
part_at-visiting_all ps n = get_or-map part_visiting_all ps n no_part

-- the expression that a line names stays
expression_at-visiting_all : (ps : List Part) (n : ℕ) → as_expression (part_at (parts_visiting_all ps) n) ≡ as_expression (part_at ps n)
expression_at-visiting_all ps n = ap as_expression (part_at-visiting_all ps n) ∙ as_expression-visiting_all (part_at ps n)

-- the duties that a line may name stay
duties_at-visiting_all : (ps : List Part) (d : Option ℕ) → duties_at (parts_visiting_all ps) d ≡ duties_at ps d
duties_at-visiting_all ps None = refl
duties_at-visiting_all ps (Some n) = ap as_duties (part_at-visiting_all ps n) ∙ as_duties-visiting_all (part_at ps n)

-- the items that a line names have each policy visit all
items_at-visiting_all : (ps : List Part) (n : ℕ) → as_items (part_at (parts_visiting_all ps) n) ≡ each_all_visited (as_items (part_at ps n))
items_at-visiting_all ps n = ap as_items (part_at-visiting_all ps n) ∙ as_items-visiting_all (part_at ps n)

-- the policy that a line names visits all
policy_at-visiting_all : (ps : List Part) (n : ℕ) → as_policy (part_at (parts_visiting_all ps) n) ≡ all_visited (as_policy (part_at ps n))
policy_at-visiting_all ps n = ap as_policy (part_at-visiting_all ps n) ∙ as_policy-visiting_all (part_at ps n)

-- so have a policy and the items before it that a line may name
items_with-visiting_all : (ps : List Part) (i : Option ℕ) (p : Policy) → items_with (parts_visiting_all ps) i (all_visited p) ≡ each_all_visited (items_with ps i p)
unfolding all_visited
items_with-visiting_all ps None p = refl
items_with-visiting_all ps (Some n) p = ap (λ is. more is (all_visited p)) (items_at-visiting_all ps n)

-- the part of a line whose set visits all is the line's part with every set in it visiting all
part_for-visiting_all : (n : ℕ) (ps : List Part) (x : Line) → part_for named n (parts_visiting_all ps) (line_visiting_all x) ≡ part_visiting_all (part_for named n ps x)
unfolding part_visiting_all all_visited
part_for-visiting_all n ps (l.Truth b) = refl
part_for-visiting_all n ps (l.Attribute x) = refl
part_for-visiting_all n ps (l.Number z) = refl
part_for-visiting_all n ps (l.Text x) = refl
part_for-visiting_all n ps (l.Not j) = ap (λ e. expression (negation e)) (expression_at-visiting_all ps j)
part_for-visiting_all n ps (l.Binary o j k) = λ i. expression (binary o (expression_at-visiting_all ps j i) (expression_at-visiting_all ps k i))
part_for-visiting_all n ps (l.Duty f a e d) = λ i. duties (then (duties_at-visiting_all ps d i) f a (expression_at-visiting_all ps e i))
part_for-visiting_all n ps (l.Item p j) =
    ap (λ q. items (items_with (parts_visiting_all ps) j q)) (policy_at-visiting_all ps p) ∙ ap items (items_with-visiting_all ps j (as_policy (part_at ps p)))
part_for-visiting_all n ps (l.Rule e t d) = λ i. policy (rule e (expression_at-visiting_all ps t i) (duties_at-visiting_all ps d i))
part_for-visiting_all n ps (l.Set c t j p d) =
    λ i. policy (set (visiting_all c) (expression_at-visiting_all ps t i) (items_at-visiting_all ps j i) (duties_at-visiting_all ps p i) (duties_at-visiting_all ps d i))

-- the parts of lines whose sets visit all are the lines' parts with every set in them visiting all
parts_after-visiting_all : (ps : List Part) (ls : List Line) → parts_after named (parts_visiting_all ps) (lines_visiting_all ls) ≡ parts_visiting_all (parts_after named ps ls)
unfolding parts_visiting_all
parts_after-visiting_all ps [] = refl
parts_after-visiting_all ps (x ∷ ls) =
    let p : Part = part_for named (length ps) ps x in
    let here : part_for named (length (map part_visiting_all ps)) (map part_visiting_all ps) (line_visiting_all x) ≡ part_visiting_all p =
    ap (λ n. part_for named n (map part_visiting_all ps) (line_visiting_all x)) (length-map ps part_visiting_all) ∙ part_for-visiting_all (length ps) ps x in
    ap (λ q. parts_after named (map part_visiting_all ps ++ q ∷ []) (lines_visiting_all ls)) here
    ∙ ap (λ qs. parts_after named qs (lines_visiting_all ls)) (sym (map_push part_visiting_all ps p))
    ∙ parts_after-visiting_all (ps ++ p ∷ []) ls

-- the lines with every set visiting all spell the policy with every set visiting all
pub variant_policy : (ls : List Line) → policy_of (lines_visiting_all ls) ≡ all_visited (policy_of ls)
unfolding parts_of parts_visiting_all part_visiting_all
variant_policy ls =
    ap (λ n. as_policy (part_at (parts_of named (lines_visiting_all ls)) n)) (variant_length ls)
    ∙ ap (λ ps. as_policy (part_at ps (length ls))) (parts_after-visiting_all (no_part ∷ []) ls)
    ∙ policy_at-visiting_all (parts_of named ls) (length ls)
