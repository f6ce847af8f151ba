use Rattle.std.proofs.Common.{◌≡◌, List, [], map, length, vec_items, vec_len, refl, ap, arith, rules}
use Rattle.std.proofs.lemmas.List.{length-map}
use Rattle.combining.specs.Combined.{Response}
use Rattle.trees.specs.declared.duty.Duty.{Duty}
use Rattle.trees.specs.Policies.{first, rest}
use Rattle.trees.specs.Known.{nothing}
use Rattle.deciding.specs.declared.kept.Kept.{Kept}
use Rattle.deciding.specs.Known.{read_dues, due_at, items_at, responses_of}
use Rattle.deciding.specs.Kept.{MeanAll, response_in}
use Rattle.deciding.proofs.Adding.{responds_as, room_as}
use Rattle.deciding.proofs.Spans.{mean_as, mean_none}
use Rattle.deciding.proofs.Closing.{set_is}
use Rattle.deciding.proofs.memory.Memory.respond_set.Goals as goal

pub combine_children-taken-requires : goal.combine_children-taken-requires
combine_children-taken-requires c =
    let known = c.args.known.now in
    let os : List Duty = read_dues known (vec_items c.args.self.now.numbers) in
    let ks : List Kept = c.as_slice.result.now in
    let m : MeanAll ks os (responses_of (items_at known c.args.items)) = mean_as c.as_slice.ensures.value refl (c.list_children.ensures.children os [] c.requires.kept (mean_none _ os c.clear.ensures.items)) in
    let l : length (map (response_in os) ks) ≡ length ks = length-map ks (response_in os) in
    let e = ap length m.are in
    omega (arith, l, e)

pub close_set-requires-clause-spans : goal.close_set-requires-clause-spans
close_set-requires-clause-spans c =
    let known = c.args.known.now in
    let ns = vec_items c.args.self.now.numbers in
    let os : List Duty = read_dues known ns in
    let ks : List Kept = c.as_slice.result.now in
    let m : MeanAll ks os (responses_of (items_at known c.args.items)) = mean_as c.as_slice.ensures.value refl (c.list_children.ensures.children os [] c.requires.kept (mean_none _ os c.clear.ensures.items)) in
    let n : length ns ≡ vec_len c.args.self.now.numbers = search rules in
    let l : length os ≡ length ns = length-map ns (due_at known) in
    c.combine_children-taken.ensures.within _ (λ k d h. let w = m.within k d h in omega (arith, n, l, w))

pub close_set-requires-clause-room : goal.close_set-requires-clause-room
close_set-requires-clause-room c =
    let known = c.args.known.now in
    let os : List Duty = read_dues known (vec_items c.args.self.now.numbers) in
    let is = items_at known c.args.items in
    let m : MeanAll c.as_slice.result.now os (responses_of is) = mean_as c.as_slice.ensures.value refl (c.list_children.ensures.children os [] c.requires.kept (mean_none _ os c.clear.ensures.items)) in
    room_as c.args.self.now.numbers _ _
    (ap (λ (x : Response Duty). x.duties) (set_is known c.args.combining c.args.items c.args.own c.combine_children-taken.result os (c.combine_children-taken.ensures.combines os (first nothing is) (rest nothing is) m.are)))
    c.requires.room

pub returns-clause-responds : goal.returns-clause-responds
returns-clause-responds c =
    let known = c.args.known.now in
    let os : List Duty = read_dues known (vec_items c.args.self.now.numbers) in
    let is = items_at known c.args.items in
    let m : MeanAll c.as_slice.result.now os (responses_of is) = mean_as c.as_slice.ensures.value refl (c.list_children.ensures.children os [] c.requires.kept (mean_none _ os c.clear.ensures.items)) in
    responds_as known _ _ _ _ _ (set_is known c.args.combining c.args.items c.args.own c.combine_children-taken.result os (c.combine_children-taken.ensures.combines os (first nothing is) (rest nothing is) m.are)) c.close_set.ensures
