use Rattle.std.proofs.Common.{◌≡◌, map, length, vec_items, sym, refl, ap, arith, rules}
use Rattle.std.proofs.lemmas.List.{length-map}
use Rattle.combining.specs.Combined.{Response}
use Rattle.trees.specs.declared.duty.Duty.{Duty}
use Rattle.trees.specs.Duties.{dues_of}
use Rattle.trees.specs.Known.{nothing}
use Rattle.deciding.specs.Known.{due_at, read_dues, duties_of}
use Rattle.deciding.specs.Kept.{taken_from}
use Rattle.deciding.proofs.Adding.{adds_both, adds_read, responds_as, room_first, room_second}
use Rattle.deciding.proofs.Spans.{taken-read}
use Rattle.deciding.proofs.Closing.{appended-all}
use Rattle.deciding.proofs.taken.Taken.close.Goals as goal

pub add_duties-requires-clause-room : goal.add_duties-requires-clause-room
add_duties-requires-clause-room c =
    let known = c.args.known.now in
    let t = c.args.self.now in
    let ns = vec_items c.args.numbers.now in
    let e = ap length (taken-read (due_at known) t.joins t.decision ns t.children.now) in
    let n : length (map (due_at known) (taken_from t ns).duties) ≡ length (taken_from t ns).duties = length-map (taken_from t ns).duties (due_at known) in
    let r = room_first c.args.numbers.now (taken_from t (read_dues known ns)).duties (dues_of nothing (duties_of known c.args.last)) _
    (ap (λ (x : Response Duty). x.duties) (appended-all nothing (duties_of known c.args.last) (taken_from t (read_dues known ns)) (sym c.if-not-all_fulfilled.ensures))) c.requires.room in
    omega (arith, e, n, r)

pub add_chain-requires-clause-room : goal.add_chain-requires-clause-room
add_chain-requires-clause-room c =
    let known = c.args.known.now in
    let t = c.args.self.now in
    let ns = vec_items c.args.numbers.now in
    room_second known c.args.numbers.now c.add_duties.new.numbers _ _ _
    (ap (λ (x : Response Duty). x.duties) (appended-all nothing (duties_of known c.args.last) (taken_from t (read_dues known ns)) (sym c.if-not-all_fulfilled.ensures)))
    (adds_read known c.args.numbers.now c.add_duties.new.numbers _ _ (search rules) (search rules) c.add_duties.ensures.items c.add_duties.ensures.cap (taken-read (due_at known) t.joins t.decision ns t.children.now))
    c.requires.room

pub returns : goal.returns
returns c =
    let known = c.args.known.now in
    let t = c.args.self.now in
    let ns = vec_items c.args.numbers.now in
    responds_as known _ _ _ _ _ (appended-all nothing (duties_of known c.args.last) (taken_from t (read_dues known ns)) (sym c.if-not-all_fulfilled.ensures))
    (record {
      decides = refl;
      adds = adds_both known c.args.numbers.now c.add_duties.new.numbers c.add_chain.new.numbers _ _ _ refl
          (adds_read known c.args.numbers.now c.add_duties.new.numbers _ _ (search rules) (search rules) c.add_duties.ensures.items c.add_duties.ensures.cap (taken-read (due_at known) t.joins t.decision ns t.children.now))
          c.add_chain.ensures;
    })
