use Rattle.rows.specs.Keys.{keys, first_four, place}
use Rattle.rows.specs.Wide.{key_of}
use Rattle.cell_nursery.specs.Held.{U64}
use Rattle.cell_nursery.proofs.LayoutLaws.{held}
use Rattle.nursery_steps.specs.RemoveLaws.{found-there, none-there, absent-left, row-hit, places_behind, cell-inside, hit-left}
use mathlib.Core.Bool.{true, ◌&&◌}
use mathlib.Core.Path.{◌≡◌, refl, sym, ◌∙◌}
use Prim.Native.Nat.{◌*◌}
use borrow.Author.Rules.{rules}
use lib.Dec.{eqb, ltb}
use lib.ListN.{drop}
use Rattle.nursery_steps.proofs.remove_held.Goals as goal
use Rattle.nursery_steps.proofs.remove_held.Goals.{In-Some}

-- the words of the tables are u64
u64_es : (c : In-Some) → U64 c.args.es.now
u64_es c i = search rules

u64_ws : (c : In-Some) → U64 c.args.ws.now
u64_ws c i = search rules

-- the row that the search found is at the hash's place, and has it
found : (c : In-Some) → let a = c.args in let k = c.in-Some.k in (k ≡ place (key_of a.hash) (keys first_four 8 a.r.entries a.es.now)) × ((ltb k a.r.entries && eqb (first_four (drop (k * 8) a.es.now)) (key_of a.hash)) ≡ true)
found c =
    let a = c.args in
    found-there a.r a.es.now a.ws.now a.cs.now (u64_es c) (u64_ws c) c.requires (key_of a.hash) c.in-Some.k (sym c.in-Some.is ∙ c.find_hash.ensures.row)

pub remove_waiting-waiting-requires : goal.remove_waiting-waiting-requires
remove_waiting-waiting-requires c =
    let a = c.args in
    (held a.r a.es.now a.ws.now a.cs.now (λ i. search rules) (λ i. search rules) c.requires).waiting.laid

pub find_hash-requires : goal.find_hash-requires
find_hash-requires c =
    let a = c.args in
    (held a.r a.es.now a.ws.now a.cs.now (λ i. search rules) (λ i. search rules) c.requires).entries

pub returns-in_default : goal.returns-in_default
returns-in_default c =
    let a = c.args in
    let h = key_of a.hash in
    let none = none-there a.r a.es.now a.ws.now a.cs.now (λ i. search rules) (λ i. search rules) c.requires h (sym c.in_default.is ∙ c.find_hash.ensures.row) in
    absent-left a.r a.es.now a.ws.now a.cs.now (λ i. search rules) (λ i. search rules) c.requires h (place h (keys first_four 8 a.r.entries a.es.now)) refl
    c.remove_waiting-waiting.result _ c.remove_waiting-waiting.ensures.0 c.remove_waiting-waiting.ensures.1 none

pub remove_entry-requires : goal.remove_entry-requires
remove_entry-requires c =
    let e = (goal.at.remove_entry-requires c).In-Some in
    let a = c.args in
    let w = c.remove_waiting-waiting in (
      row-hit a.r a.es.now a.ws.now a.cs.now (u64_es e) (u64_ws e) c.requires (key_of a.hash) c.in-Some.k (found e).0 w.result _ w.ensures.0 w.ensures.1 (found e).1,
      (held a.r a.es.now a.ws.now a.cs.now (u64_es e) (u64_ws e) c.requires).entries.laid,
      places_behind a.r a.es.now a.ws.now a.cs.now (u64_es e) (u64_ws e) c.requires (key_of a.hash) c.in-Some.k (found e).0 w.result _ w.ensures.0 w.ensures.1 (found e).1,
    )

pub remove_cell-requires : goal.remove_cell-requires
remove_cell-requires c =
    let e = (goal.at.remove_cell-requires c).In-Some in
    let a = c.args in
    let w = c.remove_waiting-waiting in (
      cell-inside a.r a.es.now a.ws.now a.cs.now (u64_es e) (u64_ws e) c.requires (key_of a.hash) c.in-Some.k (found e).0 w.result _ w.ensures.0 w.ensures.1 (found e).1,
      (held a.r a.es.now a.ws.now a.cs.now (u64_es e) (u64_ws e) c.requires).cells.fits,
    )

pub returns : goal.returns
returns c =
    let e = (goal.at.returns c).In-Some in
    let a = c.args in
    let w = c.remove_waiting-waiting in
    hit-left a.r a.es.now a.ws.now a.cs.now (u64_es e) (u64_ws e) c.requires (key_of a.hash) c.in-Some.k (found e).0 w.result _ w.ensures.0 w.ensures.1 (found e).1
    _ _ _ _ refl refl c.remove_entry.ensures c.remove_cell.ensures
