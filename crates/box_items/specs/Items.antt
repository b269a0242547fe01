-- House items, each a body length, a kind and a body: the call that an item stands for, and what a run of them prints.
-- Assumes nothing.
use Rattle.std.specs.Prelude.{ℕ, zero, suc, ◌+◌, ◌*◌, ◌/◌, ◌%◌, Bool, true, false, List, [], ◌∷◌, ◌++◌, length, take, drop, leb, eqb}
use Rattle.std.proofs.Math.Option.{Option, none, some}
use Rattle.base.specs.Logic.{pick, flat, zeros}
use Rattle.base.specs.Maybe.{◌>>=◌, ◌>>◌, ensure}
use Rattle.base.specs.Bytes.{unle, cut}
use Rattle.base.specs.Answers.{answer_number, Answer, Refused}
use Rattle.base.specs.declared.Refusal.TheVariants.{Broken}
use Rattle.counters.specs.declared.Counters.{Counters}
use Rattle.cell_nursery.specs.declared.Nursery.{Nursery}
use Rattle.format.specs.Payload.{payload_of}
use Rattle.format.specs.Record.{stats_of, leftover}
use Rattle.node_box.specs.Box.{standard_settings, Box, Call, allocate, batch, delta, drain, made, step}
use Rattle.box_lines.specs.declared.Line.{Line}
use Rattle.box_lines.specs.Lines.{kind_of, body_len, line_text, heading}
use Rattle.box_items.specs.declared.Next.{Next}

-- ---- the call of a kind and a body; none where the item is bad

-- allocation has no body
unfoldable pub allocate_item : List ℕ → Option Call
allocate_item body = ensure (eqb (length body) 0) >> some allocate

-- the first n words of bytes
unfoldable pub words_in : ℕ → List ℕ → List ℕ
words_in zero bs = []
words_in (suc n) bs = unle (take 8 bs) ∷ words_in n (drop 8 bs)

-- a batch: 24 bytes for each transition
unfoldable pub batch_item : List ℕ → Option Call
batch_item body = ensure (eqb (length body % 24) 0) >> some (batch (words_in (length body / 8) body))

-- a payload with nothing after its last item: the two list lengths stand behind the id, the items behind them
unfoldable pub delta_item : List ℕ → Option Call
delta_item body = do
  p ← payload_of body
  ensure (eqb (leftover (stats_of (length body) p.delta)) 0)
  some (delta p.id false (length p.delta.inserts) (length p.delta.removes) (drop 16 body))

-- 256 entries and 16,384 cell bytes handed out
unfoldable pub drain_room : ℕ
drain_room = 42 * 256 + 16384

-- a round
unfoldable pub drain_item : List ℕ → Option Call
drain_item body = ensure (eqb (length body) 4) >> some (drain (unle body) drain_room)

unfoldable pub call_of : ℕ → List ℕ → Option Call
call_of kind body =
    ensure (leb (length body) 32768)
    >> pick (eqb kind 1) (allocate_item body) (pick (eqb kind 2) (batch_item body) (pick (eqb kind 3) (delta_item body) (pick (eqb kind 4) (drain_item body) none)))

-- ---- an item on a box

abbrev pub box_of : Counters → List ℕ → Nursery → List ℕ → List ℕ → List ℕ → Box
box_of c t n es ws cs = record { counters = c; counts = t; nursery = n; entries = es; waiting = ws; cells = cs }

-- whether the item stood for a call, the answer, and the records after it
pub record RanAnswer : Type 0 where
  pub good : Bool
  pub answer : Answer
  pub counters : Counters
  pub nursery : Nursery

-- the same with the box after it
pub record Ended : Type 0 where
  pub good : Bool
  pub answer : Answer
  pub box : Box

-- running an item's effect, for its contract: what it returned, and the tables as it left them
abbrev pub effect : RanAnswer → List ℕ → List ℕ → List ℕ → List ℕ → Ended
effect r t es ws cs = record { good = r.good; answer = r.answer; box = box_of r.counters t r.nursery es ws cs }

abbrev pub bad_item : Counters → Nursery → RanAnswer
bad_item c n = record { good = false; answer = Refused Broken; counters = c; nursery = n }

-- a step by the call, or none
unfoldable pub ran : Box → Option Call → Ended
ran b none = record { good = false; answer = Refused Broken; box = b }
ran b (some c) = let s = step b c in record { good = true; answer = s.0; box = s.1 }

-- ---- the item that bytes begin with

-- its body is what follows the six bytes, as long as they say; the item is bad where it isn't all there
unfoldable pub item_call : List ℕ → Option Call
item_call bs = do
  ensure (leb 6 (length bs))
  (body, r) ← cut (body_len bs) (drop 6 bs)
  call_of (kind_of bs) body

-- beside every answer stand the next index and live total as they are then
abbrev pub line_of : ℕ → ℕ → Answer → Counters → Line
line_of place kind answer c = record { place = place; kind = kind; answer = answer_number answer; next = c.next_idx.0; live = c.live_cells }

-- its line, whether it was good, and the box after it
pub record Turn : Type 0 where
  pub line : Line
  pub good : Bool
  pub box : Box

-- its effect, for the contract: what it returned, and the tables as it left them
abbrev pub turn_effect : Next → List ℕ → List ℕ → List ℕ → List ℕ → Turn
turn_effect r t es ws cs = record { line = r.line; good = r.good; box = box_of r.counters t r.nursery es ws cs }

unfoldable pub turn : Box → ℕ → List ℕ → Turn
turn b place bs =
    let e = ran b (item_call bs) in
    record { line = line_of place (kind_of bs) e.answer e.box.counters; good = e.good; box = e.box }

-- ---- a run

-- room for 1,024 counts, 256 entries and 16,384 cell bytes; fresh at 0
unfoldable pub run_box : Box
run_box = made standard_settings 0 (zeros (2 * 1024)) (zeros (8 * 256)) (zeros (5 * 256)) (zeros 16384)

-- the lines for bytes from an item's place on: one for each item, up to the first bad one.
-- A good item has six bytes at least, so that `fuel` as large as the input is enough
unfoldable pub lines_from : ℕ → Box → ℕ → List ℕ → List Line
lines_from zero b place bs = []
lines_from (suc fuel) b place [] = []
lines_from (suc fuel) b place (x ∷ xs) =
    let bs = x ∷ xs in
    let t = turn b place bs in
    t.line ∷ pick t.good (lines_from fuel t.box (suc place) (drop (6 + body_len bs) bs)) []

-- the lines of an input
unfoldable pub lines : List ℕ → List Line
lines bs = lines_from (length bs) run_box 0 bs

-- all that is printed for it
unfoldable pub text : List ℕ → List ℕ
text bs = heading ++ flat line_text (lines bs)
