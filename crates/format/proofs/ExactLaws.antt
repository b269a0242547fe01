-- What is parsed of bytes is spelled by them, and what decoding takes is the record that encoding writes.
-- Assumes nothing.
use Rattle.std.specs.Prelude.{◌≡◌, refl, List, ◌++◌, ℕ, ◌+◌, ◌-◌, ◌^◌, ◌≤◌, ◌<◌, length, take, drop, ltb}
use Rattle.std.proofs.Common.{sym, ap, ap₂, ◌∙◌, append_assoc, arith, length-append, take_at, take-take, take-add, ltb-true}
use Rattle.base.specs.MaybeLaws.{Gives, gives, gives-bind, gives-each, given}
use Rattle.base.specs.ListLaws.{all_take, all_drop}
use Rattle.base.specs.Bytes.{le64}
use Rattle.base.specs.Answers.{taken}
use Rattle.slices.specs.Laws.{length_part, part-split}
use Rattle.cell_nursery.specs.Items.{delta_of}
use Rattle.cell_nursery.proofs.ItemLaws.{delta-counts}
use Rattle.base.specs.SpellLaws.{Bytes, digits-spelled, read_le-spells}
use Rattle.cell_nursery.proofs.SpellLaws.{ItemsSpelled, delta-spelled, fits-short}
use Rattle.format.specs.Payload.{Payload, payload_bytes, payload_of}
use Rattle.format.specs.Record.{Decoding, hashed, sealed, record_bytes, stats_of, encode, parse, used_bytes, leftover, decode, stated, payload}
use Rattle.format.proofs.RecordLaws.{Fits, length-payload}
use Rattle.format.proofs.RefusalLaws.{parse-taken, decode-taken}
use Rattle.format.specs.declared.RecordStats.{RecordStats}

-- a payload as it is written, and what comes after its last item
record PayloadSpelled (p : List ℕ) (q : Payload) : Type 0 where
  rest : List ℕ
  same : p ≡ payload_bytes q.id q.delta ++ rest
  fits : Fits q.id q.delta

payload-spells : (p : List ℕ) → Bytes p → length p < 2 ^ 64 - 8 → Gives (PayloadSpelled p) (payload_of p)
unfolding payload_of payload_bytes
payload-spells p b h =
    gives-bind (read_le-spells 8 p b) (λ i s.
    gives-bind (read_le-spells 4 i.1 s.rest) (λ n t.
    gives-bind (read_le-spells 4 n.1 t.rest) (λ m u.
    gives-bind (gives-each {P = λ d. ItemsSpelled m.1 d × ((length d.inserts ≡ n.0) × (length d.removes ≡ m.0))} (delta_of 2 n.0 m.0 m.1)
    (λ d e. (delta-spelled n.0 m.0 m.1 d u.rest e, delta-counts 2 n.0 m.0 m.1 d e))) (λ d v.
    let same : p ≡ payload_bytes i.0 d ++ v.0.rest = simp append_assoc (rw (s.same, t.same, u.same, v.0.same, v.1.0, v.1.1)) in
    gives (record {
      rest = v.0.rest;
      same = same;
      fits =
          record {
            small_id = ltb-true i.0 (2 ^ 64) s.fits;
            inserts = v.0.inserts;
            removes = v.0.removes;
            few-inserts = omega (arith, v.1.0, ltb-true n.0 (256 ^ 4) t.fits);
            few-removes = omega (arith, v.1.1, ltb-true m.0 (256 ^ 4) u.fits);
            near = omega (arith, ap length same ∙ length-append (payload_bytes i.0 d) v.0.rest);
          };
    })))))

-- a record that was parsed: its id and delta fit a record, and its bytes are those of their payload, as many as its figures say
pub record Spelled (hash : List ℕ → List ℕ) (bs : List ℕ) (d : Decoding) : Type 0 where
  pub fits : Fits d.id d.delta
  pub size : length (payload_bytes d.id d.delta) ≡ used_bytes d.stats
  pub used : used_bytes d.stats ≤ d.stats.payload_bytes
  pub near : d.stats.payload_bytes < 2 ^ 64 - 8
  pub whole : 40 + d.stats.payload_bytes ≤ length bs
  pub body : take (used_bytes d.stats) (drop 40 bs) ≡ payload_bytes d.id d.delta

pub parsed : (hash : List ℕ → List ℕ) (bs : List ℕ) (d : Decoding) → Bytes bs → parse hash bs ≡ taken d → Spelled hash bs d
unfolding stats_of
parsed hash bs d b e =
    let (whole, matches, (p, i, same)) = (parse-taken hash bs d).0 e in
    let n : ℕ = stated bs in
    let long : length (payload bs) ≡ n = length_part bs 40 n whole.1 in
    let bytes : Bytes (payload bs) = all_take (λ x. ltb x 256) n (drop 40 bs) (all_drop (λ x. ltb x 256) 40 bs b) in
    let s : PayloadSpelled (payload bs) p = given (payload-spells (payload bs) bytes (omega (arith, whole.0))) i in
    let w : List ℕ = payload_bytes p.id p.delta in
    let size : length w ≡ used_bytes (stats_of n p.delta) = length-payload p.id p.delta in
    let less : length w ≤ n = omega (arith, ap length s.same ∙ length-append w s.rest) in
    let body : take (length w) (drop 40 bs) ≡ w =
    sym (take-take (length w) n (drop 40 bs) less) ∙ ap (λ (l : List ℕ). take (length w) l) s.same ∙ take_at w s.rest (length w) refl in
    rw same (record { fits = s.fits; size = size; used = omega arith; near = whole.0; whole = whole.1; body = rw (← size) body })

-- its figures are those of its delta, by the length that it states
parsed-stats : (hash : List ℕ → List ℕ) (bs : List ℕ) (d : Decoding) → parse hash bs ≡ taken d
    → (d.stats.payload_bytes ≡ stated bs) × (d.stats ≡ stats_of (stated bs) d.delta)
unfolding stats_of
parsed-stats hash bs d e = let (whole, matches, (p, i, same)) = (parse-taken hash bs d).0 e in rw same (refl, refl)

-- with nothing left over it is the record that encoding writes
pub parse-exact : (hash : List ℕ → List ℕ) (bs : List ℕ) (d : Decoding) → Bytes bs → parse hash bs ≡ taken d → leftover d.stats ≡ 0
    → take (40 + d.stats.payload_bytes) bs ≡ record_bytes hash d.id d.delta
unfolding leftover record_bytes sealed hashed
parse-exact hash bs d b e none =
    let (whole, matches, rest) = (parse-taken hash bs d).0 e in
    let s = parsed hash bs d b e in
    let n : ℕ = stated bs in
    let w : List ℕ = payload_bytes d.id d.delta in
    let k : d.stats.payload_bytes ≡ n = (parsed-stats hash bs d e).0 in
    let u : used_bytes d.stats ≡ n = omega (arith, s.used) in
    let size : length w ≡ n = s.size ∙ u in
    let body : take n (drop 40 bs) ≡ w = rw (← u) s.body in
    let bytes : Bytes (take 8 (drop 32 bs)) = all_take (λ x. ltb x 256) 8 (drop 32 bs) (all_drop (λ x. ltb x 256) 32 bs b) in
    let front : take 8 (drop 32 bs) ≡ le64 n = sym (digits-spelled 8 (take 8 (drop 32 bs)) (length_part bs 32 8 (omega arith)) bytes) in
    let led : take (8 + n) (drop 32 bs) ≡ le64 (length w) ++ w = part-split bs 32 8 n ∙ ap₂ (λ (x y : List ℕ). x ++ y) (front ∙ ap le64 (sym size)) body in
    let j : 40 + d.stats.payload_bytes ≡ 32 + (8 + n) = omega arith in
    rw (j, take-add 32 (8 + n) bs, ← matches, led)

-- what decoding takes is what encoding writes, figures included
pub decode-exact : (hash : List ℕ → List ℕ) (bs : List ℕ) (d : Decoding) → Bytes bs → decode hash bs ≡ taken d
    → encode hash d.id d.delta ≡ taken (record { bytes = take (40 + d.stats.payload_bytes) bs; stats = d.stats })
unfolding encode leftover
decode-exact hash bs d b e =
    let (read, none) = (decode-taken hash bs d).0 e in
    let s = parsed hash bs d b read in
    let (k, figures) = parsed-stats hash bs d read in
    let size : length (payload_bytes d.id d.delta) ≡ stated bs = omega (arith, s.size, s.used) in
    rw (fits-short d.delta s.fits.inserts s.fits.few-inserts s.fits.few-removes)
    (ap₂ (λ (x : List ℕ) (t : RecordStats). taken (record { bytes = x; stats = t })) (sym (parse-exact hash bs d b read none)) (ap (λ (m : ℕ). stats_of m d.delta) size ∙ sym figures))
