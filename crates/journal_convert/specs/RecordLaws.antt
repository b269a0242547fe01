-- A record of the journal that is taken: what is kept of it and what is listed, before what comes after it.
-- Assumes nothing.
use Rattle.std.specs.Prelude.{◌≡◌, List, ◌++◌, ℕ, ◌+◌, ◌-◌, ◌≤◌, drop, ltb}
use Rattle.std.proofs.Math.Path.{sym, ap}
use Rattle.std.proofs.Common.{◌∙◌, arith, drop-drop}
use Rattle.std.proofs.Math.ListN.{length, take, length-drop}
use Rattle.std.proofs.Math.Seq.{length-take-le}
use Rattle.base.specs.Laws.{flat_append}
use Rattle.base.specs.ListLaws.{all_drop}
use Rattle.base.specs.SpellLaws.{Bytes}
use Rattle.base.specs.Answers.{taken}
use Rattle.slices.specs.Laws.{part-front}
use Rattle.format.specs.Payload.{payload_bytes}
use Rattle.format.specs.Record.{Decoding, record_bytes, used_bytes, leftover, parse}
use Rattle.format.proofs.ExactLaws.{Spelled, parsed, parse-exact}
use Rattle.journal.specs.Convert.{dropped_bytes, Conversion, dropped_at, anew}
use Rattle.journal.proofs.ConvertLaws.{convert_in, convert-taken}
use Rattle.journal_convert.specs.Rewriting.{list_bytes, Kept, kept_of, listed}
use Rattle.journal_convert.specs.StopLaws.{stop_in, stop-taken}

module _ (hash : List ℕ → List ℕ) (s : List ℕ) where
  -- what the journal becomes from a place on, and where its records end
  abbrev pub ahead : ℕ → Conversion
  ahead place = convert_in hash place (drop place s)

  abbrev pub stop_ahead : ℕ → ℕ
  stop_ahead place = stop_in hash place (drop place s)

  -- the record at a place has n bytes of payload, of which the first are kept
  pub record Turn (place n used : ℕ) : Type 0 where
    pub most : used ≤ n
    pub inside : place + (40 + n) ≤ length s
    pub kept : Kept hash (take (40 + n) (drop place s)) used
    pub bytes : (ahead place).bytes ≡ kept_of hash n used (drop place s) ++ (ahead (place + (40 + n))).bytes
    pub list : list_bytes (ahead place) ≡ listed (place + (40 + used)) (n - used) ++ list_bytes (ahead (place + (40 + n)))
    pub stop : stop_ahead place ≡ stop_ahead (place + (40 + n))

  module _ (place : ℕ) (inside : place ≤ length s) (b : Bytes s) (d : Decoding) (e : parse hash (drop place s) ≡ taken d) where
    abbrev bs : List ℕ
    bs = drop place s

    abbrev n : ℕ
    n = d.stats.payload_bytes

    abbrev used : ℕ
    used = used_bytes d.stats

    bytes : Bytes bs
    bytes = all_drop (λ x. ltb x 256) place s b

    spelled : Spelled hash bs d
    spelled = parsed hash bs d bytes e

    -- what is kept is the record of the delta
    kept_record : kept_of hash n used bs ≡ record_bytes hash d.id d.delta
    unfolding record_bytes
    kept_record =
        let body : take used (drop 40 (take (40 + n) bs)) ≡ payload_bytes d.id d.delta = part-front used 40 (40 + n) bs (omega (arith, spelled.used)) ∙ spelled.body in
        rw body

    listed-anew : (c : Conversion) → list_bytes (anew hash place d c) ≡ listed (place + (40 + used)) (n - used) ++ list_bytes c
    unfolding anew dropped_at leftover listed
    listed-anew c = flat_append dropped_bytes (dropped_at place d.stats) c.dropped

    becomes : ahead place ≡ anew hash place d (ahead (place + (40 + n)))
    becomes = rw (drop-drop (40 + n) place s) at (convert-taken hash place bs d e)

    pub turn : Turn place n used
    unfolding anew leftover
    turn =
        let w = spelled.whole in
        let l : length (take (40 + n) bs) ≡ 40 + n = length-take-le (40 + n) bs w in
        record {
          most = spelled.used;
          inside = omega (arith, length-drop place s);
          kept = record {
            inside = omega (arith, spelled.used);
            whole = λ same. parse-exact hash bs d bytes e (omega arith) ∙ sym kept_record;
          };
          bytes = ap (λ (c : Conversion). c.bytes) becomes ∙ rw kept_record;
          list = ap list_bytes becomes ∙ listed-anew (ahead (place + (40 + n)));
          stop = rw (drop-drop (40 + n) place s) at (stop-taken hash place bs d e);
        }
