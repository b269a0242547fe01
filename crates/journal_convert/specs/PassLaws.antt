-- Records in turn: what holds between two of them in either pass, and how each pass ends.
-- Assumes nothing.
use Rattle.std.specs.Prelude.{◌≡◌, List, [], ℕ, ◌+◌, ◌-◌, ◌≤◌, ◌<◌, take, drop}
use Rattle.std.proofs.Math.Path.{refl, sym, ap}
use Rattle.std.proofs.Common.{◌∙◌, length-append, take_all}
use native.Mathlib.Omega.{arith}
use Rattle.std.proofs.Math.ListN.{length, length-drop}
use Rattle.base.specs.Logic.{flat, overlay}
use Rattle.base.specs.SpellLaws.{Bytes}
use Rattle.base.specs.Answers.{Outcome, refused, taken, Taken, Refused}
use Rattle.base.specs.AnswerLaws.{not-refused}
use Rattle.base.specs.declared.Refusal.{Refusal}
use Rattle.slices.specs.Laws.{length_part}
use Rattle.slices.specs.Places.{put_at}
use Rattle.slices.specs.PlaceLaws.{put_at-none, Filling, filling-start, filling-next, filled}
use Rattle.format.specs.Returned.{Decoded}
use Rattle.format.specs.Record.{Decoding, used_bytes, parse, stated_hash, Whole, Matches}
use Rattle.format.specs.Calls.{decoded_of, parse_call}
use Rattle.format.proofs.RefusalLaws.{parse-taken, parse-known}
use Rattle.journal.specs.Convert.{Conversion, convert}
use Rattle.journal.proofs.ConvertLaws.{convert-refused}
use Rattle.journal_convert.specs.declared.Sizes.{Sizes}
use Rattle.journal_convert.specs.Rewriting.{list_bytes, sizes_of, kept_of, listed}
use Rattle.journal_convert.specs.StopLaws.{stop_in, stop-refused, stop-later, stop-here}
use Rattle.journal_convert.specs.PutLaws.{length-sealed, listed-most}
use Rattle.journal_convert.specs.RecordLaws.{ahead, stop_ahead, Turn, turn}

module _ (hash : List ℕ → List ℕ) (s : List ℕ) where
  -- between two records of the first pass: what is measured and what is ahead make the sizes that are wanted
  pub record Measuring (place len listLen : ℕ) : Type 0 where
    pub inside : place ≤ length s
    pub short : len ≤ place
    pub few : listLen ≤ place
    pub stops : stop_ahead hash s place ≡ stop_in hash 0 s
    pub bytes : len + length (ahead hash s place).bytes ≡ length (convert hash s).bytes
    pub list : listLen + length (list_bytes (ahead hash s place)) ≡ length (list_bytes (convert hash s))

  pub measuring-start : Measuring 0 0 0
  unfolding convert
  measuring-start = record { inside = omega arith; short = omega arith; few = omega arith; stops = refl; bytes = omega arith; list = omega arith }

  -- between two of the second: the outputs, filled with what is ahead, are those that are wanted
  pub record Writing (out₀ rows₀ out rows : List ℕ) (place at to : ℕ) : Type 0 where
    pub inside : place ≤ length s
    pub stops : stop_ahead hash s place ≡ stop_in hash 0 s
    pub bytes : Filling out₀ out at (ahead hash s place).bytes (convert hash s).bytes
    pub list : Filling rows₀ rows to (list_bytes (ahead hash s place)) (list_bytes (convert hash s))

  -- the sizes are known to the second
  module _ (z : Sizes) (e : z ≡ sizes_of hash s) where
    pub writing_start : (out rows : List ℕ) → z.len ≤ length out → z.dropped_len ≤ length rows → Writing out rows out rows 0 0 0
    unfolding sizes_of convert
    writing_start out rows h k =
        record {
          inside = omega arith;
          stops = refl;
          bytes = filling-start out (convert hash s).bytes (rw e at h);
          list = filling-start rows (list_bytes (convert hash s)) (rw e at k);
        }

    pub stop-known : z.stop ≡ stop_in hash 0 s
    unfolding sizes_of
    stop-known = ap (λ (x : Sizes). x.stop) e

  -- ---- the record at a place
  module _ (place : ℕ) (inside : place ≤ length s) where
    abbrev rest : List ℕ
    rest = drop place s

    -- the bytes from there on, lent as a part of the journal
    lent : take (length s - place) rest ≡ rest
    lent = take_all (length s - place) rest (omega (arith, length-drop place s))

    -- before the stop it is taken, so that its hash is right
    pub known : place < stop_ahead hash s place → Whole (take (length s - place) rest) → Matches hash (take (length s - place) rest)
    known h w =
        let (d, i) = stop-later hash place rest h in
        rw lent ((parse-taken hash rest d).0 i).1

    -- it is refused: nothing changes any more
    over : (r : Refusal) → parse hash rest ≡ refused r → ((ahead hash s place).bytes ≡ rest) × (list_bytes (ahead hash s place) ≡ [])
    unfolding flat
    over r e = let c = convert-refused hash place rest r e in (ap (λ (x : Conversion). x.bytes) c, ap list_bytes c)

    -- what the reader says of it
    module _ (q : Decoded) (e : q ≡ parse_call hash (take (length s - place) rest)) where
      says : (o : Outcome Decoding) → parse hash rest ≡ o → q ≡ decoded_of o
      unfolding parse_call
      says o i = e ∙ ap (parse_call hash) lent ∙ ap decoded_of i

      pub refused-there : (r : Refusal) → q.answer ≡ Refused r → (x : Refusal) × (parse hash rest ≡ refused x)
      unfolding decoded_of
      refused-there r a = go (parse hash rest) refl
        where
          go : (o : Outcome Decoding) → parse hash rest ≡ o → (x : Refusal) × (parse hash rest ≡ refused x)
          go (refused x) i = (x, i)
          go (taken d) i = absurd (not-refused (sym (ap (λ (x : Decoded). x.answer) (says (taken d) i)) ∙ a))

      module _ (b : Bytes s) where
        turned : (d : Decoding) → parse hash rest ≡ taken d → Turn hash s place q.stats.payload_bytes (used_bytes q.stats)
        unfolding decoded_of
        turned d i = rw (says (taken d) i) (turn hash s place inside b d i)

        pub taken-turn : q.answer ≡ Taken → Turn hash s place q.stats.payload_bytes (used_bytes q.stats)
        unfolding decoded_of
        taken-turn a = go (parse hash rest) refl
          where
            go : (o : Outcome Decoding) → parse hash rest ≡ o → Turn hash s place q.stats.payload_bytes (used_bytes q.stats)
            go (refused r) i = absurd (not-refused (sym a ∙ ap (λ (x : Decoded). x.answer) (says (refused r) i)))
            go (taken d) i = turned d i

        pub later-turn : place < stop_ahead hash s place → Turn hash s place q.stats.payload_bytes (used_bytes q.stats)
        later-turn h = let (d, i) = stop-later hash place rest h in turned d i

  -- the record that the second pass reads at a place before the stop, its hash taken on trust: the first pass took it
  module _ (z : Sizes) (e : z ≡ sizes_of hash s) {out₀ rows₀ out rows : List ℕ} {place at to : ℕ} (x : Writing out₀ rows₀ out rows place at to) (more : place < z.stop) where
    abbrev part : List ℕ
    part = take (length s - place) (drop place s)

    ahead-of-stop : place < stop_ahead hash s place
    ahead-of-stop = omega (arith, stop-known z e, x.stops)

    module _ (q : Decoded) (read : q ≡ parse_call (stated_hash part) part) where
      by-hash : q ≡ parse_call hash part
      unfolding parse_call
      by-hash = read ∙ ap decoded_of (parse-known hash part (known place x.inside ahead-of-stop))

      pub held-taken : q.answer ≡ Taken
      unfolding decoded_of
      held-taken = let (d, i) = stop-later hash place (drop place s) ahead-of-stop in ap (λ (y : Decoded). y.answer) (says place x.inside q by-hash (taken d) i)

      pub held-turn : Bytes s → Turn hash s place q.stats.payload_bytes (used_bytes q.stats)
      held-turn b = later-turn place x.inside q by-hash b ahead-of-stop

  -- ---- one record more
  module _ (long : (b : List ℕ) → length (hash b) ≡ 32) (place n used : ℕ) (t : Turn hash s place n used) where
    length-kept : length (kept_of hash n used (drop place s)) ≡ 40 + used
    length-kept =
        length-sealed hash long (take used (drop 40 (take (40 + n) (drop place s)))) ∙ ap (λ (j : ℕ). 40 + j) (length_part (take (40 + n) (drop place s)) 40 used t.kept.inside)

    bytes-in : length (ahead hash s place).bytes ≡ 40 + used + length (ahead hash s (place + (40 + n))).bytes
    bytes-in = ap length t.bytes ∙ length-append (kept_of hash n used (drop place s)) (ahead hash s (place + (40 + n))).bytes ∙ rw length-kept

    list-in : length (list_bytes (ahead hash s place)) ≡ length (listed (place + (40 + used)) (n - used)) + length (list_bytes (ahead hash s (place + (40 + n))))
    list-in = ap length t.list ∙ length-append (listed (place + (40 + used)) (n - used)) (list_bytes (ahead hash s (place + (40 + n))))

    pub measuring-next : (len listLen more : ℕ) → more ≡ listLen + length (listed (place + (40 + used)) (n - used)) → Measuring place len listLen → Measuring (place + (40 + n)) (len + (40 + used)) more
    measuring-next len listLen more e x =
        record {
          inside = t.inside;
          short = omega (arith, x.short, t.most);
          few = omega (arith, x.few, listed-most (place + (40 + used)) (n - used));
          stops = sym t.stop ∙ x.stops;
          bytes = omega (arith, bytes-in, x.bytes);
          list = omega (arith, list-in, x.list);
        }

    -- what it takes of either output is there
    pub kept-room : (at m : ℕ) → at + length (ahead hash s place).bytes ≤ m → at + (40 + used) ≤ m
    kept-room at m h = omega (arith, bytes-in)

    pub list-room : (to m : ℕ) → to + length (list_bytes (ahead hash s place)) ≤ m → to + length (listed (place + (40 + used)) (n - used)) ≤ m
    list-room to m h = omega (arith, list-in)

    pub writing-next : (out₀ rows₀ out rows two three : List ℕ) (at to : ℕ) → Writing out₀ rows₀ out rows place at to
        → two ≡ put_at out at (kept_of hash n used (drop place s)) → three ≡ put_at rows to (listed (place + (40 + used)) (n - used))
        → Writing out₀ rows₀ two three (place + (40 + n)) (at + (40 + used)) (to + length (listed (place + (40 + used)) (n - used)))
    writing-next out₀ rows₀ out rows two three at to x e f =
        let next = ahead hash s (place + (40 + n)) in
        let row = listed (place + (40 + used)) (n - used) in
        record {
          inside = t.inside;
          stops = sym t.stop ∙ x.stops;
          bytes = filling-next out₀ out at (ahead hash s place).bytes (convert hash s).bytes x.bytes (kept_of hash n used (drop place s)) next.bytes two (40 + used) t.bytes length-kept e;
          list = filling-next rows₀ rows to (list_bytes (ahead hash s place)) (list_bytes (convert hash s)) x.list row (list_bytes next) three (length row) t.list refl f;
        }

  -- ---- the ends
  pub measured : (place len listLen : ℕ) (r : Refusal) → Measuring place len listLen → parse hash (drop place s) ≡ refused r
      → record { stop = place; len = len + (length s - place); dropped_len = listLen } ≡ sizes_of hash s
  unfolding sizes_of
  measured place len listLen r x e =
      let (b, l) = over place x.inside r e in
      let stop : place ≡ stop_in hash 0 s = sym (stop-refused hash place (drop place s) r e) ∙ x.stops in
      let bytes : len + (length s - place) ≡ length (convert hash s).bytes = omega (arith, ap length b, length-drop place s, x.bytes) in
      let list : listLen ≡ length (list_bytes (convert hash s)) = omega (arith, ap length l, x.list) in
      cc

  module _ (out₀ rows₀ out rows : List ℕ) (place at to stop : ℕ) (x : Writing out₀ rows₀ out rows place at to) (end : stop ≡ stop_in hash 0 s) (past : stop ≤ place) where
    ended : ((ahead hash s place).bytes ≡ drop place s) × (list_bytes (ahead hash s place) ≡ [])
    ended =
        let (r, e) = stop-here hash place (drop place s) (omega (arith, x.stops)) in
        over place x.inside r e

    pub rest-room : at + length (take (length s - place) (drop place s)) ≤ length out
    rest-room = rw (lent place x.inside, ← ended.0) x.bytes.room

    pub written : (two : List ℕ) → two ≡ put_at out at (take (length s - place) (drop place s)) → two ≡ overlay (convert hash s).bytes out₀
    written two e = filled out₀ out at (ahead hash s place).bytes (convert hash s).bytes x.bytes two (rw ended.0 (rw (lent place x.inside) at e))

    pub list_written : rows ≡ overlay (list_bytes (convert hash s)) rows₀
    list_written =
        filled rows₀ rows to (list_bytes (ahead hash s place)) (list_bytes (convert hash s)) x.list rows (rw ended.1 (sym (put_at-none rows to)))
