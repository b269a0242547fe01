-- A key of four words is the hash that its 32 bytes spell.
-- Assumes nothing.
use Rattle.std.specs.Prelude.{◌≡◌, refl, List, ◌++◌, ℕ, ◌+◌, ◌^◌, ◌≤◌, ◌<◌, length, take, drop}
use Rattle.std.proofs.Common.{sym, ap, ◌∙◌, append_assoc, arith, length-append}
use Rattle.std.proofs.Math.Seq.{paste}
use Rattle.base.specs.Bytes.{unbe, be64}
use Rattle.slices.specs.Laws.{part-split, length_part, paste-append}
use Rattle.slices.specs.NumberLaws.{length-be}
use Rattle.rows.specs.declared.Wide.{Wide}
use Rattle.rows.specs.Wide.{key_of}
use Rattle.rows.proofs.WideLaws.{Words}
use Rattle.cell_nursery.specs.Entries.{hash_bytes}
use Rattle.cell_nursery.specs.Layout.{HashWords, hash_of}
use Rattle.cell_nursery.proofs.HashLaws.{hash-read, hash-written, hash-small}

-- the words of a key as those of a hash
abbrev pub words_of : Wide → HashWords
words_of k = record { first = k.0; second = k.1; third = k.2; fourth = k.3 }

pub key-hash : (k : Wide) → key_of k ≡ hash_of (words_of k)
unfolding key_of hash_of
key-hash k = refl

pub key-small : (k : Wide) → Words k → key_of k < 2 ^ 256
key-small k w = rw (key-hash k) (hash-small (words_of k) (record { first = w.first; second = w.second; third = w.third; fourth = w.fourth }))

-- read from four times eight bytes
pub key-read : (s : List ℕ) (at : ℕ) (k : Wide) → at + 32 ≤ length s → k.0 ≡ unbe (take 8 (drop at s)) → k.1 ≡ unbe (take 8 (drop (at + 8) s))
    → k.2 ≡ unbe (take 8 (drop (at + 16) s)) → k.3 ≡ unbe (take 8 (drop (at + 24) s)) → key_of k ≡ unbe (take 32 (drop at s))
key-read s at k h a b c d =
    let a8 : at + 8 + 8 ≡ at + 16 = omega arith in
    let a16 : at + 16 + 8 ≡ at + 24 = omega arith in
    let cut : take 32 (drop at s) ≡ take 8 (drop at s) ++ (take 8 (drop (at + 8) s) ++ (take 8 (drop (at + 16) s) ++ take 8 (drop (at + 24) s))) =
    part-split s at 8 24 ∙ ap (λ (l : List ℕ). take 8 (drop at s) ++ l)
    (part-split s (at + 8) 8 16 ∙ ap (λ (l : List ℕ). take 8 (drop (at + 8) s) ++ l) (rw a8 (part-split s (at + 16) 8 8 ∙ rw a16))) in
    key-hash k
    ∙ rw (a, b, c, d, cut) (sym (hash-read (take 8 (drop at s)) (take 8 (drop (at + 8) s)) (take 8 (drop (at + 16) s)) (take 8 (drop (at + 24) s))
    (length_part s (at + 8) 8 (omega arith)) (length_part s (at + 16) 8 (omega arith)) (length_part s (at + 24) 8 (omega arith))))

-- written in four times eight bytes: o is the list after the first, p after the second, q after the third
pub key-written : (t o p q : List ℕ) (at : ℕ) (k : Wide) → Words k → at + 32 ≤ length t → o ≡ paste t at (be64 k.0) 8 → p ≡ paste o (at + 8) (be64 k.1) 8
    → q ≡ paste p (at + 16) (be64 k.2) 8 → paste q (at + 24) (be64 k.3) 8 ≡ paste t at (hash_bytes (key_of k)) 32
key-written t o p q at k w h a b c =
    let x = be64 k.0 in
    let y = be64 k.1 in
    let z = be64 k.2 in
    let v = be64 k.3 in
    let lx : length x ≡ 8 = length-be 8 k.0 in
    let ly : length y ≡ 8 = length-be 8 k.1 in
    let lz : length z ≡ 8 = length-be 8 k.2 in
    let lv : length v ≡ 8 = length-be 8 k.3 in
    let two : p ≡ paste t at (x ++ y) 16 = b ∙ ap (λ (l : List ℕ). paste l (at + 8) y 8) a ∙ paste-append t at x y 8 8 lx ly (omega arith) in
    let lxy : length (x ++ y) ≡ 16 = simp length-append (omega arith) in
    let three : q ≡ paste t at ((x ++ y) ++ z) 24 = c ∙ ap (λ (l : List ℕ). paste l (at + 16) z 8) two ∙ paste-append t at (x ++ y) z 16 8 lxy lz (omega arith) in
    let lxyz : length ((x ++ y) ++ z) ≡ 24 = simp length-append (omega arith) in
    let bytes : hash_bytes (key_of k) ≡ ((x ++ y) ++ z) ++ v =
    ap hash_bytes (key-hash k)
    ∙ hash-written (words_of k) (record { first = w.first; second = w.second; third = w.third; fourth = w.fourth })
    ∙ simp append_assoc in
    ap (λ (l : List ℕ). paste l (at + 24) v 8) three ∙ paste-append t at ((x ++ y) ++ z) v 24 8 lxyz lv (omega arith) ∙ rw bytes
