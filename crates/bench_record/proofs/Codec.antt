-- A record written down, field by field, and read back.
-- Assumes nothing.
use mathlib.Core.Path.{◌≡◌, refl, sym, ap, ap₂, ◌∙◌}
use mathlib.Core.List.{List, [], ◌∷◌, ◌++◌}
use Prim.Native.Nat.{ℕ, ◌+◌, ◌-◌, ◌^◌, ◌<◌, ◌≤◌}
use native.Mathlib.Omega.{arith}
use lib.ListN.{length, take, drop, set, replicate, length-take, length-drop}
use lib.Seq.{drop-drop}
use Rattle.katan.specs.Bit.{number_in, bytes_of}
use Rattle.katan.specs.Key.{key_number, key_of}
use Rattle.katan.specs.Sizes.{key_bytes}
use Rattle.katan.specs.declared.Key.{Key}
use Rattle.katan.proofs.Numbers.{two_numbers, number-bytes}
use Rattle.katan.proofs.KeyNumbers.{key_is}
use Rattle.katan_numbers.proofs.Written.{in_bytes}
use Rattle.bench_record.specs.declared.Record.{Record}
use Rattle.bench_record.specs.Fields.{record_length}
use Rattle.bench_record.specs.Codec.{encode}
use Rattle.bench_record.specs.Codec.{EveryRecord}

-- ---- a number written into a part of a list

abbrev put_at : (from to x : ℕ) → List ℕ → List ℕ
put_at from to x s = take from s ++ (bytes_of (to - from) x ++ drop to s)

pub put_part : (s : List ℕ) (from to x : ℕ) {ys : List ℕ} → from ≤ to → to ≤ length s → ys ≡ bytes_of (length (take (to - from) (drop from s))) x
    → take from s ++ (ys ++ drop (to - from) (drop from s)) ≡ put_at from to x s
put_part s from to x a b e =
    let l : length (take (to - from) (drop from s)) ≡ to - from = simp (length-take, length-drop) (omega arith) in
    let p : from + (to - from) ≡ to = omega arith in
    ap₂ (λ (y z : List ℕ). take from s ++ (y ++ z)) (in_bytes (to - from) x e l) (drop-drop (to - from) from s ∙ ap (λ (n : ℕ). drop n s) p)

-- ---- a record's fields written one by one

-- a key's two words are its ten bytes
key-bytes : (k : Key) → k.low < 2 ^ 64 → bytes_of key_bytes (key_number k) ≡ bytes_of 8 k.low ++ bytes_of 2 k.high
key-bytes k h = two_numbers 8 2 k.low k.high h

module _ (r : Record) where
  -- the fields of a byte
  abbrev headed : List ℕ
  headed = set (set (set (set (replicate record_length 0) 0 r.kind) 1 r.lane) 2 r.count) 3 r.gap

  abbrev written : List ℕ
  written =
      put_at 34 40 r.rest (put_at 26 34 r.block (put_at 24 26 r.key.high (put_at 16 24 r.key.low (put_at 8 16 r.mask (put_at 4 8 r.number headed)))))

  abbrev with_key : List ℕ → List ℕ
  with_key key = (r.kind ∷ r.lane ∷ r.count ∷ r.gap ∷ []) ++ bytes_of 4 r.number ++ bytes_of 8 r.mask ++ key ++ bytes_of 8 r.block ++ bytes_of 6 r.rest

  in_parts : written ≡ with_key (bytes_of 8 r.key.low ++ bytes_of 2 r.key.high)
  unfolding bytes_of
  in_parts = refl

  pub whole : r.key.low < 2 ^ 64 → written ≡ encode r
  unfolding encode
  whole h = in_parts ∙ ap with_key (sym (key-bytes r.key h))

-- ---- and read back

same_record : (k l c g : ℕ) {n n' m m' b b' t t' : ℕ} {key key' : Key} → n ≡ n' → m ≡ m' → key ≡ key' → b ≡ b' → t ≡ t'
    → ◌≡◌ {A = Record} (record { kind = k; lane = l; count = c; gap = g; number = n; mask = m; key = key; block = b; rest = t })
    (record { kind = k; lane = l; count = c; gap = g; number = n'; mask = m'; key = key'; block = b'; rest = t' })
same_record k l c g p q e u v = rw (p, q, e, u, v)

key_back : (k : Key) → k.low < 2 ^ 64 → k.high < 2 ^ 16 → key_of (number_in (bytes_of key_bytes (key_number k))) ≡ k
key_back k l h = ap key_of (number-bytes key_bytes (key_number k) (omega arith)) ∙ sym (key_is k (key_number k) l refl)

-- THEOREM: the bytes of every record are as many as a record has, and one whose fields fit is read back as it was
pub every_record : EveryRecord
unfolding encode bytes_of
every_record r = (
  refl,
  λ f.
      same_record r.kind r.lane r.count r.gap
      (number-bytes 4 r.number f.number) (number-bytes 8 r.mask f.mask) (key_back r.key f.low f.high) (number-bytes 8 r.block f.block) (number-bytes 6 r.rest f.rest),
)
