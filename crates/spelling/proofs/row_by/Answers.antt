-- `spelling::row_by` meets its contract.
use Prim.Native.Nat.{ℕ, ◌+◌, ◌-◌, ◌*◌, ◌^◌, ◌≤◌, ◌<◌}
use native.Mathlib.Omega.{arith}
use mathlib.Core.List.{List, map}
use mathlib.Core.Path.{◌≡◌, refl}
use lib.ListN.{length, drop, get_or, length-map}
use Rattle.alphabet.proofs.Laws.{value_below}
use Rattle.nibbles.proofs.Lists.{map_at, map_below}
use Rattle.nibbles.proofs.Rows.{word_next, word_room, word_none}
use Rattle.alphabet.specs.Alphabet.{value_of}
use Rattle.nibbles.specs.Nibbles.{word}
use Rattle.spelling.proofs.row_by.Goals as goal

-- one more value in front, and room for it
next : (s : List ℕ) (i w v : ℕ) → length s ≤ 16 → 0 < i → i ≤ length s → w ≡ word (drop i (map value_of s)) → v ≡ value_of (get_or s (i - 1) 0)
    → (w * 16 + v ≡ word (drop (i - 1) (map value_of s))) × (w * 16 + v < 2 ^ 64)
next s i w v few some here e read =
    let long = length-map s value_of in
    let within : i ≤ length (map value_of s) = omega arith in
    rw (read, ← map_at value_of s (i - 1) 0 0 (omega arith))
    (word_next (map value_of s) i w some within e, word_room (map value_of s) i w some within e (map_below 16 value_of value_below s) (omega arith))

pub loop-i-init : goal.loop-i-init
loop-i-init g c =
    let s = c.args.s.now in
    rw (← length-map s value_of) (word_none (map value_of s))

pub overflow_mul-w : goal.overflow_mul-w
overflow_mul-w g c =
    let l = c.loop-i in
    let s = c.args.s.now in
    omega (arith, next s l.i l.w (value_of (get_or s (l.i - 1) 0)) c.requires.few (omega arith) (omega arith) l.invariant refl)

pub overflow_add-w : goal.overflow_add-w
overflow_add-w g c =
    let l = c.loop-i in
    let read = c.requires.reads (l.i - 1) c.value.result (omega arith) c.value.ensures in
    omega (arith, next c.args.s.now l.i l.w c.value.result c.requires.few (omega arith) (omega arith) l.invariant read)

pub loop-i-preserved : goal.loop-i-preserved
loop-i-preserved g c =
    let l = c.loop-i in
    let read = c.requires.reads (l.i - 1) c.value.result (omega arith) c.value.ensures in
    (next c.args.s.now l.i l.w c.value.result c.requires.few (omega arith) (omega arith) l.invariant read).0
