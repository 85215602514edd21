-- Bytes in hex are read as they were written, and the other way round.
-- Assumes nothing.
use Prim.Native.Nat.{ℕ, zero, suc, ◌<◌}
use native.Mathlib.Omega.{arith}
use mathlib.Core.Path.{◌≡◌, refl, ap, ap₂, ◌∙◌}
use mathlib.Core.Logic.{inl, inr}
use mathlib.Core.List.{List, [], ◌∷◌, map}
use mathlib.Core.Bool.{Bool, true, false, ◌&&◌}
use lib.ListN.{get_or, length-map}
use lib.Dec.{eqb}
use borrow.Author.Tests.{eqb-true, eqb-false}
use Rattle.nibbles.specs.Nibbles.{nibs, packs, every}
use Rattle.nibbles.proofs.Lists.{Below, map_below, and_left, and_right}
use Rattle.nibbles.proofs.Bytes.{nibs_below, nibs_packs, packs_nibs}
use Rattle.alphabet.specs.Alphabet.{value_of}
use Rattle.alphabet.specs.declared.Class.TheVariants.{CapitalHex}
use Rattle.alphabet.proofs.Laws.{value_below}
use Rattle.texts.specs.Characters.{printed, OneOf}
use Rattle.texts.specs.Classes.{MadeOf}
use Rattle.texts.specs.Texts.{Run}
use Rattle.texts.proofs.Classes.{classes_printed}
use Rattle.claims_extracting.specs.Extracting.{hex_text}

abbrev sixteen : List ℕ
sixteen = printed "0123456789ABCDEF"

abbrev digit_of : ℕ → ℕ
digit_of n = get_or sixteen n 0

-- ---- one computed test each way

-- every number under another passes a test
passes : (ℕ → Bool) → ℕ → Bool
passes p zero = true
passes p (suc k) = p k && passes p k

pass : (p : ℕ → Bool) (k : ℕ) → passes p k ≡ true → (n : ℕ) → n < k → p n ≡ true
unfolding passes
pass p zero h n l = absurd (omega arith)
pass p (suc k) h n l = by_last (eqb n k) refl (λ m. pass p k (and_right (p k) (passes p k) h) n m)
  where
    by_last : (b : Bool) → eqb n k ≡ b → (n < k → p n ≡ true) → p n ≡ true
    by_last true e before = ap p (eqb-true n k e) ∙ and_left (p k) (passes p k) h
    by_last false e before = before (let d = eqb-false n k e in omega arith)

digit_value : (n : ℕ) → n < 16 → value_of (digit_of n) ≡ n
unfolding passes value_of
digit_value n l = eqb-true (value_of (digit_of n)) n (pass (λ m. eqb (value_of (digit_of m)) m) 16 refl n l)

-- so does one of a list
each : (p : ℕ → Bool) (chars : List ℕ) (c : ℕ) → every p chars ≡ true → OneOf c chars → p c ≡ true
unfolding every
each p [] c h o = absurd o
each p (x ∷ xs) c h (inl e) = ap p e ∙ and_left (p x) (every p xs) h
each p (x ∷ xs) c h (inr o) = each p xs c (and_right (p x) (every p xs) h) o

value_digit : (c : ℕ) → OneOf c sixteen → digit_of (value_of c) ≡ c
unfolding every value_of
value_digit c o = eqb-true (digit_of (value_of c)) c (each (λ m. eqb (digit_of (value_of m)) m) sixteen c refl o)

-- ---- character after character

digits_read : (ns : List ℕ) → Below 16 ns → map value_of (map digit_of ns) ≡ ns
digits_read [] b = refl
digits_read (n ∷ ns) (l, b) = ap₂ ◌∷◌ (digit_value n l) (digits_read ns b)

digits_written : (cs : List ℕ) → MadeOf sixteen cs → map digit_of (map value_of cs) ≡ cs
digits_written [] m = refl
digits_written (c ∷ cs) (o, m) = ap₂ ◌∷◌ (value_digit c o) (digits_written cs m)

-- ---- bytes

pub hex_read : (bytes : List ℕ) → Below 256 bytes → packs (map value_of (hex_text bytes)) ≡ bytes
hex_read bytes b = ap packs (digits_read (nibs bytes) (nibs_below bytes b)) ∙ packs_nibs bytes

pub hex_written : (cs : List ℕ) → Run CapitalHex 16 cs → hex_text (packs (map value_of cs)) ≡ cs
hex_written cs (long, hex) =
    ap (map digit_of) (nibs_packs 8 (map value_of cs) (length-map cs value_of ∙ long) (map_below 16 value_of value_below cs))
    ∙ digits_written cs ((classes_printed.1 cs).0 hex)
