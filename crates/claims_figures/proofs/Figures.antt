-- The figures, computed.
-- Assumes nothing.
use Prim.Native.Nat.{ℕ, zero, suc}
use native.Mathlib.Omega.{arith}
use mathlib.Core.Path.{◌≡◌, refl, ap, subst}
use mathlib.Core.List.{List, [], ◌∷◌}
use lib.ListN.{length, get_or, drop}
use Rattle.nibbles.specs.Nibbles.{nibs, packs, xors, every, leading}
use Rattle.alphabet.specs.Alphabet.{all_of, value_of}
use Rattle.codes.specs.Codes.{code_of}
use Rattle.blocks.specs.Blocks.{contents, read_row, write_row}
use Rattle.blockcalls.specs.BlockCalls.{read_block, write_block}
use Rattle.validation.specs.Validation.{shape_of, validation_row, validation_block}
use Rattle.naturals.specs.Naturals.{natural_pin}
use Rattle.ibm3624.specs.Ibm3624.{differences}
use Rattle.offsets.specs.Offsets.{offset_judged, digits_judged}
use Rattle.pvvdigits.specs.PvvDigits.{those, pvv_of}
use Rattle.pvvinput.specs.PvvInput.{input_row}
use Rattle.pvv.specs.Pvv.{pvv_given, pvv_input, pvv_made}
use Rattle.claims_figures.specs.Figures.{AsPrinted, figures, AllFigures}

-- the first n of a list, one by one
abbrev firsts : ℕ → List ℕ → List ℕ
firsts zero xs = []
firsts (suc n) xs = get_or xs 0 0 ∷ firsts n (drop 1 xs)

-- are all of it, where it has n
all_of_lem : (n : ℕ) (xs : List ℕ) → length xs ≡ n → firsts n xs ≡ xs
all_of_lem zero [] e = refl
all_of_lem zero (x ∷ xs) e = absurd (omega arith)
all_of_lem (suc n) [] e = absurd (omega arith)
all_of_lem (suc n) (x ∷ xs) e = ap (λ (t : List ℕ). x ∷ t) (all_of_lem n xs (omega arith))

-- the table, with as many unknown bytes as each block wants
computed : (rest tail : List ℕ) → AsPrinted (figures (firsts 7 rest) (firsts 4 tail))
unfolding nibs packs xors every leading all_of value_of code_of contents read_row write_row read_block write_block shape_of validation_row validation_block natural_pin differences offset_judged digits_judged those pvv_of input_row pvv_given pvv_input pvv_made
computed rest tail = refl

pub all_figures : AllFigures
all_figures rest tail r t = subst (λ (x : List ℕ). AsPrinted (figures x tail)) (all_of_lem 7 rest r) (subst (λ (y : List ℕ). AsPrinted (figures (firsts 7 rest) y)) (all_of_lem 4 tail t) (computed rest tail))
