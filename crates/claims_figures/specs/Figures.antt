-- "Figures from the bench": P1 to P12 as one table under one claim. Account 400000123456 and PIN 34567, unless said.
use Rattle.std.specs.Prelude.{ℕ, ◌≡◌, List, [], ◌∷◌, ◌++◌, map, false, length, replicate}
use Rattle.numbers.specs.Numbers.{Outcome}
use Rattle.numbers.specs.Promise.{Said, quietly}
use Rattle.blockcalls.specs.BlockCalls.{read_block, write_block}
use Rattle.validation.specs.Validation.{validation_block}
use Rattle.naturals.specs.Naturals.{natural_pin}
use Rattle.offsets.specs.Offsets.{offset_made, offset_of_digits}
use Rattle.pvv.specs.Pvv.{pvv_input, pvv_made}
use Rattle.claims_blocks.specs.Figures.{usual_account, usual_pin, long_pin, block_p1, block_p6}
use Rattle.claims_offsets.specs.Figures.{block_p2, table_p9, beginning_p9, enciphered_p9, validation_p12}

-- a figure: what the calls of its case say, and what the bench prints
pub record Figure : Type 0 where
  pub given : List (Said ℕ)
  pub said : List (Said ℕ)

-- every figure of a table is as printed
abbrev pub AsPrinted : List Figure → Type 0
AsPrinted table = map (λ (x : Figure). x.given) table ≡ map (λ (x : Figure). x.said) table

-- a number as the host and the server meet it, and what is written with it
abbrev pub says : ℕ → List ℕ → Said ℕ
says number written = record { number = number; written = written }

-- a call, and its number and what it writes
abbrev pub gives : Outcome (List ℕ) → ℕ → List ℕ → Figure
gives call number written = record {
  given = quietly call ∷ [];
  said = says number written ∷ [];
}

-- a block that is written, with fill bytes 00, and that reads back
abbrev pub written : ℕ → List ℕ → List ℕ → Figure
written code pin block = record {
  given = quietly (write_block code pin usual_account (replicate 8 0) 8) ∷ quietly (read_block code block usual_account 12) ∷ [];
  said = says 0 block ∷ says 0 pin ∷ [];
}

-- a block of format 34 that is not read, and its number; the offset call gives it too, under a check length that is 81 for most PINs
abbrev pub unread : List ℕ → ℕ → Figure
unread block number = record {
  given = quietly (read_block 34 block usual_account 12) ∷ quietly (offset_made false 34 12 block usual_account table_p9 enciphered_p9 12) ∷ [];
  said = says number [] ∷ says number [] ∷ [];
}

-- the offset of the PIN of P2 against P9, for a check length
abbrev pub offset_p9 : List ℕ → ℕ → Outcome (List ℕ)
offset_p9 tail m = offset_made false 1 m block_p2 usual_account table_p9 (beginning_p9 ++ tail) 12

-- fill bytes whose nibbles are their own places
abbrev pub counting_fill : List ℕ
counting_fill = 0x01 ∷ 0x23 ∷ 0x45 ∷ 0x67 ∷ 0x89 ∷ 0xAB ∷ 0xCD ∷ 0xEF ∷ []

-- P1 to P12, over what follows the 2D of P7 and the four bytes of P9; blocks are bytes, PINs digits, offsets and PVVs characters
abbrev pub figures : List ℕ → List ℕ → List Figure
figures rest tail =
    -- P1
    written 35 usual_pin block_p1
    -- P2
    ∷ written 1 usual_pin block_p2
    -- P3
    ∷ written 47 usual_pin (0x35 ∷ 0x34 ∷ 0x16 ∷ 0x7A ∷ 0xAA ∷ 0xB8 ∷ 0x9E ∷ 0xFC ∷ [])
    -- P4
    ∷ written 5 usual_pin (0x15 ∷ 0x34 ∷ 0x56 ∷ 0x70 ∷ 0x00 ∷ 0x00 ∷ 0x00 ∷ 0x00 ∷ [])
    -- P5
    ∷ written 3 usual_pin (0x34 ∷ 0x56 ∷ 0x7F ∷ 0xFF ∷ 0xFF ∷ 0xFF ∷ 0xFF ∷ 0xFF ∷ [])
    -- P6
    ∷ written 34 long_pin block_p6
    -- P7
    ∷ unread (0x23 ∷ 0x12 ∷ 0x3F ∷ 0xFF ∷ 0xFF ∷ 0xFF ∷ 0xFF ∷ 0xFF ∷ []) 24
    ∷ unread (0x2D ∷ rest) 24
    -- P8
    ∷ unread (0x24 ∷ 0x12 ∷ 0x3A ∷ 0xFF ∷ 0xFF ∷ 0xFF ∷ 0xFF ∷ 0xFF ∷ []) 20
    -- P9
    ∷ gives (natural_pin 5 table_p9 (beginning_p9 ++ tail) 12) 0 (9 ∷ 5 ∷ 3 ∷ 2 ∷ 0 ∷ [])
    ∷ gives (offset_p9 tail 4) 0 (0x39 ∷ 0x32 ∷ 0x34 ∷ 0x37 ∷ replicate 8 0x46)
    ∷ gives (offset_p9 tail 5) 0 (0x34 ∷ 0x39 ∷ 0x32 ∷ 0x34 ∷ 0x37 ∷ replicate 7 0x46)
    ∷ gives (offset_p9 tail 6) 81 []
    -- P10
    ∷ gives (offset_of_digits false 4 (4 ∷ 5 ∷ 6 ∷ 7 ∷ 8 ∷ []) (0 ∷ 6 ∷ 4 ∷ 3 ∷ 1 ∷ []) 12) 0 (0x39 ∷ 0x32 ∷ 0x34 ∷ 0x37 ∷ replicate 8 0x46)
    -- P11
    ∷ gives (pvv_made (0x0A ∷ 0x5F ∷ 0xC3 ∷ 0xE1 ∷ 0x7B ∷ 0x2D ∷ 0x94 ∷ 0x88 ∷ []) 4) 0 (0x30 ∷ 0x35 ∷ 0x33 ∷ 0x31 ∷ [])
    ∷ gives (pvv_made (0xAB ∷ 0xCD ∷ 0xEF ∷ 0xAB ∷ 0xCD ∷ 0xEF ∷ 0x1A ∷ 0xB2 ∷ []) 4) 0 (0x31 ∷ 0x32 ∷ 0x30 ∷ 0x31 ∷ [])
    ∷ gives (pvv_made (replicate 8 0xFF) 4) 0 (0x35 ∷ 0x35 ∷ 0x35 ∷ 0x35 ∷ [])
    -- P12
    ∷ gives (validation_block validation_p12 usual_account 8) 0 (0x01 ∷ 0x23 ∷ 0x45 ∷ 0x67 ∷ 0x89 ∷ 0xA2 ∷ 0x34 ∷ 0x56 ∷ [])
    -- no input of a PVV is printed; this one follows its sentence by hand: 00000123456, index 1, 3456
    ∷ gives (pvv_input 1 1 block_p2 usual_account 8) 0 (0x00 ∷ 0x00 ∷ 0x01 ∷ 0x23 ∷ 0x45 ∷ 0x61 ∷ 0x34 ∷ 0x56 ∷ [])
    -- no fill but 00 is printed; these follow its sentence by hand: PIN 1234, and the fill nibbles 6 to F behind it, in 05 and in 47
    ∷ gives (write_block 5 (1 ∷ 2 ∷ 3 ∷ 4 ∷ []) usual_account counting_fill 8) 0 (0x14 ∷ 0x12 ∷ 0x34 ∷ 0x67 ∷ 0x89 ∷ 0xAB ∷ 0xCD ∷ 0xEF ∷ [])
    ∷ gives (write_block 47 (1 ∷ 2 ∷ 3 ∷ 4 ∷ []) usual_account counting_fill 8) 0 (0x34 ∷ 0x12 ∷ 0x74 ∷ 0xAB ∷ 0xCD ∷ 0xFD ∷ 0x9F ∷ 0x9B ∷ [])
    ∷ []

-- every figure of the bench is as printed, whatever follows where it gives the beginning of a block
abbrev pub AllFigures : Type 0
AllFigures = (rest tail : List ℕ) → length rest ≡ 7 → length tail ≡ 4 → AsPrinted (figures rest tail)
