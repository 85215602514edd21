-- The verdict of "Offset, verdict and PVV" on an offset that is presented, in its order of judging.
use Rattle.std.specs.Prelude.{ℕ, List, Bool, length, eqb}
use Rattle.nibbles.specs.Nibbles.{same}
use Rattle.numbers.specs.Numbers.{Outcome, and_then, unless}
use Rattle.numbers.specs.declared.Refusal.TheVariants.{Check81}
use Rattle.codes.specs.Codes.{code_of, format_of, block_width}
use Rattle.pins.specs.Pins.{account_of, account_field, sized, verdict}
use Rattle.blocks.specs.Blocks.{read_row}
use Rattle.naturals.specs.Naturals.{table_sized, table_of, natural_of}
use Rattle.ibm3624.specs.Ibm3624.{check_length, covers, offset_of}
use Rattle.offsettexts.specs.OffsetTexts.{offset_presented}

-- the call, one chain in the paper's order: 15 for check length, block, account, table, enciphered block and presented offset; 23 and 69;
-- 25; the block; then "m over n or an offset without exactly m digits is 81. The verdict is 00 exactly when the offset is the one defined
-- above, otherwise 01"
unfoldable pub offset_verdict : Bool → ℕ → ℕ → List ℕ → List ℕ → List ℕ → List ℕ → List ℕ → Outcome (List ℕ)
offset_verdict variable code check block account table enciphered offset =
    and_then (check_length check)
    (λ _. and_then (sized (block_width code) block)
    (λ ns. and_then (account_of account)
    (λ digits. and_then (table_sized table)
    (λ _. and_then (sized 8 enciphered)
    (λ es. and_then (offset_presented offset)
    (λ os. and_then (format_of (code_of code))
    (λ f. and_then (table_of table)
    (λ ts. and_then (read_row f (account_field digits) ns)
    (λ pin. and_then (covers variable check (length pin))
    (λ m. and_then (unless Check81 (eqb (length os) m) m)
    (λ _. verdict (same os (offset_of m pin (natural_of (length pin) ts es))))))))))))))

-- the part of it behind the block, on a PIN and its natural PIN
abbrev pub verdict_on : Bool → ℕ → List ℕ → List ℕ × List ℕ → Outcome (List ℕ)
verdict_on variable check os (pin, natural) =
    and_then (covers variable check (length pin))
    (λ m. and_then (unless Check81 (eqb (length os) m) m)
    (λ _. verdict (same os (offset_of m pin natural))))
