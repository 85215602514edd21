-- The calls of "Offset, verdict and PVV" that the IBM 3624 method answers, each in its order of judging.
use Rattle.std.specs.Prelude.{ℕ, List, Bool, length, ℤ, leb}
use Rattle.numbers.specs.Numbers.{Outcome, done, and_then, unless}
use Rattle.numbers.specs.declared.Refusal.TheVariants.{Room901}
use Rattle.codes.specs.Codes.{code_of, format_of, block_width}
use Rattle.formats.specs.declared.Format.{Format}
use Rattle.pins.specs.Pins.{pin_handed, account_of, account_field, sized}
use Rattle.blocks.specs.Blocks.{read_row}
use Rattle.naturals.specs.Naturals.{table_sized, table_of, natural_of, natural_handed}
use Rattle.ibm3624.specs.Ibm3624.{check_length, covers, covered, offset_of}
use Rattle.offsettexts.specs.OffsetTexts.{offset_text}

-- ---- the calls, each one chain in the paper's order

-- the offset's digits, from a block: 901; 15 for check length, block, account, table and enciphered block; 23 and 69; 25; the block; 81
unfoldable pub offset_judged : Bool → ℕ → ℕ → List ℕ → List ℕ → List ℕ → List ℕ → ℕ → Outcome (List ℕ)
offset_judged variable code check block account table enciphered room =
    and_then (unless Room901 (leb 12 room) room)
    (λ _. and_then (check_length check)
    (λ _. and_then (sized (block_width code) block)
    (λ ns. and_then (account_of account)
    (λ digits. and_then (table_sized table)
    (λ _. and_then (sized 8 enciphered)
    (λ es. and_then (format_of (code_of code))
    (λ f. and_then (table_of table)
    (λ ts. and_then (read_row f (account_field digits) ns)
    (λ pin. and_then (covers variable check (length pin))
    (λ m. done (offset_of m pin (natural_of (length pin) ts es))))))))))))

-- the offset's digits, from digits: 901; 15 for the check length; the PIN; the natural PIN; 81
unfoldable pub digits_judged : Bool → ℕ → List ℕ → List ℕ → ℕ → Outcome (List ℕ)
digits_judged variable check pin natural room =
    and_then (unless Room901 (leb 12 room) room)
    (λ _. and_then (check_length check)
    (λ _. and_then (pin_handed pin)
    (λ ps. and_then (natural_handed (length ps) natural)
    (λ ns. and_then (covers variable check (length ps))
    (λ m. done (offset_of m ps ns))))))

-- the teacher's view: the covered differences, unreduced, judged as the offset is
unfoldable pub differences_of : Bool → ℕ → List ℕ → List ℕ → ℕ → Outcome (List ℤ)
differences_of variable check pin natural room =
    and_then (unless Room901 (leb 12 room) room)
    (λ _. and_then (check_length check)
    (λ _. and_then (pin_handed pin)
    (λ ps. and_then (natural_handed (length ps) natural)
    (λ ns. and_then (covers variable check (length ps))
    (λ m. done (covered m ps ns))))))

-- the text of an offset that was made
abbrev pub spelt : Outcome (List ℕ) → Outcome (List ℕ)
spelt o = and_then o (λ ds. done (offset_text ds))

-- the call that makes an offset from a block, and the one that makes it from digits
abbrev pub offset_made : Bool → ℕ → ℕ → List ℕ → List ℕ → List ℕ → List ℕ → ℕ → Outcome (List ℕ)
offset_made variable code check block account table enciphered room = spelt (offset_judged variable code check block account table enciphered room)

abbrev pub offset_of_digits : Bool → ℕ → List ℕ → List ℕ → ℕ → Outcome (List ℕ)
offset_of_digits variable check pin natural room = spelt (digits_judged variable check pin natural room)

-- ---- the parts of those chains that other calls and commands share

-- 15: check length, block, account, table and enciphered block; the rows of block, account and enciphered block
unfoldable pub given : ℕ → ℕ → List ℕ → List ℕ → List ℕ → List ℕ → Outcome (List ℕ × List ℕ × List ℕ)
given code check block account table enciphered =
    and_then (check_length check)
    (λ _. and_then (sized (block_width code) block)
    (λ ns. and_then (account_of account)
    (λ digits. and_then (table_sized table)
    (λ _. and_then (sized 8 enciphered)
    (λ es. done (ns, digits, es))))))

-- the block: the PIN and its natural PIN
unfoldable pub pin_with_natural : Format → List ℕ → List ℕ × List ℕ × List ℕ → Outcome (List ℕ × List ℕ)
pin_with_natural f ts (ns, digits, es) =
    and_then (read_row f (account_field digits) ns)
    (λ pin. done (pin, natural_of (length pin) ts es))

-- 23 and 69; 25; the block
unfoldable pub pin_and_natural : ℕ → List ℕ → List ℕ × List ℕ × List ℕ → Outcome (List ℕ × List ℕ)
pin_and_natural code table rows =
    and_then (format_of (code_of code))
    (λ f. and_then (table_of table)
    (λ ts. pin_with_natural f ts rows))

-- 15 for the check length; the PIN; the natural PIN
unfoldable pub digits_given : ℕ → List ℕ → List ℕ → Outcome (List ℕ × List ℕ)
digits_given check pin natural =
    and_then (check_length check)
    (λ _. and_then (pin_handed pin)
    (λ ps. and_then (natural_handed (length ps) natural)
    (λ ns. done (ps, ns))))

-- 81, and the offset over the covered digits
abbrev pub offset_for : Bool → ℕ → List ℕ × List ℕ → Outcome (List ℕ)
offset_for variable check (pin, natural) = and_then (covers variable check (length pin)) (λ m. done (offset_of m pin natural))
