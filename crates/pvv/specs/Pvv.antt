-- "Offset, verdict and PVV": the calls of the ABA PVV.
use Rattle.std.specs.Prelude.{ℕ, List, map, ◌&&◌, length, leb, eqb}
use Rattle.nibbles.specs.Nibbles.{packs, same}
use Rattle.alphabet.specs.Alphabet.{all_of, value_of, characters}
use Rattle.alphabet.specs.declared.Class.TheVariants.{Digit}
use Rattle.numbers.specs.Numbers.{Outcome, done, and_then, unless}
use Rattle.numbers.specs.declared.Refusal.TheVariants.{Field15, Room901}
use Rattle.codes.specs.Codes.{code_of, format_of, block_width}
use Rattle.pins.specs.Pins.{account_of, account_field, sized, verdict}
use Rattle.blocks.specs.Blocks.{read_row}
use Rattle.pvvdigits.specs.PvvDigits.{pvv_of}
use Rattle.pvvinput.specs.PvvInput.{input_row, key_index}

-- "a presented PVV that is not four digits is 15"
abbrev pub presented : List ℕ → Outcome (List ℕ)
presented cs = unless Field15 (eqb (length cs) 4 && all_of Digit cs) (map value_of cs)

-- ---- the calls, each one chain in the paper's order

-- the call that makes the input: 901; 15 for block, account and index; 23 and 69; the block
unfoldable pub pvv_input : ℕ → ℕ → List ℕ → List ℕ → ℕ → Outcome (List ℕ)
pvv_input code index block account room =
    and_then (unless Room901 (leb 8 room) room)
    (λ _. and_then (sized (block_width code) block)
    (λ ns. and_then (account_of account)
    (λ digits. and_then (key_index index)
    (λ k. and_then (format_of (code_of code))
    (λ f. and_then (read_row f (account_field digits) ns)
    (λ pin. done (packs (input_row digits k pin))))))))

-- the call that makes the PVV: 901, 15
unfoldable pub pvv_made : List ℕ → ℕ → Outcome (List ℕ)
pvv_made enciphered room =
    and_then (unless Room901 (leb 4 room) room)
    (λ _. and_then (sized 8 enciphered)
    (λ es. done (characters (pvv_of es))))

-- the verdict: 15 for block, account, index, enciphered input and PVV; 23 and 69; the block; "00 exactly for equal digits, otherwise 01"
unfoldable pub pvv_verdict : ℕ → ℕ → List ℕ → List ℕ → List ℕ → List ℕ → Outcome (List ℕ)
pvv_verdict code index block account enciphered pvv =
    and_then (sized (block_width code) block)
    (λ ns. and_then (account_of account)
    (λ digits. and_then (key_index index)
    (λ _. and_then (sized 8 enciphered)
    (λ es. and_then (presented pvv)
    (λ ps. and_then (format_of (code_of code))
    (λ f. and_then (read_row f (account_field digits) ns)
    (λ _. verdict (same (pvv_of es) ps))))))))

-- ---- the parts of those chains that the calls share

-- 15: block, account and key index; the block's nibbles, the account's digits and the index
unfoldable pub pvv_given : ℕ → ℕ → List ℕ → List ℕ → Outcome (List ℕ × List ℕ × ℕ)
pvv_given code index block account =
    and_then (sized (block_width code) block)
    (λ ns. and_then (account_of account)
    (λ digits. and_then (key_index index)
    (λ k. done (ns, digits, k))))

-- 23 and 69; the block: the PIN
abbrev pub pin_read : ℕ → List ℕ × List ℕ × ℕ → Outcome (List ℕ)
pin_read code (ns, digits, k) = and_then (format_of (code_of code)) (λ f. read_row f (account_field digits) ns)
