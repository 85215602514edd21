-- What is judged before what, by the calls of offset, verdict and PVV that read a block.
use Rattle.std.specs.Prelude.{ℕ, ◌≤◌, ◌<◌, ◌≡◌, List, [], ◌∷◌, Bool, true, false, length}
use Rattle.alphabet.specs.Alphabet.{all_of}
use Rattle.alphabet.specs.declared.Class.TheVariants.{Digit}
use Rattle.numbers.specs.Numbers.{Outcome, done, refused}
use Rattle.numbers.specs.Promise.{quietly}
use Rattle.numbers.specs.declared.Refusal.{Refusal}
use Rattle.numbers.specs.declared.Refusal.TheVariants.{Check81}
use Rattle.pins.specs.Pins.{account_of}
use Rattle.blockcalls.specs.BlockCalls.{read_block}
use Rattle.offsettexts.specs.OffsetTexts.{offset_presented}
use Rattle.offsets.specs.Offsets.{offset_made}
use Rattle.verdicts.specs.Verdicts.{offset_verdict}
use Rattle.pvv.specs.Pvv.{presented, pvv_input, pvv_verdict}
use Rattle.claims_blocks.specs.Codes.{of_contents, left_to, OneOfThem}

-- ---- the format

-- what is judged behind the format: 25, 81 or 01 too
abbrev pub of_offset : List ℕ
of_offset = 0 ∷ 20 ∷ 24 ∷ 25 ∷ 81 ∷ []

abbrev pub of_verdict : List ℕ
of_verdict = 0 ∷ 1 ∷ 20 ∷ 24 ∷ 25 ∷ 81 ∷ []

abbrev pub of_pvv_verdict : List ℕ
of_pvv_verdict = 0 ∷ 1 ∷ 20 ∷ 24 ∷ []

-- a call, over the code that it takes: whatever the code, the number is one that the code leaves
abbrev pub TakesCode : List ℕ → (ℕ → Outcome (List ℕ)) → Type 0
TakesCode behind call = (code : ℕ) → OneOfThem (quietly (call code)) (left_to behind code)

-- where all that is judged before the format is right, each call answers 23 exactly outside the nine and 69 exactly for the three
abbrev pub OffsetCodesExactly : Type 0
OffsetCodesExactly =
    ((variable : Bool) (check : ℕ) (block account digits table enciphered : List ℕ) (room : ℕ)
    → 12 ≤ room → 4 ≤ check → check ≤ 12 → length block ≡ 8 → account_of account ≡ done digits → length table ≡ 16 → length enciphered ≡ 8
    → TakesCode of_offset (λ code. offset_made variable code check block account table enciphered room))
    × ((variable : Bool) (check : ℕ) (block account digits table enciphered offset os : List ℕ)
    → 4 ≤ check → check ≤ 12 → length block ≡ 8 → account_of account ≡ done digits → length table ≡ 16 → length enciphered ≡ 8 → offset_presented offset ≡ done os
    → TakesCode of_verdict (λ code. offset_verdict variable code check block account table enciphered offset))
    × ((index : ℕ) (block account digits : List ℕ) (room : ℕ) → 8 ≤ room → length block ≡ 8 → account_of account ≡ done digits → index ≤ 6
    → TakesCode of_contents (λ code. pvv_input code index block account room))
    × ((index : ℕ) (block account digits enciphered pvv ps : List ℕ)
    → length block ≡ 8 → account_of account ≡ done digits → index ≤ 6 → length enciphered ≡ 8 → presented pvv ≡ done ps
    → TakesCode of_pvv_verdict (λ code. pvv_verdict code index block account enciphered pvv))

-- ---- the block, then 81

-- a call, over its variable length: what the reading call refuses it refuses for the same reason, and 81 comes only behind a PIN
abbrev pub ReadsFirst : (Bool → Outcome (List ℕ)) → ℕ → Outcome (List ℕ) → Type 0
ReadsFirst call check read = ((variable : Bool) (q : Refusal) → read ≡ refused q → call variable ≡ refused q)
    × ((pin : List ℕ) → read ≡ done pin → length pin < check → call false ≡ refused Check81)

-- whatever the check length: the offset call and the verdict on an offset
abbrev pub BlockBefore81 : Type 0
BlockBefore81 = (code check : ℕ) (block account table enciphered : List ℕ)
    → 4 ≤ check → check ≤ 12 → length table ≡ 16 → all_of Digit table ≡ true → length enciphered ≡ 8
    → ((room : ℕ) → 12 ≤ room → ReadsFirst (λ variable. offset_made variable code check block account table enciphered room) check (read_block code block account 12))
    × ((offset os : List ℕ) → offset_presented offset ≡ done os
    → ReadsFirst (λ variable. offset_verdict variable code check block account table enciphered offset) check (read_block code block account 12))
