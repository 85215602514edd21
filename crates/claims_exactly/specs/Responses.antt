-- What the two calls say to the bytes that a host sends, where they are a command of the paper's and where they are not, with at least
-- the paper's 8 and 65 bytes of room. What is said exactly is said of any reply that keeps the call's promise.
use Rattle.std.specs.Prelude.{ℕ, ◌≤◌, ◌≡◌, ◌↔◌, ◌⊎◌, List, [], ◌∷◌, ◌++◌, map, Bool, true, not, length, eqb}
use Rattle.std.proofs.Common.{inl, inr}
use Rattle.nibbles.specs.Nibbles.{nibs, packs, same}
use Rattle.alphabet.specs.Alphabet.{value_of}
use Rattle.numbers.specs.Numbers.{Outcome, done, and_then, unless}
use Rattle.numbers.specs.Promise.{Said, Does, quietly}
use Rattle.numbers.specs.declared.Refusal.TheVariants.{Unverified01, Check81, Weak86}
use Rattle.numbers.specs.declared.Reply.{Reply}
use Rattle.settings.specs.declared.Settings.{Settings}
use Rattle.formats.specs.declared.Format.{Format}
use Rattle.pins.specs.Pins.{account_field}
use Rattle.blocks.specs.Blocks.{write_row}
use Rattle.ibm3624.specs.Ibm3624.{covers, offset_of}
use Rattle.offsettexts.specs.OffsetTexts.{offset_text}
use Rattle.offsets.specs.Offsets.{pin_with_natural, offset_for}
use Rattle.weak.specs.Weak.{is_on}
use Rattle.commands.specs.Commands.{asked, answered}
use Rattle.texts.specs.Characters.{printed}
use Rattle.texts.specs.Texts.{trailer_text}
use Rattle.texts_data.specs.DataTexts.{validation_nibbles, weak_pins_of}
use Rattle.texts_stages.specs.StageTexts.{SealedFields, InputFields}
use Rattle.claims_blocks.specs.Claims.{IsPin, IsRow, IsBytes}
use Rattle.claims_blocks.specs.Promises.{listed}
use Rattle.claims_commands.specs.Runs.{Verifying, terminal, zone}
use Rattle.claims_exactly.specs.BkText.{BkParts, IsBk}
use Rattle.claims_exactly.specs.VerifyText.{verify_code, pin_key_rule_of, VerifyParts, IsVerify}
use Rattle.claims_exactly.specs.Claims.{bk_command, verify_command}
use Rattle.claims_exactly.specs.Sent.{IsHeader, sent, PapersCommand, HasFrame, response}

-- a header, `BK` and a BK command of the paper's
abbrev pub PapersBk : Settings → List ℕ → Type 0
PapersBk settings s = PapersCommand (printed "BK") (bk_command settings.restricted) settings.header s

abbrev pub bk_sent : Settings → List ℕ → BkParts → List ℕ
bk_sent settings header p = sent header (printed "BK") (bk_command settings.restricted) p

-- a header, `DA` or `EA`, and such a command
abbrev pub PapersVerify : Verifying → Settings → List ℕ → Type 0
PapersVerify w settings s = PapersCommand (verify_code w) (verify_command w) settings.header s

abbrev pub verify_sent : Verifying → List ℕ → VerifyParts → List ℕ
verify_sent w header p = sent header (verify_code w) (verify_command w) p

-- one of the paper's commands: a BK, a DA or an EA
abbrev pub OneOfThePapers : Settings → List ℕ → Type 0
OneOfThePapers settings s = PapersBk settings s ⊎ ((w : Verifying) × PapersVerify w settings s)

-- the account's digits
abbrev pub account_digits : InputFields → List ℕ
account_digits i = map value_of i.account

-- ---- the asking call

-- it writes the block of the parts' validation data
abbrev pub block_of : InputFields → List ℕ
block_of i = packs (validation_nibbles (account_digits i) i.validation)

abbrev pub AsksParts : Type 0
AsksParts = (settings : Settings) (room : ℕ) (header : List ℕ) (p : BkParts) → 8 ≤ room → IsHeader settings.header header → IsBk settings.restricted p
    → asked settings (bk_sent settings header p) room ≡ done (block_of p.inputs)

abbrev pub VerifyAsksParts : Type 0
VerifyAsksParts = (w : Verifying) (settings : Settings) (room : ℕ) (header : List ℕ) (p : VerifyParts) → 8 ≤ room → IsHeader settings.header header → IsVerify (pin_key_rule_of w) p
    → asked settings (verify_sent w header p) room ≡ done (block_of p.inputs)

-- it answers 00 exactly when the bytes are a command of the paper's
abbrev pub AskedExactly : Type 0
AskedExactly = (settings : Settings) (s before after : List ℕ) (r : Reply) → 8 ≤ length before
    → Does (quietly (asked settings s (length before))) before r after → (r.number ≡ 0) ↔ OneOfThePapers settings s

-- ---- the answering call, with good parities and slices of 8

-- "the block (20 or 24)", over the parts: the PIN and its natural PIN
abbrev pub pair_of : SealedFields → InputFields → List ℕ → List ℕ → Outcome (List ℕ × List ℕ)
pair_of b i block enciphered = pin_with_natural b.format (map value_of i.table) (nibs block, account_digits i, nibs enciphered)

-- "the block (20 or 24), 81, 86", over the parts: the offset's digits. It is said again and not shared, so that the order is held twice
abbrev pub finish_of : Bool → BkParts → List ℕ → List ℕ → Outcome (List ℕ)
finish_of variable p block enciphered =
    and_then (pair_of p.sealed p.inputs block enciphered)
    (λ pair. and_then (offset_for variable p.inputs.check pair)
    (λ offset. unless Weak86 (not (is_on pair.0 (weak_pins_of p.weak))) offset))

-- header, `BL` and the number; behind 00 the offset, filled with F, and "a trailer, with its 19 mark"
abbrev pub response_to : List ℕ → BkParts → Outcome (List ℕ) → Said ℕ
response_to header p o = response header (printed "BL") (and_then o (λ offset. done (offset_text offset ++ trailer_text p.end.trailer)))

-- the response to a command of the paper's hangs on header, parts, slices and the one setting alone
abbrev pub AnswersParts : Type 0
AnswersParts = (settings : Settings) (block enciphered : List ℕ) (room : ℕ) (header : List ℕ) (p : BkParts) → length block ≡ 8 → length enciphered ≡ 8
    → 65 ≤ room → IsHeader settings.header header → IsBk settings.restricted p
    → answered settings true true (bk_sent settings header p) block enciphered room ≡ response_to header p (finish_of settings.variable p block enciphered)

-- of DA and EA "the block (20 or 24), 81" and the verdict, over the parts: "m over n or an offset without exactly m digits is 81. The
-- verdict is 00 exactly when the offset is the one defined above, otherwise 01"
abbrev pub verdict_of : Bool → VerifyParts → List ℕ → List ℕ → Outcome (List ℕ)
verdict_of variable p block enciphered =
    and_then (pair_of p.sealed p.inputs block enciphered)
    (λ pair. and_then (covers variable p.inputs.check (length pair.0))
    (λ m. and_then (unless Check81 (eqb (length p.offset) m) m)
    (λ _. unless Unverified01 (same (map value_of p.offset) (offset_of m pair.0 pair.1)) [])))

-- "so BK answers BL": DA answers DB, EA answers EB
abbrev pub verdict_code : Verifying → List ℕ
verdict_code terminal = printed "DB"
verdict_code zone = printed "EB"

-- header, that code and the number; behind 00 the trailer with its mark and nothing else, and behind 01 or a refusal nothing
abbrev pub verdict_to : Verifying → List ℕ → VerifyParts → Outcome (List ℕ) → Said ℕ
verdict_to w header p o = response header (verdict_code w) (and_then o (λ _. done (trailer_text p.end.trailer)))

abbrev pub VerifyAnswersParts : Type 0
VerifyAnswersParts = (w : Verifying) (settings : Settings) (block enciphered : List ℕ) (room : ℕ) (header : List ℕ) (p : VerifyParts) → length block ≡ 8 → length enciphered ≡ 8
    → 65 ≤ room → IsHeader settings.header header → IsVerify (pin_key_rule_of w) p
    → answered settings true true (verify_sent w header p) block enciphered room ≡ verdict_to w header p (verdict_of settings.variable p block enciphered)

-- the block holds a PIN: some PIN of 4 to 12 digits writes it, under some fill and the account
abbrev pub Holds : Format → List ℕ → List ℕ → Type 0
Holds f account block = (pin : List ℕ) × (fill : List ℕ) × IsPin pin × IsRow fill × (write_row f (account_field account) pin fill ≡ nibs block)

-- so with what a command of the paper's says of it
abbrev pub HoldsFor : (settings : Settings) (s : List ℕ) → OneOfThePapers settings s → List ℕ → Type 0
HoldsFor settings s (inl c) block = Holds c.parts.sealed.format (account_digits c.parts.inputs) block
HoldsFor settings s (inr (w, c)) block = Holds c.parts.sealed.format (account_digits c.parts.inputs) block

-- what is answered where a PIN is read; that BK never has 01 and DA and EA never 86 is told by their code (`AnswerNumbers`)
abbrev pub behind_the_pin : List ℕ
behind_the_pin = 0 ∷ 1 ∷ 81 ∷ 86 ∷ []

-- it answers one of these exactly when the bytes are a command of the paper's and the block holds a PIN
abbrev pub AnsweredExactly : Type 0
AnsweredExactly = (settings : Settings) (s block enciphered before after : List ℕ) (r : Reply) → length block ≡ 8 → IsBytes block → length enciphered ≡ 8
    → 65 ≤ length before → Does (answered settings true true s block enciphered (length before)) before r after
    → (listed r.number behind_the_pin ≡ true)
    ↔ ((command : OneOfThePapers settings s) × HoldsFor settings s command block)

-- ---- bytes that are not such a command

-- they never get past the fields: one number of the frame's, the code's and the fields', whatever the key box answers
abbrev pub NeverPastTheFields : Type 0
NeverPastTheFields = (settings : Settings) (s : List ℕ) → (OneOfThePapers settings s → ⊥)
    → (n : ℕ) × (listed n (3 ∷ 15 ∷ 23 ∷ 25 ∷ 26 ∷ 29 ∷ 68 ∷ 69 ∷ 902 ∷ []) ≡ true)
    × ((pin_key_good pvk_good : Bool) (block enciphered before after : List ℕ) (r : Reply) → 65 ≤ length before
    → Does (answered settings pin_key_good pvk_good s block enciphered (length before)) before r after → r.number ≡ n)

-- where there is no frame the number is 902, and nowhere else
abbrev pub FramedExactly : Type 0
FramedExactly = (settings : Settings) (pin_key_good pvk_good : Bool) (s block enciphered before after : List ℕ) (r : Reply) → 65 ≤ length before
    → Does (answered settings pin_key_good pvk_good s block enciphered (length before)) before r after
    → (r.number ≡ 902) ↔ (HasFrame settings.header s → ⊥)
