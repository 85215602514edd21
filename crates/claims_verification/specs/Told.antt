-- Demand 3, of DA and EA: a verdict tells whether the offset is the one defined, and nothing else about a PIN. Nothing is said of the
-- PINs' lengths: commands that are alike outside the PIN block present the same offset, and a run that is compared covers as many digits
-- as that has, so that runs over PINs of different lengths cover the same number of digits.
use Rattle.std.specs.Prelude.{ℕ, ◌≡◌, ◌↔◌, ◌⊎◌, List, [], ◌∷◌, true, take}
use Rattle.numbers.specs.Promise.{Does}
use Rattle.numbers.specs.declared.Reply.{Reply}
use Rattle.settings.specs.declared.Settings.{Settings}
use Rattle.ibm3624.specs.Ibm3624.{offset_of}
use Rattle.offsettexts.specs.OffsetTexts.{offset_text}
use Rattle.fields.specs.Fields.{read}
use Rattle.verifyfields.specs.VerifyFields.{verify_fields}
use Rattle.verifyfields.specs.declared.Verification.{Verification}
use Rattle.verifyfinish.specs.VerifyFinish.{verify_finish}
use Rattle.claims_blocks.specs.Promises.{listed}
use Rattle.claims_commands.specs.Runs.{code_in, AlikeBut, Verifying, code_for, key_for}
use Rattle.claims_verification.specs.Calls.{Call, answer, Reaches, shown_in, ReachesVerdict}

-- ---- as far as the block

-- DAs, or EAs, that are both read, and are alike outside the block's characters, are read alike
abbrev pub VerifyReadAlike : Type 0
VerifyReadAlike = (w : Verifying) (s t : List ℕ) (at : ℕ) (v v' : Verification) (past past' : ℕ)
    → verify_fields (key_for w) s at ≡ read v past → verify_fields (key_for w) t at ≡ read v' past' → AlikeBut v.sealed.block s t
    → v ≡ v'

-- and they answer alike exactly when they finish alike, also where they are refused for their block, or for 81
abbrev pub VerifyAnswerAlike : Type 0
VerifyAnswerAlike = (w : Verifying) (settings : Settings) (a b : Call) (r : Reaches w settings a) (r' : Reaches w settings b)
    → AlikeBut r.fields.sealed.block a.command b.command
    → (answer settings a ≡ answer settings b)
    ↔ (verify_finish settings.variable a.command r.fields r.rows ≡ verify_finish settings.variable b.command r'.fields r'.rows)

-- ---- as far as the verdict

-- the differences over the covered digits: PIN digit less natural digit, modulo ten, over the last m digits
abbrev pub defined : {w : Verifying} {settings : Settings} {a : Call} → ReachesVerdict w settings a → List ℕ
defined r = offset_of r.m r.finds.found.0 r.finds.found.1

-- the offset that is presented is the one defined
abbrev pub Verifies : {w : Verifying} {settings : Settings} {a : Call} → ReachesVerdict w settings a → Type 0
Verifies {a = a} r = shown_in a.command r.finds.reaches.fields ≡ offset_text (defined r)

-- both are, or neither is: one yes or no
abbrev pub SameVerdict : {w : Verifying} {settings : Settings} {a b : Call} → ReachesVerdict w settings a → ReachesVerdict w settings b → Type 0
SameVerdict r r' = (Verifies r × Verifies r') ⊎ ((Verifies r → ⊥) × (Verifies r' → ⊥))

-- "alike except for the sixteen characters of the enciphered PIN block"
abbrev pub Alike : {w : Verifying} {settings : Settings} {a b : Call} → ReachesVerdict w settings a → ReachesVerdict w settings b → Type 0
Alike {a = a} {b = b} r r' = AlikeBut r.finds.reaches.fields.sealed.block a.command b.command

-- two such runs cover the same number of digits, whatever their PINs' lengths
abbrev pub SameDigitsCovered : Type 0
SameDigitsCovered = (w : Verifying) (settings : Settings) (a b : Call) (r : ReachesVerdict w settings a) (r' : ReachesVerdict w settings b) → Alike r r' → r.m ≡ r'.m

-- where the differences agree over the covered digits, they answer alike: number, count and bytes, for any rooms that suffice, any
-- deciphered PIN blocks and any enciphered validation blocks
abbrev pub VerdictsTellNoMore : Type 0
VerdictsTellNoMore = (w : Verifying) (settings : Settings) (a b : Call) (r : ReachesVerdict w settings a) (r' : ReachesVerdict w settings b) → Alike r r'
    → defined r ≡ defined r'
    → answer settings a ≡ answer settings b

-- and they answer alike exactly when both verify or neither does; so do the bytes alone
abbrev pub VerdictsTellOneAnswer : Type 0
VerdictsTellOneAnswer = (w : Verifying) (settings : Settings) (a b : Call) (r : ReachesVerdict w settings a) (r' : ReachesVerdict w settings b) → Alike r r'
    → ((answer settings a ≡ answer settings b) ↔ SameVerdict r r')
    × (((answer settings a).written ≡ (answer settings b).written) ↔ SameVerdict r r')

-- so of two returns of the answering call with 00 or 01, as its promise describes them: each was compared, and the numbers and the bytes
-- that are counted agree exactly when both verify or neither does. The room may be any; in the call's promise it is the length of the buffer that is lent
abbrev pub ReturnsTellVerdicts : Type 0
ReturnsTellVerdicts = (w : Verifying) (settings : Settings) (a b : Call) (before before' after after' : List ℕ) (reply reply' : Reply)
    → code_in settings a.command ≡ code_for w → code_in settings b.command ≡ code_for w
    → Does (answer settings a) before reply after → Does (answer settings b) before' reply' after'
    → listed reply.number (0 ∷ 1 ∷ []) ≡ true → listed reply'.number (0 ∷ 1 ∷ []) ≡ true
    → (r : ReachesVerdict w settings a) × (r' : ReachesVerdict w settings b)
    × (Alike r r' → ((reply.number ≡ reply'.number) × (take reply.written after ≡ take reply'.written after')) ↔ SameVerdict r r')
