-- The calls of a command: "The order is 901, 902, 68, then the fields from the left".
use Rattle.std.specs.Prelude.{ℕ, ◌+◌, List, Bool, drop, leb}
use Rattle.numbers.specs.Numbers.{Outcome, done, refused, and_then, unless}
use Rattle.numbers.specs.Promise.{Said, quietly}
use Rattle.numbers.specs.declared.Refusal.TheVariants.{Code68, Room901}
use Rattle.settings.specs.declared.Settings.{Settings}
use Rattle.frame.specs.Frame.{framed, code_of}
use Rattle.frame.specs.declared.Code.{Code}
use Rattle.frame.specs.declared.Code.TheVariants.{Bk, Da, Ea, Other}
use Rattle.fields.specs.Fields.{Ruling, unpointed, heard}
use Rattle.responses.specs.Responses.{Payload, room_to_answer, answer_text, responding}
use Rattle.uses.specs.Uses.{terminal_key, zone_key}
use Rattle.bk.specs.Bk.{bk_ask, bk_extract, bk_answer}
use Rattle.verify.specs.Verify.{verify_ask, verify_extract, verify_answer}

-- "Output must have at least 65 bytes for the answering call, 8 for the asking call": the first stands with the responses
abbrev pub room_to_ask : ℕ
room_to_ask = 8

-- 16 for the PIN block's call, which writes 8
abbrev pub room_to_extract : ℕ
room_to_extract = 16

-- the command by its code: a code that is none of these is 68. Its fields begin behind the two bytes of the code. DA has a terminal's
-- PIN key, EA a zone's
unfoldable pub ask_by : Code → Settings → List ℕ → ℕ → Ruling (List ℕ)
ask_by Bk settings s fields = bk_ask settings s fields
ask_by Da settings s fields = verify_ask terminal_key s fields
ask_by Ea settings s fields = verify_ask zone_key s fields
ask_by Other settings s fields = unpointed (refused Code68)

unfoldable pub extract_by : Code → Settings → List ℕ → ℕ → Ruling (List ℕ)
extract_by Bk settings s fields = bk_extract settings s fields
extract_by Da settings s fields = verify_extract terminal_key s fields
extract_by Ea settings s fields = verify_extract zone_key s fields
extract_by Other settings s fields = unpointed (refused Code68)

unfoldable pub answer_by : Code → Settings → Bool → Bool → List ℕ → ℕ → List ℕ → List ℕ → Ruling (Payload × ℕ)
answer_by Bk settings pin_key_good pvk_good s fields block enciphered = bk_answer settings pin_key_good pvk_good s fields block enciphered
answer_by Da settings pin_key_good pvk_good s fields block enciphered = verify_answer terminal_key settings.variable pin_key_good pvk_good s fields block enciphered
answer_by Ea settings pin_key_good pvk_good s fields block enciphered = verify_answer zone_key settings.variable pin_key_good pvk_good s fields block enciphered
answer_by Other settings pin_key_good pvk_good s fields block enciphered = unpointed (refused Code68)

-- 901, 902: where the command's code stands
abbrev pub opened : ℕ → ℕ → ℕ → List ℕ → Outcome ℕ
opened least room header s = and_then (unless Room901 (leb least room) room) (λ _. framed header s)

-- the asking call: 901, 902, 68, the fields; then the block to be enciphered
unfoldable pub asking : Settings → List ℕ → ℕ → Ruling (List ℕ)
asking settings s room =
    and_then (unpointed (opened room_to_ask room settings.header s))
    (λ code. ask_by (code_of (drop code s)) settings s (code + 2))

-- what the server hears of it
abbrev pub asked : Settings → List ℕ → ℕ → Outcome (List ℕ)
asked settings s room = heard (asking settings s room)

-- the PIN block's call: 901, 902, 68, the fields as the asking call; then the PIN block's bytes
unfoldable pub extracting : Settings → List ℕ → ℕ → Ruling (List ℕ)
extracting settings s room =
    and_then (unpointed (opened room_to_extract room settings.header s))
    (λ code. extract_by (code_of (drop code s)) settings s (code + 2))

-- what the server hears of it
abbrev pub extracted : Settings → List ℕ → ℕ → Outcome (List ℕ)
extracted settings s room = heard (extracting settings s room)

-- what a command that has a frame answers: the bytes behind 00, or the fault
abbrev pub commanded : Settings → Bool → Bool → List ℕ → List ℕ → List ℕ → ℕ → Ruling (List ℕ)
commanded settings pin_key_good pvk_good s block enciphered code =
    and_then (answer_by (code_of (drop code s)) settings pin_key_good pvk_good s (code + 2) block enciphered)
    (λ answer. done (answer_text s answer))

-- "901 and 902 write nothing"; what comes behind them is said as it is
abbrev pub silently : Outcome (Said ℕ) → Said ℕ
silently (done said) = said
silently (refused q) = quietly (refused q)

-- the answering call: 901, 902, and from there on a response, whatever the number
unfoldable pub answered : Settings → Bool → Bool → List ℕ → List ℕ → List ℕ → ℕ → Said ℕ
answered settings pin_key_good pvk_good s block enciphered room =
    silently
    (and_then (opened room_to_answer room settings.header s)
    (λ code. done (responding settings.header s (heard (commanded settings pin_key_good pvk_good s block enciphered code)))))

-- the same with its fault: what stands behind 00, or the fault, whose field and place the server is shown
unfoldable pub replying : Settings → Bool → Bool → List ℕ → List ℕ → List ℕ → ℕ → Ruling (List ℕ)
replying settings pin_key_good pvk_good s block enciphered room =
    and_then (unpointed (opened room_to_answer room settings.header s))
    (λ code. commanded settings pin_key_good pvk_good s block enciphered code)
