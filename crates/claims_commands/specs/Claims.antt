-- Demand 3: "Offsets tell a host the digit differences and nothing else about a PIN of known length but its place on the weak list."
use Rattle.std.specs.Prelude.{ℕ, ◌<◌, ◌≡◌, ◌↔◌, ◌⊎◌, List, [], ◌∷◌, ◌++◌, Bool, true, false, length, take}
use Rattle.numbers.specs.Numbers.{Outcome, done, refused, and_then, number_of}
use Rattle.numbers.specs.Promise.{Said, Does}
use Rattle.numbers.specs.declared.Refusal.{Refusal}
use Rattle.numbers.specs.declared.Reply.{Reply}
use Rattle.settings.specs.declared.Settings.{Settings}
use Rattle.ibm3624.specs.Ibm3624.{covers, offset_of}
use Rattle.frame.specs.Frame.{opening}
use Rattle.frame.specs.declared.Code.{Code}
use Rattle.frame.specs.declared.Code.TheVariants as code
use Rattle.fields.specs.Fields.{read, Ruling}
use Rattle.weak.specs.Weak.{is_on, weak_pins}
use Rattle.bkfields.specs.BkFields.{bk_fields}
use Rattle.bkfinish.specs.BkFinish.{bk_finish}
use Rattle.bkfields.specs.declared.Bk.{Bk}
use Rattle.responses.specs.Responses.{responding}
use Rattle.commands.specs.Commands.{answered}
use Rattle.claims_blocks.specs.Promises.{listed}
use Rattle.claims_alike.specs.Alike.{Layout, fields, Outside}
use Rattle.claims_commands.specs.Runs.{code_in, Reached, AlikeBut, Reaches, Reads}

-- commands that are both read, and are alike outside the block's characters, are read alike
abbrev pub ReadAlike : Type 0
ReadAlike = (restricted : Bool) (s t : List ℕ) (at : ℕ) (p q : Bk) (past past' : ℕ)
    → bk_fields restricted s at ≡ read p past → bk_fields restricted t at ≡ read q past' → AlikeBut p.sealed.block s t
    → p ≡ q

-- what every later command needs: responses agree exactly when what the command finished with does. For any type of it, any text that
-- tells the fine ones apart, any two commands with equal openings, and any bytes behind the text
abbrev pub ResponsesTell : Type 1
ResponsesTell = (A : Type 0) (Fine : A → Type 0) (text : A → List ℕ)
    → ((a b : A) → Fine a → Fine b → text a ≡ text b → a ≡ b)
    → (header : ℕ) (s t tail : List ℕ)
    → ((number : ℕ) → opening header s number ≡ opening header t number)
    → (o o' : Outcome A) → ((a : A) → o ≡ done a → Fine a) → ((a : A) → o' ≡ done a → Fine a)
    → (responding header s (and_then o (λ a. done (text a ++ tail))) ≡ responding header t (and_then o' (λ a. done (text a ++ tail))))
    ↔ (o ≡ o')

-- the bytes alone tell the number, where the numbers have two digits
abbrev pub BytesTell : Type 0
BytesTell = (header : ℕ) (s t : List ℕ) → ((number : ℕ) → opening header s number ≡ opening header t number)
    → (o o' : Outcome (List ℕ)) → ((q : Refusal) → o ≡ refused q → number_of q < 100) → ((q : Refusal) → o' ≡ refused q → number_of q < 100)
    → (responding header s o).written ≡ (responding header t o').written → responding header s o ≡ responding header t o'

-- what a run says that gets as far as its block: the response to what it finishes with, by its text, and a trailer of what is looked at
abbrev pub saying : {n : ℕ} {F X A S R B : Type 0} → Layout n F X A S → (List ℕ → A → R → Outcome B) → (B → List ℕ) → (S → List ℕ) → ℕ → List ℕ → A → R → Said ℕ
saying c finish text trail header s a rows = responding header s (and_then (finish s a rows) (λ b. done (text b ++ trail (c.seen a s))))

-- so two runs of any command, alike outside the block's characters, say alike exactly when they finish alike. For any finish, any text
-- of what it comes to, and any trailer. That a command's answer is what is said here is proved over the shape of commands
abbrev pub AnswersTell : Type 1
AnswersTell = (n : ℕ) (F X A S R B : Type 0) (c : Layout n F X A S) (finish : List ℕ → A → R → Outcome B)
    (Fine : B → Type 0) (text : B → List ℕ) (trail : S → List ℕ) → ((x y : B) → Fine x → Fine y → text x ≡ text y → x ≡ y)
    → (command : Code) (box box' : Ruling R) (header room room' : ℕ) (s t : List ℕ)
    (r : Reached command (fields c) box header room s) (r' : Reached command (fields c) box' header room' t)
    → Outside n (c.place r.fields) s t
    → ((x : B) → finish s r.fields r.rows ≡ done x → Fine x) → ((x : B) → finish t r'.fields r'.rows ≡ done x → Fine x)
    → (saying c finish text trail header s r.fields r.rows ≡ saying c finish text trail header t r'.fields r'.rows)
    ↔ (finish s r.fields r.rows ≡ finish t r'.fields r'.rows)

-- BK's commands, alike outside the block's characters, answer alike exactly when their finish does
abbrev pub AnswerAlike : Type 0
AnswerAlike = (settings : Settings) (g h : Bool) (room room' : ℕ) (s t block block' enciphered enciphered' : List ℕ)
    (r : Reaches settings g h room s block enciphered) (r' : Reaches settings g h room' t block' enciphered')
    → AlikeBut r.fields.sealed.block s t
    → (answered settings g h s block enciphered room ≡ answered settings g h t block' enciphered' room')
    ↔ (bk_finish settings.variable s r.fields r.rows ≡ bk_finish settings.variable t r'.fields r'.rows)

-- "both PINs are weak, or neither is and the differences agree over the covered digits": PIN digit less natural digit, modulo ten, over
-- the last m digits. Each PIN is looked for on its own command's list
abbrev pub SameTold : ℕ → List (List ℕ) → List (List ℕ) → List ℕ × List ℕ → List ℕ × List ℕ → Type 0
SameTold m weak weak' p q =
    ((is_on p.0 weak ≡ true) × (is_on q.0 weak' ≡ true))
    ⊎ ((is_on p.0 weak ≡ false) × (is_on q.0 weak' ≡ false) × (offset_of m p.0 p.1 ≡ offset_of m q.0 q.1))

-- two runs agree in something exactly when the same is told of their PINs with natural PINs: where their commands are alike outside the
-- block's characters, the PINs have equal length, and m digits are covered, since the check length fits or the offset has variable length
abbrev pub Tells : Bool → List ℕ → List ℕ → Bk → Bk → List ℕ × List ℕ → List ℕ × List ℕ → Type 0 → Type 0
Tells variable s t p q pair pair' agree = (m : ℕ) → AlikeBut p.sealed.block s t → length pair.0 ≡ length pair'.0
    → covers variable p.offsetting.check (length pair.0) ≡ done m
    → agree ↔ SameTold m (weak_pins p.weak s) (weak_pins q.weak t) pair pair'

-- "two runs answer alike exactly when both PINs are weak, or neither is and the differences agree over the covered digits": number,
-- count and bytes of the two responses, for any rooms that suffice, any deciphered PIN blocks and any enciphered validation blocks
abbrev pub OffsetsTellDifferences : Type 0
OffsetsTellDifferences = (settings : Settings) (g h : Bool) (room room' : ℕ) (s t block block' enciphered enciphered' : List ℕ)
    (r : Reads settings g h room s block enciphered) (r' : Reads settings g h room' t block' enciphered')
    → Tells settings.variable s t r.reaches.fields r'.reaches.fields r.found r'.found
    (answered settings g h s block enciphered room ≡ answered settings g h t block' enciphered' room')

-- the same of the bytes alone: a host that sees nothing else is told no less
abbrev pub BytesTellDifferences : Type 0
BytesTellDifferences = (settings : Settings) (g h : Bool) (room room' : ℕ) (s t block block' enciphered enciphered' : List ℕ)
    (r : Reads settings g h room s block enciphered) (r' : Reads settings g h room' t block' enciphered')
    → Tells settings.variable s t r.reaches.fields r'.reaches.fields r.found r'.found
    ((answered settings g h s block enciphered room).written ≡ (answered settings g h t block' enciphered' room').written)

-- whom this covers: a run of BK reads its PIN exactly when its answer is 00, 81 or 86
abbrev pub read_numbers : List ℕ
read_numbers = 0 ∷ 81 ∷ 86 ∷ []

abbrev pub ReadsExactly : Type 0
ReadsExactly = (settings : Settings) (g h : Bool) (room : ℕ) (s block enciphered : List ℕ) → code_in settings s ≡ code.Bk
    → (listed (answered settings g h s block enciphered room).number read_numbers ≡ true) ↔ Reads settings g h room s block enciphered

-- so of two returns of the answering call to BKs with these numbers, as its promise describes them: each has read its PIN, and the
-- numbers and the bytes that are counted agree exactly when the same is told
abbrev pub ReturnsTellDifferences : Type 0
ReturnsTellDifferences = (settings : Settings) (g h : Bool) (s t block block' enciphered enciphered' before before' after after' : List ℕ) (reply reply' : Reply)
    → code_in settings s ≡ code.Bk → code_in settings t ≡ code.Bk
    → Does (answered settings g h s block enciphered (length before)) before reply after
    → Does (answered settings g h t block' enciphered' (length before')) before' reply' after'
    → listed reply.number read_numbers ≡ true → listed reply'.number read_numbers ≡ true
    → (r : Reads settings g h (length before) s block enciphered) × (r' : Reads settings g h (length before') t block' enciphered')
    × Tells settings.variable s t r.reaches.fields r'.reaches.fields r.found r'.found
    ((reply.number ≡ reply'.number) × (take reply.written after ≡ take reply'.written after'))
