-- The contract says of a return what the law over the definitions asks of it.
-- Assumes nothing.
use Prim.Native.Nat.{ℕ}
use mathlib.Core.Path.{◌≡◌, refl, sym, ◌∙◌, subst}
use mathlib.Core.Logic.{◌↔◌}
use mathlib.Core.List.{List, [], ◌∷◌}
use mathlib.Core.Bool.{Bool, true}
use lib.ListN.{length, take}
use Rattle.nibbles.specs.Nibbles.{every}
use Rattle.numbers.specs.Promise.{Does}
use Rattle.numbers.specs.declared.Reply.{Reply}
use Rattle.settings.specs.declared.Settings.{Settings}
use Rattle.frame.specs.declared.Code.TheVariants.{Bk}
use Rattle.commands.specs.Commands.{answered}
use Rattle.face.specs.Face.{reply_in, pointer_in}
use Rattle.claims_blocks.specs.Promises.{listed}
use Rattle.claims_commands.specs.Runs.{code_in, Reads}
use Rattle.claims_commands.specs.Claims.{Tells, read_numbers}
use Rattle.claims_commands.proofs.Fields.{listed_passes}
use Rattle.claims_commands.proofs.PinsRead.{reads_exactly, returns_tell_differences}
use Rattle.claims_verification.specs.Calls.{answer}
use Rattle.claims_verification.proofs.Told.{returns_tell_verdicts}
use Rattle.claims_places.proofs.Claims.{one_fault, numbers_show_nothing}
use Rattle.claims_lab.proofs.Told.{boxed_good}
use Rattle.claims_returns.specs.Returns.{Return, IsBk, Answers, AnswersShowNothing, AllowedReturnsTellDifferences, call_of, AllowedReturnsTellVerdicts, settings, pin_key_good, pvk_good, command, block, enciphered, before, after}

-- two returns, each under settings and parities of its own
abbrev Told : Settings → Bool → Bool → Settings → Bool → Bool → Type 0
Told x g h x' g' h' = (s t block block' enciphered enciphered' before before' after after' : List ℕ) (reply reply' : Reply)
    → code_in x s ≡ Bk → code_in x' t ≡ Bk
    → Does (answered x g h s block enciphered (length before)) before reply after
    → Does (answered x' g' h' t block' enciphered' (length before')) before' reply' after'
    → listed reply.number read_numbers ≡ true → listed reply'.number read_numbers ≡ true
    → (r : Reads x g h (length before) s block enciphered) × (r' : Reads x' g' h' (length before') t block' enciphered')
    × Tells x.variable s t r.reaches.fields r'.reaches.fields r.found r'.found
    ((reply.number ≡ reply'.number) × (take reply.written after ≡ take reply'.written after'))

told : (x x' : Settings) (g g' h h' : Bool) → x ≡ x' → g ≡ g' → h ≡ h' → Told x g h x' g' h'
told x x' g g' h h' p q k =
    subst (λ (y : Settings). Told x g h y g' h') p
    (subst (λ (c : Bool). Told x g h x c h') q
    (subst (λ (c : Bool). Told x g h x g c) k (returns_tell_differences x g h)))

-- with these numbers the parities are good
good : (a : Return) → IsBk a → Answers a → (pin_key_good a ≡ true) × (pvk_good a ≡ true)
good a coded e =
    let r = (reads_exactly (settings a) (pin_key_good a) (pvk_good a) (length (before a)) (command a) (block a) (enciphered a) coded).0
    (subst (λ (n : ℕ). listed n read_numbers ≡ true) a.allowed.0.number e) in
    boxed_good (length (command a)) (pin_key_good a) (pvk_good a) (block a) (enciphered a) r.reaches.rows r.reaches.boxed

-- ---- what the server is shown

abbrev pub these : List ℕ
these = 0 ∷ 1 ∷ 81 ∷ 86 ∷ []

-- they are among the numbers with which nothing is shown
abbrev pub quiet_numbers : List ℕ
quiet_numbers = 0 ∷ 1 ∷ 10 ∷ 11 ∷ 20 ∷ 24 ∷ 68 ∷ 81 ∷ 86 ∷ 901 ∷ 902 ∷ []

pub quiet : (n : ℕ) → listed n these ≡ true → listed n quiet_numbers ≡ true
unfolding every
quiet n e = listed_passes (λ m. listed m quiet_numbers) n these refl e

pub answers_show_nothing : AnswersShowNothing
answers_show_nothing a n =
    let same = a.allowed.0.number ∙ one_fault.1 (settings a) (pin_key_good a) (pvk_good a) (command a) (block a) (enciphered a) (length (before a)) in
    a.allowed.1 ∙ numbers_show_nothing.1 (settings a) (pin_key_good a) (pvk_good a) (command a) (block a) (enciphered a) (length (before a)) (subst (λ (k : ℕ). listed k quiet_numbers ≡ true) same (quiet a.reply.number n))

-- so any two returns with some of these numbers show the same
shown_alike : (numbers : List ℕ) → every (λ m. listed m these) numbers ≡ true → (a b : Return) → listed a.reply.number numbers ≡ true → listed b.reply.number numbers ≡ true
    → pointer_in a.reply ≡ pointer_in b.reply
shown_alike numbers some a b e e' =
    let among : (n : ℕ) → listed n numbers ≡ true → listed n these ≡ true = λ n. listed_passes (λ m. listed m these) n numbers some in
    answers_show_nothing a (among a.reply.number e) ∙ sym (answers_show_nothing b (among b.reply.number e'))

-- what two members tell, all three tell
pub by_three : {A B C D : Type 0} → C → (A × B) ↔ D → (A × B × C) ↔ D
by_three c told = (λ (a, b, _). told.0 (a, b), λ d. ((told.1 d).0, (told.1 d).1, c))

-- ---- the claims

pub allowed_returns_tell_differences : AllowedReturnsTellDifferences
unfolding every
allowed_returns_tell_differences a b p coded coded' e e' =
    let (r, r', tells) = told (settings a) (settings b) (pin_key_good a) (pin_key_good b) (pvk_good a) (pvk_good b) p ((good a coded e).0 ∙ sym (good b coded' e').0) ((good a coded e).1 ∙ sym (good b coded' e').1)
    (command a) (command b) (block a) (block b) (enciphered a) (enciphered b) (before a) (before b) (after a) (after b) (reply_in a.reply) (reply_in b.reply) coded coded' a.allowed.0 b.allowed.0 e e' in
    (r, r', λ m alike long covered. by_three (shown_alike read_numbers refl a b e e') (tells m alike long covered))

pub allowed_returns_tell_verdicts : AllowedReturnsTellVerdicts
unfolding every
allowed_returns_tell_verdicts w a b p coded coded' e e' =
    let there = subst (λ (x : Settings). Does (answer x (call_of b)) (before b) (reply_in b.reply) (after b)) (sym p) b.allowed.0 in
    let (r, r', tells) = returns_tell_verdicts w (settings a) (call_of a) (call_of b) (before a) (before b) (after a) (after b) (reply_in a.reply) (reply_in b.reply) coded coded' a.allowed.0 there e e' in
    (r, r', λ alike. by_three (shown_alike (0 ∷ 1 ∷ []) refl a b e e') (tells alike))
