-- The contract of the lab's call says of a return what the laws over its definition ask of it.
-- Assumes nothing.
use Prim.Native.Nat.{ℕ}
use mathlib.Core.Path.{◌≡◌, refl, sym, ◌∙◌, subst}
use mathlib.Core.List.{List, [], ◌∷◌}
use mathlib.Core.Bool.{true}
use Rattle.nibbles.specs.Nibbles.{every}
use Rattle.numbers.specs.Promise.{Does}
use Rattle.settings.specs.declared.Settings.{Settings}
use Rattle.lab.specs.Lab.{lab_answered, lab_replying}
use Rattle.face.specs.Face.{reply_in, pointer_in}
use Rattle.claims_blocks.specs.Promises.{listed}
use Rattle.claims_commands.specs.Claims.{read_numbers}
use Rattle.claims_commands.proofs.Fields.{listed_passes}
use Rattle.claims_commands.proofs.PinsRead.{returns_agree}
use Rattle.claims_verification.proofs.Told.{returns_tell_verdicts}
use Rattle.claims_places.proofs.Claims.{one_fault, numbers_show_nothing}
use Rattle.claims_lab.specs.Told.{lab_answer, core_call}
use Rattle.claims_lab.proofs.Told.{lab_reads_exactly, lab_offsets_tell_differences}
use Rattle.claims_returns.specs.LabReturns.{LabReturn, settings, command, before, after, run_of, LabAnswersShowNothing, AllowedLabReturnsTellDifferences, AllowedLabReturnsTellVerdicts}
use Rattle.claims_returns.proofs.Returns.{these, quiet_numbers, quiet, by_three}

-- ---- what the server is shown

pub lab_answers_show_nothing : LabAnswersShowNothing
unfolding lab_answered lab_replying
lab_answers_show_nothing a n =
    let c = core_call (settings a) (run_of a) in
    let same = a.allowed.0.number ∙ one_fault.1 (settings a) c.pin_key_good c.pvk_good c.command c.block c.enciphered c.room in
    a.allowed.1 ∙ numbers_show_nothing.1 (settings a) c.pin_key_good c.pvk_good c.command c.block c.enciphered c.room (subst (λ (k : ℕ). listed k quiet_numbers ≡ true) same (quiet a.reply.number n))

-- so any two returns with some of these numbers show the same
shown_alike : (numbers : List ℕ) → every (λ m. listed m these) numbers ≡ true → (a b : LabReturn) → listed a.reply.number numbers ≡ true → listed b.reply.number numbers ≡ true
    → pointer_in a.reply ≡ pointer_in b.reply
shown_alike numbers some a b e e' =
    let among : (n : ℕ) → listed n numbers ≡ true → listed n these ≡ true = λ n. listed_passes (λ m. listed m these) n numbers some in
    lab_answers_show_nothing a (among a.reply.number e) ∙ sym (lab_answers_show_nothing b (among b.reply.number e'))

-- ---- the claims

-- what a return was promised, under settings that are its own
promised : (x : Settings) (b : LabReturn) → settings b ≡ x → Does (lab_answer x (run_of b)) (before b) (reply_in b.reply) (after b)
promised x b p = subst (λ (y : Settings). Does (lab_answer y (run_of b)) (before b) (reply_in b.reply) (after b)) p b.allowed.0

pub allowed_lab_returns_tell_differences : AllowedLabReturnsTellDifferences
unfolding every
allowed_lab_returns_tell_differences a b p coded coded' e e' =
    let x = settings a in
    let here = promised x a refl in
    let there = promised x b (sym p) in
    let r = (lab_reads_exactly x (run_of a) coded).0 (subst (λ (n : ℕ). listed n read_numbers ≡ true) here.number e) in
    let r' = (lab_reads_exactly x (run_of b) coded').0 (subst (λ (n : ℕ). listed n read_numbers ≡ true) there.number e') in
    let agree = returns_agree _ _ (before a) (before b) (after a) (after b) (reply_in a.reply) (reply_in b.reply) here there in (
      r,
      r',
      λ m alike long covered.
          let tell = lab_offsets_tell_differences x (run_of a) (run_of b) r r' m alike long covered in
          by_three (shown_alike read_numbers refl a b e e') (λ y. tell.0 (agree.0 y), λ y. agree.1 (tell.1 y)),
    )

pub allowed_lab_returns_tell_verdicts : AllowedLabReturnsTellVerdicts
unfolding every lab_answered
allowed_lab_returns_tell_verdicts w a b p coded coded' e e' =
    let x = settings a in
    let (r, r', tells) = returns_tell_verdicts w x (core_call x (run_of a)) (core_call x (run_of b)) (before a) (before b) (after a) (after b) (reply_in a.reply) (reply_in b.reply) coded coded' (promised x a refl) (promised x b (sym p)) e e' in
    (r, r', λ alike. by_three (shown_alike (0 ∷ 1 ∷ []) refl a b e e') (tells alike))
