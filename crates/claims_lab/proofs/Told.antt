-- Demand 3, of the product: the core's laws at what each run's keys make.
-- Assumes nothing.
use Prim.Native.Nat.{ℕ}
use mathlib.Core.Path.{◌≡◌, refl, sym, ◌∙◌, subst}
use mathlib.Core.List.{List}
use mathlib.Core.Bool.{Bool, true, false}
use lib.ListN.{length}
use Rattle.numbers.specs.Numbers.{done, refused, and_then}
use Rattle.settings.specs.declared.Settings.{Settings}
use Rattle.fields.specs.Fields.{Ruling, pointing, unpointed}
use Rattle.keybox.specs.KeyBox.{slices, parities, boxed}
use Rattle.commands.specs.Commands.{answered}
use Rattle.lab.specs.Lab.{lab_answered}
use Rattle.claims_commands.specs.Runs.{Reads}
use Rattle.claims_commands.specs.Claims.{Tells}
use Rattle.claims_commands.proofs.Differences.{offsets_tell_differences}
use Rattle.claims_commands.proofs.Bytes.{bytes_tell_differences}
use Rattle.claims_commands.proofs.PinsRead.{reads_exactly}
use Rattle.claims_verification.proofs.Told.{verdicts_tell_no_more, verdicts_tell_one_answer}
use Rattle.claims_lab.specs.Told.{core_call, LabReadsExactly, LabOffsetsTellDifferences, LabBytesTellDifferences, LabVerdictsTellNoMore, LabVerdictsTellOneAnswer}

-- ---- what is taken of the key box has good parities

judged_good : {A : Type 0} (o : Ruling A) (g h : Bool) (rows : A) → and_then o (λ x. and_then (unpointed (parities g h)) (λ _. done x)) ≡ done rows → (g ≡ true) × (h ≡ true)
unfolding parities
judged_good (done x) true true rows e = (refl, refl)
judged_good (done x) true false rows e = (cc, cc)
judged_good (done x) false h rows e = (cc, cc)
judged_good (refused q) g h rows e = (cc, cc)

pub boxed_good : (end : ℕ) (g h : Bool) (block enciphered : List ℕ) (rows : List ℕ × List ℕ) → boxed end g h block enciphered ≡ done rows → (g ≡ true) × (h ≡ true)
unfolding boxed
boxed_good end g h block enciphered rows e = judged_good (pointing 0 end (slices block enciphered)) g h rows e

-- ---- of BK

-- the core's law has the parities of both runs equal; those of runs that reach their PINs are
module _ (settings : Settings) (s t block block' enciphered enciphered' : List ℕ) (room room' : ℕ) where
  -- what the law says of two runs, each with parities of its own
  abbrev Told : Bool → Bool → Bool → Bool → (Bool → Bool → Type 0) → Type 0
  Told g h g' h' Agree = (r : Reads settings g h room s block enciphered) (r' : Reads settings g' h' room' t block' enciphered')
      → Tells settings.variable s t r.reaches.fields r'.reaches.fields r.found r'.found (Agree g' h')

  own_parities : (g h g' h' : Bool) (Agree : Bool → Bool → Type 0) → Told g h g h Agree → Told g h g' h' Agree
  own_parities g h g' h' Agree law r r' =
      let here = boxed_good (length s) g h block enciphered r.reaches.rows r.reaches.boxed in
      let there = boxed_good (length t) g' h' block' enciphered' r'.reaches.rows r'.reaches.boxed in
      subst (λ (x : Bool). Told g h x h' Agree) (here.0 ∙ sym there.0) (subst (λ (x : Bool). Told g h g x Agree) (here.1 ∙ sym there.1) law) r r'

pub lab_reads_exactly : LabReadsExactly
unfolding lab_answered
lab_reads_exactly settings a coded = let c = core_call settings a in reads_exactly settings c.pin_key_good c.pvk_good c.room c.command c.block c.enciphered coded

pub lab_offsets_tell_differences : LabOffsetsTellDifferences
unfolding lab_answered
lab_offsets_tell_differences settings a b =
    let c = core_call settings a in
    let d = core_call settings b in
    own_parities settings c.command d.command c.block d.block c.enciphered d.enciphered c.room d.room c.pin_key_good c.pvk_good d.pin_key_good d.pvk_good
    (λ g h. answered settings c.pin_key_good c.pvk_good c.command c.block c.enciphered c.room ≡ answered settings g h d.command d.block d.enciphered d.room)
    (offsets_tell_differences settings c.pin_key_good c.pvk_good c.room d.room c.command d.command c.block d.block c.enciphered d.enciphered)

pub lab_bytes_tell_differences : LabBytesTellDifferences
unfolding lab_answered
lab_bytes_tell_differences settings a b =
    let c = core_call settings a in
    let d = core_call settings b in
    own_parities settings c.command d.command c.block d.block c.enciphered d.enciphered c.room d.room c.pin_key_good c.pvk_good d.pin_key_good d.pvk_good
    (λ g h. (answered settings c.pin_key_good c.pvk_good c.command c.block c.enciphered c.room).written ≡ (answered settings g h d.command d.block d.enciphered d.room).written)
    (bytes_tell_differences settings c.pin_key_good c.pvk_good c.room d.room c.command d.command c.block d.block c.enciphered d.enciphered)

-- ---- of DA and EA: the core's laws have parities of each run's own

pub lab_verdicts_tell_no_more : LabVerdictsTellNoMore
unfolding lab_answered
lab_verdicts_tell_no_more w settings a b = verdicts_tell_no_more w settings (core_call settings a) (core_call settings b)

pub lab_verdicts_tell_one_answer : LabVerdictsTellOneAnswer
unfolding lab_answered
lab_verdicts_tell_one_answer w settings a b = verdicts_tell_one_answer w settings (core_call settings a) (core_call settings b)
