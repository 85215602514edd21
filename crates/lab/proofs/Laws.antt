-- What a call of the core left in its buffer, and what a key makes of it.
-- Assumes nothing.
use Prim.Native.Nat.{ℕ, ◌≤◌}
use native.Mathlib.Omega.{arith}
use mathlib.Core.Path.{◌≡◌, refl, ◌∙◌, ap, ap₂, sym, subst}
use mathlib.Core.List.{List, [], ◌++◌, append-nil}
use mathlib.Core.Bool.{Bool, true, cond}
use lib.ListN.{length, take, drop}
use lib.Seq.{take_at, take_all}
use Rattle.numbers.specs.Numbers.{Outcome, done, refused}
use Rattle.numbers.specs.Promise.{Said, Does, quietly}
use Rattle.numbers.specs.declared.Reply.{Reply}
use Rattle.settings.specs.declared.Settings.{Settings}
use Rattle.answers.proofs.Laws.{sixteen_bytes}
use Rattle.fields.specs.Fields.{Ruling, heard}
use Rattle.fields.proofs.Rulings.{heard_done}
use Rattle.responses.proofs.Laws.{Blocky}
use Rattle.commands.specs.Commands.{asking, asked, extracting, extracted, answered, replying}
use Rattle.parity.specs.Parity.{odd_parity}
use Rattle.commands.proofs.Laws.{asked_block, extracted_block}
use Rattle.words.specs.Words.{in_bytes}
use Rattle.words.proofs.Words.{length_bytes}
use Rattle.ciphers.specs.Ciphers.{is_lab_key, triple_word, triple_block}
use Rattle.ciphers.specs.declared.Way.{Way}
use Rattle.lab.specs.Lab.{made_of, made_of_written, clear_block, validation_cipher, lab_answered, lab_replying}

-- ---- what the core hands out has eight bytes

abbrev pub Eight : Outcome (List ℕ) → Type 0
Eight o = (ws : List ℕ) → o ≡ done ws → length ws ≡ 8

eight : (o : Ruling (List ℕ)) (room : ℕ) → Blocky o room → Eight (heard o)
eight o room b ws e =
    let p = (b ws (heard_done o ws e)).1 in
    ap length p.2 ∙ sixteen_bytes p.0 p.1

pub extracted_eight : (settings : Settings) (s : List ℕ) (room : ℕ) → Eight (extracted settings s room)
extracted_eight settings s room = eight (extracting settings s room) room (extracted_block settings s room)

pub asked_eight : (settings : Settings) (s : List ℕ) (room : ℕ) → Eight (asked settings s room)
asked_eight settings s room = eight (asking settings s room) room (asked_block settings s room)

-- ---- its buffer afterwards

-- where nothing was written a key makes nothing of it
pub none_made : (o : Outcome (List ℕ)) → Eight o → (before after : List ℕ) (r : Reply) → Does (quietly o) before r after → r.written ≡ 0
    → (way : Way) (key : List ℕ) → [] ≡ made_of_written way key o
none_made (done ws) e before after r d z way key = absurd (let l : length ws ≡ 8 = e ws refl in let c : r.written ≡ length ws = d.count in omega arith)
none_made (refused q) e before after r d z way key = refl

-- else it makes of the first eight bytes what it makes of what was written
pub some_made : (o : Outcome (List ℕ)) → Eight o → (before after : List ℕ) (r : Reply) → Does (quietly o) before r after → (r.written ≡ 0 → ⊥)
    → (way : Way) (key : List ℕ) → made_of way key (take 8 after) ≡ made_of_written way key o
some_made (done ws) e before after r d z way key =
    ap (made_of way key) (ap (take 8) d.buffer ∙ take_at ws (drop (length ws) before) 8 (e ws refl))
some_made (refused q) e before after r d z way key = absurd (z d.count)

-- ---- what a key makes

-- eight bytes, with nothing behind them
pub lab_key : (way : Way) (key block : List ℕ) (w : ℕ) → is_lab_key key ≡ true → w ≡ triple_word way key block → take 8 (in_bytes 8 w) ++ [] ≡ made_of way key block
lab_key way key block w e ew =
    let l : length (in_bytes 8 w) ≤ 8 = rw (length_bytes 8 w) (omega arith) in
    append-nil (take 8 (in_bytes 8 w)) ∙ take_all 8 (in_bytes 8 w) l
    ∙ ap (in_bytes 8) ew ∙ sym (ap (λ (b : Bool). cond b (triple_block way key block) []) e)

-- ---- the core's answering call at what the keys made

pub says_as : (said said' : Said ℕ) {before after : List ℕ} {r : Reply} → said ≡ said' → Does said before r after → Does said' before r after
says_as said said' {before} {after} {r} e d = subst (λ (x : Said ℕ). Does x before r after) e d

module _ (settings : Settings) (s pin_key pvk clear cipher : List ℕ) (g h : Bool) (room : ℕ)
    (eg : g ≡ odd_parity pin_key) (eh : h ≡ odd_parity pvk) (ec : clear ≡ clear_block settings s pin_key) (ev : cipher ≡ validation_cipher settings s pvk) where
  pub answers_lab : answered settings g h s clear cipher room ≡ lab_answered settings s pin_key pvk room
  unfolding lab_answered
  answers_lab =
      ap₂ (λ (x y : Bool). answered settings x y s clear cipher room) eg eh
      ∙ ap₂ (λ (x y : List ℕ). answered settings (odd_parity pin_key) (odd_parity pvk) s x y room) ec ev

  pub replies_lab : replying settings g h s clear cipher room ≡ lab_replying settings s pin_key pvk room
  unfolding lab_replying
  replies_lab =
      ap₂ (λ (x y : Bool). replying settings x y s clear cipher room) eg eh
      ∙ ap₂ (λ (x y : List ℕ). replying settings (odd_parity pin_key) (odd_parity pvk) s x y room) ec ev
