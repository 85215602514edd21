-- The cores that the promises of the two calls reject: what the calls say there is computed.
-- Assumes nothing.
use Prim.Native.Nat.{ℕ, ◌+◌, ◌≤◌, ◌<◌}
use native.Mathlib.Omega.{arith}
use mathlib.Core.Path.{◌≡◌, refl, sym, ap, ◌∙◌}
use mathlib.Core.List.{List, [], ◌∷◌, ◌++◌}
use mathlib.Core.Bool.{Bool, true, false}
use lib.ListN.{length, get_or, drop, replicate, length-replicate, get_or-replicate, get_or-append}
use lib.Dec.{lit<}
use borrow.Author.Tests.{le-leb}
use Rattle.nibbles.specs.Nibbles.{nibs, packs, xors, every, leading, same}
use Rattle.alphabet.specs.Alphabet.{all_of, begins, value_of}
use Rattle.numbers.specs.Numbers.{Judged, Outcome, done, refused, and_then, number_of}
use Rattle.numbers.specs.Promise.{Said, Does, quietly}
use Rattle.numbers.specs.declared.Refusal.{Refusal}
use Rattle.numbers.specs.declared.Reply.{Reply}
use Rattle.settings.specs.Settings.{usually, restricted_to}
use Rattle.settings.specs.declared.Settings.{Settings}
use Rattle.codes.specs.Codes.{code_of}
use Rattle.blocks.specs.Blocks.{contents, read_row}
use Rattle.validation.specs.Validation.{shape_of, validation_row}
use Rattle.validation.proofs.Laws.{row_of_valid}
use Rattle.ibm3624.specs.Ibm3624.{differences}
use Rattle.offsets.specs.Offsets.{pin_with_natural}
use Rattle.frame.specs.Frame as frame
use Rattle.frame.specs.Frame.{is_framed, framed, opening}
use Rattle.frame.specs.declared.Code.{Code}
use Rattle.frame.specs.declared.Code.TheVariants.{Bk, Da, Ea, Other}
use Rattle.fields.specs.Fields.{read, onward, unpointed, heard, run, number, trailer}
use Rattle.fields.specs.declared.Fault.{Fault}
use Rattle.fields.proofs.Rulings.{heard_refused}
use Rattle.lmk.specs.Lmk.{lmk_field}
use Rattle.keys.specs.Keys.{key_type, hex_key, lettered, key}
use Rattle.weak.specs.Weak.{entries, is_on}
use Rattle.weakfield.specs.WeakField.{weak_field}
use Rattle.keybox.specs.KeyBox.{slices, parities, boxed}
use Rattle.responses.specs.Responses.{responding}
use Rattle.offsetting.proofs.Laws.{offsetting_held}
use Rattle.formatfield.specs.FormatField.{format_field}
use Rattle.validationfield.specs.ValidationField.{validation_field}
use Rattle.keyfields.specs.KeyFields.{key_pair, keys}
use Rattle.sealed.specs.Sealed.{sealed}
use Rattle.offsetting.specs.Offsetting.{offsetting, account_in, validation_in}
use Rattle.weaklist.specs.WeakList.{weak}
use Rattle.endings.specs.Endings.{end}
use Rattle.pairing.specs.Pairing.{asked_at}
use Rattle.bkfields.specs.BkFields.{bk_fields}
use Rattle.bk.specs.Bk.{bk_ask, bk_answer}
use Rattle.bkfinish.specs.BkFinish.{bk_finish}
use Rattle.bkfields.specs.declared.Bk as bk
use Rattle.commands.specs.Commands.{ask_by, answer_by, commanded, silently, asking, asked, answered}
use Rattle.claims_blocks.specs.Figures.{usual_account}
use Rattle.claims_blocks.specs.Promises.{Only00, Apart}
use Rattle.claims_offsets.specs.Figures.{block_p2, enciphered_p9}
use Rattle.claims_commands.specs.Cores.{command_of, other_account, enciphered_zeros, asks, answers, CommandsNotRefusing, CommandsNotFixed, CommandsNotSilent, PapersExchange, AnswerReadsTheFields}
use Rattle.fields.proofs.Reading.{onward_read, read_once}
use Rattle.claims_commands.proofs.Shapes.{answer_refuses}
use Rattle.claims_commands.proofs.Listing.{bk_shape}
use Rattle.claims_commands.proofs.Verifying.{verify_shape, parts}
use Rattle.verifyfields.specs.VerifyFields.{verify_fields}
use Rattle.verifyfields.specs.declared.Verification.{Verification}
use Rattle.uses.specs.declared.Use.{Use}
use Rattle.claims_commands.specs.Runs.{terminal, zone, key_for}
use Rattle.uses.specs.Uses.{pin_key, pvk}
use Rattle.keyfields.specs.declared.Keys.{Keys}
use Rattle.sealed.specs.declared.Sealed.{Sealed}
use Rattle.offsetting.specs.declared.Offsetting.{Offsetting}

-- ---- what an answer must be where a call says this

module _ (said : Said ℕ) (x : Said ℕ) (e : said ≡ x) where
  only_00 : (before : List ℕ) → x.number ≡ 0 → Only00 said before
  only_00 before z r after d = d.number ∙ ap (λ (y : Said ℕ). y.number) e ∙ z

  -- what is written stands in the buffer
  stands : (i : ℕ) → i < length x.written → (before after : List ℕ) (r : Reply) → Does said before r after → get_or after i 0 ≡ get_or x.written i 0
  stands i h before after r d = ap (λ (bs : List ℕ). get_or bs i 0) (rw e at d.buffer) ∙ get_or-append x.written (drop (length x.written) before) 0 i h

  -- so a byte that is not zero does not leave zeros
  not_zeros : (i : ℕ) → i < length x.written → (get_or x.written i 0 ≡ 0 → ⊥) → (room : ℕ) (r : Reply) → i < room → Does said (replicate room 0) r (replicate room 0) → ⊥
  not_zeros i h n room r k d = n (sym (stands i h (replicate room 0) (replicate room 0) r d) ∙ get_or-replicate room i 0 0 k)

-- where two calls say another byte at a place, no answer fits both
apart : (said said' x y : Said ℕ) → said ≡ x → said' ≡ y → (i : ℕ) → i < length x.written → i < length y.written
    → (get_or x.written i 0 ≡ get_or y.written i 0 → ⊥) → (before : List ℕ) → Apart said said' before
apart said said' x y e e' i h h' n before r after d d' = n (sym (stands said x e i h before after r d) ∙ stands said' y e' i h' before after r d')

-- ---- what the two calls say

-- the block of P12, but for its last byte, which has the account's last two digits
abbrev block_with : ℕ → Said ℕ
block_with last = record { number = 0; written = 0x01 ∷ 0x23 ∷ 0x45 ∷ 0x67 ∷ 0x89 ∷ 0xA2 ∷ 0x34 ∷ last ∷ [] }

-- "`HDR1BL009247FFFFFFFF`: header, response code, 00, offset", with four digits of offset
abbrev response : List ℕ → Said ℕ
response offset = record { number = 0; written = (0x48 ∷ 0x44 ∷ 0x52 ∷ 0x31 ∷ 0x42 ∷ 0x4C ∷ 0x30 ∷ 0x30 ∷ offset) ++ replicate 8 0x46 }

-- more room than enough changes nothing
ask_room : (settings : Settings) (s : List ℕ) (room : ℕ) → 8 ≤ room → asked settings s room ≡ asked settings s 8
unfolding asking
ask_room settings s room h = rw (le-leb 8 room h)

answer_room : (settings : Settings) (g h : Bool) (s block enciphered : List ℕ) (room : ℕ) → 65 ≤ room → answered settings g h s block enciphered room ≡ answered settings g h s block enciphered 65
unfolding answered
answer_room settings g h s block enciphered room k = rw (le-leb 65 room k)

-- computed: the block of each account
asks_said : (restricted : Bool) (before : List ℕ) → 8 ≤ length before → (asks restricted usual_account before ≡ block_with 0x56) × (asks restricted other_account before ≡ block_with 0x57)
unfolding packs leading all_of begins value_of code_of is_framed run number trailer key_type hex_key lettered key lmk_field weak_field key_pair keys format_field sealed shape_of validation_field offsetting weak end bk_fields
    validation_row bk_ask ask_by asking
asks_said true before h = (
  ap quietly (ask_room (restricted_to usually true) (command_of usual_account) (length before) h) ∙ refl,
  ap quietly (ask_room (restricted_to usually true) (command_of other_account) (length before) h) ∙ refl,
)
asks_said false before h = (
  ap quietly (ask_room (restricted_to usually false) (command_of usual_account) (length before) h) ∙ refl,
  ap quietly (ask_room (restricted_to usually false) (command_of other_account) (length before) h) ∙ refl,
)

-- computed: the response for each enciphered block. Of zeros the natural PIN is zeros, so the offset is the PIN's last digits
answers_said : (restricted : Bool) (before : List ℕ) → 65 ≤ length before
    → (answers restricted enciphered_p9 before ≡ response (0x39 ∷ 0x32 ∷ 0x34 ∷ 0x37 ∷ [])) × (answers restricted enciphered_zeros before ≡ response (0x34 ∷ 0x35 ∷ 0x36 ∷ 0x37 ∷ []))
unfolding nibs xors every leading same all_of begins value_of code_of is_framed opening run number trailer key_type hex_key lettered key lmk_field weak_field entries is_on key_pair keys format_field sealed
    shape_of validation_field offsetting weak end slices parities boxed bk_fields contents read_row pin_with_natural differences bk_finish bk_answer answer_by answered
answers_said true before h = (
  answer_room (restricted_to usually true) true true (command_of usual_account) block_p2 enciphered_p9 (length before) h ∙ refl,
  answer_room (restricted_to usually true) true true (command_of usual_account) block_p2 enciphered_zeros (length before) h ∙ refl,
)
answers_said false before h = (
  answer_room (restricted_to usually false) true true (command_of usual_account) block_p2 enciphered_p9 (length before) h ∙ refl,
  answer_room (restricted_to usually false) true true (command_of usual_account) block_p2 enciphered_zeros (length before) h ∙ refl,
)

-- ---- the cores

pub commands_not_refusing : CommandsNotRefusing
commands_not_refusing restricted = (λ before h. only_00 _ _ (asks_said restricted before h).0 before refl, λ before h. only_00 _ _ (answers_said restricted before h).0 before refl)

pub commands_not_fixed : CommandsNotFixed
commands_not_fixed restricted = (
  λ before h. apart _ _ _ _ (asks_said restricted before h).0 (asks_said restricted before h).1 7 (lit< tt) (lit< tt) (omega arith) before,
  λ before h. apart _ _ _ _ (answers_said restricted before h).0 (answers_said restricted before h).1 8 (lit< tt) (lit< tt) (omega arith) before,
)

pub commands_not_silent : CommandsNotSilent
commands_not_silent restricted = (
  λ room r h. let l = length-replicate {A = ℕ} room 0 in not_zeros _ _ (asks_said restricted (replicate room 0) (omega arith)).0 0 (lit< tt) (omega arith) room r (omega arith),
  λ room r h. let l = length-replicate {A = ℕ} room 0 in not_zeros _ _ (answers_said restricted (replicate room 0) (omega arith)).0 0 (lit< tt) (omega arith) room r (omega arith),
)

-- ---- the exchange

pub papers_exchange : PapersExchange
papers_exchange restricted = (λ before h. (asks_said restricted before h).0, λ before h. (answers_said restricted before h).0)

-- ---- the reading of the fields

refusal_of : {Q A : Type 0} {p q : Q} → ◌≡◌ {A = Judged Q A} (refused p) (refused q) → p ≡ q
refusal_of e = cc

-- the check length and the fields behind it were read
measured : (restricted : Bool) (s : List ℕ) (at : ℕ) (p : bk.Bk) (past : ℕ) → bk_fields restricted s at ≡ read p past → (at₆ : ℕ) × (at₁₀ : ℕ) × (offsetting 6 s at₆ ≡ read p.offsetting at₁₀)
unfolding bk_fields
measured restricted s at p past e =
    let o₁ = onward_read (keys 1 pin_key pvk s at) _ p past e in
    let o₄ = onward_read (sealed 4 restricted s o₁.1) _ p past o₁.3 in
    let o₆ = onward_read (offsetting 6 s o₄.1) _ p past o₄.3 in
    (o₄.1, o₆.1, from o₁.0 o₄.0 o₆.0 o₄.1 o₆.1 o₆.2 o₆.3)
  where
    from : (ks : Keys) (block : Sealed) (inputs : Offsetting) (at₆ at₁₀ : ℕ) → offsetting 6 s at₆ ≡ read inputs at₁₀
        → onward (weak 10 0x3B s at₁₀) (λ pins at₁₁. onward (end 11 ks s at₁₁) (λ mark over. read (record { sealed = block; offsetting = inputs; weak = pins; trailer = mark }) over)) ≡ read p past
        → offsetting 6 s at₆ ≡ read p.offsetting at₁₀
    from ks block inputs at₆ at₁₀ h e =
        let o = onward_read (weak 10 0x3B s at₁₀) _ p past e in
        let u = onward_read (end 11 ks s o.1) _ p past o.3 in
        h ∙ ap (λ (q : bk.Bk). read q.offsetting at₁₀) (read_once u.3).0

-- so the asking call refuses nothing behind the fields: of BK, and of DA and EA
judged_done : (s : List ℕ) (inputs : Offsetting) (at₆ at₁₀ : ℕ) → offsetting 6 s at₆ ≡ read inputs at₁₀ → (bytes : List ℕ) × (asked_at s inputs ≡ done bytes)
judged_done s inputs at₆ at₁₀ e =
    let row = row_of_valid (account_in s inputs) (validation_in s inputs) (offsetting_held 6 s at₆ inputs at₁₀ e).valid in
    (packs row.0, rw row.1 refl)

pub asked_done : (restricted : Bool) (s : List ℕ) (at : ℕ) (p : bk.Bk) (past : ℕ) → bk_fields restricted s at ≡ read p past → (bytes : List ℕ) × (asked_at s p.offsetting ≡ done bytes)
asked_done restricted s at p past e = let h = measured restricted s at p past e in judged_done s p.offsetting h.0 h.1 h.2

pub verify_asked : (for : Use) (s : List ℕ) (at : ℕ) (v : Verification) (past : ℕ) → verify_fields for s at ≡ read v past → (bytes : List ℕ) × (asked_at s v.offsetting ≡ done bytes)
verify_asked for s at v past e = let h = parts for s at v past e in judged_done s v.offsetting h.check h.past h.inputs

module _ (settings : Settings) (g h : Bool) (s block enciphered : List ℕ) where
  -- and the answering call refuses in them too
  pub refused_alike : (c : Code) (at : ℕ) (f : Fault) → ask_by c settings s at ≡ refused f → answer_by c settings g h s at block enciphered ≡ refused f
  unfolding ask_by answer_by
  refused_alike Bk at f e = answer_refuses (bk_shape settings) (asked_done settings.restricted) g h s at block enciphered f e
  refused_alike Da at f e = answer_refuses (verify_shape terminal settings) (verify_asked (key_for terminal)) g h s at block enciphered f e
  refused_alike Ea at f e = answer_refuses (verify_shape zone settings) (verify_asked (key_for zone)) g h s at block enciphered f e
  refused_alike Other at f e = ap refused (refusal_of e)

  by_frame :
      (o : Outcome ℕ) (q : Refusal) → heard (and_then (unpointed o) (λ code. ask_by (frame.code_of (drop code s)) settings s (code + 2))) ≡ refused q
      → (silently (and_then o (λ code. done (responding settings.header s (heard (commanded settings g h s block enciphered code)))))).number ≡ number_of q
  by_frame (done code) q e =
      let f = heard_refused (ask_by (frame.code_of (drop code s)) settings s (code + 2)) q e in
      rw (refused_alike (frame.code_of (drop code s)) (code + 2) f.0 f.1) (ap number_of f.2)
  by_frame (refused p) q e = ap number_of (refusal_of e)

pub answer_reads_the_fields : AnswerReadsTheFields
unfolding asking answered
answer_reads_the_fields settings g h s block enciphered room room' q k k' e =
    rw (le-leb 65 room' k') (by_frame settings g h s block enciphered (framed settings.header s) q (rw (le-leb 8 room k) at e))
