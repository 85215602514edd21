-- What a response tells: the finish that it came of.
-- Assumes nothing.
use Prim.Native.Nat.{ℕ, zero, suc, ◌+◌, ◌-◌}
use native.Mathlib.Omega.{arith}
use mathlib.Core.Path.{◌≡◌, refl, sym, ap, ap₂, ◌∙◌, subst}
use mathlib.Core.Logic.{◌↔◌}
use mathlib.Core.List.{List, [], ◌∷◌, ◌++◌, append_cancel_left, append_cancel_right}
use mathlib.Core.Bool.{Bool}
use lib.ListN.{length, drop, replicate}
use Rattle.nibbles.proofs.Lists.{Below}
use Rattle.alphabet.specs.Alphabet.{characters}
use Rattle.numbers.specs.Numbers.{Outcome, done, refused, and_then, number_of}
use Rattle.numbers.specs.Promise.{Said}
use Rattle.settings.specs.declared.Settings.{Settings}
use Rattle.offsettexts.specs.OffsetTexts.{offset_text}
use Rattle.keybox.specs.KeyBox.{boxed}
use Rattle.frame.specs.Frame.{opening}
use Rattle.frame.specs.declared.Code.{Code}
use Rattle.responses.specs.Responses.{offset, payload_text, responding}
use Rattle.bkfields.specs.BkFields.{bk_fields}
use Rattle.bkfinish.specs.BkFinish.{bk_finish}
use Rattle.bk.specs.Bk.{bk_answer}
use Rattle.bk.proofs.Places.{answer_sound}
use Rattle.commands.specs.Commands.{answered}
use Rattle.claims_numbers.proofs.Numbers.{number_once, never_00}
use Rattle.claims_alike.specs.Alike.{Layout, fields, Outside}
use Rattle.claims_alike.proofs.Alike as any
use Rattle.claims_commands.specs.Runs.{Reached, Reaches}
use Rattle.claims_commands.specs.Claims.{ResponsesTell, saying, AnswersTell, AnswerAlike}
use Rattle.claims_commands.proofs.Shapes.{Shape, relaid, reached}
use Rattle.claims_commands.proofs.Listing.{bk_layout, bk_shape}
use Rattle.claims_commands.proofs.Alike.{opening_alike}

-- ---- texts

-- digits before F are the same where the characters are
pub filled_once : (ds es : List ℕ) (j k : ℕ) → Below 10 ds → Below 10 es → characters ds ++ replicate j 0x46 ≡ characters es ++ replicate k 0x46 → ds ≡ es
filled_once [] [] j k b c e = refl
filled_once [] (x ∷ es) zero k b c e = absurd (let z : ◌≡◌ {A = ℕ} 0 1 = cc in omega arith)
filled_once [] (x ∷ es) (suc j) k b c e = absurd (let z : 0x46 ≡ 0x30 + x = cc in omega (arith, c.0))
filled_once (x ∷ ds) [] j zero b c e = absurd (let z : ◌≡◌ {A = ℕ} 0 1 = cc in omega arith)
filled_once (x ∷ ds) [] j (suc k) b c e = absurd (let z : 0x30 + x ≡ 0x46 = cc in omega (arith, b.0))
filled_once (x ∷ ds) (y ∷ es) j k b c e =
    let first : 0x30 + x ≡ 0x30 + y = cc in
    let rest : characters ds ++ replicate j 0x46 ≡ characters es ++ replicate k 0x46 = cc in
    ap₂ (λ (z : ℕ) (zs : List ℕ). z ∷ zs) (omega arith) (filled_once ds es j k b.1 c.1 rest)

-- an offset's text is that of one offset
pub text_once : (ds es : List ℕ) → Below 10 ds → Below 10 es → offset_text ds ≡ offset_text es → ds ≡ es
text_once ds es b c e = filled_once ds es (12 - length ds) (12 - length es) b c e

-- ---- responses

-- a number tells the refusal, and the bytes behind 00 what the command finished with
module _ {A : Type 0} (Fine : A → Type 0) (text : A → List ℕ) (once : (a b : A) → Fine a → Fine b → text a ≡ text b → a ≡ b) where
  -- what stands behind 00
  abbrev payload : List ℕ → Outcome A → Outcome (List ℕ)
  payload tail o = and_then o (λ a. done (text a ++ tail))

  -- a value that is come to is fine
  abbrev Finely : Outcome A → Type 0
  Finely o = (a : A) → o ≡ done a → Fine a

  module _ (header : ℕ) (s t tail : List ℕ) (opened : (n : ℕ) → opening header s n ≡ opening header t n) where
    response_told : (o o' : Outcome A) → Finely o → Finely o' → responding header s (payload tail o) ≡ responding header t (payload tail o') → o ≡ o'
    response_told (done a) (done b) f f' e =
        let bytes : opening header t 0 ++ (text a ++ tail) ≡ opening header t 0 ++ (text b ++ tail) =
        ap (λ (x : List ℕ). x ++ (text a ++ tail)) (sym (opened 0)) ∙ ap (λ (x : Said ℕ). x.written) e in
        let texts = append_cancel_left (opening header t 0) (text a ++ tail) (text b ++ tail) bytes in
        ap done (once a b (f a refl) (f' b refl) (append_cancel_right (text a) (text b) tail texts))
    response_told (done a) (refused q) f f' e = absurd (never_00 q (ap (λ (x : Said ℕ). x.number) e))
    response_told (refused p) (done b) f f' e = absurd (never_00 p (sym (ap (λ (x : Said ℕ). x.number) e)))
    response_told (refused p) (refused q) f f' e = ap refused (number_once p q (ap (λ (x : Said ℕ). x.number) e))

    response_same : (o : Outcome A) → responding header s (payload tail o) ≡ responding header t (payload tail o)
    response_same (done a) = ap (λ (x : List ℕ). record { number = 0; written = x ++ (text a ++ tail) }) (opened 0)
    response_same (refused q) = ap (λ (x : List ℕ). record { number = number_of q; written = x }) (opened (number_of q))

pub responses_tell : ResponsesTell
responses_tell A Fine text once header s t tail opened o o' f f' = (
  response_told Fine text once header s t tail opened o o' f f',
  λ e. ap (λ (x : Outcome A). responding header s (and_then x (λ a. done (text a ++ tail)))) e ∙ response_same Fine text once header s t tail opened o',
)

-- ---- two runs

-- of any command: their responses tell what their finishes came to
pub answers_tell : AnswersTell
answers_tell n F X A S R B c finish Fine text trail once command box box' header room room' s t r r' alike f f' =
    let h = any.read_alike n F X A S c s t (header + 2) r.fields r'.fields r.past r'.past r.read r'.read alike in
    let opened : (k : ℕ) → opening header s k ≡ opening header t k = λ k. opening_alike header k (c.place r.fields) s t h.within alike.before in
    let o = finish s r.fields r.rows in
    let o' = finish t r'.fields r'.rows in
    subst (λ (v : S). (saying c finish text trail header s r.fields r.rows ≡ responding header t (and_then o' (λ x. done (text x ++ trail v)))) ↔ (o ≡ o'))
    h.seen (responses_tell B Fine text once header s t (trail (c.seen r.fields s)) opened o o' f f')

-- of a command of the one shape, which lies around its PIN block and brings back what stands behind its mark: they answer alike exactly
-- when their finishes do. For any property of what its finish comes to under which the text of what that brings settles it
module _ {command : Code} {settings : Settings} {A B : Type 0} (c : Shape command settings A B)
    {n : ℕ} {F X : Type 0} (l : Layout n F X A (List ℕ)) (same : (s : List ℕ) (at : ℕ) → fields l s at ≡ c.reader s at) (seen : (a : A) (s : List ℕ) → l.seen a s ≡ drop (c.mark a) s)
    (Fine : B → Type 0) (once : (x y : B) → Fine x → Fine y → payload_text (c.payload x) ≡ payload_text (c.payload y) → x ≡ y) where
  module _ (g h g' h' : Bool) (room room' : ℕ) (s t block block' enciphered enciphered' : List ℕ)
      (r : Reached command c.reader (boxed (length s) g h block enciphered) settings.header room s)
      (r' : Reached command c.reader (boxed (length t) g' h' block' enciphered') settings.header room' t) where
    pub shape_alike : Outside n (l.place r.fields) s t
        → ((x : B) → c.finish s r.fields r.rows ≡ done x → Fine x) → ((x : B) → c.finish t r'.fields r'.rows ≡ done x → Fine x)
        → (answered settings g h s block enciphered room ≡ answered settings g' h' t block' enciphered' room')
        ↔ (c.finish s r.fields r.rows ≡ c.finish t r'.fields r'.rows)
    shape_alike alike fine fine' =
        let header = settings.header in
        let text : B → List ℕ = λ b. payload_text (c.payload b) in
        let here = reached c g h room s block enciphered r ∙ ap (λ (tail : List ℕ). responding header s (and_then (c.finish s r.fields r.rows) (λ b. done (text b ++ tail)))) (sym (seen r.fields s)) in
        let there = reached c g' h' room' t block' enciphered' r' ∙ ap (λ (tail : List ℕ). responding header t (and_then (c.finish t r'.fields r'.rows) (λ b. done (text b ++ tail)))) (sym (seen r'.fields t)) in
        let tell = answers_tell n F X A (List ℕ) (List ℕ × List ℕ) B l c.finish Fine text (λ x. x) once command _ _ header room room' s t (relaid (same s (header + 2)) r) (relaid (same t (header + 2)) r') alike fine fine' in
        (λ e. tell.0 (sym here ∙ e ∙ there), λ e. here ∙ tell.1 e ∙ sym there)

-- ---- BK

-- an offset that a run comes to has digits
finish_digits : (settings : Settings) (g h : Bool) (room : ℕ) (s block enciphered : List ℕ) (r : Reaches settings g h room s block enciphered) (ds : List ℕ)
    → bk_finish settings.variable s r.fields r.rows ≡ done ds → Below 10 ds
unfolding bk_answer
finish_digits settings g h room s block enciphered r ds e =
    (answer_sound settings g h s (settings.header + 2) block enciphered (offset ds, r.fields.trailer) (rw (r.read, r.boxed, e))).payload.1

pub answer_alike : AnswerAlike
unfolding bk_fields
answer_alike settings g h room room' s t block block' enciphered enciphered' r r' alike =
    shape_alike (bk_shape settings) (bk_layout settings.restricted) (λ s at. refl) (λ p s. refl) (Below 10) text_once g h g h room room' s t block block' enciphered enciphered' r r' alike
    (finish_digits settings g h room s block enciphered r) (finish_digits settings g h room' t block' enciphered' r')
