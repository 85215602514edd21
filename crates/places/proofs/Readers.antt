-- A reader takes no more characters than are ahead.
-- Assumes nothing.
use Rattle.std.specs.Prelude.{Option, None}
use Prim.Native.Nat.{ℕ, ◌-◌, ◌≤◌}
use native.Mathlib.Omega.{arith}
use mathlib.Core.Path.{◌≡◌, refl, ap}
use mathlib.Core.List.{List, [], ◌∷◌}
use mathlib.Core.Bool.{Bool, true, false, ◌&&◌, cond}
use lib.ListN.{length, get_or, drop, length-drop}
use lib.Dec.{leb}
use borrow.Author.Tests.{leb-true}
use Rattle.alphabet.specs.Alphabet.{admits, begins}
use Rattle.alphabet.specs.declared.Class.{Class}
use Rattle.alphabet.specs.declared.Class.TheVariants.{CapitalHex, Printable}
use Rattle.numbers.specs.Numbers.{done, refused}
use Rattle.numbers.specs.declared.Refusal.{Refusal}
use Rattle.numbers.specs.declared.Refusal.TheVariants.{Field15, Key26, NotHere69}
use Rattle.numbers.proofs.Laws.{then_done, passed, value_of_lem}
use Rattle.formats.specs.declared.Format.{Format}
use Rattle.codes.specs.Codes.{code_of, format_of}
use Rattle.fields.specs.Fields.{Found, run, number, marked, behind, trailer, at_most}
use Rattle.fields.proofs.Laws.{run_found, number_found}
use Rattle.fields.proofs.Reading.{behind_done}
use Rattle.uses.specs.declared.Use.{Use}
use Rattle.keylengths.proofs.Laws.{length_found}
use Rattle.keyblocks.specs.KeyBlocks.{key_block}
use Rattle.keyblocks.proofs.Laws.{block_found}
use Rattle.keys.specs.Keys.{type001, type002, type_fff, key_type, hex_key, lettered, key}
use Rattle.keys.specs.declared.Letters.{Letters}
use Rattle.keys.proofs.Texts.{begins_long}
use Rattle.formatfield.specs.FormatField.{allows, format_field}

-- what was found has at most so many characters
abbrev pub AtMost : {A : Type 0} → ℕ → Found A → Type 0
AtMost {A} most o = (a : A) (n : ℕ) → o ≡ done (a, n) → n ≤ most

-- whatever is ahead
abbrev pub Takes : {A : Type 0} → (List ℕ → Found A) → Type 0
Takes reader = (cs : List ℕ) → AtMost (length cs) (reader cs)

-- ---- how readers are made

none_found : {A : Type 0} (most : ℕ) (q : Refusal) → AtMost {A = A} most (refused q)
none_found most q a n e = absurd (let z : ◌≡◌ {A = ℕ} 0 1 = cc in omega arith)

-- one or the other, by a test that may tell something
either_way : {A : Type 0} (most : ℕ) (test : Bool) (o o' : Found A) → (test ≡ true → AtMost most o) → (test ≡ false → AtMost most o') → AtMost most (cond test o o')
either_way most true o o' f g = f refl
either_way most false o o' f g = g refl

-- behind a character that is there
one_behind : {A : Type 0} (cs : List ℕ) (o : Found A) → 1 ≤ length cs → AtMost (length (drop 1 cs)) o → AtMost (length cs) (behind 1 o)
one_behind cs o h f a n e =
    let r = behind_done o a n e in
    let m = f a r.0 r.1 in
    omega (arith, r.2, m, length-drop 1 cs)

-- ---- the readers

pub run_takes : (k : Class) (p q : Refusal) (n : ℕ) → Takes (run k p q n)
run_takes k p q n cs v m e = let f = run_found k p q n cs v m e in omega (arith, f.1, f.2)

pub number_takes : (low high : ℕ) (q : Refusal) → Takes (number low high q)
number_takes low high q cs v m e = let f = number_found low high q cs v m e in omega (arith, f.0, f.1)

pub trailer_takes : Takes trailer
unfolding trailer begins
trailer_takes cs =
    either_way (length cs) (marked 0x19 cs) _ _
    (λ there. one_behind cs _ (begins_long (0x19 ∷ []) cs there) (run_takes Printable Field15 Field15 (at_most 32 (length (drop 1 cs))) (drop 1 cs)))
    (λ _ a n e. let z : 0 ≡ n = ap (λ (x : ℕ × ℕ). x.1) (value_of_lem e) in omega arith)

pub type_takes : Takes key_type
unfolding key_type
type_takes cs =
    either_way (length cs) (begins type001 cs) _ _ (three type001 refl)
    (λ _. either_way (length cs) (begins type002 cs) _ _ (three type002 refl)
    (λ _. either_way (length cs) (begins type_fff cs) _ _ (three type_fff refl) (λ _. none_found (length cs) Field15)))
  where
    three : {l : Letters} (text : List ℕ) → length text ≡ 3 → begins text cs ≡ true → AtMost {A = Letters} (length cs) (done (l, 3))
    three text long there a n e = let z : 3 ≡ n = ap (λ (x : Letters × ℕ). x.1) (value_of_lem e) in omega (arith, long, begins_long text cs there)

hex_takes : (n : ℕ) → Takes (hex_key n)
unfolding hex_key
hex_takes n cs l m e =
    let t = then_done (run CapitalHex Field15 Field15 n cs) (λ (r : ℕ × ℕ). done (None, r.1)) (l, m) e in
    let k : t.0.1 ≡ m = ap (λ (x : (Option ℕ) × ℕ). x.1) (value_of_lem t.2) in
    omega (arith, run_takes CapitalHex Field15 Field15 n cs t.0.0 t.0.1 t.1)

block_takes : (for : Use) → Takes (key_block for)
block_takes for cs l n e =
    let b = (block_found for cs l n e).2 in
    let sized = length_found cs n 5 b.sized in
    let text = run_found Printable Field15 Field15 (n - 5) (drop 5 cs) (n - 5) (n - 5) b.text in
    omega (arith, sized.2, text.2, length-drop 5 cs)

pub key_takes : (letters : Letters) (for : Use) → Takes (key letters for)
unfolding key lettered
key_takes letters for cs =
    either_way (length cs) (leb 1 (length cs)) _ _
    (λ there. let one = leb-true 1 (length cs) there in
    either_way (length cs) (marked 0x55 cs) _ _ (λ _. one_behind cs _ one (allowed letters.double _ (hex_takes 32 (drop 1 cs))))
    (λ _. either_way (length cs) (marked 0x54 cs) _ _ (λ _. one_behind cs _ one (allowed letters.triple _ (hex_takes 48 (drop 1 cs))))
    (λ _. either_way (length cs) (marked 0x53 cs) _ _ (λ _. one_behind cs _ one (allowed letters.block _ (block_takes for (drop 1 cs))))
    (λ _. allowed (letters.bare && admits CapitalHex (get_or cs 0 0)) _ (hex_takes 32 cs)))))
    (λ _. none_found (length cs) Field15)
  where
    allowed : {most : ℕ} (admitted : Bool) (o : Found (Option ℕ)) → AtMost most o → AtMost most (cond admitted o (refused Key26))
    allowed {most} admitted o f = either_way most admitted o (refused Key26) (λ _. f) (λ _. none_found most Key26)

pub format_takes : (restricted : Bool) → Takes (format_field restricted)
unfolding format_field
format_takes restricted cs f n e =
    let t = then_done (number 0 99 Field15 cs) _ (f, n) e in
    let u = then_done (format_of (code_of t.0.0)) _ (f, n) t.2 in
    let p = passed {A = Format × ℕ} NotHere69 (allows restricted u.0) (u.0, t.0.1) (f, n) u.2 in
    let k : t.0.1 ≡ n = ap (λ (x : Format × ℕ). x.1) p.1 in
    omega (arith, number_takes 0 99 Field15 cs t.0.0 t.0.1 t.1)
