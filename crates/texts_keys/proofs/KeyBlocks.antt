-- The reader of a key block is exact.
-- Assumes nothing.
use Rattle.std.specs.Prelude.{Some}
use Prim.Native.Nat.{ℕ, zero, suc, ◌+◌, ◌-◌, ◌*◌, ◌≤◌, ◌<◌, ◌/◌, ◌%◌}
use native.Mathlib.Omega.{arith}
use mathlib.Core.Path.{◌≡◌, refl, sym, ap, ◌∙◌}
use mathlib.Core.Logic.{◌⊎◌, inl, inr}
use mathlib.Core.List.{List, [], ◌∷◌, ◌++◌, append_assoc}
use mathlib.Core.Bool.{Bool, true, false, ◌&&◌, ◌||◌}
use lib.ListN.{length, get_or, take, drop, length-append, length-drop, take-append-drop}
use lib.Seq.{take_at, drop_at, length-take-le}
use lib.Dec.{leb, eqb}
use borrow.Author.Tests.{leb-true, le-leb, eqb-true, eq-eqb}
use Rattle.nibbles.specs.Nibbles.{within}
use Rattle.nibbles.proofs.Lists.{and_left, and_right}
use Rattle.alphabet.specs.Alphabet.{admits, all_of, begins, value_of}
use Rattle.alphabet.specs.declared.Class.TheVariants.{Digit, Printable}
use Rattle.numbers.specs.Numbers.{done, unless}
use Rattle.numbers.specs.declared.Refusal.TheVariants.{Field15, Key26}
use Rattle.numbers.proofs.Laws.{then_done, passed}
use Rattle.fields.specs.Fields.{run, number}
use Rattle.fields.proofs.Laws.{run_whole, run_found}
use Rattle.uses.specs.Uses.{usages_in, algorithm_t, modes_in, begins_one, is_one, permits}
use Rattle.uses.specs.declared.Use.{Use}
use Rattle.uses.specs.declared.Usages.{Usages}
use Rattle.uses.specs.declared.Usages.TheVariants.{P0Or71Or72, P0Or71, P0Or72, V1}
use Rattle.uses.specs.declared.Modes.{Modes}
use Rattle.uses.specs.declared.Modes.TheVariants.{BOrDOrN, COrGOrN, COrVOrN}
use Rattle.keylengths.specs.KeyLengths.{said_length, block_length}
use Rattle.keylengths.proofs.Laws.{length_whole, length_found}
use Rattle.keyblocks.specs.KeyBlocks.{key_block}
use Rattle.keyblocks.proofs.Laws.{Block, block_done, block_found}
use Rattle.texts.specs.Characters.{printed, OneOf}
use Rattle.texts.specs.Texts.{Run, as_two_digits, as_four_digits}
use Rattle.texts.specs.Exact.{Opens, Exact}
use Rattle.texts.proofs.Runs.{all_append, all_both, all_first, begins_split, fronts, two_told}
use Rattle.texts.proofs.Closing.{apart_of}
use Rattle.texts.proofs.Classes.{one_admitted}
use Rattle.texts.proofs.Readers.{run_exact, number_exact, digit_value, digit_admits, digit_char}
use Rattle.texts_keys.specs.KeyTexts.{KeyBlock, IsBlock, block_text}
use Rattle.texts_keys.specs.KeyWritings.{rule_for, blocks}

-- ---- version, usage and mode

version_back : (c : ℕ) → OneOf c (printed "01") → (admits Digit c ≡ true) × (value_of c ≤ 1)
unfolding value_of
version_back c (inl e) = rw e (refl, omega arith)
version_back c (inr (inl e)) = rw e (refl, omega arith)
version_back c (inr (inr z)) = absurd z

version_only : (c : ℕ) → c ≡ 0x30 + value_of c → value_of c ≤ 1 → OneOf c (printed "01")
version_only c e h = by (value_of c) e h
  where
    by : (v : ℕ) → c ≡ 0x30 + v → v ≤ 1 → OneOf c (printed "01")
    by zero e h = inl e
    by (suc zero) e h = inr (inl e)
    by (suc (suc v)) e h = absurd (omega arith)

-- every usage is two printable characters
Pairs : List (List ℕ) → Type 0
Pairs [] = Unit {0}
Pairs (t ∷ ts) = Run Printable 2 t × Pairs ts

-- those of the table are, and its modes are printable
usages_pairs : (u : Usages) → Pairs (usages_in u)
unfolding Pairs all_of
usages_pairs P0Or71Or72 = ((refl, refl), ((refl, refl), ((refl, refl), tt)))
usages_pairs P0Or71 = ((refl, refl), ((refl, refl), tt))
usages_pairs P0Or72 = ((refl, refl), ((refl, refl), tt))
usages_pairs V1 = ((refl, refl), tt)

modes_printable : (m : Modes) → all_of Printable (modes_in m) ≡ true
unfolding all_of
modes_printable BOrDOrN = refl
modes_printable COrGOrN = refl
modes_printable COrVOrN = refl

-- one test of two
or_else : {P Q : Type 0} (a b : Bool) → (a ≡ true → P) → (b ≡ true → Q) → (a || b) ≡ true → P ⊎ Q
or_else true b f g h = inl (f refl)
or_else false b f g h = inr (g h)

or_right : (a b : Bool) → b ≡ true → (a || b) ≡ true
or_right true b h = refl
or_right false b h = h

-- a usage of the rule is two printable characters, and found where it stands
record Two (us : List (List ℕ)) (usage : List ℕ) : Type 0 where
  u₁ : ℕ
  u₂ : ℕ
  two : usage ≡ u₁ ∷ u₂ ∷ []
  used : (cs : List ℕ) → begins_one us (u₁ ∷ u₂ ∷ cs) ≡ true
  printable : (admits Printable u₁ ≡ true) × (admits Printable u₂ ≡ true)

usage_back : (us : List (List ℕ)) (usage : List ℕ) → Pairs us → OneOf usage us → Two us usage
unfolding Pairs begins_one begins
usage_back [] usage p o = absurd o
usage_back (t ∷ us) usage p (inl e) = own t p.0 e
  where
    own : (t : List ℕ) → Run Printable 2 t → usage ≡ t → Two (t ∷ us) usage
    own [] r e = absurd (omega (arith, r.0))
    own (a ∷ []) r e = absurd (omega (arith, r.0))
    own (a ∷ b ∷ []) r e =
        let first = all_first Printable a (b ∷ []) r.1 in
        record { u₁ = a; u₂ = b; two = e; used = λ cs. rw (eq-eqb a a refl, eq-eqb b b refl); printable = (first.0, (all_first Printable b [] first.1).0) }
    own (a ∷ b ∷ c ∷ t) r e = absurd (omega (arith, r.0))
usage_back (t ∷ us) usage p (inr o) =
    let w = usage_back us usage p.1 o in
    record { u₁ = w.u₁; u₂ = w.u₂; two = w.two; used = λ cs. or_right (begins t (w.u₁ ∷ w.u₂ ∷ cs)) (begins_one us (w.u₁ ∷ w.u₂ ∷ cs)) (w.used cs); printable = w.printable }

-- two characters that are a text
pair : (t : List ℕ) (x y : ℕ) (cs : List ℕ) → length t ≡ 2 → begins t (x ∷ y ∷ cs) ≡ true → x ∷ y ∷ [] ≡ t
pair t x y cs l h = ap (take 2) (begins_split t (x ∷ y ∷ cs) h) ∙ take_at t (drop (length t) (x ∷ y ∷ cs)) 2 l

usage_only : (us : List (List ℕ)) → Pairs us → (x y : ℕ) (cs : List ℕ) → begins_one us (x ∷ y ∷ cs) ≡ true → OneOf (x ∷ y ∷ []) us
unfolding Pairs begins_one
usage_only [] p x y cs h = absurd (let z : ◌≡◌ {A = ℕ} 0 1 = cc in omega arith)
usage_only (t ∷ us) p x y cs h = or_else (begins t (x ∷ y ∷ cs)) (begins_one us (x ∷ y ∷ cs)) (pair t x y cs p.0.0) (usage_only us p.1 x y cs) h

mode_back : (ms : List ℕ) (c : ℕ) → OneOf c ms → is_one ms c ≡ true
unfolding is_one
mode_back [] c o = absurd o
mode_back (m ∷ ms) c (inl e) = rw (eq-eqb c m e)
mode_back (m ∷ ms) c (inr o) = or_right (eqb c m) (is_one ms c) (mode_back ms c o)

mode_only : (ms : List ℕ) (c : ℕ) → is_one ms c ≡ true → OneOf c ms
unfolding is_one
mode_only [] c h = absurd (let z : ◌≡◌ {A = ℕ} 0 1 = cc in omega arith)
mode_only (m ∷ ms) c h = or_else (eqb c m) (is_one ms c) (eqb-true c m) (mode_only ms c) h

-- the algorithm is the same in every rule
algorithm_back : (c : ℕ) → OneOf c (printed "T") → c ≡ algorithm_t
algorithm_back c (inl e) = e
algorithm_back c (inr z) = absurd z

-- ---- what is written is read back

digit_printable : (d : ℕ) → d < 10 → admits Printable (0x30 + d) ≡ true
digit_printable d h = rw (le-leb 0x20 (0x30 + d) (omega arith)) (le-leb (0x30 + d) 0x7E (omega arith))

module _ (for : Use) (k : KeyBlock) (g : IsBlock (rule_for for) k) (rest : List ℕ) where
  -- how long it is
  long : ℕ
  long = 16 + length k.tail

  -- from the usage on
  body : List ℕ
  body = k.usage ++ (k.algorithm ∷ (k.mode ∷ (k.unjudged ++ (as_two_digits k.id ++ k.tail))))

  cs : List ℕ
  unfolding body
  cs = block_text k ++ rest

  usage_two : Two (usages_in for.usages) k.usage
  usage_two = usage_back (usages_in for.usages) k.usage (usages_pairs for.usages) g.usage

  said : said_length cs ≡ long
  unfolding long cs
  said =
      let n = 16 + length k.tail in
      let most = g.size in
      rw (digit_value (n / 100 / 10) (omega arith), digit_value (n / 100 % 10) (omega arith), digit_value (n % 100 / 10) (omega arith), digit_value (n % 100 % 10) (omega arith))
      (omega arith)

  five : all_of Digit (take 5 cs) ≡ true
  unfolding cs all_of
  five =
      let n = 16 + length k.tail in
      let most = g.size in
      rw ((version_back k.version g.version).0, digit_admits (n / 100 / 10) (omega arith), digit_admits (n / 100 % 10) (omega arith), digit_admits (n % 100 / 10) (omega arith), digit_admits (n % 100 % 10) (omega arith))

  sized : block_length cs ≡ done (long, 5)
  unfolding cs long
  sized =
      let most = g.size in
      length_whole cs (5, 5) (run_whole Digit Field15 Key26 5 cs (omega arith) five) (version_back k.version g.version).1 (omega (arith, said)) (omega (arith, said))
      ∙ ap (λ (m : ℕ). done (m, 5)) said

  body_long : length body ≡ long - 5
  unfolding body long
  body_long =
      let u = usage_two in
      omega (arith, ap length u.two, length-append k.usage (k.algorithm ∷ (k.mode ∷ (k.unjudged ++ (as_two_digits k.id ++ k.tail)))), length-append k.unjudged (as_two_digits k.id ++ k.tail), length-append (as_two_digits k.id) k.tail, g.unjudged.0)

  body_printable : all_of Printable body ≡ true
  unfolding body all_of
  body_printable =
      let u = usage_two in
      let i = g.id.1 in
      rw (u.two, u.printable.0, u.printable.1, algorithm_back k.algorithm g.algorithm, one_admitted Printable k.mode (modes_in for.modes) (modes_printable for.modes) g.mode, all_append Printable k.unjudged (as_two_digits k.id ++ k.tail), g.unjudged.1, digit_printable (k.id / 10) (omega arith), digit_printable (k.id % 10) (omega arith))
      g.tail

  text : run Printable Field15 Field15 (long - 5) (drop 5 cs) ≡ done (long - 5, long - 5)
  unfolding cs body
  text = (run_exact Printable Field15 Field15 (long - 5)).back body rest (body_long, body_printable) ∙ ap (λ (m : ℕ). done (long - 5, m)) body_long

  permitted : permits for cs ≡ true
  unfolding cs permits
  permitted =
      let u = usage_two in
      rw (u.two, u.used _, algorithm_back k.algorithm g.algorithm, mode_back (modes_in for.modes) k.mode g.mode)

  named : number 0 9 Field15 (drop 14 cs) ≡ done (k.id, 2)
  unfolding cs
  named =
      let u = usage_two in
      let e : drop 5 ((k.unjudged ++ (as_two_digits k.id ++ k.tail)) ++ rest) ≡ as_two_digits k.id ++ (k.tail ++ rest)
      = ap (drop 5) (append_assoc k.unjudged (as_two_digits k.id ++ k.tail) rest) ∙ drop_at k.unjudged ((as_two_digits k.id ++ k.tail) ++ rest) 5 g.unjudged.0 ∙ append_assoc (as_two_digits k.id) k.tail rest in
      rw (u.two, e) ((number_exact 0 9 Field15 (omega arith)).back k.id (k.tail ++ rest) (omega arith, omega (arith, g.id.1)))

  block_back : key_block for (block_text k ++ rest) ≡ done (Some k.id, length (block_text k))
  unfolding cs long body
  block_back =
      block_done for cs k.id long (record { sized = sized; text = text; permitted = permitted; named = named })
      ∙ ap (λ (m : ℕ). done (Some k.id, m)) (omega (arith, body_long))

-- ---- nothing else is read

-- nine characters, and those behind them
data Nine : List ℕ → Type 0 where
  nine : (c₀ c₁ c₂ c₃ c₄ c₅ c₆ c₇ c₈ : ℕ) (tail : List ℕ) → Nine (c₀ ∷ c₁ ∷ c₂ ∷ c₃ ∷ c₄ ∷ c₅ ∷ c₆ ∷ c₇ ∷ c₈ ∷ tail)

nine_of : (l : List ℕ) → 9 ≤ length l → Nine l
nine_of [] h = absurd (omega arith)
nine_of (a ∷ []) h = absurd (omega arith)
nine_of (a ∷ b ∷ []) h = absurd (omega arith)
nine_of (a ∷ b ∷ c ∷ []) h = absurd (omega arith)
nine_of (a ∷ b ∷ c ∷ d ∷ []) h = absurd (omega arith)
nine_of (a ∷ b ∷ c ∷ d ∷ e ∷ []) h = absurd (omega arith)
nine_of (a ∷ b ∷ c ∷ d ∷ e ∷ f ∷ []) h = absurd (omega arith)
nine_of (a ∷ b ∷ c ∷ d ∷ e ∷ f ∷ g ∷ []) h = absurd (omega arith)
nine_of (a ∷ b ∷ c ∷ d ∷ e ∷ f ∷ g ∷ i ∷ []) h = absurd (omega arith)
nine_of (a ∷ b ∷ c ∷ d ∷ e ∷ f ∷ g ∷ i ∷ j ∷ tail) h = nine a b c d e f g i j tail

-- the five characters of version and length
length_digits : (l : List ℕ) (v m : ℕ) → block_length l ≡ done (v, m) → (all_of Digit (take 5 l) ≡ true) × (value_of (get_or l 0 0) ≤ 1)
unfolding block_length
length_digits l v m e =
    let right = leb (value_of (get_or l 0 0)) 1 && within 16 512 (said_length l) in
    let t = then_done (run Digit Field15 Key26 5 l) (λ _. unless Key26 right (said_length l, 5)) (v, m) e in
    let w = passed {A = ℕ × ℕ} Key26 right (said_length l, 5) (v, m) t.2 in
    ((run_found Digit Field15 Key26 5 l t.0.0 t.0.1 t.1).3, leb-true (value_of (get_or l 0 0)) 1 (and_left (leb (value_of (get_or l 0 0)) 1) (within 16 512 (said_length l)) w.0))

-- the four digits of a length
four_only : (c₁ c₂ c₃ c₄ n : ℕ) → all_of Digit (c₁ ∷ c₂ ∷ c₃ ∷ c₄ ∷ []) ≡ true → n ≡ (value_of c₁ * 10 + value_of c₂) * 100 + (value_of c₃ * 10 + value_of c₄)
    → c₁ ∷ c₂ ∷ c₃ ∷ c₄ ∷ [] ≡ as_four_digits n
four_only c₁ c₂ c₃ c₄ n h m =
    let h₁ = all_first Digit c₁ (c₂ ∷ c₃ ∷ c₄ ∷ []) h in
    let h₂ = all_first Digit c₂ (c₃ ∷ c₄ ∷ []) h₁.1 in
    let h₃ = all_first Digit c₃ (c₄ ∷ []) h₂.1 in
    let h₄ = all_first Digit c₄ [] h₃.1 in
    let v₁ = digit_char c₁ h₁.0 in
    let v₂ = digit_char c₂ h₂.0 in
    let v₃ = digit_char c₃ h₃.0 in
    let v₄ = digit_char c₄ h₄.0 in
    let e₁ : c₁ ≡ 0x30 + n / 100 / 10 = omega (arith, v₁, v₂, v₃, v₄) in
    let e₂ : c₂ ≡ 0x30 + n / 100 % 10 = omega (arith, v₁, v₂, v₃, v₄) in
    let e₃ : c₃ ≡ 0x30 + n % 100 / 10 = omega (arith, v₁, v₂, v₃, v₄) in
    let e₄ : c₄ ≡ 0x30 + n % 100 % 10 = omega (arith, v₁, v₂, v₃, v₄) in
    cc

block_only : (for : Use) (l : List ℕ) (id n : ℕ) → Block for l id n → Nine l → Opens (blocks for) l n (Some id)
unfolding permits
block_only for l id n b (nine c₀ c₁ c₂ c₃ c₄ c₅ c₆ c₇ c₈ tail) =
    let f = length_found l n 5 b.sized in
    let d = length_digits l n 5 b.sized in
    let h₀ = all_first Digit c₀ (c₁ ∷ c₂ ∷ c₃ ∷ c₄ ∷ []) d.0 in
    let p = b.permitted in
    let us = usages_in for.usages in
    let ms = modes_in for.modes in
    let usage = and_left (begins_one us (c₅ ∷ c₆ ∷ c₇ ∷ c₈ ∷ tail)) (eqb c₇ algorithm_t && is_one ms c₈) p in
    let am = and_right (begins_one us (c₅ ∷ c₆ ∷ c₇ ∷ c₈ ∷ tail)) (eqb c₇ algorithm_t && is_one ms c₈) p in
    let o = (number_exact 0 9 Field15 (omega arith)).only (drop 5 tail) id 2 b.named in
    let r = run_found Printable Field15 Field15 (n - 5) (c₅ ∷ c₆ ∷ c₇ ∷ c₈ ∷ tail) (n - 5) (n - 5) b.text in
    let unjudged = take 5 tail in
    let behind = take (n - 16) o.rest in
    let rest = drop (n - 16) o.rest in
    let five : length unjudged ≡ 5 = length-take-le 5 tail (omega (arith, r.2)) in
    let room : n - 16 ≤ length o.rest = omega (arith, r.2, ap length o.whole, length-drop 5 tail) in
    let most : length behind ≡ n - 16 = length-take-le (n - 16) o.rest room in
    let seven : drop 5 tail ≡ as_two_digits id ++ (behind ++ rest) = o.whole ∙ rw (← o.same, take-append-drop (n - 16) o.rest) in
    let whole : tail ≡ (unjudged ++ (as_two_digits id ++ behind)) ++ rest
    = sym (take-append-drop 5 tail) ∙ ap (λ (x : List ℕ). unjudged ++ x) (seven ∙ sym (append_assoc (as_two_digits id) behind rest)) ∙ sym (append_assoc unjudged (as_two_digits id ++ behind) rest) in
    let body = c₅ ∷ c₆ ∷ c₇ ∷ c₈ ∷ (unjudged ++ (as_two_digits id ++ behind)) in
    let long : length body ≡ n - 5 = omega (arith, length-append unjudged (as_two_digits id ++ behind), five, most) in
    let all : all_of Printable body ≡ true
    = ap (all_of Printable) (sym (take_at body rest (n - 5) long) ∙ ap (λ (x : List ℕ). take (n - 5) (c₅ ∷ c₆ ∷ c₇ ∷ c₈ ∷ x)) (sym whole)) ∙ r.3 in
    let four = all_both Printable (c₅ ∷ c₆ ∷ c₇ ∷ c₈ ∷ []) (unjudged ++ (as_two_digits id ++ behind)) all in
    let split = all_both Printable unjudged (as_two_digits id ++ behind) four.1 in
    let digits = all_both Printable (as_two_digits id) behind split.1 in
    let said : c₁ ∷ c₂ ∷ c₃ ∷ c₄ ∷ [] ≡ as_four_digits (16 + length behind) = four_only c₁ c₂ c₃ c₄ (16 + length behind) h₀.1 (omega (arith, most, f.0, f.3)) in
    record {
      part = record { version = c₀; usage = c₅ ∷ c₆ ∷ []; algorithm = c₇; mode = c₈; unjudged = unjudged; id = id; tail = behind };
      rest = rest;
      good = record {
        version = version_only c₀ (digit_char c₀ h₀.0).0 d.1;
        size = omega (arith, most, f.3, f.4);
        usage = usage_only us (usages_pairs for.usages) c₅ c₆ (c₇ ∷ c₈ ∷ tail) usage;
        algorithm = inl (eqb-true c₇ algorithm_t (and_left (eqb c₇ algorithm_t) (is_one ms c₈) am));
        mode = mode_only ms c₈ (and_right (eqb c₇ algorithm_t) (is_one ms c₈) am);
        unjudged = (five, split.0);
        id = rw o.same o.good;
        tail = digits.1;
      };
      whole = ap (λ (x : List ℕ). c₀ ∷ (x ++ (c₅ ∷ c₆ ∷ c₇ ∷ c₈ ∷ tail))) said ∙ ap (λ (x : List ℕ). c₀ ∷ (as_four_digits (16 + length behind) ++ (c₅ ∷ c₆ ∷ c₇ ∷ c₈ ∷ x))) whole;
      count = omega (arith, long, f.3);
      same = refl;
    }

-- ---- no two blocks write the same

block_told : (for : Use) (k l : KeyBlock) (rest rest' : List ℕ) → IsBlock (rule_for for) k → IsBlock (rule_for for) l → block_text k ≡ block_text l → k ≡ l
block_told for k l rest rest' g h e =
    let v : k.version ≡ l.version = cc in
    let t : k.usage ++ (k.algorithm ∷ (k.mode ∷ (k.unjudged ++ (as_two_digits k.id ++ k.tail)))) ≡ l.usage ++ (l.algorithm ∷ (l.mode ∷ (l.unjudged ++ (as_two_digits l.id ++ l.tail)))) = cc in
    let u = fronts 2 k.usage l.usage _ _ (ap length (usage_two for k g rest).two) (ap length (usage_two for l h rest').two) t in
    let b = u.1 in
    let a : k.algorithm ≡ l.algorithm = cc in
    let m : k.mode ≡ l.mode = cc in
    let j : k.unjudged ++ (as_two_digits k.id ++ k.tail) ≡ l.unjudged ++ (as_two_digits l.id ++ l.tail) = cc in
    let f = fronts 5 k.unjudged l.unjudged _ _ g.unjudged.0 h.unjudged.0 j in
    let i = two_told k.id l.id k.tail l.tail f.1 in
    made _ _ _ _ _ _ _ _ _ _ _ _ _ _ v u.0 a m f.0 i.0 i.1
  where
    made : (a a' : ℕ) (b b' : List ℕ) (c c' d d' : ℕ) (x x' : List ℕ) (i i' : ℕ) (y y' : List ℕ) → a ≡ a' → b ≡ b' → c ≡ c' → d ≡ d' → x ≡ x' → i ≡ i' → y ≡ y'
        → ◌≡◌ {A = KeyBlock} (record { version = a; usage = b; algorithm = c; mode = d; unjudged = x; id = i; tail = y })
        (record { version = a'; usage = b'; algorithm = c'; mode = d'; unjudged = x'; id = i'; tail = y' })
    made a a' b b' c c' d d' x x' i i' y y' p₁ p₂ p₃ p₄ p₅ p₆ p₇ = rw (p₁, p₂, p₃, p₄, p₅, p₆, p₇)

-- it is as long as it says
pub block_long : (for : Use) (k : KeyBlock) → IsBlock (rule_for for) k → length (block_text k) ≡ 16 + length k.tail
unfolding long body
block_long for k g = omega (arith, body_long for k g [])

pub block_exact : (for : Use) → Exact (key_block for) (blocks for)
block_exact for = record {
  back = λ k rest g. block_back for k g rest;
  only = λ l a n e.
      let b = block_found for l a n e in
      let f = length_found l n 5 b.2.sized in
      let r = run_found Printable Field15 Field15 (n - 5) (drop 5 l) (n - 5) (n - 5) b.2.text in
      rw b.1 (block_only for l b.0 n b.2 (nine_of l (omega (arith, f.3, r.2, length-drop 5 l))));
  apart = apart_of (key_block for) (blocks for) (λ k rest g. block_back for k g rest) (λ k l rest rest' g h t _. block_told for k l rest rest' g h t);
}
