-- Which codes and pairs the calls take.
-- Assumes nothing.
use Prim.Native.Nat.{ℕ}
use mathlib.Core.Path.{◌≡◌, refl, sym, ap, ◌∙◌, subst}
use mathlib.Core.Logic.{inl, inr}
use mathlib.Core.List.{List, [], ◌∷◌}
use mathlib.Core.Bool.{Bool, true, false, ◌&&◌, ◌||◌, not, cond, false≢true}
use lib.ListN.{length}
use lib.Dec.{eqb}
use borrow.Author.Tests.{le-leb, eq-eqb, eqb-true}
use Rattle.nibbles.specs.Nibbles.{nibs, packs, within, every}
use Rattle.numbers.specs.Numbers.{Outcome, done, refused, and_then, unless, number_of}
use Rattle.numbers.specs.Promise.{quietly}
use Rattle.numbers.specs.declared.Refusal.{Refusal}
use Rattle.numbers.specs.declared.Refusal.TheVariants.{Block20, Format23, Length24, NotHere69}
use Rattle.codes.specs.Codes.{code_of, format_of, known_code}
use Rattle.codes.specs.declared.Code.{Code}
use Rattle.codes.specs.declared.Code.TheVariants.{Built, Known, Unknown}
use Rattle.formats.specs.declared.Format.{Format}
use Rattle.formats.specs.declared.Format.TheVariants.{F01, F03, F05, F34, F35, F47}
use Rattle.pins.specs.Pins.{digit, pin_length, digits_handed, pin_handed, account_field}
use Rattle.blocks.specs.Blocks.{read_row, write_row}
use Rattle.blockcalls.specs.BlockCalls.{read_block, write_block}
use Rattle.restriction.specs.Restriction.{restricted_pair, permitted}
use Rattle.pairs.specs.Pairs.{pair_of}
use Rattle.translation.specs.Translation.{translate_block}
use Rattle.claims_blocks.specs.Promises.{listed}
use Rattle.claims_blocks.specs.Codes.{known_codes, unbuilt_codes, restricted_pairs, listed_pair, of_contents, left_to, left_by, left_by_pair, OneOfThem, CodesExactly, RestrictedExactly}
use Rattle.claims_blocks.proofs.Judged.{Only, Fault, done_only, test_only, then_only}
use Rattle.claims_blocks.proofs.Trips.{read_faults}
use Rattle.claims_blocks.proofs.Calls.{was_read, translation_keeps}

-- ---- what a code is

-- the code that names a format
abbrev naming : Format → ℕ
naming F01 = 1
naming F03 = 3
naming F05 = 5
naming F34 = 34
naming F35 = 35
naming F47 = 47

-- where a code stands in the lists
abbrev Stands : ℕ → Code → Type 0
Stands c (Built f) = c ≡ naming f
Stands c Known = (listed c known_codes ≡ true) × (listed c unbuilt_codes ≡ true)
Stands c Unknown = listed c known_codes ≡ false

-- a number is the one that is asked about, or another
either : (P : ℕ → Type 0) (k c : ℕ) → P k → (eqb c k ≡ false → P c) → P c
either P k c here other = by (eqb c k) refl
  where
    by : (b : Bool) → eqb c k ≡ b → P c
    by true e = subst P (sym (eqb-true c k e)) here
    by false e = other e

stands : (c : ℕ) → Stands c (code_of c)
unfolding code_of
stands c =
    let P : ℕ → Type 0 = λ x. Stands x (code_of x) in
    either P 1 c refl
    (λ a. either P 3 c refl
    (λ b. either P 5 c refl
    (λ d. either P 34 c refl
    (λ e. either P 35 c refl
    (λ f. either P 47 c refl
    (λ g. either P 41 c (refl, refl)
    (λ h. either P 42 c (refl, refl)
    (λ i. either P 48 c (refl, refl)
    (λ j. let none : code_of c ≡ Unknown = rw (a, b, d, e, f, g, h, i, j) refl in
    subst (Stands c) (sym none) (rw (a, b, d, e, f, g, h, i, j) refl))))))))))

among_nine : (f : Format) → listed (naming f) known_codes ≡ true
among_nine F01 = refl
among_nine F03 = refl
among_nine F05 = refl
among_nine F34 = refl
among_nine F35 = refl
among_nine F47 = refl

not_of_three : (f : Format) → listed (naming f) unbuilt_codes ≡ false
not_of_three F01 = refl
not_of_three F03 = refl
not_of_three F05 = refl
not_of_three F34 = refl
not_of_three F35 = refl
not_of_three F47 = refl

-- restricted, the seven pairs and no other
seven : (from to : Format) → restricted_pair from to ≡ listed_pair (naming from) (naming to) restricted_pairs
seven F01 F01 = refl
seven F01 F03 = refl
seven F01 F05 = refl
seven F01 F34 = refl
seven F01 F35 = refl
seven F01 F47 = refl
seven F03 to = refl
seven F05 F01 = refl
seven F05 F03 = refl
seven F05 F05 = refl
seven F05 F34 = refl
seven F05 F35 = refl
seven F05 F47 = refl
seven F34 to = refl
seven F35 to = refl
seven F47 F01 = refl
seven F47 F03 = refl
seven F47 F05 = refl
seven F47 F34 = refl
seven F47 F35 = refl
seven F47 F47 = refl

-- ---- what it leaves

of_contents_lem : (o : Outcome (List ℕ)) → Only Fault o → OneOfThem (quietly o) of_contents
of_contents_lem (done w) c = refl
of_contents_lem (refused q) c = by (c q refl)
  where
    by : Fault q → listed (number_of q) of_contents ≡ true
    by (inl e) = rw e
    by (inr e) = rw e

-- whatever the call is: a format that is refused ends it
pub left_to_lem : (behind : List ℕ) (call : Outcome Format → Outcome (List ℕ)) → ((q : Refusal) → call (refused q) ≡ refused q)
    → ((f : Format) → OneOfThem (quietly (call (done f))) behind) → (code : ℕ) → OneOfThem (quietly (call (format_of (code_of code)))) (left_to behind code)
left_to_lem behind call ends of-them code = by (code_of code) (stands code)
  where
    by : (k : Code) → Stands code k → OneOfThem (quietly (call (format_of k))) (left_to behind code)
    by (Built f) e = rw (e, among_nine f, not_of_three f) (of-them f)
    by Known e = rw (e.0, e.1, ends NotHere69) refl
    by Unknown e = rw (e, ends Format23) refl

left : (code : ℕ) (next : Format → Outcome (List ℕ)) → ((f : Format) → Only Fault (next f)) → OneOfThem (quietly (and_then (format_of (code_of code)) next)) (left_by code)
left code next faults = left_to_lem of_contents (λ o. and_then o next) (λ _. refl) (λ f. of_contents_lem (next f) (faults f)) code

-- two formats: unrestricted, all pairs; restricted, the seven
module _ (next : Format × Format → Outcome (List ℕ)) (faults : (pair : Format × Format) → Only Fault (next pair)) where
  taken : (pair : Format × Format) (b : Bool) → OneOfThem (quietly (and_then (unless NotHere69 b pair) next)) (cond (not b) (69 ∷ []) of_contents)
  taken pair true = of_contents_lem (next pair) (faults pair)
  taken pair false = refl

  built : (restricted : Bool) (f t : Format) → OneOfThem (quietly (and_then (unless NotHere69 (permitted restricted f t) (f, t)) next)) (left_by_pair restricted (naming f) (naming t))
  built true f t = rw (among_nine f, among_nine t, not_of_three f, not_of_three t, ← seven f t) (taken (f, t) (restricted_pair f t))
  built false f t = rw (among_nine f, among_nine t, not_of_three f, not_of_three t) (of_contents_lem (next (f, t)) (faults (f, t)))

  left_by_pair_lem : (restricted : Bool) (from to : ℕ) → OneOfThem (quietly (and_then (pair_of restricted from to) next)) (left_by_pair restricted from to)
  unfolding pair_of
  left_by_pair_lem restricted from to = by (code_of from) (code_of to) (stands from) (stands to)
    where
      pairs : Code → Code → Outcome (Format × Format)
      pairs k l = and_then (known_code k) (λ _. and_then (known_code l) (λ _. and_then (format_of k) (λ f. and_then (format_of l) (λ t. unless NotHere69 (permitted restricted f t) (f, t)))))

      by : (k l : Code) → Stands from k → Stands to l → OneOfThem (quietly (and_then (pairs k l) next)) (left_by_pair restricted from to)
      by (Built f) (Built t) e d = rw (e, d) (built restricted f t)
      by (Built f) Known e d = rw (e, among_nine f, not_of_three f, d.0, d.1) refl
      by (Built f) Unknown e d = rw (e, among_nine f, d) refl
      by Known (Built t) e d = rw (e.0, e.1, d, among_nine t) refl
      by Known Known e d = rw (e.0, e.1, d.0) refl
      by Known Unknown e d = rw (e.0, d) refl
      by Unknown l e d = rw e refl

-- ---- the calls

pin_faults : (pin : List ℕ) → Only Fault (pin_handed pin)
pin_faults pin = then_only Fault (pin_length (length pin)) (λ _. digits_handed pin) (test_only Fault Length24 (inr refl) (within 4 12 (length pin)) (length pin)) (λ _. test_only Fault Block20 (inl refl) (every digit pin) pin)

pub codes_exactly : CodesExactly
unfolding read_block write_block translate_block
codes_exactly = (
  λ code block account digits before s a r.
      rw (le-leb 12 (length before) r, eq-eqb (length block) 8 s, a)
      (left code (λ f. read_row f (account_field digits) (nibs block)) (λ f. read_faults f (account_field digits) (nibs block))),
  λ code pin account digits fill before a s r.
      rw (le-leb 8 (length before) r, a, eq-eqb (length fill) 8 s)
      (left code (λ f. and_then (pin_handed pin) (λ ds. done (packs (write_row f (account_field digits) ds (nibs fill)))))
      (λ f. then_only Fault (pin_handed pin) _ (pin_faults pin) (λ ds. done_only Fault (packs (write_row f (account_field digits) ds (nibs fill)))))),
  λ restricted from to block account digits fill before s a t r.
      rw (le-leb 8 (length before) r, eq-eqb (length block) 8 s, a, eq-eqb (length fill) 8 t)
      (left_by_pair_lem (λ pair. and_then (read_row pair.0 (account_field digits) (nibs block)) (λ ds. done (packs (write_row pair.1 (account_field digits) ds (nibs fill)))))
      (λ pair. then_only Fault (read_row pair.0 (account_field digits) (nibs block)) _ (read_faults pair.0 (account_field digits) (nibs block)) (λ ds. done_only Fault (packs (write_row pair.1 (account_field digits) ds (nibs fill)))))
      restricted from to),
)

-- ---- restricted: the seven pairs

-- what holds of each pair of a list
abbrev OfEach : (ℕ → ℕ → Type 0) → List (ℕ × ℕ) → Type 0
OfEach P [] = Unit {0}
OfEach P (pair ∷ pairs) = P pair.0 pair.1 × OfEach P pairs

-- holds of one that stands in it
of_listed : (P : ℕ → ℕ → Type 0) (from to : ℕ) (pairs : List (ℕ × ℕ)) → OfEach P pairs → listed_pair from to pairs ≡ true → P from to
of_listed P from to [] each h = absurd (false≢true h)
of_listed P from to (pair ∷ pairs) each h = by (of_listed P from to pairs each.1) (eqb from pair.0) (eqb to pair.1) refl refl h
  where
    by : (listed_pair from to pairs ≡ true → P from to) → (a b : Bool) → eqb from pair.0 ≡ a → eqb to pair.1 ≡ b → ((a && b) || listed_pair from to pairs) ≡ true → P from to
    by behind true true e d h = rw (eqb-true from pair.0 e, eqb-true to pair.1 d) each.0
    by behind true false e d h = behind h
    by behind false b e d h = behind h

-- the two formats of a translation that is permitted
abbrev Formats : ℕ → ℕ → Type 0
Formats from to = (pair : Format × Format) × (pair_of true from to ≡ done pair)

seven_formats : OfEach Formats restricted_pairs
unfolding code_of pair_of
seven_formats =
    (((F05, F01), refl), (((F05, F47), refl), (((F05, F05), refl), (((F01, F01), refl), (((F01, F47), refl), (((F47, F01), refl), (((F47, F47), refl), tt)))))))

-- 00 is left to such a pair only
only_listed : (known a b c : Bool) → listed 0 (cond known (cond (a || (b || (true && not c))) (69 ∷ []) of_contents) (23 ∷ [])) ≡ true → c ≡ true
only_listed false a b c h = absurd (false≢true h)
only_listed true true b c h = absurd (false≢true h)
only_listed true false true c h = absurd (false≢true h)
only_listed true false false true h = refl
only_listed true false false false h = absurd (false≢true h)

pub restricted_exactly : RestrictedExactly
restricted_exactly from to block account fill pin before room e s b r =
    let x = was_read from block account pin room e in (
      λ n. only_listed (listed from known_codes && listed to known_codes) (listed from unbuilt_codes) (listed to unbuilt_codes) (listed_pair from to restricted_pairs)
          (ap (λ (k : ℕ). listed k (left_by_pair true from to)) (sym n) ∙ codes_exactly.2 true from to block account x.handed.digits fill before x.size x.handed.known s r),
      λ h. let formats = of_listed Formats from to restricted_pairs seven_formats h in
          let k = translation_keeps true from to formats.0 block account fill pin (length before) room e formats.1 s b r in
          rw k.1 refl,
    )
