-- A clear row shows a PIN: what leads, the digits, and a rest that is fill. A row is read exactly as the PIN that it shows.
-- Assumes nothing.
use Prim.Native.Nat.{ℕ, ◌+◌, ◌≤◌, ◌<◌}
use native.Mathlib.Omega.{arith}
use mathlib.Core.Path.{◌≡◌, refl, sym, ap, ap₂, ◌∙◌}
use mathlib.Core.Logic.{inl, inr}
use mathlib.Core.List.{List, [], ◌∷◌, ◌++◌}
use mathlib.Core.Bool.{true, false, ◌&&◌}
use lib.ListN.{length, get_or, take}
use lib.Seq.{slice, get_or-drop, get_or-take, length-slice}
use lib.Dec.{eqb, leb-zero}
use borrow.Author.Tests.{leb-false, eq-eqb, eqb-true}
use Rattle.nibbles.specs.Nibbles.{within, every}
use Rattle.nibbles.proofs.Lists.{and_left, and_right}
use Rattle.nibbles.proofs.Runs.{inside, inside_low, inside_high, over}
use Rattle.numbers.specs.Numbers.{Outcome, done, and_then, unless}
use Rattle.numbers.specs.declared.Refusal.TheVariants.{Block20, Length24}
use Rattle.numbers.proofs.Laws.{then_done, passed}
use Rattle.formats.specs.Formats.{leads, lead_width, least_fill, fits}
use Rattle.pins.specs.Pins.{digit, pin_length}
use Rattle.blocks.specs.Blocks.{before_f, counted}
use Rattle.blocks.proofs.Laws.{lead_short}
use Rattle.formats.specs.declared.Lead.{Lead}
use Rattle.formats.specs.declared.Lead.TheVariants.{Bare, Control}
use Rattle.formats.specs.declared.Fill.{Fill}
use Rattle.claims_blocks.specs.Claims.{IsPin}
use Rattle.claims_blocks.proofs.Judged.{judged, Only, Fault, test_only, then_only}
use Rattle.claims_blocks.proofs.Lists.{every_first, every_wider, run_ends, run_is, middle_is, rest_is, three_parts}

-- where nothing leads, the digits end at an F
abbrev pub Ends : Lead → List ℕ → Type 0
Ends Bare rest = get_or rest 0 0 ≡ 15
Ends (Control c) rest = Unit {0}

-- the PIN's place in a clear row
pub record Shows (l : Lead) (k : Fill) (ns ds : List ℕ) : Type 0 where
  pub pin : IsPin ds
  pub rest : List ℕ
  pub laid : leads l (length ds) ++ ds ++ rest ≡ ns
  pub fill : every (fits k) rest ≡ true
  pub ends : Ends l rest

-- reading, over the table's cells
abbrev pub contents_as : Lead → Fill → List ℕ → ℕ → Outcome (List ℕ)
contents_as l k ns n =
    unless Block20 (every digit (slice (lead_width l) (lead_width l + n) ns) && every (fits k) (slice (lead_width l + n) 16 ns))
    (slice (lead_width l) (lead_width l + n) ns)

abbrev pub read_as : Lead → Fill → List ℕ → Outcome (List ℕ)
read_as l k ns = and_then (counted l ns) (λ n. and_then (pin_length n) (contents_as l k ns))

pub leads_length : (l : Lead) (n : ℕ) → length (leads l n) ≡ lead_width l
leads_length Bare n = refl
leads_length (Control c) n = refl

pub before_F : (n : ℕ) → digit n ≡ true → within 0 14 n ≡ true
before_F n h = let k = inside_high 0 9 n h in inside 0 14 n (omega arith) (omega arith)

-- what leads, or the first F, counts the digits
pub counts : (l : Lead) (ds rest : List ℕ) → every digit ds ≡ true → Ends l rest → counted l (leads l (length ds) ++ ds ++ rest) ≡ done (length ds)
counts Bare ds rest h e =
    let stop : within 0 14 (get_or rest 0 0) ≡ false = over 0 14 (get_or rest 0 0) (omega arith) in
    rw (run_is (within 0 14) ds rest (every_wider digit (within 0 14) before_F ds h) stop, h)
counts (Control c) ds rest h e = rw (eq-eqb c c refl)

-- the PIN that is shown is read
pub shown_reads : (l : Lead) (k : Fill) (ns ds : List ℕ) → length ns ≤ 16 → Shows l k ns ds → read_as l k ns ≡ done ds
shown_reads l k ns ds h s =
    let n = length ds in
    let w = lead_width l in
    let p = s.pin in
    let count : counted l ns ≡ done n = ap (counted l) (sym s.laid) ∙ counts l ds s.rest p.2 s.ends in
    let digits : slice w (w + n) ns ≡ ds = ap (slice w (w + n)) (sym s.laid) ∙ middle_is (leads l n) ds s.rest w n (leads_length l n) refl in
    let behind : slice (w + n) 16 ns ≡ s.rest = ap (slice (w + n) 16) (sym s.laid) ∙ rest_is (leads l n) ds s.rest w n (leads_length l n) refl 16 (rw s.laid h) in
    rw (count, inside 4 12 n p.0 p.1, digits, behind, p.2, s.fill)

-- what leads is what is written there
pub leading_is : (l : Lead) (ns : List ℕ) (n : ℕ) → 2 ≤ length ns → counted l ns ≡ done n → take (lead_width l) ns ≡ leads l n
leading_is Bare ns n h e = refl
leading_is (Control c) [] n h e = absurd (omega arith)
leading_is (Control c) (a ∷ []) n h e = absurd (omega arith)
leading_is (Control c) (a ∷ b ∷ ns) n h e =
    let t = passed Block20 (eqb a c) b n e in
    ap₂ (λ (x y : ℕ). x ∷ y ∷ []) (eqb-true a c t.0) t.1

-- what fails the test is over it
pub past : (high n : ℕ) → within 0 high n ≡ false → high < n
past high n h = leb-false n high (rw (leb-zero n) at h)

-- an F stands behind the digits
ending_is : (l : Lead) (k : Fill) (ns : List ℕ) (n : ℕ) → length ns ≡ 16 → n ≤ 12 → counted l ns ≡ done n
    → every (fits k) (slice (lead_width l + n) 16 ns) ≡ true → Ends l (slice (lead_width l + n) 16 ns)
ending_is Bare k ns n h small e f =
    let rest = slice (0 + n) 16 ns in
    let end = length (before_f ns) in
    let count : end ≡ n = (passed Block20 (every digit (before_f ns)) end n e).1 in
    let here : get_or rest 0 0 ≡ get_or ns end 0 = get_or-drop (0 + n) (take 16 ns) 0 0 ∙ get_or-take 16 ns (0 + n + 0) 0 (omega arith) ∙ ap (λ (i : ℕ). get_or ns i 0) (omega arith) in
    let high : 14 < get_or ns end 0 = past 14 (get_or ns end 0) (run_ends (within 0 14) ns 0 (omega arith)) in
    let some : 0 < length rest = rw (length-slice (0 + n) 16 ns (omega arith)) (omega arith) in
    let low : get_or rest 0 0 ≤ 15 = inside_high (least_fill k) 15 (get_or rest 0 0) (every_first (fits k) rest 0 some f) in
    omega arith
ending_is (Control c) k ns n h small e f = tt

-- the PIN that is read is shown
shown : (l : Lead) (k : Fill) (ns ds : List ℕ) (n : ℕ) → length ns ≡ 16 → counted l ns ≡ done n → and_then (pin_length n) (contents_as l k ns) ≡ done ds → Shows l k ns ds
shown l k ns ds n h c r =
    let w = lead_width l in
    let p = judged Length24 (within 4 12 n) n (contents_as l k ns) ds r in
    let digits = every digit (slice w (w + n) ns) in
    let fill = every (fits k) (slice (w + n) 16 ns) in
    let v = passed Block20 (digits && fill) (slice w (w + n) ns) ds p.1 in
    let small : n ≤ 12 = inside_high 4 12 n p.0 in
    let size : length ds ≡ n = ap length (sym v.1) ∙ length-slice w (w + n) ns (omega (arith, lead_short l)) ∙ omega arith in
    record {
      pin = (rw size (inside_low 4 12 n p.0), rw size small, rw v.1 at (and_left digits fill v.0));
      rest = slice (w + n) 16 ns;
      laid = rw (size, ← v.1, ← leading_is l ns n (omega arith) c) (three_parts w n 16 ns (omega arith));
      fill = and_right digits fill v.0;
      ends = ending_is l k ns n h small c (and_right digits fill v.0);
    }

pub reads_shown : (l : Lead) (k : Fill) (ns ds : List ℕ) → length ns ≡ 16 → read_as l k ns ≡ done ds → Shows l k ns ds
reads_shown l k ns ds h r =
    let c = then_done (counted l ns) (λ n. and_then (pin_length n) (contents_as l k ns)) ds r in
    shown l k ns ds c.0 h c.1 c.2

-- a row that says no length is 20
pub count_20 : (l : Lead) (ns : List ℕ) → Only (λ q. q ≡ Block20) (counted l ns)
count_20 Bare ns = test_only (λ q. q ≡ Block20) Block20 refl (every digit (before_f ns)) (length (before_f ns))
count_20 (Control c) ns = test_only (λ q. q ≡ Block20) Block20 refl (eqb (get_or ns 0 0) c) (get_or ns 1 0)

-- and so is one whose digits or fill are wrong
pub contents_20 : (l : Lead) (k : Fill) (ns : List ℕ) (n : ℕ) → Only (λ q. q ≡ Block20) (contents_as l k ns n)
contents_20 l k ns n =
    let w = lead_width l in
    test_only (λ q. q ≡ Block20) Block20 refl (every digit (slice w (w + n) ns) && every (fits k) (slice (w + n) 16 ns)) (slice w (w + n) ns)

-- a row is refused for its contents only
pub reads_faults : (l : Lead) (k : Fill) (ns : List ℕ) → Only Fault (read_as l k ns)
reads_faults l k ns =
    then_only Fault (counted l ns) (λ n. and_then (pin_length n) (contents_as l k ns)) (λ q e. inl (count_20 l ns q e))
    (λ n. then_only Fault (pin_length n) (contents_as l k ns) (test_only Fault Length24 (inr refl) (within 4 12 n) n)
    (λ m q e. inl (contents_20 l k ns m q e)))
