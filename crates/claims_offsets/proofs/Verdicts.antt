-- A verdict that gets as far as comparing.
-- Assumes nothing.
use Prim.Native.Nat.{ℕ}
use mathlib.Core.Path.{◌≡◌, sym, ap, ◌∙◌, subst}
use mathlib.Core.List.{List, []}
use mathlib.Core.Bool.{Bool}
use lib.ListN.{length}
use borrow.Author.Tests.{eq-eqb}
use Rattle.nibbles.specs.Nibbles.{same}
use Rattle.nibbles.proofs.Lists.{same_refl, same_true, same_false}
use Rattle.numbers.specs.Numbers.{Outcome, done, unless}
use Rattle.numbers.specs.declared.Refusal.TheVariants.{Unverified01}
use Rattle.numbers.proofs.Laws.{passed}
use Rattle.ibm3624.specs.Ibm3624.{covers, offset_of}
use Rattle.offsettexts.specs.OffsetTexts.{offset_presented}
use Rattle.offsets.specs.Offsets.{given, pin_and_natural}
use Rattle.verdicts.specs.Verdicts.{offset_verdict}
use Rattle.verdicts.proofs.Laws.{verdict_parts}
use Rattle.pvvdigits.specs.PvvDigits.{pvv_of}
use Rattle.pvv.specs.Pvv.{pvv_verdict}
use Rattle.claims_offsets.specs.Claims.{Exactly, VerdictExactly, PvvVerdictExactly}

-- a comparison of two rows is 00 exactly where they are the same
compared : (xs ys : List ℕ) → Exactly (unless Unverified01 (same xs ys) []) (xs ≡ ys)
compared xs ys = (
  (λ e. same_true xs ys (passed Unverified01 (same xs ys) [] [] e).0, λ e. rw (ap (same xs) (sym e) ∙ same_refl xs)),
  λ h. rw (same_false xs ys h),
)

-- what the call compares
pub verdict_compares :
    (variable : Bool) (code check m : ℕ) (block account table enciphered offset os : List ℕ) (g : List ℕ × List ℕ × List ℕ) (p : List ℕ × List ℕ)
    → given code check block account table enciphered ≡ done g → offset_presented offset ≡ done os → pin_and_natural code table g ≡ done p
    → covers variable check (length p.0) ≡ done m → length os ≡ m
    → offset_verdict variable code check block account table enciphered offset ≡ unless Unverified01 (same os (offset_of m p.0 p.1)) []
verdict_compares variable code check m block account table enciphered offset os g p a b c d l =
    rw (verdict_parts variable code check block account table enciphered offset, a, b, c, d, eq-eqb (length os) m l)

pub verdict_exactly : VerdictExactly
verdict_exactly variable code check m block account table enciphered offset os g p a b c d l =
    subst (λ (o : Outcome (List ℕ)). Exactly o (os ≡ offset_of m p.0 p.1))
    (sym (verdict_compares variable code check m block account table enciphered offset os g p a b c d l)) (compared os (offset_of m p.0 p.1))

pub pvv_verdict_exactly : PvvVerdictExactly
unfolding pvv_verdict
pvv_verdict_exactly code index k block account enciphered pvv ns digits es ps ds f a b c d e g h =
    subst (λ (o : Outcome (List ℕ)). Exactly o (pvv_of es ≡ ps)) (sym (rw (a, b, c, d, e, g, h))) (compared (pvv_of es) ps)
