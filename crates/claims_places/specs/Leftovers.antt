-- "Leftovers (bytes past a full trailer too) point at the first one": they are 15, whatever the LMK ids, which are judged behind them.
use Rattle.std.specs.Prelude.{ℕ, ◌+◌, ◌≤◌, ◌≡◌, List, ◌++◌, Bool, length, drop}
use Rattle.numbers.specs.declared.Refusal.TheVariants.{Field15}
use Rattle.fields.specs.Fields.{faulty}
use Rattle.fields.specs.declared.Fault.{Fault}
use Rattle.bkfields.specs.BkFields.{bk_fields}
use Rattle.verifyfields.specs.VerifyFields.{verify_fields}
use Rattle.claims_commands.specs.Runs.{Verifying, key_for}
use Rattle.claims_exactly.specs.BkText.{BkParts, bk_text}
use Rattle.claims_exactly.specs.VerifyText.{VerifyParts, verify_text, pin_key_rule_of}
use Rattle.claims_places.specs.Begins.{AreBk, AreVerify, BkTook, EndTook}

-- "Leftovers […] have field number 0": 15 at the first byte behind the text of a command that begins at a start
abbrev pub over_at : ℕ → List ℕ → Fault
over_at start text = record { refusal = Field15; field = 0; place = start + length text }

-- a command whose fields are as they must be, took what they can, and leave a byte or more; nothing is asked of its ids
abbrev pub LeftoversDecide : Type 0
LeftoversDecide =
    ((restricted : Bool) (s : List ℕ) (start : ℕ) (p : BkParts) (left : List ℕ) → AreBk restricted p → BkTook p left → drop start s ≡ bk_text p ++ left → 1 ≤ length left
    → bk_fields restricted s start ≡ faulty (over_at start (bk_text p)))
    × ((w : Verifying) (s : List ℕ) (start : ℕ) (p : VerifyParts) (left : List ℕ) → AreVerify (pin_key_rule_of w) p → EndTook p.end left → drop start s ≡ verify_text p ++ left → 1 ≤ length left
    → verify_fields (key_for w) s start ≡ faulty (over_at start (verify_text p)))
