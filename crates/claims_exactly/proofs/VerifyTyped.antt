-- The DA and the EA that are typed, computed.
-- Assumes nothing.
use Prim.Native.Nat.{ℕ}
use native.Mathlib.Omega.{arith}
use mathlib.Core.Path.{◌≡◌, refl}
use mathlib.Core.Logic.{inl, inr}
use mathlib.Core.Bool.{true, false}
use mathlib.Core.List.{List}
use lib.ListN.{length}
use Rattle.nibbles.specs.Nibbles.{nibs, packs, xors, every, leading, same}
use Rattle.alphabet.specs.Alphabet.{all_of, value_of}
use Rattle.alphabet.specs.declared.Class.TheVariants.{Digit}
use Rattle.settings.specs.Settings.{usually}
use Rattle.blocks.specs.Blocks.{contents, read_row}
use Rattle.ibm3624.specs.Ibm3624.{differences}
use Rattle.offsets.specs.Offsets.{pin_with_natural}
use Rattle.commands.specs.Commands.{answered}
use Rattle.texts.specs.Characters.{printed}
use Rattle.texts_keys.specs.KeyTexts.{terminal_key_rule, zone_key_rule, verifying_pvk_rule, IsBlock}
use Rattle.claims_offsets.specs.Figures.{block_p2, enciphered_p9}
use Rattle.claims_commands.specs.Runs.{terminal, zone}
use Rattle.claims_exactly.specs.VerifyText.{IsVerify}
use Rattle.claims_exactly.specs.Responses.{verify_sent, verdict_of, verdict_to}
use Rattle.claims_exactly.specs.VerifyTyped.{verifier, da_parts, DaIsVerify, DaIsAsked, DaIsAnswered, ea_parts, EaIsVerify, narrowly, EaIsAsked, block_p4, EaIsAnswered}
use Rattle.claims_exactly.proofs.VerifyCalls.{verify_asks_parts, verify_answers_parts}
use Rattle.claims_exactly.proofs.Typed.{header_is}

verifier_is : IsBlock verifying_pvk_rule verifier
unfolding all_of
verifier_is = record {
  version = inl refl;
  size = omega arith;
  usage = inl refl;
  algorithm = inl refl;
  mode = inr (inl refl);
  unjudged = (refl, refl);
  id = (omega arith, omega arith);
  tail = refl;
}

-- with any four digits
da_is : (offset : List ℕ) → length offset ≡ 4 → all_of Digit offset ≡ true → IsVerify terminal_key_rule (da_parts offset)
unfolding all_of
da_is offset four digits = record {
  pin_key = record { letter = inl refl; is = (refl, refl) };
  pvk = record { letter = inr (inr (inl refl)); is = verifier_is };
  sealed = record { block = (refl, refl); format = tt };
  inputs = record { check = (omega arith, omega arith); account = (refl, refl); table = (refl, refl); validation = (refl, refl) };
  offset = ((omega arith, omega arith), digits);
  end = record { id = (omega arith, omega arith); trailer = (omega arith, refl) };
  ids = (refl, tt);
}

ea_is : IsVerify zone_key_rule ea_parts
unfolding all_of
ea_is = record {
  pin_key = record { letter = inr (inl refl); is = (refl, refl) };
  pvk = record { letter = inr (inl refl); is = (refl, refl) };
  sealed = record { block = (refl, refl); format = tt };
  inputs = record { check = (omega arith, omega arith); account = (refl, refl); table = (refl, refl); validation = (refl, refl) };
  offset = ((omega arith, omega arith), refl);
  end = record { id = tt; trailer = tt };
  ids = tt;
}

pub da_is_verify : DaIsVerify
unfolding all_of
da_is_verify = (da_is (printed "9247") refl refl, refl)

pub ea_is_verify : EaIsVerify
ea_is_verify = (ea_is, refl)

-- ---- behind a header

pub da_is_asked : DaIsAsked
unfolding packs value_of all_of
da_is_asked room roomy = verify_asks_parts terminal usually room (printed "HDR1") (da_parts (printed "9247")) roomy header_is (da_is (printed "9247") refl refl)

pub da_is_answered : DaIsAnswered
unfolding nibs xors every leading same all_of value_of contents read_row pin_with_natural differences
da_is_answered room roomy = (said (printed "9247") refl refl, said (printed "9248") refl refl)
  where
    said : (offset : List ℕ) → length offset ≡ 4 → all_of Digit offset ≡ true
        → answered usually true true (verify_sent terminal (printed "HDR1") (da_parts offset)) block_p2 enciphered_p9 room ≡ verdict_to terminal (printed "HDR1") (da_parts offset) (verdict_of false (da_parts offset) block_p2 enciphered_p9)
    said offset four digits = verify_answers_parts terminal usually block_p2 enciphered_p9 room (printed "HDR1") (da_parts offset) refl refl roomy header_is (da_is offset four digits)

pub ea_is_asked : EaIsAsked
unfolding packs value_of
ea_is_asked room roomy = verify_asks_parts zone narrowly room (printed "HDR1") ea_parts roomy header_is ea_is

pub ea_is_answered : EaIsAnswered
unfolding nibs xors every leading same value_of contents read_row pin_with_natural differences
ea_is_answered room roomy = verify_answers_parts zone narrowly block_p4 enciphered_p9 room (printed "HDR1") ea_parts refl refl roomy header_is ea_is
