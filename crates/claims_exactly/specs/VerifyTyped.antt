-- A DA and an EA, each as its parts and as the bytes that a host programmer types, with what is asked for and what is answered.
use Prim.Native.Char.{code}
use Rattle.std.specs.Prelude.{ℕ, ◌≤◌, ◌≡◌, true, List, [], ◌∷◌, ◌++◌, replicate}
use Rattle.numbers.specs.Numbers.{done}
use Rattle.numbers.specs.Promise.{Said}
use Rattle.settings.specs.Settings.{usually, restricted_to}
use Rattle.settings.specs.declared.Settings.{Settings}
use Rattle.formats.specs.declared.Format.TheVariants.{F01, F05}
use Rattle.commands.specs.Commands.{asked, answered}
use Rattle.texts.specs.Characters.{printed}
use Rattle.texts.specs.Texts.{absent, present}
use Rattle.texts_keys.specs.KeyTexts.{KeyBlock, terminal_key_rule, zone_key_rule, double, triple, block}
use Rattle.texts_data.specs.DataTexts.{with_n, with_p}
use Rattle.claims_offsets.specs.Figures.{block_p2, enciphered_p9}
use Rattle.claims_exactly.specs.VerifyText.{VerifyParts, verify_text, IsVerify}

-- ---- a DA: a `U` key, a key block of mode V, LMK id 07 in two places, and a trailer

-- "0016" characters, for the PVK: "V1", "T", "V", LMK id "07"
abbrev pub verifier : KeyBlock
verifier = record {
  version = code "0";
  usage = printed "V1";
  algorithm = code "T";
  mode = code "V";
  unjudged = printed "00N00";
  id = 7;
  tail = [];
}

-- with the four digits of an offset
abbrev pub da_parts : List ℕ → VerifyParts
da_parts offset = record {
  keys = record { first = double (printed "0123456789ABCDEFFEDCBA9876543210"); second = block verifier };
  sealed = record { block = replicate 16 (code "0"); format = F01 };
  inputs = record {
    check = 4;
    account = printed "400000123456";
    table = printed "0123456789012345";
    validation = with_n (printed "0123456789A") [];
  };
  offset = offset;
  end = record { id = present 7; trailer = present (printed "till 4") };
}

abbrev pub da_text : List ℕ → List ℕ
da_text offset =
    printed "U0123456789ABCDEFFEDCBA9876543210S00016V1TV00N000712"
    ++ (printed "0000000000000000010440000012345601234567890123450123456789AN"
    ++ (offset ++ (printed "FFFFFFFF%07" ++ (0x19 ∷ printed "till 4"))))

-- it is one of the paper's, those are its bytes, and the block asked for is P12's
abbrev pub DaIsVerify : Type 0
DaIsVerify = IsVerify terminal_key_rule (da_parts (printed "9247")) × (verify_text (da_parts (printed "9247")) ≡ da_text (printed "9247"))

abbrev pub DaIsAsked : Type 0
DaIsAsked = (room : ℕ) → 8 ≤ room
    → asked usually (printed "HDR1DA" ++ da_text (printed "9247")) room ≡ done (0x01 ∷ 0x23 ∷ 0x45 ∷ 0x67 ∷ 0x89 ∷ 0xA2 ∷ 0x34 ∷ 0x56 ∷ [])

-- what is said to it, with P2's block and P9's enciphered block
abbrev pub da_said : List ℕ → ℕ → Said ℕ
da_said offset room = answered usually true true (printed "HDR1DA" ++ da_text offset) block_p2 enciphered_p9 room

-- P9's offset verifies, and its trailer comes back; with another last digit it does not, and no trailer comes back
abbrev pub DaIsAnswered : Type 0
DaIsAnswered = (room : ℕ) → 65 ≤ room
    → (da_said (printed "9247") room ≡ record { number = 0; written = printed "HDR1DB00" ++ (0x19 ∷ printed "till 4") })
    × (da_said (printed "9248") room ≡ record { number = 1; written = printed "HDR1DB01" })

-- ---- an EA: two `T` keys, format 05 where formats are restricted, `P` data, no id and no trailer

abbrev pub ea_parts : VerifyParts
ea_parts = record {
  keys = record { first = triple (printed "0123456789ABCDEFFEDCBA98765432100123456789ABCDEF"); second = triple (printed "FEDCBA98765432100123456789ABCDEFFEDCBA9876543210") };
  sealed = record { block = printed "FEDCBA9876543210"; format = F05 };
  inputs = record {
    check = 5;
    account = printed "400000123456";
    table = printed "0123456789012345";
    validation = with_p (printed "FEDCBA9876543210");
  };
  offset = printed "49247";
  end = record { id = absent; trailer = absent };
}

abbrev pub ea_text : List ℕ
ea_text =
    printed "T0123456789ABCDEFFEDCBA98765432100123456789ABCDEFTFEDCBA98765432100123456789ABCDEFFEDCBA987654321012"
    ++ printed "FEDCBA987654321005054000001234560123456789012345PFEDCBA987654321049247FFFFFFF"

abbrev pub EaIsVerify : Type 0
EaIsVerify = IsVerify zone_key_rule ea_parts × (verify_text ea_parts ≡ ea_text)

-- restricted formats Yes
abbrev pub narrowly : Settings
narrowly = restricted_to usually true

abbrev pub EaIsAsked : Type 0
EaIsAsked = (room : ℕ) → 8 ≤ room
    → asked narrowly (printed "HDR1EA" ++ ea_text) room ≡ done (0xFE ∷ 0xDC ∷ 0xBA ∷ 0x98 ∷ 0x76 ∷ 0x54 ∷ 0x32 ∷ 0x10 ∷ [])

-- P4's block has the same PIN, and P9's offset of five digits verifies
abbrev pub block_p4 : List ℕ
block_p4 = 0x15 ∷ 0x34 ∷ 0x56 ∷ 0x70 ∷ 0x00 ∷ 0x00 ∷ 0x00 ∷ 0x00 ∷ []

abbrev pub EaIsAnswered : Type 0
EaIsAnswered = (room : ℕ) → 65 ≤ room
    → answered narrowly true true (printed "HDR1EA" ++ ea_text) block_p4 enciphered_p9 room ≡ record { number = 0; written = printed "HDR1EB00" }
